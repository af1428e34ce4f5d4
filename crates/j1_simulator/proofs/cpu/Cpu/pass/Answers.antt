use Rattle.std.proofs.Common.{refl, sym, ap, ◌∙◌}
use Rattle.j1_simulator.specs.Step.{moved_on}
use Rattle.j1_simulator.specs.RoundMachine.{round_storage}
use Rattle.j1_simulator.specs.contracts.cpu.Cpu.{the_view}
use Rattle.j1_simulator.proofs.Resolve.{quiet, step_done}
use Rattle.j1_simulator.proofs.cpu.Cpu.pass.Goals as goal

pub returns : goal.returns
returns c = λ key data_start.
    step_done key data_start _ (the_view c.self.inside) c.args.self.now _ _ _ _ _ _ _ c.self.view_is c.requires.effect refl c.top.ensures
    (quiet key data_start _ _ _ _ _ c.requires.fetches c.requires.stores) c.next_pc_of-pc.ensures
    (c.move_on.ensures ∙ ap (λ at. moved_on round_storage c.args.effect at c.next_pc_of-pc.result c.self.inside.t at.memory) (sym c.self.view_is))
