use Rattle.std.proofs.Common.{sym, ap, ◌∙◌}
use Rattle.j1_simulator.specs.Step.{moved_on}
use Rattle.j1_simulator.specs.RoundMachine.{round_storage}
use Rattle.j1_simulator.specs.contracts.cpu.Cpu.{the_view}
use Rattle.j1_simulator.proofs.Resolve.{given_done}
use Rattle.j1_simulator.proofs.cpu.Cpu.pass_given.Goals as goal

pub returns : goal.returns
returns c =
    given_done _ (the_view c.self.inside) c.args.self.now _ _ _ _ c.self.view_is c.requires.effect c.top.ensures c.next_pc_of-pc.ensures
    (c.move_on.ensures ∙ ap (λ at. moved_on round_storage c.args.effect at c.next_pc_of-pc.result c.args.cell at.memory) (sym c.self.view_is))
