use Rattle.j1_simulator.specs.contracts.cpu.Cpu.{the_view}
use Rattle.j1_simulator.proofs.Resolve.{step_done}
use Rattle.j1_simulator.proofs.cpu.Cpu.step.Goals as goal

pub returns-clause-step : goal.returns-clause-step
returns-clause-step c =
    step_done c.args.key c.args.fence.data_start _ (the_view c.self.inside) c.args.self.now _ _ _ _ _ _ _ c.self.view_is c.requires.effect c.top-n.ensures c.top.ensures c.in_ok-cell.ensures.reach c.next_pc_of-pc.ensures c.move_on.ensures
