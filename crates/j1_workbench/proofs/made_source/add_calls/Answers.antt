use Rattle.j1_workbench.proofs.Made.{next_call}
use Rattle.j1_workbench.proofs.made_source.add_calls.Goals as goal

pub loop-done-preserved : goal.loop-done-preserved
loop-done-preserved c = next_call c.loop-done.text.items c.add_call.new.text.items _ c.args.count c.loop-done.done c.loop-done-test.true c.in_ok-add_call.ensures c.loop-done.invariant
