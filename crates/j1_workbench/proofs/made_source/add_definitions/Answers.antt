use Rattle.j1_workbench.proofs.Made.{next_definition}
use Rattle.j1_workbench.proofs.made_source.add_definitions.Goals as goal

pub loop-done-preserved : goal.loop-done-preserved
loop-done-preserved c =
    next_definition c.loop-done.text.items c.add_definition.new.text.items _ c.args.count c.loop-done.done c.loop-done.number c.next_number-number.result
    c.loop-done-test.true c.next_number-number.ensures c.in_ok-add_definition.ensures c.loop-done.invariant
