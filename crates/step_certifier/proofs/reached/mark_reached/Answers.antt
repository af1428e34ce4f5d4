use Rattle.std.proofs.Common.{rules, arith}
use Rattle.forth_program.specs.ItemTrees.{tree_of}
use Rattle.step_certifier.proofs.ReachedMarks.{marks_called, marks_kept}
use Rattle.step_certifier.proofs.reached.mark_reached.Goals as goal

pub loop-d-preserved-then-marks-d : goal.loop-d-preserved-then-marks-d
loop-d-preserved-then-marks-d c = record {
  within = omega (arith, c.loop-d.invariant.within);
  each = marks_called c.args.program.now.main_body c.args.program.now.bodies c.loop-d.d (tree_of c.body.result.now) c.loop-d.marks c.mark_calls.new.marks c.loop-d-test.true c.loop-d.invariant.within c.loop-d.invariant.each
      (search rules) (search rules) (search rules) (search rules);
}

pub loop-d-preserved : goal.loop-d-preserved
loop-d-preserved c = record {
  within = omega (arith, c.loop-d.invariant.within);
  each = marks_kept c.args.program.now.main_body c.args.program.now.bodies c.loop-d.d c.loop-d.marks c.loop-d-test.true c.loop-d.invariant.within c.loop-d.invariant.each (search rules);
}
