use Rattle.std.proofs.Common.{rules, false}
use Rattle.step_certifier.specs.Cost.{Other}
use Rattle.std.specs.Prelude.{slice_index_or}
use Rattle.forth_program.specs.Tree.{Empty}
use Rattle.step_certifier.specs.Refusal.{refusal, reaches}
use Rattle.step_certifier.proofs.ReachedMarks.{passes, not_reached, without_refusal}
use Rattle.step_certifier.proofs.bounding.first_refused.Goals as goal
use Rattle.step_certifier.proofs.bounding.first_refused.Goals.{then-marks-d+in_default, else-marks-d}

pub loop-d-preserved : goal.loop-d-preserved
loop-d-preserved c =
    elim c.if-marks-d.branch [
      | then-marks-d+in_default w ↦ passes (reaches c.args.program.now.main_body 0 c.args.program.now.bodies) c.args.program.now.bodies c.loop-d.d _ (search rules)
          (without_refusal (reaches c.args.program.now.main_body 0 c.args.program.now.bodies) c.loop-d.d (refusal c.loop-d.d Other (slice_index_or c.args.program.now.bodies c.loop-d.d Empty)) (search rules)) c.loop-d.invariant
      | else-marks-d w ↦ passes (reaches c.args.program.now.main_body 0 c.args.program.now.bodies) c.args.program.now.bodies c.loop-d.d _ (search rules)
          (not_reached (reaches c.args.program.now.main_body 0 c.args.program.now.bodies) c.loop-d.d (slice_index_or c.args.marks.now c.loop-d.d false)
          (refusal c.loop-d.d Other (slice_index_or c.args.program.now.bodies c.loop-d.d Empty)) (c.requires.each c.loop-d.d (search rules)) w.if-marks-d.false) c.loop-d.invariant
    ]
