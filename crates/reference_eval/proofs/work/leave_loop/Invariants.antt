use Rattle.std.proofs.Common.{◌≡◌, length}
use Rattle.forth_program.specs.Step.{after_loop}
use Rattle.reference_eval.specs.Work.{works}
use Rattle.reference_eval.proofs.work.leave_loop.Given as goal

abbrev pub invariant-loop-task : goal.invariant-loop-task
invariant-loop-task l = after_loop (works l.tasks) ≡ after_loop (works l.fn.tasks)

abbrev pub decreases-loop-task : goal.decreases-loop-task
decreases-loop-task l = length l.tasks
