use Rattle.std.proofs.Common.{◌≡◌, length}
use Rattle.reference_eval.specs.Work.{works}
use Rattle.reference_eval.proofs.work.take_first.Given as goal

abbrev pub invariant-loop-task : goal.invariant-loop-task
invariant-loop-task l = works l.tasks ≡ works l.fn.tasks

abbrev pub decreases-loop-task : goal.decreases-loop-task
decreases-loop-task l = length l.tasks
