use Rattle.std.proofs.Common.{ap, sym, ◌∙◌}
use Rattle.forth_program.specs.Step.{after_loop}
use Rattle.reference_eval.specs.Work.{works}
use Rattle.reference_eval.proofs.WorkLaws.{past_task}
use Rattle.reference_eval.proofs.work.leave_loop.Goals as goal

pub loop-task-preserved : goal.loop-task-preserved
loop-task-preserved c =
    sym (past_task _ c.pop.new.self c.in_default-task.not-Turn) ∙ ap (λ tasks. after_loop (works tasks)) (sym c.in-Some.ensures) ∙ c.loop-task.invariant
