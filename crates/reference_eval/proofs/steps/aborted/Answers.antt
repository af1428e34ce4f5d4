use Rattle.std.proofs.Common.{subst}
use Rattle.forth_program.specs.State.{Stops, Halted}
use Rattle.reference_eval.specs.Answers.{Does, answer_of}
use Rattle.reference_eval.proofs.AccessSequences as does
use Rattle.reference_eval.proofs.steps.aborted.Goals as goal

pub returns-in-Ok : goal.returns-in-Ok
returns-in-Ok c = λ meant cells old new d. does.follows meant (λ _ w. Stops (Halted 2) w) tt _ old new new (subst (λ r. Does meant (answer_of r) old new) c.in-Ok.is d) (does.halts 2 new)

pub returns-in-Err : goal.returns-in-Err
returns-in-Err c = λ meant cells old new d. does.put_err c.args.answer c.in-Err.halt meant (λ _ w. Stops (Halted 2) w) _ _ c.in-Err.is d
