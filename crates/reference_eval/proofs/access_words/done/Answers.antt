use Rattle.std.proofs.Common.{subst}
use Rattle.forth_program.specs.State.{Gives}
use Rattle.reference_eval.proofs.AccessSequences as does
use Rattle.reference_eval.proofs.access_words.done.Goals as goal
use Rattle.reference_eval.specs.Answers.{Does, answer_of}

pub returns-in-Ok : goal.returns-in-Ok
returns-in-Ok c = λ meant cells old new d. does.follows meant (λ _. Gives cells) tt _ old new new (subst (λ r. Does meant (answer_of r) old new) c.in-Ok.is d) (does.gives cells new)

pub returns-in-Err : goal.returns-in-Err
returns-in-Err c = λ meant cells old new d. does.put_err c.args.answer c.in-Err.halt meant _ _ _ c.in-Err.is d
