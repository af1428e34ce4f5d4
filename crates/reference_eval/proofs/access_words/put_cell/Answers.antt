use Rattle.std.proofs.Common.{refl}
use Rattle.reference_eval.proofs.AccessSequences as does
use Rattle.reference_eval.proofs.access_words.put_cell.Goals as goal
use Rattle.std.proofs.Common.{◌∷◌}

pub returns-in-Ok : goal.returns-in-Ok
returns-in-Ok c = λ meant old new d. does.put_ok c.args.answer c.in-Ok.x meant (λ x. x ∷ c.args.cells.now) _ _ _ _ _ c.in-Ok.is refl c.put.ensures d

pub returns-in-Err : goal.returns-in-Err
returns-in-Err c = λ meant old new d. does.put_err c.args.answer c.in-Err.halt meant _ _ _ c.in-Err.is d
