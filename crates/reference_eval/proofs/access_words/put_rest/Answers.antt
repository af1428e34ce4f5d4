use Rattle.std.proofs.Common.{ap, ◌∙◌}
use Rattle.reference_eval.proofs.AccessSequences as does
use Rattle.reference_eval.proofs.access_words.put_rest.Goals as goal
use Rattle.std.proofs.Common.{◌∷◌}
use Rattle.cell_math.specs.Cell.{high_cell, low_cell}

pub returns-in-Ok : goal.returns-in-Ok
returns-in-Ok c = λ meant old new d. does.put_ok c.args.answer (c.in-Ok.double, c.in-Ok.address, c.in-Ok.size) meant
    (λ r. r.2 ∷ r.1 ∷ high_cell r.0 ∷ low_cell r.0 ∷ c.args.cells.now) _ _ _ _ _ c.in-Ok.is (ap (λ x. c.in-Ok.size ∷ c.in-Ok.address ∷ x ∷ c.low.result ∷ c.args.cells.now) c.high.ensures ∙ ap
    (λ x. c.in-Ok.size ∷ c.in-Ok.address ∷ high_cell c.in-Ok.double ∷ x ∷ c.args.cells.now) c.low.ensures) c.put.ensures d

pub returns-in-Err : goal.returns-in-Err
returns-in-Err c = λ meant old new d. does.put_err c.args.answer c.in-Err.halt meant _ _ _ c.in-Err.is d
