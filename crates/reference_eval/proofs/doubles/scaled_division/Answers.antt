use Rattle.std.proofs.Common.{ap, ◌∙◌, arith, pos, negsuc, ◌≤ℤ◌}
use Rattle.std.proofs.lemmas.Int.{ints, to_z-of_z}
use mir.Syntax.{w32}
use Rattle.cell_math.specs.Cell.{signed, signed_double, double_of, low_cell, high_cell}
use Rattle.cell_math.specs.Divisions.{floored_division}
use Rattle.reference_eval.proofs.Products.{double_back}
use Rattle.reference_eval.proofs.doubles.scaled_division.Goals as goal

pub returns : goal.returns
returns c =
    let l : negsuc 2147483647 ≤ℤ c.product-product.result = omega (arith, ints) in
    let h : c.product-product.result ≤ℤ pos 2147483647 = omega (arith, ints) in
    c.fm_div.ensures
    ∙ ap (λ z. floored_division z (signed c.args.k))
    (ap (λ p. signed_double p.0 p.1) c.halves-parts.ensures
    ∙ ap (λ z. signed_double (low_cell (double_of z)) (high_cell (double_of z))) (to_z-of_z w32 c.product-product.result (record { sfits = c.product-product.type_inv }))
    ∙ double_back c.product-product.result l h
    ∙ c.product-product.ensures)
