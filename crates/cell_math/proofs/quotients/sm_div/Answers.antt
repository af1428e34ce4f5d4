use Rattle.std.proofs.Common.{◌%◌, ◌/◌, sym, ap, ◌∙◌}
use Rattle.cell_math.specs.Divisions.{divided}
use Rattle.cell_math.specs.Signs.{whole}
use Rattle.cell_math.proofs.Signs.{toward_zero}
use Rattle.cell_math.proofs.quotients.sm_div.Goals as goal

pub returns : goal.returns
returns c =
    let d = c.of_double-dividend.result in
    let b = c.of_cell-by.result in
    c.cells.ensures
    ∙ ap (λ t. divided (whole d.negative (d.size % b.size)) (whole t (d.size / b.size))) c.are_apart.ensures
    ∙ sym (toward_zero _ _ d.negative b.negative d.size b.size c.of_double-dividend.ensures.value c.of_cell-by.ensures.value (c.of_cell-by.ensures.zero c.if-divisor-eq0.false))
