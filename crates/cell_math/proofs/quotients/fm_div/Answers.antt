use Rattle.std.proofs.Common.{◌%◌, ◌/◌, sym, ap, ◌∙◌}
use Rattle.cell_math.specs.Divisions.{divided}
use Rattle.cell_math.specs.Signs.{whole}
use Rattle.cell_math.proofs.Signs.{down, not_down}
use Rattle.cell_math.proofs.quotients.fm_div.Goals as goal
use Rattle.cell_math.proofs.quotients.fm_div.Goals.{else-apart-via-then-apart+else-left-ne0, else-apart-via-else-apart}

pub returns-then-left-ne0 : goal.returns-then-left-ne0
returns-then-left-ne0 c =
    let d = c.of_double-dividend.result in
    let b = c.of_cell-by.result in
    c.cells.ensures
    ∙ sym (down _ _ d.negative b.negative d.size b.size c.of_double-dividend.ensures.value c.of_cell-by.ensures.value (c.of_cell-by.ensures.zero c.if-divisor-eq0.false) (sym c.are_apart-apart.ensures ∙ c.if-apart.true) c.if-left-ne0.true)

pub returns : goal.returns
returns c =
    let d = c.of_double-dividend.result in
    let b = c.of_cell-by.result in
    c.cells-2.ensures
    ∙ ap (λ t. divided (whole b.negative (d.size % b.size)) (whole t (d.size / b.size))) c.are_apart-apart.ensures
    ∙ sym
    (not_down _ _ d.negative b.negative d.size b.size c.of_double-dividend.ensures.value c.of_cell-by.ensures.value
    (c.of_cell-by.ensures.zero c.if-divisor-eq0.false)
    (λ e.
    elim c.else-apart.branch [
      | else-apart-via-then-apart+else-left-ne0 w ↦ w.if-left-ne0.false
      | else-apart-via-else-apart w ↦ absurd (let f = w.if-apart.false in let a = c.are_apart-apart.ensures in cc)
    ]))
