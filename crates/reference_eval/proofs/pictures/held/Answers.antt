use Rattle.std.proofs.Common.{rules, ◌≡◌, sym, ap, Err, ◌+◌}
use Rattle.cell_math.specs.Cell.{difference_of}
use Rattle.forth_program.specs.State.{Gives}
use Rattle.reference_eval.proofs.AccessSequences as does
use Rattle.reference_eval.proofs.pictures.held.Goals as goal

pub returns-in_err-address : goal.returns-in_err-address
returns-in_err-address g c = let e : c.from_residual.result ≡ Err c.in_err-address.field-0.0 = search rules in rw e (does.breaks _ _ _ _ _ c.in_err-address.ensures)

pub returns : goal.returns
returns g c = does.follows _ _ _ _ _ _ _ c.in_ok-address.ensures (does.at_start (λ start w. Gives (
  c.in_ok-address.address,
  difference_of
      (start + 96) c.in_ok-address.address,
) w) c.data_start-start.result _ _ _ c.data_start-start.ensures.value (does.gives_as _ _ _ (ap (λ n. (c.in_ok-address.address, n)) (sym c.less-size.ensures))))
