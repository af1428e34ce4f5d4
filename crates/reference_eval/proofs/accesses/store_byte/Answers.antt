use Rattle.std.proofs.Common.{rules, ◌≡◌, ap, Err}
use Rattle.forth_program.specs.Access as access
use Rattle.reference_eval.proofs.AccessSequences as does
use Rattle.reference_eval.proofs.accesses.store_byte.Goals as goal

pub returns-in_err-cell : goal.returns-in_err-cell
returns-in_err-cell g c = let e : c.from_residual.result ≡ Err c.in_err-cell.field-0.0 = search rules in rw e (does.breaks _ _ _ _ _ c.in_err-cell.ensures)

pub returns : goal.returns
returns g c = does.follows _ _ _ _ _ _ _ c.in_ok-cell.ensures (does.does_as _ _ _ _ _ (λ b w h. ap (λ x. access.store c.args.address x w) c.with_byte.ensures) (c.store.ensures _ _))
