use Rattle.std.proofs.Common.{rules, ◌≡◌, Err}
use Rattle.reference_eval.proofs.AccessSequences as does
use Rattle.reference_eval.proofs.accesses.comma_byte.Goals as goal

pub returns-in_err-old : goal.returns-in_err-old
returns-in_err-old g c = let e : c.from_residual.result ≡ Err c.in_err-old.field-0.0 = search rules in rw e (does.breaks _ _ _ _ _ c.in_err-old.ensures)

pub returns-in_err-store_byte : goal.returns-in_err-store_byte
returns-in_err-store_byte g c = let e : c.from_residual-in_err-store_byte.result ≡ Err c.in_err-store_byte.field-0.0 = search rules in rw e (does.follows _ _ _ _ _ _ _ c.in_ok-old.ensures (does.breaks _ _ _ _ _ c.in_err-store_byte.ensures))

pub returns : goal.returns
returns g c = does.follows _ _ _ _ _ _ _ c.in_ok-old.ensures (does.follows _ _ _ _ _ _ _ c.in_ok-store_byte.ensures (c.grow_here.ensures))
