use Rattle.std.proofs.Common.{rules, ◌≡◌, Err}
use Rattle.reference_eval.proofs.AccessSequences as does
use Rattle.reference_eval.proofs.accesses.comma.Goals as goal

pub returns-in_err-old : goal.returns-in_err-old
returns-in_err-old g c = let e : c.from_residual.result ≡ Err c.in_err-old.field-0.0 = search rules in rw e (does.breaks _ _ _ _ _ c.in_err-old.ensures)

pub returns-in_err-store : goal.returns-in_err-store
returns-in_err-store g c = let e : c.from_residual-in_err-store.result ≡ Err c.in_err-store.field-0.0 = search rules in rw e (does.follows _ _ _ _ _ _ _ c.in_ok-old.ensures (does.breaks _ _ _ _ _ (c.in_err-store.ensures _ _)))

pub returns : goal.returns
returns g c = does.follows _ _ _ _ _ _ _ c.in_ok-old.ensures (does.follows _ _ _ _ _ _ _ (c.in_ok-store.ensures _ _) (c.grow_here.ensures))
