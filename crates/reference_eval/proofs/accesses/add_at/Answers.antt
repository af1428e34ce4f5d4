use Rattle.std.proofs.Common.{rules, ◌≡◌, ap, Err}
use Rattle.forth_program.specs.Access as access
use Rattle.reference_eval.proofs.AccessSequences as does
use Rattle.reference_eval.proofs.accesses.add_at.Goals as goal

pub returns-in_err-old : goal.returns-in_err-old
returns-in_err-old g c = let e : c.from_residual.result ≡ Err c.in_err-old.field-0.0 = search rules in rw e (does.breaks _ _ _ _ _ c.in_err-old.ensures)

pub returns : goal.returns
returns g c = does.follows _ _ _ _ _ _ _ c.in_ok-old.ensures (does.does_as _ _ _ _ _ (λ b w h. ap (λ x. access.store c.args.address x w) c.add.ensures) (c.store.ensures _ _))
