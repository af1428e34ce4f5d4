use Rattle.std.proofs.Common.{rules, ◌≡◌, ap, Err}
use Rattle.forth_program.specs.Access as access
use Rattle.reference_eval.proofs.AccessSequences as does
use Rattle.reference_eval.proofs.accesses.store_pair.Goals as goal

pub returns-in_err-store : goal.returns-in_err-store
returns-in_err-store g c = λ left reads. let e : c.from_residual.result ≡ Err c.in_err-store.field-0.0 = search rules in rw e (does.breaks _ _ _ _ _ (c.in_err-store.ensures left reads))

pub returns : goal.returns
returns g c = λ left reads. does.follows _ _ _ _ _ _ _ (c.in_ok-store.ensures left reads) (does.does_as _ _ _ _ _ (λ b w h. ap (λ a. access.store a c.args.x w) c.add.ensures) (c.store-2.ensures left reads))
