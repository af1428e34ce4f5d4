use Rattle.std.proofs.Common.{rules, ◌≡◌, ap, Err}
use Rattle.forth_program.specs.Access as access
use Rattle.reference_eval.proofs.AccessSequences as does
use Rattle.reference_eval.proofs.accesses.fetch_pair.Goals as goal

pub returns-in_err-x : goal.returns-in_err-x
returns-in_err-x g c = let e : c.from_residual.result ≡ Err c.in_err-x.field-0.0 = search rules in rw e (does.breaks _ _ _ _ _ (does.does_as _ _ _ _ _ (λ b w h. ap (λ x. access.fetch x w) c.add.ensures) c.in_err-x.ensures))

pub returns-in_err-y : goal.returns-in_err-y
returns-in_err-y g c = let e : c.from_residual-in_err-y.result ≡ Err c.in_err-y.field-0.0 = search rules in rw e (does.follows _ _ _ _ _ _ _ (does.does_as _ _ _ _ _ (λ b w h. ap
    (λ x. access.fetch x w) c.add.ensures) c.in_ok-x.ensures) (does.breaks _ _ _ _ _ c.in_err-y.ensures))

pub returns : goal.returns
returns g c = does.follows _ _ _ _ _ _ _ (does.does_as _ _ _ _ _ (λ b w h. ap (λ x. access.fetch x w) c.add.ensures) c.in_ok-x.ensures) (does.follows _ _ _ _ _ _ _ c.in_ok-y.ensures (does.gives _ _))
