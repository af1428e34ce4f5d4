use Rattle.std.proofs.Common.{refl, ap, subst, sym}
use Rattle.reference_eval.specs.Outside.{Whole}
use Rattle.reference_eval.specs.Steps.{IsSame, Prints}
use Rattle.reference_eval.proofs.AccessResults.{prints}
use Rattle.reference_eval.proofs.SceneSteps.{leads_then}
use Rattle.reference_eval.proofs.memory.Memory.print.Goals as goal

pub returns-then-not-self : goal.returns-then-not-self
returns-then-not-self g c = λ left reads.
    leads_then IsSame (Prints c.args.cell) _ Whole _ _ _ (λ w x y e p. subst (λ x. Prints c.args.cell x y) e p) (c.make_room.ensures.leads left reads)
    (rw (sym c.self.view_is) (prints c.args.cell _ _ left reads _ _ refl (λ f. c.push.ensures)))

pub returns-else-not-self : goal.returns-else-not-self
returns-else-not-self g c = λ left reads.
    leads_then IsSame (Prints c.args.cell) _ Whole _ _ _ (λ w x y e p. subst (λ x. Prints c.args.cell x y) e p) (c.make_room.ensures.leads left reads)
    (prints c.args.cell _ _ left reads _ _ refl (λ f. absurd (let v = ap (λ m. m.failed) c.self.view_is in let t = c.if-not-self.false in cc)))
