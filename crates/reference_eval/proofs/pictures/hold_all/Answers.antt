use Rattle.std.proofs.Common.{rules, ◌≡◌, sym, ap, Err, ◌-◌, suc, arith}
use Rattle.forth_program.specs.State.{Gives}
use Rattle.forth_program.specs.PicturedOutput as picture
use Rattle.reference_eval.proofs.AccessSequences as does
use Rattle.reference_eval.proofs.pictures.hold_all.Goals as goal
use Rattle.std.proofs.Common.{zero}

pub loop-digits-init : goal.loop-digits-init
loop-digits-init g c = does.continues _ _

pub loop-digits-preserved : goal.loop-digits-preserved
loop-digits-preserved g c = does.continues_by _ _ _ _ _ (does.continues_past _ _ (λ n w. elim n [ zero ↦ Gives zero w | suc m ↦ picture.hold_digits (c.loop-digits.digits - 1) (suc m) w ]) _ _ _ _
    (does.opens _ (λ n. picture.hold_digits n c.loop-digits.left) c.loop-digits.digits _ _ c.loop-digits-test.true c.loop-digits.invariant) c.in_ok-left.ensures)
    (λ answer u d. does.suc_case c.in_ok-left.left (λ w. Gives zero w) (λ m w. picture.hold_digits (c.loop-digits.digits - 1) (suc m) w) _ _ _ c.if-left-eq0.false (let e : suc
    (c.in_ok-left.left - 1) ≡ c.in_ok-left.left = omega arith in does.does_as _ _ _ _ _ (λ b w h. ap (λ n. picture.hold_digits (c.loop-digits.digits - 1) n w) (sym e)) d))

pub returns-in_err-left : goal.returns-in_err-left
returns-in_err-left g c = let e : c.from_residual.result ≡ Err c.in_err-left.field-0.0 = search rules in rw e (does.whole_is _ _ _ _ _ _ (does.opens _
    (λ n. picture.hold_digits n c.loop-digits.left) c.loop-digits.digits _ _ c.loop-digits-test.true c.loop-digits.invariant) (does.breaks _
    (λ n w. elim n [ zero ↦ Gives zero w | suc m ↦ picture.hold_digits (c.loop-digits.digits - 1) (suc m) w ]) _ _ _ c.in_err-left.ensures))

pub returns-then-left-eq0 : goal.returns-then-left-eq0
returns-then-left-eq0 g c = does.whole_is _ _ _ _ _ _ (does.opens _ (λ n. picture.hold_digits n c.loop-digits.left) c.loop-digits.digits _ _ c.loop-digits-test.true c.loop-digits.invariant)
    (does.follows _ (λ n w. elim n [ zero ↦ Gives zero w | suc m ↦ picture.hold_digits (c.loop-digits.digits - 1) (suc m) w ]) _ _ _ _ _ c.in_ok-left.ensures (does.zero_case c.in_ok-left.left
    (λ w. Gives zero w) (λ m w. picture.hold_digits (c.loop-digits.digits - 1) (suc m) w) _ _ _ c.if-left-eq0.true (does.gives _ _)))

pub returns : goal.returns
returns g c = let e : 0 ≡ c.loop-digits.digits = omega arith in does.whole_is _ _ _ _ _ _ (c.loop-digits.invariant) (does.does_as (λ w. Gives c.loop-digits.left w) _ _ _ _ (λ b w h. ap
    (λ n. picture.hold_digits n c.loop-digits.left w) e) (does.gives _ _))
