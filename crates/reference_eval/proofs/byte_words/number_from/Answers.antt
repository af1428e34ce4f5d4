use Rattle.std.proofs.Common.{rules, ◌≡◌, ap, refl, subst, Err, Some, None, ◌-◌, suc, arith}
use Rattle.forth_program.specs.State.{Gives}
use Rattle.forth_program.specs.ByteWords as bytes
use Rattle.reference_eval.proofs.AccessSequences as does
use Rattle.reference_eval.proofs.byte_words.number_from.Goals as goal

pub returns-in_err-radix : goal.returns-in_err-radix
returns-in_err-radix g c = let e : c.from_residual.result ≡ Err c.in_err-radix.field-0.0 = search rules in rw e (does.breaks _ _ _ _ _ c.in_err-radix.ensures)

pub loop-left-init : goal.loop-left-init
loop-left-init g c = does.continues_past _ _ _ _ _ _ _ (does.continues _ _) c.in_ok-radix.ensures

pub loop-left-preserved : goal.loop-left-preserved
loop-left-preserved g c = let o : bytes.digit_of c.in_ok-radix.radix c.in_ok-byte.byte ≡ Some c.in-Some.digit = search rules in rw (c.add-at.ensures, c.with_digit-value.ensures)
    (does.continues_by _ _ _ _ _ (does.continues_past _ _ _ _ _ _ _ (does.opens _
    (λ n. bytes.number_from c.in_ok-radix.radix n c.loop-left.at c.loop-left.value) c.loop-left.left _ _ c.loop-left-test.true c.loop-left.invariant) c.in_ok-byte.ensures) (λ answer u d. does.some_case _ _ _ _ _ _ _ o d))

pub returns-in_err-byte : goal.returns-in_err-byte
returns-in_err-byte g c = let e : c.from_residual-in_err-byte.result ≡ Err c.in_err-byte.field-0.0 = search rules in rw e (does.whole_is _ _ _ _ _ _ (does.opens _
    (λ n. bytes.number_from c.in_ok-radix.radix n c.loop-left.at c.loop-left.value) c.loop-left.left _ _ c.loop-left-test.true c.loop-left.invariant) (does.breaks _ _ _ _ _ c.in_err-byte.ensures))

pub returns-in_default : goal.returns-in_default
returns-in_default g c = let o : bytes.digit_of c.in_ok-radix.radix c.in_ok-byte.byte ≡ None = search rules in let e : suc
    (c.loop-left.left - 1) ≡ c.loop-left.left = omega arith in does.whole_is _ _ _ _ _ _ (does.opens _
    (λ n. bytes.number_from c.in_ok-radix.radix n c.loop-left.at c.loop-left.value) c.loop-left.left _ _ c.loop-left-test.true c.loop-left.invariant) (does.follows _ _ _ _ _ _ _ c.in_ok-byte.ensures
    (does.none_case _ _ _ _ _ _ o (does.gives_as _ _ _ (ap (λ n. (c.loop-left.value, c.loop-left.at, n)) e))))

pub returns : goal.returns
returns g c = let e : 0 ≡ c.loop-left.left = omega arith in does.whole_is _ _ _ _ _ _ (c.loop-left.invariant) (does.does_as (λ w. Gives
    (c.loop-left.value, c.loop-left.at, c.loop-left.left) w) _ _ _ _ (λ b w h. subst (λ n. Gives
    (c.loop-left.value, c.loop-left.at, n) w ≡ bytes.number_from c.in_ok-radix.radix n c.loop-left.at c.loop-left.value w) e refl) (does.gives _ _))
