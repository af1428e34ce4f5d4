use Rattle.std.proofs.Common.{rules, ◌≡◌, refl, Err, ◌+◌, ◌-◌, arith}
use Rattle.cell_math.specs.Cell.{sum_of}
use Rattle.forth_program.specs.ByteWords as bytes
use Rattle.reference_eval.proofs.AccessSequences as does
use Rattle.reference_eval.proofs.byte_words.accept.Goals as goal
use Rattle.std.proofs.Common.{tests, true, false, ◌==◌}

pub loop-left-init : goal.loop-left-init
loop-left-init g c = (omega arith, does.continues _ _)

pub loop-left-preserved : goal.loop-left-preserved
loop-left-preserved g c = (
  omega arith,
  let b : (c.in_ok-byte.byte == 10) ≡ false = search (rules, tests) in rw c.add-at.ensures (does.continues_past _ _ (λ _. bytes.accept (c.loop-left.left - 1)
      (sum_of c.loop-left.at 1) (c.loop-left.kept + 1)) _ _ _ _ (does.continues_by _ _ _ _ _ (does.continues_past _ _ _ _ _ _ _ (does.opens _
      (λ n. bytes.accept n c.loop-left.at c.loop-left.kept) c.loop-left.left _ _ c.loop-left-test.true c.loop-left.invariant.1) c.in_ok-byte.ensures) (λ answer u d. does.false_case _ _ _ _ _ _ b d)) c.in_ok-store_byte.ensures),
)

pub returns-in_err-byte : goal.returns-in_err-byte
returns-in_err-byte g c = let e : c.from_residual.result ≡ Err c.in_err-byte.field-0.0 = search rules in rw e (does.whole_is _ _ _ _ _ _ (does.opens _
    (λ n. bytes.accept n c.loop-left.at c.loop-left.kept) c.loop-left.left _ _ c.loop-left-test.true c.loop-left.invariant.1) (does.breaks _ _ _ _ _ c.in_err-byte.ensures))

pub returns-then-byte-eq10 : goal.returns-then-byte-eq10
returns-then-byte-eq10 g c = let b : (c.in_ok-byte.byte == 10) ≡ true = search (rules, tests) in does.whole_is _ _ _ _ _ _ (does.opens _
    (λ n. bytes.accept n c.loop-left.at c.loop-left.kept) c.loop-left.left _ _ c.loop-left-test.true c.loop-left.invariant.1) (does.follows _ _ _ _ _ _ _ c.in_ok-byte.ensures (does.true_case _ _ _ _ _ _ b (does.gives _ _)))

pub returns-in_err-store_byte : goal.returns-in_err-store_byte
returns-in_err-store_byte g c = let b : (c.in_ok-byte.byte == 10) ≡ false = search
    (rules, tests) in let e : c.from_residual-in_err-store_byte.result ≡ Err c.in_err-store_byte.field-0.0 = search rules in rw e (does.whole_is _ _ _ _ _ _ (does.opens _
    (λ n. bytes.accept n c.loop-left.at c.loop-left.kept) c.loop-left.left _ _ c.loop-left-test.true c.loop-left.invariant.1) (does.follows _ _ _ _ _ _ _ c.in_ok-byte.ensures
    (does.false_case _ _ _ _ _ _ b (does.breaks _ (λ _. bytes.accept (c.loop-left.left - 1) (sum_of c.loop-left.at 1) (c.loop-left.kept + 1)) _ _ _ c.in_err-store_byte.ensures))))

pub overflow_add-kept : goal.overflow_add-kept
overflow_add-kept g c = omega arith

pub returns : goal.returns
returns g c = does.ends _ (λ n. bytes.accept n c.loop-left.at c.loop-left.kept) c.loop-left.left _ _ _ c.loop-left-test.false (λ w. refl) c.loop-left.invariant.1
