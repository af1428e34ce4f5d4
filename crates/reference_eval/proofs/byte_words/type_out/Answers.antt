use Rattle.std.proofs.Common.{rules, ◌≡◌, refl, Err, ◌-◌}
use Rattle.cell_math.specs.Cell.{sum_of}
use Rattle.forth_program.specs.ByteWords as bytes
use Rattle.reference_eval.proofs.AccessSequences as does
use Rattle.reference_eval.proofs.byte_words.type_out.Goals as goal

pub loop-left-init : goal.loop-left-init
loop-left-init g c = does.continues _ _

pub loop-left-preserved : goal.loop-left-preserved
loop-left-preserved g c = rw c.add-at.ensures (does.continues_past _ _ (λ _. bytes.type_out (c.loop-left.left - 1) (sum_of c.loop-left.at 1)) _ _ _ _ (does.continues_past _ _ _ _ _ _ _ (does.opens _
    (λ n. bytes.type_out n c.loop-left.at) c.loop-left.left _ _ c.loop-left-test.true c.loop-left.invariant) c.in_ok-byte.ensures) (c.in_ok-store.ensures _ _))

pub returns-in_err-byte : goal.returns-in_err-byte
returns-in_err-byte g c = let e : c.from_residual.result ≡ Err c.in_err-byte.field-0.0 = search rules in rw e (does.whole_is _ _ _ _ _ _ (does.opens _
    (λ n. bytes.type_out n c.loop-left.at) c.loop-left.left _ _ c.loop-left-test.true c.loop-left.invariant) (does.breaks _ _ _ _ _ c.in_err-byte.ensures))

pub returns-in_err-store : goal.returns-in_err-store
returns-in_err-store g c = let e : c.from_residual-in_err-store.result ≡ Err c.in_err-store.field-0.0 = search rules in rw e (does.whole_is _ _ _ _ _ _ (does.opens _
    (λ n. bytes.type_out n c.loop-left.at) c.loop-left.left _ _ c.loop-left-test.true c.loop-left.invariant) (does.follows _ _ _ _ _ _ _ c.in_ok-byte.ensures (does.breaks _ (λ _. bytes.type_out
    (c.loop-left.left - 1) (sum_of c.loop-left.at 1)) _ _ _ (c.in_err-store.ensures _ _))))

pub returns : goal.returns
returns g c = does.ends _ (λ n. bytes.type_out n c.loop-left.at) c.loop-left.left _ _ _ c.loop-left-test.false (λ w. refl) c.loop-left.invariant
