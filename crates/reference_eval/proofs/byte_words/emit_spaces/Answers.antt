use Rattle.std.proofs.Common.{rules, ◌≡◌, refl, Err, ◌-◌}
use Rattle.forth_program.specs.ByteWords as bytes
use Rattle.reference_eval.proofs.AccessSequences as does
use Rattle.reference_eval.proofs.byte_words.emit_spaces.Goals as goal

pub loop-left-init : goal.loop-left-init
loop-left-init g c = λ input reads. rw c.positive-left.ensures (does.continues _ _)

pub loop-left-preserved : goal.loop-left-preserved
loop-left-preserved g c = λ input reads. does.continues_past _ _ (λ _. bytes.emit_spaces (c.loop-left.left - 1)) _ _ _ _ (does.opens _
    (λ n. bytes.emit_spaces n) c.loop-left.left _ _ c.loop-left-test.true (c.loop-left.invariant input reads)) (c.in_ok-store.ensures input reads)

pub returns-in_err-store : goal.returns-in_err-store
returns-in_err-store g c = λ input reads. let e : c.from_residual.result ≡ Err c.in_err-store.field-0.0 = search rules in rw e (does.whole_is _ _ _ _ _ _ (does.opens _
    (λ n. bytes.emit_spaces n) c.loop-left.left _ _ c.loop-left-test.true (c.loop-left.invariant input reads)) (does.breaks _ (λ _. bytes.emit_spaces (c.loop-left.left - 1)) _ _ _ (c.in_err-store.ensures input reads)))

pub returns : goal.returns
returns g c = λ input reads. does.ends _ (λ n. bytes.emit_spaces n) c.loop-left.left _ _ _ c.loop-left-test.false (λ w. refl) (c.loop-left.invariant input reads)
