use Rattle.std.proofs.Common.{rules, ◌≡◌, refl, Err, ◌-◌}
use Rattle.cell_math.specs.Cell.{sum_of}
use Rattle.forth_program.specs.ByteWords as bytes
use Rattle.reference_eval.proofs.AccessSequences as does
use Rattle.reference_eval.proofs.byte_words.move_up.Goals as goal

pub loop-left-init : goal.loop-left-init
loop-left-init g c = does.continues _ _

pub loop-left-preserved : goal.loop-left-preserved
loop-left-preserved g c = rw (c.add-source.ensures, c.add-target.ensures) (does.continues_past _ _ (λ _. bytes.move_up (c.loop-left.left - 1) (sum_of c.loop-left.source 1)
    (sum_of c.loop-left.target 1)) _ _ _ _ (does.opens _ (λ n. bytes.move_up n c.loop-left.source c.loop-left.target) c.loop-left.left _ _ c.loop-left-test.true c.loop-left.invariant) c.in_ok-copy_byte.ensures)

pub returns-in_err-copy_byte : goal.returns-in_err-copy_byte
returns-in_err-copy_byte g c = let e : c.from_residual.result ≡ Err c.in_err-copy_byte.field-0.0 = search rules in rw e (does.whole_is _ _ _ _ _ _ (does.opens _
    (λ n. bytes.move_up n c.loop-left.source c.loop-left.target) c.loop-left.left _ _ c.loop-left-test.true c.loop-left.invariant) (does.breaks _ (λ _. bytes.move_up (c.loop-left.left - 1)
    (sum_of c.loop-left.source 1) (sum_of c.loop-left.target 1)) _ _ _ c.in_err-copy_byte.ensures))

pub returns : goal.returns
returns g c = does.ends _ (λ n. bytes.move_up n c.loop-left.source c.loop-left.target) c.loop-left.left _ _ _ c.loop-left-test.false (λ w. refl) c.loop-left.invariant
