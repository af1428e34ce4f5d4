use Rattle.std.proofs.Common.{arith}
use Rattle.image_file.proofs.Bad.{bad_letter, untrue}
use Rattle.image_file.proofs.read.expect_letters.Goals as goal

pub returns-then-not-stands_at : goal.returns-then-not-stands_at
returns-then-not-stands_at c =
    bad_letter c.args.bytes.now c.loop-offset.offset (omega arith) c.loop-offset.invariant.within c.loop-offset.invariant.same
    (λ inside e. untrue c.stands_at.result _ c.stands_at.ensures c.if-not-stands_at.true (inside, e))
