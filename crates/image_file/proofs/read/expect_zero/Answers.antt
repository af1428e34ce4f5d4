use Rattle.std.proofs.Common.{refl}
use Rattle.image_file.proofs.Bad.{bad_zero, reaches, untrue}
use Rattle.image_file.proofs.read.expect_zero.Goals as goal

pub returns-else-stands_at : goal.returns-else-stands_at
returns-else-stands_at c =
    bad_zero c.args.bytes.now c.args.version c.requires.version c.requires.front (reaches 5 c.args.bytes.now _ c.requires.front refl)
    (λ inside e. untrue c.stands_at.result _ c.stands_at.ensures c.if-stands_at.false (inside, e))
