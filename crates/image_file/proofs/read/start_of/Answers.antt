use Rattle.std.proofs.Common.{refl}
use Rattle.image_file.proofs.Bad.{bad_version, reaches, untrue}
use Rattle.image_file.proofs.read.start_of.Goals as goal

pub returns-then-not-stands_at : goal.returns-then-not-stands_at
returns-then-not-stands_at c =
    bad_version c.args.bytes.now c.requires (reaches 4 c.args.bytes.now _ c.requires refl)
    (λ inside e. untrue c.stands_at.result _ c.stands_at.ensures c.if-stands_at.false (inside, e))
    (λ inside e. untrue c.stands_at-2.result _ c.stands_at-2.ensures c.if-not-stands_at.true (inside, e))
