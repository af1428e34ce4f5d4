use Rattle.std.proofs.Common.{arith, refl}
use Rattle.image_file.proofs.Bad.{bad_low, bad_high, reaches, untrue}
use Rattle.image_file.proofs.read.stated_start.Goals as goal

pub returns-in_default : goal.returns-in_default
returns-in_default c = bad_low c.args.bytes.now c.requires (reaches 6 c.args.bytes.now _ c.requires refl) (λ inside e. absurd (omega (arith, c.in_default.ensures)))

pub returns-then-low-eq1 : goal.returns-then-low-eq1
returns-then-low-eq1 c = bad_low c.args.bytes.now c.requires (reaches 6 c.args.bytes.now _ c.requires refl) (λ inside e. absurd (omega (arith, c.in-Some.ensures)))

pub returns-in_default-byte_at : goal.returns-in_default-byte_at
returns-in_default-byte_at c =
    bad_high c.args.bytes.now c.requires (omega (arith, c.in-Some.ensures)) (omega (arith, c.type_inv.bytes 6)) (omega (arith, c.in-Some.ensures))
    (λ inside _ _ _. absurd (omega (arith, c.in_default-byte_at.ensures)))

pub returns-then-not-is_stated : goal.returns-then-not-is_stated
returns-then-not-is_stated c =
    bad_high c.args.bytes.now c.requires (omega (arith, c.in-Some.ensures)) (omega (arith, c.type_inv.bytes 6)) (omega (arith, c.in-Some.ensures))
    (λ inside a b d.
    untrue c.is_stated.result _ c.is_stated.ensures c.if-not-is_stated.true (
      omega (arith, c.in-Some.ensures, c.in-Some-byte_at.ensures),
      omega (arith, c.in-Some.ensures, c.in-Some-byte_at.ensures),
      λ e. a (omega (arith, c.in-Some.ensures, c.in-Some-byte_at.ensures)),
    ))
