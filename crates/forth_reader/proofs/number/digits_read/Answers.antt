use Rattle.std.proofs.Common.{arith, ◌∙◌, ◌+◌, ◌*◌}
use Rattle.std.proofs.Math.Nat.{min-le_right}
use Rattle.std.proofs.lemmas.Grind.{common_steps}
use Rattle.forth_reader.proofs.Digits.{from_left, next_digit}
use Rattle.forth_reader.proofs.number.digits_read.Goals as goal

pub loop-byte-init : goal.loop-byte-init
loop-byte-init c = record {
  same = from_left c.args.base c.args.is_negative c.args.text.now (grind (arith, common_steps));
  small = omega arith;
}

pub loop-byte-preserved : goal.loop-byte-preserved
loop-byte-preserved c = record {
  same =
      next_digit _ _ c.loop-byte.value c.digit_value-next.result _ c.in-Some.byte.now c.in-Some.tail.now c.loop-byte.rest.now c.in-Some.ensures.cases.0
      c.digit_value-next.ensures.value c.if-next-base.false c.min-value.ensures ∙ c.loop-byte.invariant.same;
  small = omega (arith, min-le_right (c.loop-byte.value * c.args.base + c.digit_value-next.result) 65536);
}
