use Rattle.std.proofs.Common.{◌<◌, arith}
use Rattle.std.proofs.lemmas.Bool.Decides.{nat_tests}
use Rattle.net_file.specs.Numbers.{value_from}
use Rattle.net_file.proofs.Digits.{value_from_passes}
use Rattle.net_file.proofs.numbers.value_within.Goals as goal

pub returns-then-next-from : goal.returns-then-next-from
returns-then-next-from c =
    let over : c.args.most < value_from 0 c.args.digits.now = value_from_passes _ c.loop-digit.digit-index c.loop-digit.value _ c.loop-digit.invariant.0 (omega arith) (omega arith) in
    grind (arith, nat_tests)
