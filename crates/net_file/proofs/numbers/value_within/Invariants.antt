use Rattle.std.proofs.Common.{◌≡◌, ◌≤◌, drop}
use Rattle.net_file.specs.Numbers.{value_from}
use Rattle.net_file.proofs.numbers.value_within.Given as goal

abbrev pub invariant-loop-digit : goal.invariant-loop-digit
invariant-loop-digit l = (value_from l.value (drop l.digit-index l.digits) ≡ value_from 0 l.digits) × (l.value ≤ l.most)
