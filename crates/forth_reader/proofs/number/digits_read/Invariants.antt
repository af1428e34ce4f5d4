use Rattle.std.proofs.Common.{◌≡◌, ◌≤◌, length}
use Rattle.forth_reader.specs.Number.{digits_read}
use Rattle.forth_reader.proofs.Digits.{read_behind}
use Rattle.forth_reader.proofs.number.digits_read.Given as goal

abbrev pub invariant-loop-byte : goal.invariant-loop-byte
invariant-loop-byte l = record {
  same : read_behind l.base l.is_negative l.value l.rest ≡ digits_read l.base l.is_negative l.fn.text;
  small : l.value ≤ 65536;
}

abbrev pub decreases-loop-byte : goal.decreases-loop-byte
decreases-loop-byte l = length l.rest
