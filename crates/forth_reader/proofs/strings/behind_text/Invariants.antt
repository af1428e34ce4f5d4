use Rattle.std.proofs.Common.{◌≡◌, length}
use Rattle.forth_reader.specs.Bytes.{behind_front, is_string_byte}
use Rattle.forth_reader.proofs.strings.behind_text.Given as goal

abbrev pub invariant-loop-byte : goal.invariant-loop-byte
invariant-loop-byte l = behind_front is_string_byte l.rest ≡ behind_front is_string_byte l.bytes

abbrev pub decreases-loop-byte : goal.decreases-loop-byte
decreases-loop-byte l = length l.rest
