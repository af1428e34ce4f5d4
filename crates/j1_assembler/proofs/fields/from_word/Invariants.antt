use Rattle.std.proofs.Common.{◌≡◌, length}
use Rattle.j1_assembler.specs.Text.{from_word}
use Rattle.j1_assembler.proofs.fields.from_word.Given as goal

abbrev pub invariant-loop-byte : goal.invariant-loop-byte
invariant-loop-byte l = from_word l.rest ≡ from_word l.line

abbrev pub decreases-loop-byte : goal.decreases-loop-byte
decreases-loop-byte l = length l.rest
