use Rattle.std.proofs.Common.{◌≡◌, length}
use Rattle.j1_assembler.specs.Text.{from_line_feed}
use Rattle.j1_assembler.proofs.lines.from_line_feed.Given as goal

abbrev pub invariant-loop-byte : goal.invariant-loop-byte
invariant-loop-byte l = from_line_feed l.rest ≡ from_line_feed l.text

abbrev pub decreases-loop-byte : goal.decreases-loop-byte
decreases-loop-byte l = length l.rest
