use Rattle.std.proofs.Common.{◌≡◌, ◌≤◌, ℕ, length}
use Rattle.forth_reader.specs.Reading.{line_from}
use Rattle.forth_reader.proofs.comments.behind_line.Given as goal

abbrev pub invariant-loop-byte : goal.invariant-loop-byte
invariant-loop-byte l = record {
  same : (k : ℕ) → line_from k l.bytes ≡ line_from k l.rest;
  shorter : length l.rest ≤ length l.bytes;
}

abbrev pub decreases-loop-byte : goal.decreases-loop-byte
decreases-loop-byte l = length l.rest
