use Rattle.std.proofs.Common.{◌≡◌, ◌≤◌, ℕ, length}
use Rattle.forth_reader.specs.Reading.{parenthesis_from}
use Rattle.forth_reader.proofs.comments.behind_parenthesis.Given as goal

abbrev pub invariant-loop-byte : goal.invariant-loop-byte
invariant-loop-byte l = record {
  same : (k : ℕ) → parenthesis_from k l.bytes ≡ parenthesis_from k l.rest;
  shorter : length l.rest ≤ length l.bytes;
}

abbrev pub decreases-loop-byte : goal.decreases-loop-byte
decreases-loop-byte l = length l.rest
