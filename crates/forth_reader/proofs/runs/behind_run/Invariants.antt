use Rattle.std.proofs.Common.{◌≡◌, length}
use Rattle.forth_reader.specs.Bytes.{behind_graphic}
use Rattle.forth_reader.proofs.runs.behind_run.Given as goal

abbrev pub invariant-loop-byte : goal.invariant-loop-byte
invariant-loop-byte l = behind_graphic l.rest ≡ behind_graphic l.bytes

abbrev pub decreases-loop-byte : goal.decreases-loop-byte
decreases-loop-byte l = length l.rest
