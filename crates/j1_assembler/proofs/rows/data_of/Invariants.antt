use Rattle.std.proofs.Common.{length}
use Rattle.j1_assembler.specs.Text.{fields_of}
use Rattle.j1_assembler.proofs.Data.{IsBefore}
use Rattle.j1_assembler.proofs.rows.data_of.Given as goal

abbrev pub invariant-loop-field : goal.invariant-loop-field
invariant-loop-field l = IsBefore l.bytes.items (fields_of l.rest) (fields_of l.fn.line)

abbrev pub decreases-loop-field : goal.decreases-loop-field
decreases-loop-field l = length l.rest
