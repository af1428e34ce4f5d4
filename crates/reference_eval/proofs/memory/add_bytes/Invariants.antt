use Rattle.std.proofs.Common.{◌≡◌, ◌++◌, length}
use Rattle.cell_math.specs.Bytes.{cells_of_bytes}
use Rattle.reference_eval.proofs.memory.add_bytes.Given as goal

abbrev pub invariant-loop-rest : goal.invariant-loop-rest
invariant-loop-rest l = l.cells.items ++ cells_of_bytes l.rest ≡ l.initial.cells.items ++ cells_of_bytes l.initial.rest

abbrev pub decreases-loop-rest : goal.decreases-loop-rest
decreases-loop-rest l = length l.rest
