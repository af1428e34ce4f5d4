use Rattle.std.proofs.Common.{◌≡◌, ◌++◌, length}
use Rattle.host_state.specs.FirstImage.{bytes_of_cells}
use Rattle.host_state.proofs.image.bytes_of_cells.Given as goal

abbrev pub invariant-loop-cell : goal.invariant-loop-cell
invariant-loop-cell l = l.bytes.items ++ bytes_of_cells l.rest ≡ bytes_of_cells l.fn.cells

abbrev pub decreases-loop-cell : goal.decreases-loop-cell
decreases-loop-cell l = length l.rest
