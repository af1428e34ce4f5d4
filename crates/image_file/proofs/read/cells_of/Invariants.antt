use Rattle.std.proofs.Common.{◌≡◌, ◌++◌, length}
use Rattle.image_file.specs.Reading.{cells_of}
use Rattle.image_file.proofs.read.cells_of.Given as goal

abbrev pub invariant-loop-rest : goal.invariant-loop-rest
invariant-loop-rest l = l.cells.items ++ cells_of l.rest ≡ cells_of l.bytes

abbrev pub decreases-loop-rest : goal.decreases-loop-rest
decreases-loop-rest l = length l.rest
