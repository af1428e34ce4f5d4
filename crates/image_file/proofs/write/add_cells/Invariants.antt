use Rattle.std.proofs.Common.{◌≡◌, ◌++◌, take}
use Rattle.std.specs.List.{flat_map}
use Rattle.image_file.specs.File.{pair}
use Rattle.image_file.proofs.write.add_cells.Given as goal

abbrev pub invariant-loop-cell : goal.invariant-loop-cell
invariant-loop-cell l = l.file.items ≡ l.fn.file.items ++ flat_map pair (take l.cell-index l.cells)
