use Rattle.std.proofs.Common.{◌≡◌, ◌++◌, drop}
use Rattle.std.specs.List.{flat_map}
use Rattle.memory_text.specs.MemoryText.{cell_line}
use Rattle.memory_text.proofs.text.add_lines.Given as goal

abbrev pub invariant-loop-cell : goal.invariant-loop-cell
invariant-loop-cell l = l.text.items ++ flat_map cell_line (drop l.cell-index l.cells) ≡ l.fn.text.items ++ flat_map cell_line l.cells
