use Rattle.std.proofs.Common.{◌≡◌, ◌++◌, drop}
use Rattle.std.specs.List.{flat_map}
use Rattle.decompiler.specs.Listing.{code_rows, line_text}
use Rattle.decompiler.proofs.code.add_code.Given as goal

abbrev pub invariant-loop-number : goal.invariant-loop-number
invariant-loop-number l = l.text.items ++ flat_map line_text (code_rows l.number (drop l.number l.cells)) ≡ l.fn.text.items ++ flat_map line_text (code_rows 0 l.cells)
