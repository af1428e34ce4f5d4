-- The memory that an image begins with, as a text: four hexadecimal digits in upper case a cell, and a line feed.
use Rattle.std.specs.Prelude.{ℕ, List, [], ◌∷◌, ◌++◌}
use Rattle.std.specs.List.{flat_map}
use Rattle.j1_table.specs.Image.{Content}
use Rattle.j1_simulator.specs.Run.{memory_of}
use Rattle.decompiler.specs.Listing.{hex4}

abbrev pub cell_line : ℕ → List ℕ
cell_line cell = hex4 cell ++ 10 ∷ []

-- that of cell 0 first
unfoldable pub memory_text : Content → List ℕ
memory_text image = flat_map cell_line (memory_of image)
