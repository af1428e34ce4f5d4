-- Bytes as cells, and room for cells.
use Rattle.std.specs.Prelude.{ℕ, ◌+◌, ◌-◌, ◌*◌, List, [], ◌∷◌, ◌++◌, length, replicate}

-- two bytes make a cell, the low byte first; a last byte alone is a low byte
abbrev pub cells_of_bytes : List ℕ → List ℕ
cells_of_bytes [] = []
cells_of_bytes (low ∷ []) = low ∷ []
cells_of_bytes (low ∷ high ∷ bytes) = (low + 256 * high) ∷ cells_of_bytes bytes

-- these cells and then zeros, n in all
abbrev pub filled : ℕ → List ℕ → List ℕ
filled n cells = cells ++ replicate (n - length cells) 0
