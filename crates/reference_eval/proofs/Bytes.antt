-- How many cells the bytes take.
use Rattle.std.proofs.Common.{ℕ, ◌+◌, ◌*◌, ◌≤◌, List, [], ◌∷◌, length, arith}
use Rattle.cell_math.specs.Bytes.{cells_of_bytes}

pub cells_few : (bytes : List ℕ) → 2 * length (cells_of_bytes bytes) ≤ length bytes + 1
cells_few [] = omega arith
cells_few (low ∷ []) = omega arith
cells_few (low ∷ high ∷ bytes) = let h = cells_few bytes in omega (arith, h)
