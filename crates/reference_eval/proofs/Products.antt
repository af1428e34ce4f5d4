-- A whole number of 32 bits as a double and back.
use Rattle.std.proofs.Common.{◌≡◌, ℤ, pos, negsuc, ◌≤ℤ◌, arith}
use Rattle.std.proofs.lemmas.Int.{ints}
use Rattle.cell_math.specs.Cell.{signed_double, double_of, low_cell, high_cell}

pub double_back : (z : ℤ) → negsuc 2147483647 ≤ℤ z → z ≤ℤ pos 2147483647 → signed_double (low_cell (double_of z)) (high_cell (double_of z)) ≡ z
double_back (pos n) l h = grind (arith, ints)
double_back (negsuc n) l h = grind (arith, ints)
