-- What pins the quotients and remainders of whole numbers.
use Rattle.std.specs.Prelude.{◌≢◌, ℤ, pos, int_div, int_rem}
use Rattle.cell_math.specs.Quotients.{floored, floored_rest, IsFloored, IsSymmetric}

-- each quotient and remainder by a divisor that is not 0, rounded down
abbrev pub EachIsFloored : Type 0
EachIsFloored = (a b : ℤ) → b ≢ pos 0 → IsFloored a b (floored a b) (floored_rest a b)

-- and rounded toward zero
abbrev pub EachIsSymmetric : Type 0
EachIsSymmetric = (a b : ℤ) → b ≢ pos 0 → IsSymmetric a b (int_div a b) (int_rem a b)
