-- Quotients of whole numbers, rounded down, and what pins each quotient and remainder.
-- Those rounded toward zero are the `int_div` and `int_rem` of std.
use Rattle.std.specs.Prelude.{◌≡◌, zero, suc, ◌-◌, ◌/◌, ◌%◌, ◌<◌, ◌⊎◌, ℤ, pos, negsuc, neg_ℤ, ◌+ℤ◌, ◌*ℤ◌, ◌≤ℤ◌, ◌<ℤ◌, unsigned_abs}

-- the greatest whole number not above a divided by b
abbrev pub floored : ℤ → ℤ → ℤ
floored (pos a) (pos b) = pos (a / b)
floored (negsuc a) (pos b) = negsuc (a / b)
floored (pos zero) (negsuc b) = pos 0
floored (pos (suc a)) (negsuc b) = negsuc (a / suc b)
floored (negsuc a) (negsuc b) = pos (suc a / suc b)

abbrev pub floored_rest : ℤ → ℤ → ℤ
floored_rest (pos a) (pos b) = pos (a % b)
floored_rest (negsuc a) (pos b) = pos (b - 1 - a % b)
floored_rest (pos zero) (negsuc b) = pos 0
floored_rest (pos (suc a)) (negsuc b) = neg_ℤ (pos (b - a % suc b))
floored_rest (negsuc a) (negsuc b) = neg_ℤ (pos (suc a % suc b))

-- a is quotient times b and the rest, which has the sign of b and is nearer to 0
pub record IsFloored (a b quotient rest : ℤ) : Type 0 where
  pub exact : a ≡ quotient *ℤ b +ℤ rest
  pub within : ((pos 0 ≤ℤ rest) × (rest <ℤ b)) ⊎ ((b <ℤ rest) × (rest ≤ℤ pos 0))

-- a is quotient times b and the rest, which has the sign of a and is nearer to 0 than b
pub record IsSymmetric (a b quotient rest : ℤ) : Type 0 where
  pub exact : a ≡ quotient *ℤ b +ℤ rest
  pub small : unsigned_abs rest < unsigned_abs b
  pub sign : ((pos 0 ≤ℤ a) × (pos 0 ≤ℤ rest)) ⊎ ((a ≤ℤ pos 0) × (rest ≤ℤ pos 0))
