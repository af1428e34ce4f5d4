-- The quotients and remainders are those of the definitions that pin them.
use Rattle.std.proofs.Common.{◌≡◌, ◌≢◌, ℕ, zero, suc, ◌+◌, ◌-◌, ◌*◌, ◌/◌, ◌%◌, ◌<◌, ◌⊎◌, inl, inr, ℤ, pos, negsuc, neg_ℤ, ◌+ℤ◌, ◌*ℤ◌, ◌≤ℤ◌, refl, sym, arith, mod-lt}
use Rattle.std.specs.Prelude.{int_div, int_rem, unsigned_abs}
use Rattle.std.proofs.lemmas.Int.{ints, quot-rem, rem_below}
use Rattle.std.proofs.lemmas.Nat.{div-add-mod'}
use Rattle.cell_math.specs.Quotients.{floored, floored_rest, IsFloored, IsSymmetric}

-- by the quotient and the rest of sizes
both_positive : (a b q r : ℕ) → q * suc b + r ≡ a → pos a ≡ pos q *ℤ pos (suc b) +ℤ pos r
both_positive a b q r e = grind (arith, ints)

negative_by_positive : (a b q r : ℕ) → q * suc b + r ≡ a → r < suc b → negsuc a ≡ negsuc q *ℤ pos (suc b) +ℤ pos (suc b - 1 - r)
negative_by_positive a b q r e h = grind (arith, ints)

positive_by_negative : (a b q r : ℕ) → q * suc b + r ≡ a → r < suc b → pos (suc a) ≡ negsuc q *ℤ negsuc b +ℤ neg_ℤ (pos (b - r))
positive_by_negative a b q r e h = grind (arith, ints)

both_negative : (a b q r : ℕ) → q * suc b + r ≡ suc a → negsuc a ≡ pos q *ℤ negsuc b +ℤ neg_ℤ (pos r)
both_negative a b q r e = grind (arith, ints)

zero_by_negative : (b : ℕ) → pos 0 ≡ pos 0 *ℤ negsuc b +ℤ pos 0
zero_by_negative b = grind (arith, ints)

pub floored_is : (a b : ℤ) → b ≢ pos 0 → IsFloored a b (floored a b) (floored_rest a b)
floored_is a (pos zero) h = absurd (h refl)
floored_is (pos a) (pos (suc b)) h = record {
  exact = both_positive a b (a / suc b) (a % suc b) (div-add-mod' a (suc b));
  within = inl (grind (arith, ints), (let below = mod-lt a {m = suc b} in grind (arith, ints)));
}
floored_is (negsuc a) (pos (suc b)) h = record {
  exact = negative_by_positive a b (a / suc b) (a % suc b) (div-add-mod' a (suc b)) (let below = mod-lt a {m = suc b} in grind arith);
  within = inl (grind (arith, ints), grind (arith, ints));
}
floored_is (pos zero) (negsuc b) h = record { exact = zero_by_negative b; within = inr (grind (arith, ints), grind (arith, ints)) }
floored_is (pos (suc a)) (negsuc b) h = record {
  exact = positive_by_negative a b (a / suc b) (a % suc b) (div-add-mod' a (suc b)) (let below = mod-lt a {m = suc b} in grind arith);
  within = inr (grind (arith, ints), grind (arith, ints));
}
floored_is (negsuc a) (negsuc b) h = record {
  exact = both_negative a b (suc a / suc b) (suc a % suc b) (div-add-mod' (suc a) (suc b));
  within = inr (let below = mod-lt (suc a) {m = suc b} in grind (arith, ints), grind (arith, ints));
}

-- the rest of a number that is not negative is not negative, and of others it is not positive
sign_is : (a b : ℤ) → ((pos 0 ≤ℤ a) × (pos 0 ≤ℤ int_rem a b)) ⊎ ((a ≤ℤ pos 0) × (int_rem a b ≤ℤ pos 0))
sign_is (pos a) (pos b) = inl (grind (arith, ints), grind (arith, ints))
sign_is (pos a) (negsuc b) = inl (grind (arith, ints), grind (arith, ints))
sign_is (negsuc a) (pos b) = inr (grind (arith, ints), grind (arith, ints))
sign_is (negsuc a) (negsuc b) = inr (grind (arith, ints), grind (arith, ints))

has_size : (b : ℤ) → b ≢ pos 0 → 0 < unsigned_abs b
has_size (pos zero) h = absurd (h refl)
has_size (pos (suc b)) h = omega arith
has_size (negsuc b) h = omega arith

pub symmetric_is : (a b : ℤ) → b ≢ pos 0 → IsSymmetric a b (int_div a b) (int_rem a b)
symmetric_is a b h = record { exact = sym (quot-rem a b); small = rem_below a b (has_size b h); sign = sign_is a b }
