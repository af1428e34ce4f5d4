-- Whole numbers by their sign and their size.
use Rattle.std.specs.Prelude.{ℕ, Bool, true, false, not, ℤ, pos, neg_ℤ}

-- negative where the flag is true
abbrev pub whole : Bool → ℕ → ℤ
whole false size = pos size
whole true size = neg_ℤ (pos size)

-- whether two signs differ
abbrev pub apart : Bool → Bool → Bool
apart false b = b
apart true b = not b
