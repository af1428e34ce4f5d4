-- Unsigned decimal numbers in words and texts.
use Rattle.std.specs.Prelude.{ℕ, ◌+◌, ◌-◌, ◌*◌, List, [], ◌∷◌, length, Bool, ◌&&◌, nat_le, nat_lt, if◌then◌else◌, Option, Some, None}
use Rattle.std.specs.List.{list_all}

-- the bytes 0 to 9
abbrev pub is_decimal_digit : ℕ → Bool
is_decimal_digit byte = nat_le 48 byte && nat_le byte 57

-- the value of digits that stand behind a value
abbrev pub value_from : ℕ → List ℕ → ℕ
value_from value [] = value
value_from value (digit ∷ digits) = value_from (10 * value + (digit - 48)) digits

-- 1 to most_digits decimal digits
abbrev pub is_number : ℕ → List ℕ → Bool
is_number most_digits text = nat_lt 0 (length text) && nat_le (length text) most_digits && list_all is_decimal_digit text

-- the number of such a text, where it is at most most
abbrev pub number_in : ℕ → ℕ → List ℕ → Option ℕ
number_in most_digits most text =
    if is_number most_digits text && nat_le (value_from 0 text) most then Some (value_from 0 text) else None
