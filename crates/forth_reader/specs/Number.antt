-- The number that a token spells, as Forth 2012 spells numbers.
use Rattle.std.specs.Prelude.{ℕ, ◌+◌, ◌-◌, ◌*◌, ◌^◌, nat_le, nat_lt, ◌==◌, ◌&&◌, Bool, true, false, List, [], ◌∷◌, length, slice_index_or, Option, Some, None}
use Rattle.std.specs.List.{list_all}
use Rattle.forth_reader.specs.Bytes.{is_graphic}
use Rattle.forth_reader.specs.declared.number.NumberRead.{NumberRead}
use Rattle.forth_reader.specs.declared.number.NumberRead.TheVariants.{Value, Range, NotNumber}

-- a letter in upper case
abbrev pub raised_letter : ℕ → ℕ
raised_letter byte = elim (nat_le 97 byte && nat_le byte 122) [ true ↦ byte - 32 | false ↦ byte ]

-- the value of a digit or a letter, 36 for any other byte
abbrev pub digit_value : ℕ → ℕ
digit_value byte = elim (nat_le 48 byte && nat_le byte 57) [
  | true ↦ byte - 48
  | false ↦ elim (nat_le 65 (raised_letter byte) && nat_le (raised_letter byte) 90) [ true ↦ raised_letter byte - 55 | false ↦ 36 ]
]

-- a digit of the base
abbrev pub is_digit : ℕ → ℕ → Bool
is_digit base byte = nat_lt (digit_value byte) base

-- the value of digits: each counts by its place
abbrev pub digits_value : ℕ → List ℕ → ℕ
digits_value base [] = 0
digits_value base (digit ∷ digits) = digit_value digit * base ^ length digits + digits_value base digits

-- a value with its sign as a cell, from -32768 to 65535
abbrev pub signed_cell : Bool → ℕ → NumberRead
signed_cell false value = elim (nat_le value 65535) [ true ↦ Value value | false ↦ Range ]
signed_cell true value = elim (nat_le value 32768) [
  | true ↦ elim (value == 0) [ true ↦ Value 0 | false ↦ Value (65536 - value) ]
  | false ↦ Range
]

-- one or more digits
abbrev pub digits_read : ℕ → Bool → List ℕ → NumberRead
digits_read base is_negative [] = NotNumber
digits_read base is_negative (b ∷ bs) = elim (list_all (is_digit base) (b ∷ bs)) [
  | true ↦ signed_cell is_negative (digits_value base (b ∷ bs))
  | false ↦ NotNumber
]

-- an optional minus, and digits
abbrev pub signed_read : ℕ → List ℕ → NumberRead
signed_read base [] = NotNumber
signed_read base (b ∷ bs) = elim (b == 45) [ true ↦ digits_read base true bs | false ↦ digits_read base false (b ∷ bs) ]

-- in a base outside 2 to 36 there is none
abbrev pub based_read : ℕ → List ℕ → NumberRead
based_read base text = elim (nat_le 2 base && nat_le base 36) [ true ↦ signed_read base text | false ↦ NotNumber ]

-- the base that `#`, `$` or `%` in front of a number stands for
abbrev pub prefix_base : ℕ → Option ℕ
prefix_base byte = elim (byte == 35) [
  | true ↦ Some 10
  | false ↦ elim (byte == 36) [ true ↦ Some 16 | false ↦ elim (byte == 37) [ true ↦ Some 2 | false ↦ None ] ]
]

-- the byte between two quotes
abbrev pub quoted_byte : List ℕ → Option ℕ
quoted_byte text = elim (length text == 3 && slice_index_or text 0 0 == 39 && slice_index_or text 2 0 == 39 && is_graphic (slice_index_or text 1 0)) [
  | true ↦ Some (slice_index_or text 1 0)
  | false ↦ None
]

-- a quoted byte, or a number in the present base
abbrev pub unprefixed_read : ℕ → List ℕ → NumberRead
unprefixed_read base text = elim (quoted_byte text) [ Some byte ↦ Value byte | None ↦ based_read base text ]

-- the number that a token spells, in the present base where it says no other
abbrev pub number_read : ℕ → List ℕ → NumberRead
number_read base [] = NotNumber
number_read base (b ∷ bs) = elim (prefix_base b) [ Some own ↦ signed_read own bs | None ↦ unprefixed_read base (b ∷ bs) ]
