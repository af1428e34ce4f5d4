-- Hexadecimal numbers.
use Rattle.std.specs.Prelude.{ℕ, ◌+◌, ◌-◌, ◌*◌, nat_le, ◌==◌, ◌&&◌, true, false, List, [], ◌∷◌, Option, Some, None}

infixl 10 ◌>>=◌
abbrev pub ◌>>=◌ : {A B : Type 0} → Option A → (A → Option B) → Option B
None >>= f = None
(Some x) >>= f = f x

-- the value of a digit, letters in either case
abbrev pub digit_of : ℕ → Option ℕ
digit_of b = elim (nat_le 48 b && nat_le b 57) [
  | true ↦ Some (b - 48)
  | false ↦ elim (nat_le 65 b && nat_le b 70) [
    | true ↦ Some (b - 55)
    | false ↦ elim (nat_le 97 b && nat_le b 102) [ true ↦ Some (b - 87) | false ↦ None ]
  ]
]

-- two digits
abbrev pub byte_of : ℕ → ℕ → Option ℕ
byte_of high low = digit_of high >>= λ x. digit_of low >>= λ y. Some (16 * x + y)

-- a field of two digits
abbrev pub hex2 : List ℕ → Option ℕ
hex2 (a ∷ b ∷ []) = byte_of a b
hex2 field = None

-- a field of four digits
abbrev pub hex4 : List ℕ → Option ℕ
hex4 (a ∷ b ∷ c ∷ d ∷ []) = byte_of a b >>= λ x. byte_of c d >>= λ y. Some (256 * x + y)
hex4 field = None

-- a field of `@` and four digits
abbrev pub stated_place : List ℕ → Option ℕ
stated_place [] = None
stated_place (b ∷ digits) = elim (b == 64) [ true ↦ hex4 digits | false ↦ None ]
