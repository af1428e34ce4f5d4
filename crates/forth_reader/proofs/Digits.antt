-- Digits read from the left, with the value so far held at 65536.
use Rattle.std.proofs.Common.{◌≡◌, ℕ, suc, ◌+◌, ◌*◌, ◌^◌, ◌<◌, ◌≤◌, Bool, true, false, min, ◌&&◌, List, [], ◌∷◌, length, refl, ap, sym, ◌∙◌, arith, subst, inl, inr}
use Rattle.std.specs.List.{list_all}
use Rattle.std.proofs.lemmas.Bool.Decides.{nat_tests}
use Rattle.std.proofs.lemmas.Bool.{cases_lt, lt-ltb}
use Rattle.std.proofs.Math.Nat.{min-eq_left, le-min, pow-suc, pow-zero}
use Rattle.forth_reader.specs.declared.number.NumberRead.{NumberRead}
use Rattle.forth_reader.specs.declared.number.NumberRead.TheVariants.{Range, NotNumber}
use Rattle.forth_reader.specs.Number.{digit_value, is_digit, digits_value, signed_cell, digits_read}

-- the value n with these digits behind it, as a cell
abbrev pub read_behind : ℕ → Bool → ℕ → List ℕ → NumberRead
read_behind base is_negative n [] = signed_cell is_negative n
read_behind base is_negative n (b ∷ bs) = elim (is_digit base b) [ true ↦ read_behind base is_negative (n * base + digit_value b) bs | false ↦ NotNumber ]

abbrev cell_if : Bool → Bool → ℕ → NumberRead
cell_if are_digits is_negative value = elim are_digits [ true ↦ signed_cell is_negative value | false ↦ NotNumber ]

no_place : (n base : ℕ) → n ≡ n * base ^ 0 + 0
no_place n base = rw (pow-zero base) (omega arith)

next_place : (n base d power value : ℕ) → (n * base + d) * power + value ≡ n * (power * base) + (d * power + value)
next_place n base d power value = grind arith

places : (n base d len value : ℕ) → (n * base + d) * base ^ len + value ≡ n * base ^ (suc len) + (d * base ^ len + value)
places n base d len value = next_place n base d (base ^ len) value ∙ ap (λ p. n * p + (d * base ^ len + value)) (sym (pow-suc base len))

-- what is read from the left is the value by places
all_digits : (base : ℕ) (is_negative : Bool) (n : ℕ) (bs : List ℕ) → read_behind base is_negative n bs ≡ cell_if (list_all (is_digit base) bs) is_negative (n * base ^ length bs + digits_value base bs)
all_digits base s n [] = ap (signed_cell s) (no_place n base)
all_digits base s n (b ∷ bs) =
    let more : read_behind base s (n * base + digit_value b) bs
    ≡ cell_if (list_all (is_digit base) bs) s (n * base ^ length (b ∷ bs) + digits_value base (b ∷ bs)) =
    all_digits base s (n * base + digit_value b) bs
    ∙ ap (cell_if (list_all (is_digit base) bs) s) (places n base (digit_value b) (length bs) (digits_value base bs)) in
    elim (is_digit base b) as
    (λ t.
    elim t [ true ↦ read_behind base s (n * base + digit_value b) bs | false ↦ NotNumber ]
    ≡ cell_if (t && list_all (is_digit base) bs) s (n * base ^ length (b ∷ bs) + digits_value base (b ∷ bs))) [ true ↦ more | false ↦ refl ]

pub from_left : (base : ℕ) (is_negative : Bool) (text : List ℕ) → 0 < length text → read_behind base is_negative 0 text ≡ digits_read base is_negative text
from_left base s [] h = absurd (omega arith)
from_left base s (b ∷ bs) h = all_digits base s 0 (b ∷ bs) ∙ ap (cell_if (list_all (is_digit base) (b ∷ bs)) s) (grind arith)

past : (is_negative : Bool) (n : ℕ) → 65536 ≤ n → signed_cell is_negative n ≡ Range
past false n h = grind (arith, nat_tests)
past true n h = grind (arith, nat_tests)

grows : (base n d : ℕ) → 1 ≤ base → 65536 ≤ n → 65536 ≤ n * base + d
grows base n d b h = grind (arith)

-- values past the range of a cell are alike
alike : (is_negative : Bool) (base n m : ℕ) (bs : List ℕ) → 1 ≤ base → 65536 ≤ n → 65536 ≤ m → read_behind base is_negative n bs ≡ read_behind base is_negative m bs
alike s base n m [] b hn hm = past s n hn ∙ sym (past s m hm)
alike s base n m (x ∷ bs) b hn hm =
    let e : read_behind base s (n * base + digit_value x) bs ≡ read_behind base s (m * base + digit_value x) bs =
    alike s base (n * base + digit_value x) (m * base + digit_value x) bs b (grows base n (digit_value x) b hn) (grows base m (digit_value x) b hm) in
    elim (is_digit base x) as (λ t. elim t [ true ↦ read_behind base s (n * base + digit_value x) bs | false ↦ NotNumber ] ≡ elim t [ true ↦ read_behind base s (m * base + digit_value x) bs | false ↦ NotNumber ]) [ true ↦ e | false ↦ refl ]

held : (is_negative : Bool) (base n : ℕ) (bs : List ℕ) → 1 ≤ base → read_behind base is_negative (min n 65536) bs ≡ read_behind base is_negative n bs
held s base n bs b = elim (cases_lt n 65536) [
  | inl below ↦ ap (λ m. read_behind base s m bs) (min-eq_left (omega arith))
  | inr above ↦ alike s base (min n 65536) n bs b (le-min above (omega arith)) above
]

-- one more digit
pub next_digit : (is_negative : Bool) (base value digit m byte : ℕ) (tail rest : List ℕ) → rest ≡ byte ∷ tail → digit ≡ digit_value byte → digit < base →
    m ≡ min (value * base + digit) 65536 → read_behind base is_negative m tail ≡ read_behind base is_negative value rest
next_digit s base value digit m byte tail rest e f below g =
    let t : is_digit base byte ≡ true = lt-ltb (digit_value byte) base (subst (λ d. d < base) f below) in
    let h : read_behind base s (value * base + digit_value byte) tail ≡ read_behind base s value (byte ∷ tail) = sym (ap (λ v. elim v [ true ↦ read_behind base s (value * base + digit_value byte) tail | false ↦ NotNumber ]) t) in
    ap (λ k. read_behind base s k tail) g ∙ held s base (value * base + digit) tail (omega arith) ∙ ap (λ d. read_behind base s (value * base + d) tail) f ∙ h ∙ ap (λ l. read_behind base s value l) (sym e)
