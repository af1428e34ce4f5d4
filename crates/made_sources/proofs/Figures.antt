-- Decimal numbers as texts.
use Rattle.std.proofs.Common.{◌≡◌, ℕ, ◌-◌, ◌<◌, ◌≤◌, Bool, true, false, ◌&&◌, nat_le, ◌==◌, List, [], ◌∷◌, length, refl, ap, ◌∙◌, arith, rules, le-leb}
use Rattle.std.specs.Prelude.{decimal, slice_index_or, Option, Some, None}
use Rattle.std.specs.List.{list_all}
use Rattle.std.specs.Char.{to_ascii_lowercase}
use Rattle.std.specs.Str.{str_to_ascii_lowercase}
use Rattle.std.proofs.lemmas.Bool.{and_parts, and_from}
use Rattle.std.proofs.lemmas.Bool.Decides.{nat_tests}
use Rattle.std.proofs.lemmas.Fmt.{digits_decimal, digits_value-decimal, decimal_nonempty, length-decimal-le}
use Rattle.std.proofs.lemmas.Str.Parse.{IsNumeralModel, numerals_by_weight}
use Rattle.forth_reader.specs.Bytes.{is_graphic}
use Rattle.forth_reader.specs.declared.number.NumberRead.TheVariants.{Value}
use Rattle.forth_reader.specs.Number.{digit_value, is_digit, digits_value, signed_cell, digits_read, signed_read, prefix_base, quoted_byte, unprefixed_read, number_read}

-- a digit of base ten
abbrev pub is_figure : ℕ → Bool
is_figure byte = nat_le 48 byte && nat_le byte 57

-- what passes a test passes a wider one
pub all_wider : (p q : ℕ → Bool) → ((x : ℕ) → p x ≡ true → q x ≡ true) → (xs : List ℕ) → list_all p xs ≡ true → list_all q xs ≡ true
all_wider p q wider [] h = refl
all_wider p q wider (x ∷ xs) h = let parts = and_parts (p x) (list_all p xs) h in and_from (q x) (list_all q xs) (wider x parts.0) (all_wider p q wider xs parts.1)

figure_value : (byte : ℕ) → is_figure byte ≡ true → digit_value byte ≡ byte - 48
figure_value byte h = rw (h, digit_value)

own : IsNumeralModel (λ ds. list_all is_figure ds ≡ true) (digits_value 10)
own = numerals_by_weight _ (search rules) (digits_value 10) (search rules)

pub figures : (n : ℕ) → n < 65536 → list_all is_figure (decimal n) ≡ true
figures n h = digits_decimal own n (omega (arith, h))

pub value : (n : ℕ) → n < 65536 → digits_value 10 (decimal n) ≡ n
value n h = digits_value-decimal own n (omega (arith, h))

pub some : (n : ℕ) → n < 65536 → 0 < length (decimal n)
some n h = decimal_nonempty n (omega (arith, h))

pub short : (n : ℕ) → n < 65536 → length (decimal n) ≤ 5
short n h = length-decimal-le 5 n (omega arith) (omega (arith, h)) (omega (arith, h))

figure_is_graphic : (byte : ℕ) → is_figure byte ≡ true → is_graphic byte ≡ true
figure_is_graphic byte h = grind (arith, nat_tests)

pub graphic : (n : ℕ) → n < 65536 → list_all is_graphic (decimal n) ≡ true
graphic n h = all_wider is_figure is_graphic figure_is_graphic (decimal n) (figures n h)

-- ---- letters in lower case

figure_stays : (byte : ℕ) → is_figure byte ≡ true → to_ascii_lowercase byte ≡ byte
figure_stays byte h = grind (arith, nat_tests)

pub lowered : (bytes : List ℕ) → list_all is_figure bytes ≡ true → str_to_ascii_lowercase bytes ≡ bytes
lowered [] h = refl
lowered (byte ∷ bytes) h = let parts = and_parts (is_figure byte) (list_all is_figure bytes) h in let e = figure_stays byte parts.0 in let r = lowered bytes parts.1 in cc

-- ---- the number that is read

is_digit_ten : (byte : ℕ) → is_figure byte ≡ true → is_digit 10 byte ≡ true
is_digit_ten byte h = grind (arith, nat_tests)

no_prefix : (byte : ℕ) → is_figure byte ≡ true → prefix_base byte ≡ None
no_prefix byte h = grind (arith, nat_tests)

no_minus : (byte : ℕ) → is_figure byte ≡ true → (byte == 45) ≡ false
no_minus byte h = grind (arith, nat_tests)

no_quote : (byte : ℕ) → is_figure byte ≡ true → (byte == 39) ≡ false
no_quote byte h = grind (arith, nat_tests)

not_quoted : (byte : ℕ) (bytes : List ℕ) → is_figure byte ≡ true → quoted_byte (byte ∷ bytes) ≡ None
not_quoted byte bytes h =
    rw (no_quote byte h, quoted_byte)
    (either (length (byte ∷ bytes) == 3) (slice_index_or (byte ∷ bytes) 2 0 == 39) (is_graphic (slice_index_or (byte ∷ bytes) 1 0)) (slice_index_or (byte ∷ bytes) 1 0))
  where
    either : (a b c : Bool) (quoted : ℕ) → ◌≡◌ {A = Option ℕ} (elim (a && false && b && c) [ true ↦ Some quoted | false ↦ None ]) None
    either true b c quoted = refl
    either false b c quoted = refl

module _ (byte : ℕ) (bytes : List ℕ) (f : is_figure byte ≡ true) where
  unprefixed : number_read 10 (byte ∷ bytes) ≡ unprefixed_read 10 (byte ∷ bytes)
  unprefixed = rw (no_prefix byte f, number_read) refl

  unquoted : unprefixed_read 10 (byte ∷ bytes) ≡ signed_read 10 (byte ∷ bytes)
  unquoted = rw (not_quoted byte bytes f, unprefixed_read) refl

  unsigned : signed_read 10 (byte ∷ bytes) ≡ digits_read 10 false (byte ∷ bytes)
  unsigned = rw (no_minus byte f, signed_read) refl

  of_digits : list_all (is_digit 10) (byte ∷ bytes) ≡ true → digits_read 10 false (byte ∷ bytes) ≡ signed_cell false (digits_value 10 (byte ∷ bytes))
  of_digits h = rw (h, digits_read) refl

  in_a_cell : (v : ℕ) → v ≤ 65535 → signed_cell false v ≡ Value v
  in_a_cell v small = rw (le-leb v 65535 small, signed_cell) refl

reads : (text : List ℕ) → list_all is_figure text ≡ true → 0 < length text → digits_value 10 text ≤ 65535 → number_read 10 text ≡ Value (digits_value 10 text)
reads [] h any small = absurd (omega arith)
reads (byte ∷ bytes) h any small =
    let f = (and_parts (is_figure byte) (list_all is_figure bytes) h).0 in
    unprefixed byte bytes f ∙ unquoted byte bytes f ∙ unsigned byte bytes f
    ∙ of_digits byte bytes f (all_wider is_figure (is_digit 10) is_digit_ten (byte ∷ bytes) h) ∙ in_a_cell byte bytes f (digits_value 10 (byte ∷ bytes)) small

pub number_is : (n : ℕ) → n < 65536 → number_read 10 (decimal n) ≡ Value n
number_is n h = reads (decimal n) (figures n h) (some n h) (let v = value n h in omega (arith, h)) ∙ ap Value (value n h)
