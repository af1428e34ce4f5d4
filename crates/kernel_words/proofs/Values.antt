-- The number that a text in data space stands for, digit by digit, and that the reader of sources reads the same.
use Rattle.std.proofs.Common.{
  ◌≡◌,
  ℕ,
  zero,
  suc,
  ◌+◌,
  ◌-◌,
  ◌*◌,
  ◌^◌,
  ◌≤◌,
  Bool,
  true,
  false,
  ◌&&◌,
  ◌==◌,
  Option,
  Some,
  None,
  List,
  ◌∷◌,
  length,
  refl,
  ap,
  sym,
  ◌∙◌,
  subst,
  arith,
  le-leb,
  leb-true,
  leb-false,
  lt-ltb,
  le-ltb,
  eqb-true,
}
use Rattle.std.specs.Prelude.{if◌then◌else◌, nat_lt, nat_le}
use Rattle.std.specs.List.{list_all}
use Rattle.std.proofs.Math.Nat.{pow-zero, pow-succ'}
use Rattle.cell_math.specs.Cell.{negated}
use Rattle.forth_program.specs.State.{World}
use Rattle.forth_reader.specs.declared.number.NumberRead.TheVariants.{Value, Range, NotNumber}
use Rattle.forth_reader.specs.Number.{digit_value, is_digit, digits_value, signed_cell, digits_read, signed_read, based_read}
use Rattle.kernel_words.specs.Memory.{data_byte, data_bytes}
use Rattle.kernel_words.specs.Laws.{number_answer}
use Rattle.kernel_words.proofs.Cases.{by_cases}

-- a digit of the base
abbrev pub digit_read : ℕ → ℕ → Option ℕ
digit_read radix byte = if nat_lt (digit_value byte) radix then Some (digit_value byte) else None

-- the value of n bytes from a on as digits that follow those of a value, or none
abbrev pub value_on : World → ℕ → ℕ → ℕ → ℕ → Option ℕ
value_on w radix zero a value = Some value
value_on w radix (suc n) a value = elim (digit_read radix (data_byte w a)) [ None ↦ None | Some d ↦ value_on w radix n (suc a) (value * radix + d) ]

-- that of at least one digit
abbrev pub natural_at : World → ℕ → ℕ → ℕ → Option ℕ
natural_at w radix zero a = None
natural_at w radix (suc n) a = value_on w radix (suc n) a 0

-- the cell of a natural number without a minus sign, or with one, where there is one
abbrev pub number_of : Bool → Option ℕ → Option ℕ
number_of minus None = None
number_of false (Some m) = if nat_lt m 65536 then Some m else None
number_of true (Some m) = if nat_lt m 32769 then Some (negated m) else None

-- the number that n bytes from a on stand for
abbrev pub number_at : World → ℕ → ℕ → ℕ → Option ℕ
number_at w radix zero a = None
number_at w radix (suc n) a = if data_byte w a == 45 then number_of true (natural_at w radix n (suc a)) else number_of false (natural_at w radix (suc n) a)

abbrev pub answer_of : Option ℕ → ℕ → List ℕ → List ℕ
answer_of None a c = 0 ∷ a ∷ c
answer_of (Some n) a c = 65535 ∷ n ∷ c

abbrev where_all : Bool → ℕ → Option ℕ
where_all true x = Some x
where_all false x = None

module _ (w : World) (r : ℕ) where
  length_is : (n a : ℕ) → length (data_bytes w n a) ≡ n
  length_is zero a = refl
  length_is (suc n) a = ap suc (length_is n (suc a))

  value_is : (n a v : ℕ) → value_on w r n a v ≡ where_all (list_all (is_digit r) (data_bytes w n a)) (v * r ^ n + digits_value r (data_bytes w n a))
  value_is zero a v = ap Some (all v (r ^ 0) (pow-zero r))
    where
      all : (v k : ℕ) → k ≡ 1 → v ≡ v * k + 0
      all v k e = subst (λ k. v ≡ v * k + 0) (sym e) (omega arith)
  value_is (suc n) a v = by (nat_lt digit r) (value_is n (suc a) (v * r + digit))
    where
      digit : ℕ
      digit = digit_value (data_byte w a)

      others : List ℕ
      others = data_bytes w n (suc a)

      sums : (v d k q rest : ℕ) → q ≡ r * k → (v * r + d) * k + rest ≡ v * q + (d * k + rest)
      sums v d k q rest e = subst (λ q. (v * r + d) * k + rest ≡ v * q + (d * k + rest)) (sym e) (product v d k rest)
        where
          product : (v d k rest : ℕ) → (v * r + d) * k + rest ≡ v * (r * k) + (d * k + rest)
          product v d k rest = grind arith

      by : (t : Bool) → value_on w r n (suc a) (v * r + digit) ≡ where_all (list_all (is_digit r) others) ((v * r + digit) * r ^ n + digits_value r others) →
          (elim (if t then Some digit else None) as (λ _. Option ℕ) [ None ↦ None | Some d ↦ value_on w r n (suc a) (v * r + d) ])
          ≡ where_all (t && list_all (is_digit r) others) (v * r ^ suc n + (digit * r ^ length others + digits_value r others))
      by true e = e ∙ ap (where_all (list_all (is_digit r) others))
          (sums v digit (r ^ n) (r ^ suc n) (digits_value r others) (pow-succ' r n) ∙ ap (λ l. v * r ^ suc n + (digit * r ^ l + digits_value r others)) (sym (length_is n (suc a))))
      by false e = refl

  at_most : (m b : ℕ) → nat_lt m (suc b) ≡ nat_le m b
  at_most m b = by_cases (nat_le m b) (λ e. let f = leb-true m b e in lt-ltb m (suc b) (omega (arith, f)) ∙ sym e) (λ e. let f = leb-false m b e in le-ltb m (suc b) (omega (arith, f)) ∙ sym e)

  cell_is : (s : Bool) (m a' : ℕ) (c : List ℕ) → answer_of (number_of s (Some m)) a' c ≡ number_answer (signed_cell s m) a' c
  cell_is false m a' c = ap (λ t. answer_of (if t then Some m else None) a' c) (at_most m 65535) ∙ by (nat_le m 65535)
    where
      by : (t : Bool) → answer_of (if t then Some m else None) a' c ≡ number_answer (elim t [ true ↦ Value m | false ↦ Range ]) a' c
      by true = refl
      by false = refl
  cell_is true m a' c = ap (λ t. answer_of (if t then Some (negated m) else None) a' c) (at_most m 32768) ∙ by (nat_le m 32768) (m == 0) refl
    where
      negative : (m : ℕ) → (m == 0) ≡ false → negated m ≡ 65536 - m
      negative zero f = let no : ⊥ = cc in absurd no
      negative (suc m) f = omega arith

      by : (t z : Bool) → (m == 0) ≡ z → answer_of (if t then Some (negated m) else None) a' c ≡ number_answer (elim t [ true ↦ elim z [ true ↦ Value 0 | false ↦ Value (65536 - m) ] | false ↦ Range ]) a' c
      by true true e = let none : m ≡ 0 = eqb-true m 0 e in ap (λ n. 65535 ∷ n ∷ c) (omega (arith, none))
      by true false e = ap (λ n. 65535 ∷ n ∷ c) (negative m e)
      by false z e = refl

  digits_are_read : (s : Bool) (n a a' : ℕ) (c : List ℕ) → answer_of (number_of s (natural_at w r n a)) a' c ≡ number_answer (digits_read r s (data_bytes w n a)) a' c
  digits_are_read s zero a a' c = refl
  digits_are_read s (suc n) a a' c = ap (λ o. answer_of (number_of s o) a' c) (value_is (suc n) a 0 ∙ ap (where_all (list_all (is_digit r) (data_bytes w (suc n) a))) (none (r ^ suc n) (digits_value r (data_bytes w (suc n) a))))
      ∙ by (list_all (is_digit r) (data_bytes w (suc n) a)) (digits_value r (data_bytes w (suc n) a))
    where
      none : (k v : ℕ) → 0 * k + v ≡ v
      none k v = omega arith

      by : (t : Bool) (v : ℕ) → answer_of (number_of s (where_all t v)) a' c ≡ number_answer (elim t [ true ↦ signed_cell s v | false ↦ NotNumber ]) a' c
      by true v = cell_is s v a' c
      by false v = refl

  signed_is_read : (n a a' : ℕ) (c : List ℕ) → answer_of (number_at w r n a) a' c ≡ number_answer (signed_read r (data_bytes w n a)) a' c
  signed_is_read zero a a' c = refl
  signed_is_read (suc n) a a' c = by (data_byte w a == 45)
    where
      by : (t : Bool) → answer_of (if t then number_of true (natural_at w r n (suc a)) else number_of false (natural_at w r (suc n) a)) a' c
          ≡ number_answer (elim t [ true ↦ digits_read r true (data_bytes w n (suc a)) | false ↦ digits_read r false (data_bytes w (suc n) a) ]) a' c
      by true = digits_are_read true n (suc a) a' c
      by false = digits_are_read false (suc n) a a' c

  pub number_is_read : (n a a' : ℕ) (c : List ℕ) → 2 ≤ r → r ≤ 36 → answer_of (number_at w r n a) a' c ≡ number_answer (based_read r (data_bytes w n a)) a' c
  number_is_read n a a' c low high = signed_is_read n a a' c ∙ ap (λ x. number_answer x a' c) (sym (based r (data_bytes w n a) low high))
    where
      based : (r : ℕ) (text : List ℕ) → 2 ≤ r → r ≤ 36 → based_read r text ≡ signed_read r text
      based r text low high = rw (le-leb 2 r low, le-leb r 36 high, based_read) refl
