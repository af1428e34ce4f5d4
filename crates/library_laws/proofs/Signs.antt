-- Divisions of signed numbers by those of their sizes.
use Rattle.std.proofs.Common.{◌≡◌, ℕ, zero, suc, ◌+◌, ◌-◌, ◌*◌, ◌/◌, ◌%◌, ◌^◌, ◌≤◌, ◌<◌, Bool, true, false, ◌==◌, refl, ap, sym, ◌∙◌, arith, leb-true, leb-false, ltb-false, lt-ltb, le-ltb, ne_eqb}
use Rattle.std.specs.Prelude.{nat_lt, nat_le, not, Some, None, ℤ, pos, negsuc, neg_ℤ, int_lt, unsigned_abs, if◌then◌else◌, bit_xor}
use Rattle.std.proofs.Math.Nat.{mod-lt}
use Rattle.std.proofs.lemmas.Nat.{xor_block, xor_lt}
use Rattle.cell_math.specs.Cell.{flag, signed, negated, difference_of, cell_of, double, signed_double}
use Rattle.cell_math.specs.Divisions.{Division, unsigned_division, symmetric_division, divided, in_signed_range}
use Rattle.library_laws.proofs.Cells.{by_cases, by_sign, sign_small, sign_large, signed_small, signed_large}

abbrev pub negative : ℤ → Bool
negative (pos n) = false
negative (negsuc n) = true

abbrev pub differ : Bool → Bool → Bool
differ false b = b
differ true b = not b

pub flag_is_sign : (x : ℕ) → flag (int_lt (signed x) (pos 0)) ≡ flag (negative (signed x))
flag_is_sign x = by_sign x (λ h. sign_small x h ∙ sym (ap (λ z. flag (negative z)) (signed_small x h))) (λ h. sign_large x h ∙ sym (ap (λ z. flag (negative z)) (signed_large x h)))

-- ---- the sign of a bitwise exclusive or

xor_high : (a b : ℕ) → bit_xor a b / 32768 ≡ bit_xor (a / 32768) (b / 32768)
xor_high a b =
    let ea : a ≡ a / 32768 * 2 ^ 15 + a % 32768 = omega arith in
    let eb : b ≡ b / 32768 * 2 ^ 15 + b % 32768 = omega arith in
    let la : a % 32768 < 2 ^ 15 = omega arith in
    let lb : b % 32768 < 2 ^ 15 = omega arith in
    let e : bit_xor a b ≡ bit_xor (a / 32768) (b / 32768) * 2 ^ 15 + bit_xor (a % 32768) (b % 32768) =
    ap (λ x. bit_xor x b) ea ∙ ap (λ y. bit_xor (a / 32768 * 2 ^ 15 + a % 32768) y) eb ∙ xor_block 15 (a / 32768) (b / 32768) (a % 32768) (b % 32768) la lb in
    omega (arith, e, xor_lt 15 (a % 32768) (b % 32768) la lb)

halves : (a b i j : ℕ) → a / 32768 ≡ i → b / 32768 ≡ j → bit_xor a b / 32768 ≡ bit_xor i j
halves a b i j e f = xor_high a b ∙ ap (λ x. bit_xor x (b / 32768)) e ∙ ap (bit_xor i) f

by_top : (a b i j : ℕ) → a / 32768 ≡ i → b / 32768 ≡ j → bit_xor i j < 1 → flag (int_lt (signed (bit_xor a b)) (pos 0)) ≡ 0
by_top a b i j e f h = sign_small (bit_xor a b) (let g = halves a b i j e f in omega (arith, g, h))

by_top_1 : (a b i j : ℕ) → a / 32768 ≡ i → b / 32768 ≡ j → bit_xor i j ≡ 1 → flag (int_lt (signed (bit_xor a b)) (pos 0)) ≡ 65535
by_top_1 a b i j e f h = sign_large (bit_xor a b) (let g = halves a b i j e f in omega (arith, g, h))

pub xor_is_sign : (a b : ℕ) → a < 65536 → b < 65536 → flag (int_lt (signed (bit_xor a b)) (pos 0)) ≡ flag (differ (negative (signed b)) (negative (signed a)))
xor_is_sign a b fa fb = by_sign a
    (λ h. by_sign b
    (λ k. rw (signed_small a h, signed_small b k) (by_top a b 0 0 (omega (arith, h)) (omega (arith, k)) (omega arith)))
    (λ k. rw (signed_small a h, signed_large b k) (by_top_1 a b 0 1 (omega (arith, h)) (omega (arith, k, fb)) refl)))
    (λ h. by_sign b
    (λ k. rw (signed_large a h, signed_small b k) (by_top_1 a b 1 0 (omega (arith, h, fa)) (omega (arith, k)) refl))
    (λ k. rw (signed_large a h, signed_large b k) (by_top a b 1 1 (omega (arith, h, fa)) (omega (arith, k, fb)) (omega arith))))

-- ---- the size of a negative double

pub signed_double_small : (l h : ℕ) → h < 32768 → signed_double l h ≡ pos (double l h)
signed_double_small l h k = rw (lt-ltb h 32768 k) refl

pub signed_double_large : (l h : ℕ) → 32768 ≤ h → signed_double l h ≡ negsuc (4294967295 - double l h)
signed_double_large l h k = rw (le-ltb h 32768 k) refl

pub negated_double : (l h : ℕ) → l < 65536 → 32768 ≤ h → h < 65536 → double (negated l) (difference_of (65535 - h) (flag (l == 0))) ≡ suc (4294967295 - double l h)
negated_double zero h fl k fh = omega (arith, k, fh)
negated_double (suc l) h fl k fh = rw (ne_eqb (suc l) 0 (λ e. absurd (omega (arith, e)))) (number l h fl k fh)
  where
    number : (l h : ℕ) → suc l < 65536 → 32768 ≤ h → h < 65536 → (65536 - suc l) % 65536 + 65536 * ((65535 - h + (65536 - 0)) % 65536) ≡ suc (4294967295 - (suc l + 65536 * h))
    number l h fl k fh = omega (arith, k, fh, fl)

-- ---- quotients and remainders of sizes, with signs

-- whether a quotient of this size and sign is a signed cell
abbrev pub fits_sign : Bool → ℕ → Bool
fits_sign false q = not (nat_lt 32767 q)
fits_sign true q = not (nat_lt 32768 q)

abbrev pub with_sign : Bool → ℕ → ℕ
with_sign false x = x
with_sign true x = negated x

-- the remainder has the sign of the dividend
abbrev pub with_signs : Bool → Bool → Division → Division
with_signs rest_sign quotient_sign None = None
with_signs rest_sign quotient_sign (Some parts) = if fits_sign quotient_sign parts.1 then Some (with_sign rest_sign parts.0, with_sign quotient_sign parts.1) else None

abbrev pub sized : Bool → ℕ → ℤ
sized false n = pos n
sized true n = neg_ℤ (pos n)

pub cell_of_sized : (s : Bool) (x : ℕ) → x < 65536 → cell_of (sized s x) ≡ with_sign s x
cell_of_sized false x h = omega (arith, h)
cell_of_sized true zero h = refl
cell_of_sized true (suc x) h = omega (arith, h)

pub in_range_is : (s : Bool) (q : ℕ) → in_signed_range (sized s q) ≡ fits_sign s q
in_range_is false q = by_cases (nat_le q 32767)
    (λ t. t ∙ sym (ap not (le-ltb 32767 q (leb-true q 32767 t))))
    (λ t. t ∙ sym (ap not (lt-ltb 32767 q (leb-false q 32767 t))))
in_range_is true zero = refl
in_range_is true (suc q) = by_cases (nat_le q 32767)
    (λ t. rw t (sym (ap not (le-ltb 32768 (suc q) (let h : q ≤ 32767 = leb-true q 32767 t in omega (arith, h))))))
    (λ t. rw t (sym (ap not (lt-ltb 32768 (suc q) (let h : 32767 < q = leb-false q 32767 t in omega (arith, h))))))

-- a quotient that is no cell is out of range
large_fails : (s : Bool) (q : ℕ) → 65536 ≤ q → fits_sign s q ≡ false
large_fails false q h = ap not (lt-ltb 32767 q (omega (arith, h)))
large_fails true q h = ap not (lt-ltb 32768 q (omega (arith, h)))

divided_is : (rest_sign quotient_sign : Bool) (r q : ℕ) → r < 65536 → divided (sized rest_sign r) (sized quotient_sign q) ≡ with_signs rest_sign quotient_sign (if nat_lt q 65536 then Some (r, q) else None)
divided_is rs qs r q h = by_cases (nat_lt q 65536)
    (λ t. rw (t, in_range_is qs q, cell_of_sized rs r h, cell_of_sized qs q (leb-true (suc q) 65536 t)) refl)
    (λ t. rw (t, in_range_is qs q, large_fails qs q (ltb-false q 65536 t)) refl)

below : (a b : ℕ) → suc b < 65536 → a % suc b < 65536
below a b h = let k : a % suc b < suc b = mod-lt a (omega arith) in omega (arith, h, k)

pub by_sizes : (a b : ℤ) → unsigned_abs b < 65536 → symmetric_division a b ≡ with_signs (negative a) (differ (negative a) (negative b)) (unsigned_division (unsigned_abs a) (unsigned_abs b))
by_sizes (pos a) (pos zero) h = refl
by_sizes (negsuc a) (pos zero) h = refl
by_sizes (pos a) (pos (suc b)) h = divided_is false false (a % suc b) (a / suc b) (below a b h)
by_sizes (negsuc a) (pos (suc b)) h = divided_is true true (suc a % suc b) (suc a / suc b) (below (suc a) b h)
by_sizes (pos a) (negsuc b) h = divided_is false true (a % suc b) (a / suc b) (below a b h)
by_sizes (negsuc a) (negsuc b) h = divided_is true false (suc a % suc b) (suc a / suc b) (below (suc a) b h)

pub abs_fits : (x : ℕ) → x < 65536 → unsigned_abs (signed x) < 65536
abs_fits x h = by_sign x (λ k. rw (signed_small x k) h) (λ k. rw (signed_large x k) (omega (arith, k)))

-- a positive dividend
pub symmetric_small : (l h n : ℕ) → h < 32768 → n < 65536 →
    symmetric_division (signed_double l h) (signed n) ≡ with_signs (negative (signed h)) (differ (negative (signed h)) (negative (signed n))) (unsigned_division (double l h) (unsigned_abs (signed n)))
symmetric_small l h n k fn = rw (signed_double_small l h k, signed_small h k) (by_sizes (pos (double l h)) (signed n) (abs_fits n fn))

-- a negative one, by its size
pub symmetric_large : (l h n : ℕ) → l < 65536 → 32768 ≤ h → h < 65536 → n < 65536 →
    symmetric_division (signed_double l h) (signed n)
    ≡ with_signs (negative (signed h)) (differ (negative (signed h)) (negative (signed n)))
    (unsigned_division (double (negated l) (difference_of (65535 - h) (flag (l == 0)))) (unsigned_abs (signed n)))
symmetric_large l h n fl k fh fn = rw (signed_double_large l h k, signed_large h k, negated_double l h fl k fh) (by_sizes (negsuc (4294967295 - double l h)) (signed n) (abs_fits n fn))
