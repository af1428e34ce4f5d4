-- Divisions by signs and sizes.
use Rattle.std.proofs.Common.{◌≡◌, ◌≢◌, ℕ, zero, suc, ◌+◌, ◌-◌, ◌*◌, ◌/◌, ◌%◌, ◌<◌, Bool, true, false, ℤ, pos, neg_ℤ, refl, sym, ap, ◌∙◌, arith, mod-lt}
use Rattle.std.specs.Prelude.{◌==◌}
use Rattle.std.proofs.lemmas.Nat.{div-add-mod', div-mul-add, mod-mul-add}
use Rattle.cell_math.specs.Divisions.{symmetric_division, floored_division, divided}
use Rattle.cell_math.specs.Signs.{whole, apart}

none_of_none : (q r : ℕ) → q ≡ 0 → r ≡ 0 → (m n : Bool) → divided (pos r) (pos q) ≡ divided (whole m r) (whole n q)
none_of_none zero zero e f false false = refl
none_of_none zero zero e f false true = refl
none_of_none zero zero e f true false = refl
none_of_none zero zero e f true true = refl
none_of_none (suc q) r e f m n = absurd (omega arith)
none_of_none zero (suc r) e f m n = absurd (omega arith)

none_as_none : (q r : ℕ) → q ≡ 0 → r ≡ 0 → (m n m' n' : Bool) → divided (whole m r) (whole n q) ≡ divided (whole m' r) (whole n' q)
none_as_none q r e f m n m' n' = sym (none_of_none q r e f m n) ∙ none_of_none q r e f m' n'

zeros : (q r : ℕ) → q ≡ 0 → r ≡ 0 → (m n : Bool) → divided (pos 0) (pos 0) ≡ divided (whole m r) (whole n q)
zeros q r e f m n = ap (λ x. divided (pos 0) (pos x)) (sym e) ∙ ap (λ x. divided (pos x) (pos q)) (sym f) ∙ none_of_none q r e f m n

pub symmetric_is : (m n : Bool) (a b : ℕ) → 0 < b → symmetric_division (whole m a) (whole n b) ≡ divided (whole m (a % b)) (whole (apart m n) (a / b))
symmetric_is m n a zero h = absurd (omega arith)
symmetric_is false false a (suc b) h = refl
symmetric_is false true a (suc b) h = refl
symmetric_is true false zero (suc b) h = none_of_none (0 / suc b) (0 % suc b) (omega arith) (omega arith) true true
symmetric_is true false (suc a) (suc b) h = refl
symmetric_is true true zero (suc b) h = none_as_none (0 / suc b) (0 % suc b) (omega arith) (omega arith) false true true false
symmetric_is true true (suc a) (suc b) h = refl

-- ---- rounded down, where the signs are apart

-- the next number, where the rest does not come to the divisor
next_quotient : (a b q r : ℕ) → q * suc b + r ≡ a → r < b → suc a / suc b ≡ q
next_quotient a b q r e h =
    let f : suc a ≡ q * suc b + suc r = omega arith in
    ap (λ x. x / suc b) f ∙ div-mul-add q (suc b) (suc r) (omega arith)

next_rest : (a b q r : ℕ) → q * suc b + r ≡ a → r < b → suc a % suc b ≡ suc r
next_rest a b q r e h =
    let f : suc a ≡ q * suc b + suc r = omega arith in
    ap (λ x. x % suc b) f ∙ mod-mul-add q (suc b) (suc r) (omega arith)

-- and where it does
full_quotient : (a b q r : ℕ) → q * suc b + r ≡ a → r ≡ b → suc a / suc b ≡ suc q
full_quotient a b q r e h =
    let f : suc a ≡ suc q * suc b + 0 = omega arith in
    ap (λ x. x / suc b) f ∙ div-mul-add (suc q) (suc b) 0 (omega arith)

full_rest : (a b q r : ℕ) → q * suc b + r ≡ a → r ≡ b → suc a % suc b ≡ 0
full_rest a b q r e h =
    let f : suc a ≡ suc q * suc b + 0 = omega arith in
    ap (λ x. x % suc b) f ∙ mod-mul-add (suc q) (suc b) 0 (omega arith)

-- the rest of a number by that of the next
pub before_exact : (a b : ℕ) → suc a % suc b ≡ 0 → (suc a / suc b ≡ suc (a / suc b)) × (a % suc b ≡ b)
before_exact a b e =
    elim (a % suc b == b) as (λ t. (a % suc b == b) ≡ t → (suc a / suc b ≡ suc (a / suc b)) × (a % suc b ≡ b)) [
      | true ↦ λ t. (full_quotient a b (a / suc b) (a % suc b) (div-add-mod' a (suc b)) (grind arith), grind arith)
      | false ↦ λ t. absurd (let n = next_rest a b (a / suc b) (a % suc b) (div-add-mod' a (suc b)) (grind (arith, mod-lt a {m = suc b})) in omega arith)
    ] refl

pub before_next : (a b : ℕ) → suc a % suc b ≢ 0 → (suc a / suc b ≡ a / suc b) × (suc a % suc b ≡ suc (a % suc b))
before_next a b e =
    elim (a % suc b == b) as (λ t. (a % suc b == b) ≡ t → (suc a / suc b ≡ a / suc b) × (suc a % suc b ≡ suc (a % suc b))) [
      | true ↦ λ t. absurd (e (full_rest a b (a / suc b) (a % suc b) (div-add-mod' a (suc b)) (grind arith)))
      | false ↦ λ t.
          let h : a % suc b < b = grind (arith, mod-lt a {m = suc b}) in
          (next_quotient a b (a / suc b) (a % suc b) (div-add-mod' a (suc b)) h, next_rest a b (a / suc b) (a % suc b) (div-add-mod' a (suc b)) h)
    ] refl

by_parts : (r r' q q' : ℤ) → r ≡ r' → q ≡ q' → divided r q ≡ divided r' q'
by_parts r r' q q' e f = ap (λ x. divided x q) e ∙ ap (λ x. divided r' x) f

under_rest : (b r r' : ℕ) → r ≡ b → r' ≡ 0 → neg_ℤ (pos (b - r)) ≡ neg_ℤ (pos r')
under_rest b r r' e f = ap (λ x. neg_ℤ (pos x)) (omega arith)

up_rest : (b r r' : ℕ) → r ≡ b → r' ≡ 0 → pos (suc b - 1 - r) ≡ pos r'
up_rest b r r' e f = ap pos (omega arith)

rests : (b r r' : ℕ) → r' ≡ suc r → b - r ≡ suc b - r'
rests b r r' e = omega arith

up_rests : (b r r' : ℕ) → r' ≡ suc r → suc b - 1 - r ≡ suc b - r'
up_rests b r r' e = omega arith

steps : (q q' : ℕ) → q' ≡ q → suc q ≡ q' + 1
steps q q' e = omega arith

-- where the rest is none
pub floored_exact : (m n : Bool) (a b : ℕ) → 0 < b → apart m n ≡ true → a % b ≡ 0 → floored_division (whole m a) (whole n b) ≡ divided (whole n (a % b)) (whole true (a / b))
floored_exact m n a zero h e z = absurd (omega arith)
floored_exact false false a (suc b) h e z = cc
floored_exact true true a (suc b) h e z = cc
floored_exact false true zero (suc b) h e z = zeros (0 / suc b) (0 % suc b) (omega arith) (omega arith) true true
floored_exact true false zero (suc b) h e z = none_of_none (0 / suc b) (0 % suc b) (omega arith) (omega arith) false true
floored_exact false true (suc a) (suc b) h e z =
    let t = before_exact a b z in
    by_parts _ _ _ _ (under_rest b (a % suc b) (suc a % suc b) t.1 z) (ap (λ q. neg_ℤ (pos q)) (sym t.0))
floored_exact true false (suc a) (suc b) h e z =
    let t = before_exact a b z in
    by_parts _ _ _ _ (up_rest b (a % suc b) (suc a % suc b) t.1 z) (ap (λ q. neg_ℤ (pos q)) (sym t.0))

-- and where there is one
pub floored_down : (m n : Bool) (a b : ℕ) → 0 < b → apart m n ≡ true → a % b ≢ 0 → floored_division (whole m a) (whole n b) ≡ divided (whole n (b - a % b)) (whole true (a / b + 1))
floored_down m n a zero h e z = absurd (omega arith)
floored_down false false a (suc b) h e z = cc
floored_down true true a (suc b) h e z = cc
floored_down false true zero (suc b) h e z = absurd (z (omega arith))
floored_down true false zero (suc b) h e z = absurd (z (omega arith))
floored_down false true (suc a) (suc b) h e z =
    let t = before_next a b z in
    by_parts _ _ _ _ (ap (λ r. neg_ℤ (pos r)) (rests b (a % suc b) (suc a % suc b) t.1)) (ap (λ q. neg_ℤ (pos q)) (steps (a / suc b) (suc a / suc b) t.0))
floored_down true false (suc a) (suc b) h e z =
    let t = before_next a b z in
    by_parts _ _ _ _ (ap pos (up_rests b (a % suc b) (suc a % suc b) t.1)) (ap (λ q. neg_ℤ (pos q)) (steps (a / suc b) (suc a / suc b) t.0))

pub floored_same : (m n : Bool) (a b : ℕ) → 0 < b → apart m n ≡ false → floored_division (whole m a) (whole n b) ≡ divided (whole n (a % b)) (whole false (a / b))
floored_same m n a zero h e = absurd (omega arith)
floored_same false false a (suc b) h e = refl
floored_same false true a (suc b) h e = cc
floored_same true false a (suc b) h e = cc
floored_same true true zero (suc b) h e = zeros (0 / suc b) (0 % suc b) (omega arith) (omega arith) true false
floored_same true true (suc a) (suc b) h e = refl

-- ---- as the code has them

pub toward_zero : (x y : ℤ) (m n : Bool) (a b : ℕ) → x ≡ whole m a → y ≡ whole n b → 0 < b → symmetric_division x y ≡ divided (whole m (a % b)) (whole (apart m n) (a / b))
toward_zero x y m n a b e f h = ap (λ z. symmetric_division z y) e ∙ ap (λ z. symmetric_division (whole m a) z) f ∙ symmetric_is m n a b h

pub down : (x y : ℤ) (m n : Bool) (a b : ℕ) → x ≡ whole m a → y ≡ whole n b → 0 < b → apart m n ≡ true → a % b ≢ 0 → floored_division x y ≡ divided (whole n (b - a % b)) (whole true (a / b + 1))
down x y m n a b e f h p z = ap (λ z. floored_division z y) e ∙ ap (λ z. floored_division (whole m a) z) f ∙ floored_down m n a b h p z

-- the same, where nothing is to be rounded
pub not_down : (x y : ℤ) (m n : Bool) (a b : ℕ) → x ≡ whole m a → y ≡ whole n b → 0 < b → (apart m n ≡ true → a % b ≡ 0) → floored_division x y ≡ divided (whole n (a % b)) (whole (apart m n) (a / b))
not_down x y m n a b e f h p = ap (λ z. floored_division z y) e ∙ ap (λ z. floored_division (whole m a) z) f ∙
    (elim (apart m n) as (λ t. apart m n ≡ t → floored_division (whole m a) (whole n b) ≡ divided (whole n (a % b)) (whole t (a / b))) [
      | true ↦ λ t. floored_exact m n a b h t (p t)
      | false ↦ λ t. floored_same m n a b h t
    ] refl)
