-- Signs, flags, bits and bytes of cells.
use Rattle.std.proofs.Common.{◌≡◌, ℕ, zero, suc, ◌+◌, ◌-◌, ◌*◌, ◌/◌, ◌%◌, ◌≤◌, ◌<◌, Bool, true, false, ◌==◌, refl, ap, sym, ◌∙◌, subst, arith, leb-true, ltb-false, le-ltb, lt-ltb}
use Rattle.std.specs.Prelude.{nat_lt, bit_and, int_lt, pos, negsuc, if◌then◌else◌, unsigned_abs}
use Rattle.std.proofs.lemmas.Nat.{and_mask}
use Rattle.std.proofs.lemmas.Nat.Bits.{and_high_mask}
use Rattle.cell_math.specs.Cell.{flag, sum_of, signed, negated, cell_of}
use Rattle.cell_math.specs.Quotients.{floored}
use Rattle.forth_program.specs.Meaning.{lesser}
use Rattle.forth_program.specs.Access.{byte_of, with_byte}

pub by_cases : {C : Type 0} (b : Bool) → (b ≡ true → C) → (b ≡ false → C) → C
by_cases true f g = f refl
by_cases false f g = g refl

-- a cell is positive or negative
pub by_sign : {C : Type 0} (x : ℕ) → (x < 32768 → C) → (32768 ≤ x → C) → C
by_sign x f g = by_cases (nat_lt x 32768) (λ e. f (leb-true (suc x) 32768 e)) (λ e. g (ltb-false x 32768 e))

pub if_true : {A : Type 0} (b : Bool) (x y : A) → b ≡ true → (if b then x else y) ≡ x
if_true true x y e = refl
if_true false x y e = let no : ⊥ = cc in absurd no

pub if_false : {A : Type 0} (b : Bool) (x y : A) → b ≡ false → (if b then x else y) ≡ y
if_false true x y e = let no : ⊥ = cc in absurd no
if_false false x y e = refl

pub signed_small : (x : ℕ) → x < 32768 → signed x ≡ pos x
signed_small x h = if_true (nat_lt x 32768) (pos x) (negsuc (65535 - x)) (lt-ltb x 32768 h)

pub signed_large : (x : ℕ) → 32768 ≤ x → signed x ≡ negsuc (65535 - x)
signed_large x h = if_false (nat_lt x 32768) (pos x) (negsuc (65535 - x)) (le-ltb x 32768 h)

pub sign_small : (x : ℕ) → x < 32768 → flag (int_lt (signed x) (pos 0)) ≡ 0
sign_small x h = ap (λ n. flag (int_lt n (pos 0))) (signed_small x h) ∙ ap flag (le-ltb x 0 (omega arith))

pub sign_large : (x : ℕ) → 32768 ≤ x → flag (int_lt (signed x) (pos 0)) ≡ 65535
sign_large x h = ap (λ n. flag (int_lt n (pos 0))) (signed_large x h)

pub abs_small : (x : ℕ) → x < 32768 → x ≡ unsigned_abs (signed x)
abs_small x h = sym (ap unsigned_abs (signed_small x h))

pub abs_large : (x : ℕ) → 32768 ≤ x → x < 65536 → negated x ≡ unsigned_abs (signed x)
abs_large x h k = number x h k ∙ sym (ap unsigned_abs (signed_large x h))
  where
    number : (x : ℕ) → 32768 ≤ x → x < 65536 → (65536 - x) % 65536 ≡ suc (65535 - x)
    number x h k = omega (arith, h, k)

-- masks
pub low_bit : (x : ℕ) → bit_and x 1 ≡ x % 2
low_bit x = and_mask x 1

pub low_byte : (x : ℕ) → bit_and x 255 ≡ x % 256
low_byte x = and_mask x 8

pub high_byte : (x : ℕ) → x < 65536 → bit_and x 65280 ≡ x / 256 * 256
high_byte x h = and_high_mask 16 8 (omega arith) x h

pub high_bit : (x : ℕ) → x < 65536 → bit_and x 32768 ≡ x / 32768 * 32768
high_bit x h = and_high_mask 16 15 (omega arith) x h

-- the byte at an even and at an odd address
pub byte_even : (a x : ℕ) → a % 2 ≡ 0 → x % 256 ≡ byte_of a x
byte_even a x e = rw e refl

pub byte_odd : (a x : ℕ) → a % 2 ≡ 1 → x / 256 ≡ byte_of a x
byte_odd a x e = rw e refl

pub with_even : (a v x : ℕ) → a % 2 ≡ 0 → v < 65536 → sum_of (bit_and v 65280) (bit_and x 255) ≡ with_byte a v x
with_even a v x e h = rw (e, high_byte v h, low_byte x) (number v x h)
  where
    number : (v x : ℕ) → v < 65536 → (v / 256 * 256 + x % 256) % 65536 ≡ v - v % 256 + x % 256
    number v x h = omega (arith, h)

pub with_odd : (a v x : ℕ) → a % 2 ≡ 1 → v < 65536 → sum_of (bit_and v 255) (x * 256 % 65536) ≡ with_byte a v x
with_odd a v x e h = rw (e, low_byte v) (number v x)
  where
    number : (v x : ℕ) → (v % 256 + x * 256 % 65536) % 65536 ≡ v % 256 + 256 * (x % 256)
    number v x = omega arith

pub with_byte_fits : (a v x : ℕ) → v < 65536 → with_byte a v x < 65536
with_byte_fits a v x h = by_cases (a % 2 == 0)
    (λ e. subst (λ b. (if b then v - v % 256 + x % 256 else v % 256 + 256 * (x % 256)) < 65536) (sym e) (omega (arith, h)))
    (λ e. subst (λ b. (if b then v - v % 256 + x % 256 else v % 256 + 256 * (x % 256)) < 65536) (sym e) (omega arith))

pub half_of : (x : ℕ) → x < 65536 → sum_of (bit_and x 32768) (x / 2) ≡ cell_of (floored (signed x) (pos 2))
half_of x h = by_sign x
    (λ small. rw (high_bit x h, signed_small x small) (number x small))
    (λ large. rw (high_bit x h, signed_large x large) (number' x large h))
  where
    number : (x : ℕ) → x < 32768 → (x / 32768 * 32768 + x / 2) % 65536 ≡ x / 2 % 65536
    number x h = omega (arith, h)

    number' : (x : ℕ) → 32768 ≤ x → x < 65536 → (x / 32768 * 32768 + x / 2) % 65536 ≡ 65535 - (65535 - x) / 2 % 65536
    number' x h k = omega (arith, h, k)

-- a cell is even or odd
pub by_bit : {C : Type 0} (x : ℕ) → (x % 2 ≡ 0 → C) → (x % 2 ≡ 1 → C) → C
by_bit {C = C} x f g = choose (x % 2) refl (omega arith)
  where
    choose : (b : ℕ) → x % 2 ≡ b → b < 2 → C
    choose zero e h = f e
    choose (suc zero) e h = g e
    choose (suc (suc b)) e h = let no : ⊥ = omega (arith, h) in absurd no

-- signed cells are ordered as the cells from the other half on
pub signed_less : (x y : ℕ) → x < 65536 → y < 65536 → int_lt (signed x) (signed y) ≡ nat_lt ((x + 32768) % 65536) ((y + 32768) % 65536)
signed_less x y hx hy = by_sign x
    (λ xs. by_sign y
    (λ ys. rw (signed_small x xs, signed_small y ys) (same x y ((x + 32768) % 65536) ((y + 32768) % 65536) (omega (arith, xs)) (omega (arith, ys))))
    (λ yl. rw (signed_small x xs, signed_large y yl) (sym (le-ltb ((x + 32768) % 65536) ((y + 32768) % 65536) (omega (arith, xs, yl, hy))))))
    (λ xl. by_sign y
    (λ ys. rw (signed_large x xl, signed_small y ys) (sym (lt-ltb ((x + 32768) % 65536) ((y + 32768) % 65536) (omega (arith, xl, ys, hx)))))
    (λ yl. rw (signed_large x xl, signed_large y yl) (under (65535 - y) (65535 - x) ((x + 32768) % 65536) ((y + 32768) % 65536) (omega (arith, xl, hx)) (omega (arith, yl, hy)))))
  where
    same : (x y a b : ℕ) → a ≡ x + 32768 → b ≡ y + 32768 → nat_lt x y ≡ nat_lt a b
    same x y a b e f = by_cases (nat_lt x y) (λ t. t ∙ sym (lt-ltb a b (let h : x < y = leb-true (suc x) y t in omega (arith, h, e, f)))) (λ t. t ∙ sym (le-ltb a b (let h : y ≤ x = ltb-false x y t in omega (arith, h, e, f))))

    under : (y x a b : ℕ) → a + x ≡ 32767 → b + y ≡ 32767 → nat_lt y x ≡ nat_lt a b
    under y x a b e f = by_cases (nat_lt y x) (λ t. t ∙ sym (lt-ltb a b (let h : y < x = leb-true (suc y) x t in omega (arith, h, e, f)))) (λ t. t ∙ sym (le-ltb a b (let h : x ≤ y = ltb-false y x t in omega (arith, h, e, f))))

biased_same : (x y : ℕ) → x < 65536 → y < 65536 → (x + 32768) % 65536 ≡ (y + 32768) % 65536 → x ≡ y
biased_same x y h k e = omega (arith, h, k, e)

-- the lesser, by the other test
pub lesser_true : (x y : ℕ) → x < 65536 → y < 65536 → int_lt (signed y) (signed x) ≡ true → y ≡ lesser x y
lesser_true x y h k e = sym (if_false (int_lt (signed x) (signed y)) x y (signed_less x y h k ∙ le-ltb _ _ (let less : (y + 32768) % 65536 < (x + 32768) % 65536 = leb-true _ _ (sym (signed_less y x k h) ∙ e) in omega (arith, less))))

pub lesser_false : (x y : ℕ) → x < 65536 → y < 65536 → int_lt (signed y) (signed x) ≡ false → x ≡ lesser x y
lesser_false x y h k e = by_cases (int_lt (signed x) (signed y))
    (λ t. sym (if_true (int_lt (signed x) (signed y)) x y t))
    (λ t. let ge : (x + 32768) % 65536 ≤ (y + 32768) % 65536 = ltb-false _ _ (sym (signed_less y x k h) ∙ e) in
    let le : (y + 32768) % 65536 ≤ (x + 32768) % 65536 = ltb-false _ _ (sym (signed_less x y h k) ∙ t) in
    biased_same x y h k (omega (arith, ge, le)) ∙ sym (if_false (int_lt (signed x) (signed y)) x y t))
