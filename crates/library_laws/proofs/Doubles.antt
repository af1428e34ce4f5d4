-- M* and *
use Rattle.std.proofs.Common.{◌≡◌, ℕ, zero, suc, ◌+◌, ◌-◌, ◌*◌, ◌/◌, ◌%◌, ◌≤◌, ◌<◌, List, ◌∷◌, refl, ap, ◌∙◌, arith}
use Rattle.std.specs.Prelude.{bit_and, int_lt, pos, neg_ℤ, ◌*ℤ◌}
use Rattle.std.proofs.lemmas.Nat.{and_mask, and_comm}
use Rattle.cell_math.specs.Cell.{flag, sum_of, difference_of, signed, double_of, high_cell, low_cell}
use Rattle.word_table.specs.declared.word.Word.TheVariants.{MStar, Star}
use Rattle.forth_program.specs.State.{Goes}
use Rattle.forth_program.specs.Step.{step}
use Rattle.library_laws.proofs.BodySteps.{body_steps, body_spent}
use Rattle.forth_program.specs.Meaning.{put}
use Rattle.library_laws.specs.Bodies.{body_of_word}
use Rattle.library_laws.specs.Library.{finished, DefinitionDoes}
use Rattle.library_laws.proofs.Cells.{by_sign, sign_small, sign_large, signed_small, signed_large}
use Rattle.library_laws.proofs.Comes.{at_once, meant_by}

pub star : DefinitionDoes (body_of_word Star) Star
unfolding step body_steps body_spent
star p callers (y ∷ x ∷ c) w need cells world = meant_by 1101 (omega arith) refl need (at_once p 2 refl (omega arith))
star p callers c w need cells world = let no : ⊥ = omega (arith, need) in absurd no

pub and_zero : (x : ℕ) → bit_and x 0 ≡ 0
and_zero x = and_comm x 0

pub and_ones : (x : ℕ) → x < 65536 → bit_and x 65535 ≡ x
and_ones x h = and_mask x 16 ∙ fits x h
  where
    fits : (x : ℕ) → x < 65536 → x % 65536 ≡ x
    fits x h = omega (arith, h)

-- a negative double
pub double_negative : (n : ℕ) → n ≤ 4294967296 → double_of (neg_ℤ (pos n)) ≡ (4294967296 - n) % 4294967296
double_negative zero h = refl
double_negative (suc n) h = omega (arith, h)

-- the product of cells q, less the high cell s, is the double d
less_high : (q d s : ℕ) (c : List ℕ) → q < 4294967296 → d < 4294967296 → s < 65536 → (d + 65536 * s) % 4294967296 ≡ q →
    difference_of (high_cell q) s ∷ low_cell q ∷ c ≡ put d c
less_high q d s c fq fd fs e = ap (λ z. z ∷ low_cell q ∷ c) (high q d s fq fd fs e) ∙ ap (λ z. high_cell d ∷ z ∷ c) (low q d s fq fd fs e)
  where
    high : (q d s : ℕ) → q < 4294967296 → d < 4294967296 → s < 65536 → (d + 65536 * s) % 4294967296 ≡ q → (q / 65536 % 65536 + (65536 - s)) % 65536 ≡ d / 65536 % 65536
    high q d s fq fd fs e = omega (arith, fq, fd, fs, e)

    low : (q d s : ℕ) → q < 4294967296 → d < 4294967296 → s < 65536 → (d + 65536 * s) % 4294967296 ≡ q → q % 65536 ≡ d % 65536
    low q d s fq fd fs e = omega (arith, fq, fd, fs, e)

below : (x y : ℕ) → x < 65536 → y < 65536 → x * y < 4294967296
below x y h k = grind arith

-- a cell times the size of a negative cell
left_part : (x y : ℕ) → y < 65536 → x * suc (65535 - y) + x * y ≡ 65536 * x
left_part x y h = regroup x (suc (65535 - y)) y (omega (arith, h))
  where
    regroup : (x a b : ℕ) → a + b ≡ 65536 → x * a + x * b ≡ 65536 * x
    regroup x a b e = let t : x * (a + b) ≡ x * 65536 = ap (λ z. x * z) e in omega (arith, t)

right_part : (x y : ℕ) → x < 65536 → suc (65535 - x) * y + x * y ≡ 65536 * y
right_part x y h = let t : y * suc (65535 - x) + y * x ≡ 65536 * y = left_part y x h in omega (arith, t)

both_parts : (x y : ℕ) → x < 65536 → y < 65536 → suc (65535 - x) * suc (65535 - y) + 65536 * (x + y) ≡ 4294967296 + x * y
both_parts x y h k = regroup x y (suc (65535 - x)) (suc (65535 - y)) (omega (arith, h)) (omega (arith, k))
  where
    regroup : (x y a b : ℕ) → a + x ≡ 65536 → b + y ≡ 65536 → a * b + 65536 * (x + y) ≡ 4294967296 + x * y
    regroup x y a b e f =
        let t : (a + x) * b ≡ 65536 * b = ap (λ z. z * b) e in
        let u : x * (b + y) ≡ x * 65536 = ap (λ z. x * z) f in
        omega (arith, t, u, f)

minus : (q d n s : ℕ) → n ≤ 4294967296 → d ≡ (4294967296 - n) % 4294967296 → n + q ≡ 65536 * s → q < 4294967296 → s < 65536 → (d + 65536 * ((0 + s) % 65536)) % 4294967296 ≡ q
minus q d n s h e f g k = omega (arith, h, e, f, g, k)

signed_product : (x y : ℕ) (c : List ℕ) → x < 65536 → y < 65536 →
    difference_of (high_cell (x * y)) (sum_of (bit_and y (flag (int_lt (signed x) (pos 0)))) (bit_and x (flag (int_lt (signed y) (pos 0))))) ∷ low_cell (x * y) ∷ c ≡ put (double_of (signed x *ℤ signed y)) c
signed_product x y c hx hy = by_sign x
    (λ xs. by_sign y
    (λ ys. rw (sign_small x xs, sign_small y ys, signed_small x xs, signed_small y ys, and_zero x, and_zero y)
    (less_high (x * y) (x * y % 4294967296) 0 c q (omega arith) (omega arith) (omega (arith, q))))
    (λ yl. rw (sign_small x xs, sign_large y yl, signed_small x xs, signed_large y yl, and_zero y, and_ones x hx)
    (let n : x * suc (65535 - y) ≤ 4294967296 = (let t = left_part x y hy in omega (arith, t, hx)) in
    less_high (x * y) (double_of (neg_ℤ (pos (x * suc (65535 - y))))) ((0 + x) % 65536) c q (fits _ n) (omega arith)
    (minus (x * y) _ _ x n (double_negative _ n) (left_part x y hy) q hx))))
    (λ xl. by_sign y
    (λ ys. rw (sign_large x xl, sign_small y ys, signed_large x xl, signed_small y ys, and_zero x, and_ones y hy)
    (let n : suc (65535 - x) * y ≤ 4294967296 = (let t = right_part x y hx in omega (arith, t, hy)) in
    less_high (x * y) (double_of (neg_ℤ (pos (suc (65535 - x) * y)))) ((y + 0) % 65536) c q (fits _ n) (omega arith)
    (let t = minus (x * y) _ _ y n (double_negative _ n) (right_part x y hx) q hy in omega (arith, t))))
    (λ yl. rw (sign_large x xl, sign_large y yl, signed_large x xl, signed_large y yl, and_ones x hx, and_ones y hy)
    (less_high (x * y) (suc (65535 - x) * suc (65535 - y) % 4294967296) ((y + x) % 65536) c q (omega arith) (omega arith)
    (let t = both_parts x y hx hy in omega (arith, t, q, hx, hy)))))
  where
    q : x * y < 4294967296
    q = below x y hx hy

    fits : (n : ℕ) → n ≤ 4294967296 → double_of (neg_ℤ (pos n)) < 4294967296
    fits n h = let e = double_negative n h in omega (arith, e)

pub m_star : DefinitionDoes (body_of_word MStar) MStar
unfolding step body_steps body_spent
m_star p callers (y ∷ x ∷ c) w need cells world = meant_by 1120 (omega arith) refl need
    (at_once p 14 (ap (λ z. Goes (finished callers z w)) (signed_product x y c cells.1.0 cells.0)) (omega arith))
m_star p callers c w need cells world = let no : ⊥ = omega (arith, need) in absurd no
