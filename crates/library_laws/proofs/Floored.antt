-- FM/MOD and the words on it: floored divisions by symmetric ones.
use Rattle.std.proofs.Common.{◌≡◌, ℕ, zero, suc, ◌+◌, ◌-◌, ◌*◌, ◌/◌, ◌%◌, ◌≤◌, ◌<◌, true, ◌==◌, List, [], ◌∷◌, refl, ap, sym, ◌∙◌, subst, arith, leb-true, leb-false, ltb-false, le-ltb, ne_eqb}
use Rattle.std.specs.Prelude.{nat_lt, nat_le, not, Some, None, ℤ, pos, negsuc, neg_ℤ, int_lt, if◌then◌else◌, bit_xor, bit_and}
use Rattle.std.proofs.Math.Nat.{div-add-mod, mod-lt}
use Rattle.std.proofs.lemmas.Nat.{and_comm}
use Rattle.cell_math.specs.Cell.{flag, signed, signed_double, negated, sum_of, difference_of, cell_of}
use Rattle.cell_math.specs.Divisions.{Division, symmetric_division, floored_division, divided, in_signed_range}
use Rattle.word_table.specs.declared.word.Word.TheVariants.{FMSlashMod}
use Rattle.forth_program.specs.State.{State, World, Frame, Outcome}
use Rattle.forth_program.specs.Program.{SourceProgram}
use Rattle.forth_program.specs.Step.{step, on_cells, before as before_work}
use Rattle.forth_program.specs.Meaning.{both}
use Rattle.library_laws.proofs.BodySteps.{body_steps, body_spent}
use Rattle.library_laws.specs.Bodies.{body_of_word}
use Rattle.library_laws.specs.Library.{finished, DefinitionDoes}
use Rattle.library_laws.proofs.Comes.{Comes, by_way, by_step, last_step, at_once, renamed, meant_by}
use Rattle.library_laws.proofs.Loops.{skip}
use Rattle.library_laws.proofs.Cells.{by_cases, by_sign, signed_small, signed_large}
use Rattle.library_laws.proofs.Doubles.{and_zero, and_ones}
use Rattle.library_laws.proofs.Quotients.{division_is}
use Rattle.library_laws.proofs.Signs.{xor_is_sign, in_range_is, cell_of_sized}

-- one less, and the remainder nearer to the divisor, where there is one with the other sign than the divisor
abbrev pub fixed_by : ℕ → ℕ → ℕ × ℕ → Division
fixed_by zero n parts = Some parts
fixed_by (suc k) n parts = if parts.1 == 32768 then None else Some (sum_of n parts.0, difference_of parts.1 1)

abbrev pub apart : ℕ → ℕ → ℕ
apart n r = bit_and (flag (int_lt (signed (bit_xor n r)) (pos 0))) r

abbrev pub fixed : ℕ → Division → Division
fixed n None = None
fixed n (Some parts) = fixed_by (apart n parts.0) n parts

keeps : (n : ℕ) (x y : ℤ) → apart n (cell_of x) ≡ 0 → fixed n (divided x y) ≡ divided x y
keeps n x y e = by_cases (in_signed_range y) (λ t. rw (t, e) refl) (λ t. rw t refl)

moves : (n k q : ℕ) (x x' : ℤ) → apart n (cell_of x) ≡ suc k → sum_of n (cell_of x) ≡ cell_of x' → fixed n (divided x (neg_ℤ (pos q))) ≡ divided x' (negsuc q)
moves n k q x x' e f = by_cases (nat_le q 32767)
    (λ t. let le : q ≤ 32767 = leb-true q 32767 t in
    rw (in_range_is true q, ap not (le-ltb 32768 q (omega (arith, le))), t, e, f, cell_of_sized true q (omega (arith, le)), ne_eqb (negated q) 32768 (λ z. absurd (no q le z))) (ap (λ z. Some (cell_of x', z)) (less q le)))
    (λ t. by_cases (nat_lt 32768 q)
    (λ u. rw (in_range_is true q, u, t) refl)
    (λ u. let same : q ≡ 32768 = (let above : 32767 < q = leb-false q 32767 t in let under : q ≤ 32768 = ltb-false 32768 q u in omega (arith, above, under)) in
    subst (λ q. fixed n (divided x (neg_ℤ (pos q))) ≡ divided x' (negsuc q)) (sym same) (rw e refl)))
  where
    no : (q : ℕ) → q ≤ 32767 → negated q ≡ 32768 → ⊥
    no q h z = omega (arith, h, z)

    less : (q : ℕ) → q ≤ 32767 → difference_of (negated q) 1 ≡ 65535 - q % 65536
    less q h = omega (arith, h)

-- a number less, by the same divisor
data Before (a m : ℕ) : Type 0 where
  Whole : (q : ℕ) → suc a / suc m ≡ suc q → suc a % suc m ≡ 0 → a / suc m ≡ q → a % suc m ≡ m → Before a m
  Broken : (r : ℕ) → suc a % suc m ≡ suc r → a / suc m ≡ suc a / suc m → a % suc m ≡ r → Before a m

before : (a m : ℕ) → Before a m
before a m = choose (suc a % suc m) refl
  where
    parts : suc m * (suc a / suc m) + suc a % suc m ≡ suc a
    parts = div-add-mod (suc a) (suc m)

    whole : (q : ℕ) → suc a / suc m ≡ q → suc a % suc m ≡ 0 → Before a m
    whole zero e f = let no : ⊥ = (let z : suc m * 0 + suc a % suc m ≡ suc a = subst (λ z. suc m * z + suc a % suc m ≡ suc a) e parts in omega (arith, z, f)) in absurd no
    whole (suc q) e f =
        let z : suc m * suc q + suc a % suc m ≡ suc a = subst (λ z. suc m * z + suc a % suc m ≡ suc a) e parts in
        let d = division_is a (suc m) q m (omega (arith, z, f)) (omega arith) in
        Whole q e f d.0 d.1

    choose : (r : ℕ) → suc a % suc m ≡ r → Before a m
    choose zero f = whole (suc a / suc m) refl f
    choose (suc r) f =
        let less : suc a % suc m < suc m = mod-lt (suc a) (omega arith) in
        let d = division_is a (suc m) (suc a / suc m) r (let z = parts in omega (arith, z, f)) (omega (arith, less, f)) in
        Broken r f d.0 d.1

-- ---- whether a remainder has the other sign than the divisor
apart_zero : (n : ℕ) → apart n 0 ≡ 0
apart_zero n = and_zero (flag (int_lt (signed (bit_xor n 0)) (pos 0)))

by_flag : (f r g : ℕ) → f ≡ g → bit_and f r ≡ bit_and g r
by_flag f r g e = ap (λ z. bit_and z r) e

all_of : (r : ℕ) → r < 65536 → bit_and 65535 r ≡ r
all_of r h = and_comm 65535 r ∙ and_ones r h

apart_ss : (n r : ℕ) → n < 32768 → r < 32768 → apart n r ≡ 0
apart_ss n r h k = by_flag _ r 0 (xor_is_sign n r (omega (arith, h)) (omega (arith, k)) ∙ rw (signed_small n h, signed_small r k) refl)

apart_ll : (n r : ℕ) → 32768 ≤ n → n < 65536 → 32768 ≤ r → r < 65536 → apart n r ≡ 0
apart_ll n r h fn k fr = by_flag _ r 0 (xor_is_sign n r fn fr ∙ rw (signed_large n h, signed_large r k) refl)

apart_sl : (n r : ℕ) → n < 32768 → 32768 ≤ r → r < 65536 → apart n r ≡ r
apart_sl n r h k fr = by_flag _ r 65535 (xor_is_sign n r (omega (arith, h)) fr ∙ rw (signed_small n h, signed_large r k) refl) ∙ all_of r fr

apart_ls : (n r : ℕ) → 32768 ≤ n → n < 65536 → r < 32768 → apart n r ≡ r
apart_ls n r h fn k = by_flag _ r 65535 (xor_is_sign n r fn (omega (arith, k)) ∙ rw (signed_large n h, signed_small r k) refl) ∙ all_of r (omega (arith, k))

-- ---- by the signs
positive_divisor : (a : ℤ) (n : ℕ) → n < 32768 → floored_division a (pos n) ≡ fixed n (symmetric_division a (pos n))
positive_divisor (pos a) zero h = refl
positive_divisor (negsuc a) zero h = refl
positive_divisor (pos a) (suc m) h =
    let less : a % suc m < suc m = mod-lt a (omega arith) in
    sym (keeps (suc m) (pos (a % suc m)) (pos (a / suc m)) (apart_ss (suc m) (a % suc m % 65536) h (omega (arith, less, h))))
positive_divisor (negsuc a) (suc m) h = by (before a m)
  where
    by : Before a m → floored_division (negsuc a) (pos (suc m)) ≡ fixed (suc m) (symmetric_division (negsuc a) (pos (suc m)))
    by (Whole q e f g i) = rw (e, f, g, i) (ap (λ z. divided (pos z) (negsuc q)) (nothing m) ∙ sym (keeps (suc m) (pos 0) (negsuc q) (apart_zero (suc m))))
      where
        nothing : (m : ℕ) → suc m - 1 - m ≡ 0
        nothing m = omega arith
    by (Broken r e f g) =
        let less : suc a % suc m < suc m = mod-lt (suc a) (omega arith) in
        let small : r < m = omega (arith, less, e) in
        rw (f, g, e) (sym (moves (suc m) (65534 - r) (suc a / suc m) (negsuc r) (pos (suc m - 1 - r))
        (apart_sl (suc m) (65535 - r % 65536) h (omega (arith, small, h)) (omega arith) ∙ omega (arith, small, h)) (omega (arith, small, h))))

negative_divisor : (a : ℤ) (n m : ℕ) → 32768 ≤ n → n + m ≡ 65535 → floored_division a (negsuc m) ≡ fixed n (symmetric_division a (negsuc m))
negative_divisor (pos zero) n m h k = let d = division_is 0 (suc m) 0 0 (omega arith) (omega arith) in rw (d.0, d.1) (sym (keeps n (pos 0) (pos 0) (apart_zero n)))
negative_divisor (pos (suc a)) n m h k = by (before a m)
  where
    by : Before a m → floored_division (pos (suc a)) (negsuc m) ≡ fixed n (symmetric_division (pos (suc a)) (negsuc m))
    by (Whole q e f g i) = rw (e, f, g, i) (ap (λ z. divided (neg_ℤ (pos z)) (negsuc q)) (nothing m) ∙ sym (keeps n (pos 0) (negsuc q) (apart_zero n)))
      where
        nothing : (m : ℕ) → m - m ≡ 0
        nothing m = omega arith
    by (Broken r e f g) =
        let less : suc a % suc m < suc m = mod-lt (suc a) (omega arith) in
        let small : r < m = omega (arith, less, e) in
        rw (f, g, e) (sym (moves n r (suc a / suc m) (pos (suc r)) (neg_ℤ (pos (m - r)))
        (apart_ls n (suc r % 65536) h (omega (arith, k)) (omega (arith, small, h, k)) ∙ omega (arith, small, h, k))
        (omega (arith, small, h, k) ∙ sym (cell_of_sized true (m - r) (omega (arith, k))))))
negative_divisor (negsuc a) n m h k =
    let less : suc a % suc m < suc m = mod-lt (suc a) (omega arith) in
    sym (keeps n (neg_ℤ (pos (suc a % suc m))) (pos (suc a / suc m)) (same (suc a % suc m) (omega (arith, less, h, k))))
  where
    same : (r : ℕ) → r ≤ 32767 → apart n (cell_of (neg_ℤ (pos r))) ≡ 0
    same zero i = apart_zero n
    same (suc r) i = apart_ll n (65535 - r % 65536) h (omega (arith, k)) (omega (arith, i)) (omega arith)

pub floored_is : (a : ℤ) (n : ℕ) → n < 65536 → floored_division a (signed n) ≡ fixed n (symmetric_division a (signed n))
floored_is a n h = by_sign n
    (λ s. rw (signed_small n s) (positive_divisor a n s))
    (λ l. rw (signed_large n l) (negative_divisor a n (65535 - n) l (omega (arith, h))))

-- ---- the runs
module _ (p : SourceProgram) (callers : List Frame) (o : World) (n h l : ℕ) (c : List ℕ) where
  abbrev from : ℕ → List ℕ → State
  from k cells = record { work = before_work (skip k (body_of_word FMSlashMod)) []; entries = []; callers = callers; cells = cells; world = o }

  abbrev comes_to : Division → Outcome
  comes_to d = on_cells (both d c o) (finished callers (n ∷ h ∷ l ∷ c) o)

  with_parts : (z q r : ℕ) → apart n r ≡ z → Comes p 29 (from 6 (q ∷ r ∷ n ∷ c)) (comes_to (fixed n (Some (r, q))))
  unfolding step body_steps body_spent
  with_parts zero q r e = by_way p 7 14 refl (omega arith) (rw e (at_once p 4 refl (omega arith)))
  with_parts (suc z) q r e = by_way p 7 14 refl (omega arith) (rw e (by_way p 6 7 refl (omega arith) (by_cases (q == 32768)
      (λ t. rw t (at_once p 4 refl (omega arith))) (λ t. rw t (at_once p 3 refl (omega arith))))))

  divided_by : (d : Division) → symmetric_division (signed_double l h) (signed n) ≡ d → Comes p 3029 (from 5 (n ∷ h ∷ l ∷ n ∷ c)) (comes_to (fixed n d))
  unfolding step
  divided_by None e = last_step p 3000 (ap (λ d. on_cells (both d (n ∷ c) o) (from 6 (n ∷ h ∷ l ∷ n ∷ c))) e) refl (omega arith)
  divided_by (Some parts) e = by_step p 3000 29 (ap (λ d. on_cells (both d (n ∷ c) o) (from 6 (n ∷ h ∷ l ∷ n ∷ c))) e) refl (omega arith) (with_parts _ parts.1 parts.0 refl)

pub fm_slash_mod : DefinitionDoes (body_of_word FMSlashMod) FMSlashMod
unfolding step body_steps body_spent
fm_slash_mod p callers (n ∷ h ∷ l ∷ c) w need cells world = meant_by 3040 (omega arith) refl need (by_way p 5 3029 refl (omega arith)
    (renamed p (ap (comes_to p callers w n h l c) (sym (floored_is (signed_double l h) n cells.0))) (divided_by p callers w n h l c _ refl)))
fm_slash_mod p callers c w need cells world = let no : ⊥ = omega (arith, need) in absurd no
