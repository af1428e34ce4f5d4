-- The end of a loop, by the boundary between limit - 1 and limit.
use Rattle.std.proofs.Common.{◌≡◌, ◌≢◌, ℕ, suc, ◌+◌, ◌-◌, ◌*◌, ◌/◌, ◌%◌, ◌^◌, ◌<◌, ◌≤◌, ◌⊎◌, inl, inr, ⊎_elim, Bool, true, false, refl, sym, ap, ◌∙◌, subst, arith}
use Rattle.std.specs.Prelude.{bit_xor, bit_and, pos, negsuc, int_lt, nat_lt, if◌then◌else◌}
use Rattle.std.proofs.lemmas.Bool.Decides.{nat_tests, leb_tells}
use Rattle.std.proofs.lemmas.Int.{ints}
use Rattle.std.proofs.lemmas.Bool.{cases_lt}
use Rattle.std.proofs.lemmas.Nat.{xor_block, and_block, xor_lt, and_le_l}
use Rattle.cell_math.specs.Cell.{sum_of, signed}
use Rattle.forth_program.specs.Step.{crosses}

pos_pos : (x s : ℕ) → crosses (pos x) (pos s) ≡ false
pos_pos x s = grind (arith, ints, nat_tests)

neg_pos : (x s : ℕ) → suc x ≤ s → crosses (negsuc x) (pos s) ≡ true
neg_pos x s h = grind (arith, ints, nat_tests)

neg_pos_not : (x s : ℕ) → s < suc x → crosses (negsuc x) (pos s) ≡ false
neg_pos_not x s h = grind (arith, ints, nat_tests)

pos_neg : (x s : ℕ) → x < suc s → crosses (pos x) (negsuc s) ≡ true
pos_neg x s h = grind (arith, ints, nat_tests)

pos_neg_not : (x s : ℕ) → suc s ≤ x → crosses (pos x) (negsuc s) ≡ false
pos_neg_not x s h = grind (arith, ints, nat_tests)

neg_neg : (x s : ℕ) → crosses (negsuc x) (negsuc s) ≡ false
neg_neg x s = refl

-- LOOP adds 1: it ends where the sum is 0
pub one_crosses : (x : ℕ) → x < 65536 → ((x ≡ 65535) × (crosses (signed x) (signed 1) ≡ true)) ⊎ ((x ≢ 65535) × (crosses (signed x) (signed 1) ≡ false))
one_crosses x h =
    ⊎_elim
    (λ t. let small : x < 32768 = t.1 in inr (λ e. absurd (omega arith), ap (λ b. crosses (if b then pos x else negsuc (65535 - x)) (pos 1)) t.0 ∙ pos_pos x 1))
    (λ t.
    let large : 32768 ≤ x = omega (arith, t.1) in
    let shown = ap (λ b. crosses (if b then pos x else negsuc (65535 - x)) (pos 1)) t.0 in
    ⊎_elim
    (λ lt. inr (λ e. absurd (omega arith), shown ∙ neg_pos_not (65535 - x) 1 (omega arith)))
    (λ le. inl (omega arith, shown ∙ neg_pos (65535 - x) 1 (omega arith)))
    (cases_lt x 65535))
    (leb_tells (suc x) 32768)

-- ---- the sign bits that +LOOP looks at

xor_high : (a b : ℕ) → bit_xor a b / 32768 ≡ bit_xor (a / 32768) (b / 32768)
xor_high a b =
    let ea : a ≡ a / 32768 * 2 ^ 15 + a % 32768 = omega arith in
    let eb : b ≡ b / 32768 * 2 ^ 15 + b % 32768 = omega arith in
    let la : a % 32768 < 2 ^ 15 = omega arith in
    let lb : b % 32768 < 2 ^ 15 = omega arith in
    let e : bit_xor a b ≡ bit_xor (a / 32768) (b / 32768) * 2 ^ 15 + bit_xor (a % 32768) (b % 32768) =
    ap (λ x. bit_xor x b) ea ∙ ap (λ y. bit_xor (a / 32768 * 2 ^ 15 + a % 32768) y) eb ∙ xor_block 15 (a / 32768) (b / 32768) (a % 32768) (b % 32768) la lb in
    omega (arith, e, xor_lt 15 (a % 32768) (b % 32768) la lb)

and_high : (a b : ℕ) → bit_and a b / 32768 ≡ bit_and (a / 32768) (b / 32768)
and_high a b =
    let ea : a ≡ a / 32768 * 2 ^ 15 + a % 32768 = omega arith in
    let eb : b ≡ b / 32768 * 2 ^ 15 + b % 32768 = omega arith in
    let la : a % 32768 < 2 ^ 15 = omega arith in
    let lb : b % 32768 < 2 ^ 15 = omega arith in
    let e : bit_and a b ≡ bit_and (a / 32768) (b / 32768) * 2 ^ 15 + bit_and (a % 32768) (b % 32768) =
    ap (λ x. bit_and x b) ea ∙ ap (λ y. bit_and (a / 32768 * 2 ^ 15 + a % 32768) y) eb ∙ and_block 15 (a / 32768) (b / 32768) (a % 32768) (b % 32768) la lb in
    omega (arith, e, and_le_l (a % 32768) (b % 32768))

-- x is index minus limit, and s the step
abbrev pub signs : ℕ → ℕ → ℕ
signs x s = bit_and (bit_xor x (sum_of s x)) (bit_xor s x)

-- the sign bit, by those of x, of the sum and of s
signs_high : (x s a b d : ℕ) → x / 32768 ≡ a → sum_of s x / 32768 ≡ b → s / 32768 ≡ d → signs x s / 32768 ≡ bit_and (bit_xor a b) (bit_xor d a)
signs_high x s a b d ea eb ed =
    and_high (bit_xor x (sum_of s x)) (bit_xor s x)
    ∙ ap (λ y. bit_and y (bit_xor s x / 32768)) (xor_high x (sum_of s x))
    ∙ ap (λ y. bit_and (bit_xor (x / 32768) (sum_of s x / 32768)) y) (xor_high s x)
    ∙ ap (λ y. bit_and (bit_xor y (sum_of s x / 32768)) (bit_xor (s / 32768) y)) ea
    ∙ ap (λ y. bit_and (bit_xor a y) (bit_xor (s / 32768) a)) eb
    ∙ ap (λ y. bit_and (bit_xor a b) (bit_xor y a)) ed

negative : (f : ℕ) → f / 32768 ≡ 1 → int_lt (signed f) (pos 0) ≡ true
negative f h =
    ⊎_elim
    (λ t. let small : f < 32768 = t.1 in absurd (omega arith))
    (λ t. ap (λ b. int_lt (if b then pos f else negsuc (65535 - f)) (pos 0)) t.0)
    (leb_tells (suc f) 32768)

not_negative : (f : ℕ) → f / 32768 ≡ 0 → int_lt (signed f) (pos 0) ≡ false
not_negative f h =
    ⊎_elim
    (λ t. ap (λ b. int_lt (if b then pos f else negsuc (65535 - f)) (pos 0)) t.0 ∙ below f)
    (λ t. let large : 32768 ≤ f = omega (arith, t.1) in absurd (omega arith))
    (leb_tells (suc f) 32768)
  where
    below : (f : ℕ) → int_lt (pos f) (pos 0) ≡ false
    below f = grind (arith, ints, nat_tests)

module _ (x s : ℕ) (hx : x < 65536) (hs : s < 65536) where
  abbrev Same : Bool → Bool → Type 0
  Same a b = crosses (if a then pos x else negsuc (65535 - x)) (if b then pos s else negsuc (65535 - s)) ≡ int_lt (signed (signs x s)) (pos 0)

  both_positive : x < 32768 → s < 32768 → Same true true
  both_positive lx ls =
      pos_pos x s ∙ sym (not_negative (signs x s) (⊎_elim
      (λ lt. signs_high x s 0 0 0 (omega arith) (omega arith) (omega arith))
      (λ le. signs_high x s 0 1 0 (omega arith) (omega arith) (omega arith))
      (cases_lt (sum_of s x) 32768)))

  both_negative : 32768 ≤ x → 32768 ≤ s → Same false false
  both_negative lx ls =
      neg_neg (65535 - x) (65535 - s) ∙ sym (not_negative (signs x s) (⊎_elim
      (λ lt. signs_high x s 1 0 1 (omega arith) (omega arith) (omega arith))
      (λ le. signs_high x s 1 1 1 (omega arith) (omega arith) (omega arith))
      (cases_lt (sum_of s x) 32768)))

  going_up : 32768 ≤ x → s < 32768 → Same false true
  going_up lx ls =
      ⊎_elim
      (λ lt. neg_pos_not (65535 - x) s (omega arith) ∙ sym (not_negative (signs x s) (signs_high x s 1 1 0 (omega arith) (omega arith) (omega arith))))
      (λ le. neg_pos (65535 - x) s (omega arith) ∙ sym (negative (signs x s) (signs_high x s 1 0 0 (omega arith) (omega arith) (omega arith))))
      (cases_lt (x + s) 65536)

  going_down : x < 32768 → 32768 ≤ s → Same true false
  going_down lx ls =
      ⊎_elim
      (λ lt. pos_neg x (65535 - s) (omega arith) ∙ sym (negative (signs x s) (signs_high x s 0 1 1 (omega arith) (omega arith) (omega arith))))
      (λ le. pos_neg_not x (65535 - s) (omega arith) ∙ sym (not_negative (signs x s) (signs_high x s 0 0 1 (omega arith) (omega arith) (omega arith))))
      (cases_lt (x + s) 65536)

  -- the boundary is crossed where these bits have the sign
  pub signs_cross : crosses (signed x) (signed s) ≡ int_lt (signed (signs x s)) (pos 0)
  signs_cross =
      ⊎_elim
      (λ t. ⊎_elim
      (λ u. subst (λ a. Same a (nat_lt s 32768)) (sym t.0) (subst (λ b. Same true b) (sym u.0) (both_positive (omega (arith, t.1)) (omega (arith, u.1)))))
      (λ u. subst (λ a. Same a (nat_lt s 32768)) (sym t.0) (subst (λ b. Same true b) (sym u.0) (going_down (omega (arith, t.1)) (omega (arith, u.1)))))
      (leb_tells (suc s) 32768))
      (λ t. ⊎_elim
      (λ u. subst (λ a. Same a (nat_lt s 32768)) (sym t.0) (subst (λ b. Same false b) (sym u.0) (going_up (omega (arith, t.1)) (omega (arith, u.1)))))
      (λ u. subst (λ a. Same a (nat_lt s 32768)) (sym t.0) (subst (λ b. Same false b) (sym u.0) (both_negative (omega (arith, t.1)) (omega (arith, u.1)))))
      (leb_tells (suc s) 32768))
      (leb_tells (suc x) 32768)
