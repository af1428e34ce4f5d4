-- How many turns are left to a loop with a known limit and step.
use Rattle.std.proofs.Common.{◌≡◌, ◌≢◌, ℕ, zero, suc, ◌+◌, ◌-◌, ◌*◌, ◌/◌, ◌%◌, ◌<◌, ◌≤◌, ◌⊎◌, inl, inr, ⊎_elim, Bool, true, false, if◌then◌else◌, Option, Some, None, sym, ap, ◌∙◌, subst, arith}
use Rattle.std.specs.Prelude.{pos, negsuc, nat_lt}
use Rattle.std.proofs.Math.Nat.{suc-mul, mul-add, mul_comm, lt-mul-div-succ}
use Rattle.std.proofs.lemmas.Bool.Decides.{nat_tests, leb_tells, eqb_tells}
use Rattle.std.proofs.lemmas.Bool.{cases_lt}
use Rattle.std.proofs.lemmas.Int.{ints}
use Rattle.cell_math.specs.Cell.{sum_of, difference_of, signed}
use Rattle.forth_program.specs.Step.{crosses}
use Rattle.step_certifier.specs.Turns.{distance_up, turns_up, turns_down, turns}

pub neg_pos : (x s : ℕ) → suc x ≤ s → crosses (negsuc x) (pos s) ≡ true
neg_pos x s h = grind (arith, ints, nat_tests)

pub pos_neg : (x s : ℕ) → x < suc s → crosses (pos x) (negsuc s) ≡ true
pos_neg x s h = grind (arith, ints, nat_tests)

clash : (b : Bool) → b ≡ true → b ≡ false → ⊥
clash b h k = cc (h, k)

-- going up, the limit is not passed: so there are at least so many places up to it
stays_below : (x s : ℕ) → x < 65536 → s < 32768 → crosses (signed x) (pos s) ≡ false → x + s < 65536
stays_below x s hx hs stays =
    ⊎_elim
    (λ t. let small : x < 32768 = t.1 in omega arith)
    (λ t.
    ⊎_elim
    (λ lt. lt)
    (λ le. absurd (clash (crosses (signed x) (pos s)) (ap (λ b. crosses (if b then pos x else negsuc (65535 - x)) (pos s)) t.0 ∙ neg_pos (65535 - x) s (omega (arith, le))) stays))
    (cases_lt (x + s) 65536))
    (leb_tells (suc x) 32768)

-- going down, 0 is not passed
stays_above : (x s : ℕ) → x < 65536 → s < 32768 → crosses (signed x) (negsuc s) ≡ false → suc s ≤ x
stays_above x s hx hs stays =
    ⊎_elim
    (λ t.
    ⊎_elim
    (λ lt. absurd (clash (crosses (signed x) (negsuc s)) (ap (λ b. crosses (if b then pos x else negsuc (65535 - x)) (negsuc s)) t.0 ∙ pos_neg x s lt) stays))
    (λ le. le)
    (cases_lt x (suc s)))
    (λ t. let large : 32768 ≤ x = omega (arith, t.1) in omega arith)
    (leb_tells (suc x) 32768)

-- with n turns the limit is passed
abbrev pub Left : ℕ → ℕ → ℕ → ℕ → Type 0
Left limit step n index =
    ((step < 32768) × (distance_up limit index ≤ n * step)) ⊎ ((32768 ≤ step) × (step < 65536) × (difference_of index limit < n * (65536 - step)))

pub difference_small : (index limit : ℕ) → difference_of index limit < 65536
difference_small index limit = omega arith

pub moved : (index limit step : ℕ) → difference_of (sum_of index step) limit ≡ (difference_of index limit + step) % 65536
moved index limit step = omega arith

none_left : (limit step index : ℕ) → Left limit step 0 index → ⊥
none_left limit step index left =
    let d = difference_small index limit in
    ⊎_elim
    (λ up. let h = up.1 in let z : 0 * step ≡ 0 = none step in omega (arith, h, z, d))
    (λ down. let h = down.2 in let z : 0 * (65536 - step) ≡ 0 = none (65536 - step) in omega (arith, h, z))
    left
  where
    none : (x : ℕ) → 0 * x ≡ 0
    none x = omega arith

pub turns_left : (limit step index : ℕ) → Left limit step zero index → ⊥
turns_left limit step index left = none_left limit step index left

pub signed_small : (s : ℕ) → s < 32768 → signed s ≡ pos s
signed_small s h = ⊎_elim (λ t. ap (λ b. if b then pos s else negsuc (65535 - s)) t.0) (λ t. let ge : 32768 ≤ s = omega (arith, t.1) in absurd (omega (arith, ge, h))) (leb_tells (suc s) 32768)

pub signed_large : (s : ℕ) → 32768 ≤ s → signed s ≡ negsuc (65535 - s)
signed_large s h = ⊎_elim (λ t. let lt : s < 32768 = t.1 in absurd (omega (arith, lt, h))) (λ t. ap (λ b. if b then pos s else negsuc (65535 - s)) t.0) (leb_tells (suc s) 32768)

-- a turn that does not end the loop takes one of them
pub one_less : (limit step n index : ℕ) → Left limit step (suc n) index → crosses (signed (difference_of index limit)) (signed step) ≡ false → Left limit step n (sum_of index step)
one_less limit step n index left stays =
    let x = difference_of index limit in
    let d = difference_small index limit in
    let e = moved index limit step in
    ⊎_elim
    (λ up.
    let h = up.1 in
    let m : suc n * step ≡ n * step + step = suc-mul n step in
    let b = stays_below x step d up.0 (sym (ap (λ z. crosses (signed x) z) (signed_small step up.0)) ∙ stays) in
    inl (up.0, rest_up x (difference_of (sum_of index step) limit) step (suc n * step) (n * step) e b h m))
    (λ down.
    let h = down.2 in
    let m : suc n * (65536 - step) ≡ n * (65536 - step) + (65536 - step) = suc-mul n (65536 - step) in
    let b = stays_above x (65535 - step) d (omega (arith, down.0)) (sym (ap (λ z. crosses (signed x) z) (signed_large step down.0)) ∙ stays) in
    inr (down.0, down.1, rest_down x (difference_of (sum_of index step) limit) step (suc n * (65536 - step)) (n * (65536 - step)) e d b down.1 h m))
    left
  where
    rest_up : (x y step m n : ℕ) → y ≡ (x + step) % 65536 → x + step < 65536 → 65536 - x ≤ m → m ≡ n + step → 65536 - y ≤ n
    rest_up x y step m n e b h i = omega (arith, e, b, h, i)

    rest_down : (x y step m n : ℕ) → y ≡ (x + step) % 65536 → x < 65536 → suc (65535 - step) ≤ x → step < 65536 → x < m → m ≡ n + (65536 - step) → y < n
    rest_down x y step m n e d b s h i = omega (arith, e, d, b, s, h, i)

pub loop_left : (limit start : ℕ) → Left limit 1 (distance_up limit start) start
loop_left limit start = inl (omega arith, omega arith)

pub some_same : (x y : ℕ) → Some x ≡ Some y → x ≡ y
some_same x y h = cc

module _ (limit start step : ℕ) where
  up_left : step ≢ 0 → step < 32768 → Left limit step (turns_up limit start step) start
  up_left not_zero small =
      let a = distance_up limit start + (step - 1) in
      let d : a < step * (a / step + 1) = lt-mul-div-succ a (omega (arith, not_zero)) in
      let e : step * (a / step + 1) ≡ step * (a / step) + step * 1 = mul-add step (a / step) 1 in
      let f : step * (a / step) ≡ a / step * step = mul_comm step (a / step) in
      inl (small, enough (distance_up limit start) step (step * (a / step + 1)) (step * (a / step)) (a / step * step) not_zero d e f)
    where
      enough : (d s m n k : ℕ) → s ≢ 0 → d + (s - 1) < m → m ≡ n + s * 1 → n ≡ k → d ≤ k
      enough d s m n k not_zero h e f = omega (arith, not_zero, h, e, f)

  down_left : 32768 ≤ step → step < 65536 → Left limit step (turns_down limit start (65536 - step)) start
  down_left large small =
      let x = difference_of start limit in
      let d : x < (65536 - step) * (x / (65536 - step) + 1) = lt-mul-div-succ x (omega (arith, small)) in
      inr (large, small, subst (λ z. x < z) (mul_comm (65536 - step) (x / (65536 - step) + 1)) d)

  -- the number of turns is enough
  abbrev Enough : ℕ → Option ℕ → Type 0
  Enough n o = o ≡ Some n → Left limit step n start

  pub plus_left : (n : ℕ) → turns limit start step ≡ Some n → Left limit step n start
  plus_left n =
      ⊎_elim
      (λ t. subst (λ b. Enough n (if b then None else (if nat_lt step 32768 then Some (turns_up limit start step) else (if nat_lt step 65536 then Some (turns_down limit start (65536 - step)) else None)))) (sym t.0) (λ is. cc (is)))
      (λ t. subst (λ b. Enough n (if b then None else (if nat_lt step 32768 then Some (turns_up limit start step) else (if nat_lt step 65536 then Some (turns_down limit start (65536 - step)) else None)))) (sym t.0)
      (⊎_elim
      (λ u. subst (λ b. Enough n (if b then Some (turns_up limit start step) else (if nat_lt step 65536 then Some (turns_down limit start (65536 - step)) else None))) (sym u.0)
      (λ is. subst (λ m. Left limit step m start) (some_same (turns_up limit start step) n is) (up_left t.1 u.1)))
      (λ u. subst (λ b. Enough n (if b then Some (turns_up limit start step) else (if nat_lt step 65536 then Some (turns_down limit start (65536 - step)) else None))) (sym u.0)
      (⊎_elim
      (λ v. subst (λ b. Enough n (if b then Some (turns_down limit start (65536 - step)) else None)) (sym v.0)
      (λ is. subst (λ m. Left limit step m start) (some_same (turns_down limit start (65536 - step)) n is) (down_left (omega (arith, u.1)) v.1)))
      (λ v. subst (λ b. Enough n (if b then Some (turns_down limit start (65536 - step)) else None)) (sym v.0) (λ is. cc (is)))
      (leb_tells (suc step) 65536)))
      (leb_tells (suc step) 32768)))
      (eqb_tells step 0)
