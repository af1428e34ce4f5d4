-- The numbers of turns are those that loops make.
use Rattle.std.proofs.Common.{◌≡◌, ◌≢◌, ℕ, zero, suc, ◌+◌, ◌-◌, ◌*◌, ◌/◌, ◌%◌, ◌<◌, ◌≤◌, ⊎_elim, true, false, if◌then◌else◌, Option, Some, None, sym, ap, ◌∙◌, subst, arith}
use Rattle.std.specs.Prelude.{pos, negsuc, nat_lt}
use Rattle.std.proofs.Math.Nat.{suc-mul, mul-add, mul_comm, mul-div-le, div-mul-le_self, lt-mul-div-succ}
use Rattle.std.proofs.lemmas.Bool.Decides.{nat_tests, leb_tells, eqb_tells}
use Rattle.std.proofs.lemmas.Int.{ints}
use Rattle.cell_math.specs.Cell.{sum_of, difference_of, signed}
use Rattle.forth_program.specs.Step.{crosses}
use Rattle.step_certifier.specs.Turns.{distance_up, turns_up, turns_down, turns, ends_at, MakesTurns, TurnsAreCounted}
use Rattle.step_certifier.proofs.TurnsLeft.{neg_pos, pos_neg, difference_small, moved, signed_small, signed_large, some_same}

-- ---- one turn up, and one down

no_up_below : (x s : ℕ) → crosses (pos x) (pos s) ≡ false
no_up_below x s = grind (arith, ints, nat_tests)

no_up_above : (x s : ℕ) → s ≤ x → crosses (negsuc x) (pos s) ≡ false
no_up_above x s h = grind (arith, ints, nat_tests)

no_down_below : (x s : ℕ) → suc s ≤ x → crosses (pos x) (negsuc s) ≡ false
no_down_below x s h = grind (arith, ints, nat_tests)

no_down_above : (x s : ℕ) → crosses (negsuc x) (negsuc s) ≡ false
no_down_above x s = grind (arith, ints, nat_tests)

module _ (x s : ℕ) (small : x < 65536) where
  stays_up : x + s < 65536 → crosses (signed x) (pos s) ≡ false
  stays_up h =
      ⊎_elim
      (λ t. ap (λ b. crosses (if b then pos x else negsuc (65535 - x)) (pos s)) t.0 ∙ no_up_below x s)
      (λ t. ap (λ b. crosses (if b then pos x else negsuc (65535 - x)) (pos s)) t.0 ∙ no_up_above (65535 - x) s (omega (arith, h)))
      (leb_tells (suc x) 32768)

  ends_up : s < 32768 → 65536 ≤ x + s → crosses (signed x) (pos s) ≡ true
  ends_up low h = ap (λ z. crosses z (pos s)) (signed_large x (omega (arith, low, h))) ∙ neg_pos (65535 - x) s (omega (arith, small, h))

  stays_down : suc s ≤ x → crosses (signed x) (negsuc s) ≡ false
  stays_down h =
      ⊎_elim
      (λ t. ap (λ b. crosses (if b then pos x else negsuc (65535 - x)) (negsuc s)) t.0 ∙ no_down_below x s h)
      (λ t. ap (λ b. crosses (if b then pos x else negsuc (65535 - x)) (negsuc s)) t.0 ∙ no_down_above (65535 - x) s)
      (leb_tells (suc x) 32768)

  ends_down : s < 32768 → x < suc s → crosses (signed x) (negsuc s) ≡ true
  ends_down low h = ap (λ z. crosses z (negsuc s)) (signed_small x (omega (arith, low, h))) ∙ pos_neg x s h

-- ---- all turns

one_times : (n : ℕ) → 1 * n ≡ n
one_times n = omega arith

none_times : (n : ℕ) → 0 * n ≡ 0
none_times n = omega arith

makes_up : (limit s m index : ℕ) → s < 32768 → s ≢ 0 → difference_of index limit + m * s < 65536 → 65536 ≤ difference_of index limit + suc m * s → MakesTurns limit s (suc m) index
makes_up limit s zero index low some h i =
    ap (λ z. crosses (signed (difference_of index limit)) z) (signed_small s low)
    ∙ ends_up (difference_of index limit) s (difference_small index limit) low (let e = one_times s in omega (arith, i, e))
makes_up limit s (suc k) index low some h i =
    let x = difference_of index limit in
    let e : suc k * s ≡ k * s + s = suc-mul k s in
    let f : suc (suc k) * s ≡ suc k * s + s = suc-mul (suc k) s in
    let fits : x + s < 65536 = fit x s (k * s) (suc k * s) e h in
    let next : difference_of (sum_of index s) limit ≡ x + s = moved index limit s ∙ whole x s fits in (
      ap (λ z. crosses (signed x) z) (signed_small s low) ∙ stays_up x s (difference_small index limit) fits,
      makes_up limit s k (sum_of index s) low some (less x s (difference_of (sum_of index s) limit) (k * s) (suc k * s) e next h) (enough x s (difference_of (sum_of index s) limit) (suc k * s) (suc (suc k) * s) f next i),
    )
  where
    fit : (x s m n : ℕ) → n ≡ m + s → x + n < 65536 → x + s < 65536
    fit x s m n e h = omega (arith, e, h)

    whole : (x s : ℕ) → x + s < 65536 → (x + s) % 65536 ≡ x + s
    whole x s h = omega (arith, h)

    less : (x s y m n : ℕ) → n ≡ m + s → y ≡ x + s → x + n < 65536 → y + m < 65536
    less x s y m n e f h = omega (arith, e, f, h)

    enough : (x s y m n : ℕ) → n ≡ m + s → y ≡ x + s → 65536 ≤ x + n → 65536 ≤ y + m
    enough x s y m n e f h = omega (arith, e, f, h)

makes_down : (limit step m index : ℕ) → 32768 ≤ step → step < 65536 → m * (65536 - step) ≤ difference_of index limit → difference_of index limit < suc m * (65536 - step) → MakesTurns limit step (suc m) index
makes_down limit step zero index large small h i =
    ap (λ z. crosses (signed (difference_of index limit)) z) (signed_large step large)
    ∙ ends_down (difference_of index limit) (65535 - step) (difference_small index limit) (omega (arith, large)) (let e = one_times (65536 - step) in omega (arith, i, e))
makes_down limit step (suc k) index large small h i =
    let x = difference_of index limit in
    let e : suc k * (65536 - step) ≡ k * (65536 - step) + (65536 - step) = suc-mul k (65536 - step) in
    let f : suc (suc k) * (65536 - step) ≡ suc k * (65536 - step) + (65536 - step) = suc-mul (suc k) (65536 - step) in
    let next : difference_of (sum_of index step) limit ≡ x - (65536 - step) = moved index limit step ∙ whole x step (k * (65536 - step)) (suc k * (65536 - step)) e (difference_small index limit) small h in (
      ap (λ z. crosses (signed x) z) (signed_large step large) ∙ stays_down x (65535 - step) (difference_small index limit) (over x step (k * (65536 - step)) (suc k * (65536 - step)) e small h),
      makes_down limit step k (sum_of index step) large small (less x step (difference_of (sum_of index step) limit) (k * (65536 - step)) (suc k * (65536 - step)) e next h)
          (enough x step (difference_of (sum_of index step) limit) (k * (65536 - step)) (suc k * (65536 - step)) (suc (suc k) * (65536 - step)) e f next small h i),
    )
  where
    over : (x step m n : ℕ) → n ≡ m + (65536 - step) → step < 65536 → n ≤ x → suc (65535 - step) ≤ x
    over x step m n e small h = omega (arith, e, small, h)

    whole : (x step m n : ℕ) → n ≡ m + (65536 - step) → x < 65536 → step < 65536 → n ≤ x → (x + step) % 65536 ≡ x - (65536 - step)
    whole x step m n e below small h = omega (arith, e, below, small, h)

    less : (x step y m n : ℕ) → n ≡ m + (65536 - step) → y ≡ x - (65536 - step) → n ≤ x → m ≤ y
    less x step y m n e f h = omega (arith, e, f, h)

    enough : (x step y m n o : ℕ) → n ≡ m + (65536 - step) → o ≡ n + (65536 - step) → y ≡ x - (65536 - step) → step < 65536 → n ≤ x → x < o → y < n
    enough x step y m n o e f g small h i = omega (arith, e, f, g, small, h, i)

-- ---- the closed forms

module _ (limit start s : ℕ) (low : s < 32768) (some : s ≢ 0) where
  abbrev quotient : ℕ
  quotient = (distance_up limit start + (s - 1)) / s

  above : (n : ℕ) → n ≡ quotient → distance_up limit start + (s - 1) < s * n + s * 1
  above n is =
      let d : distance_up limit start + (s - 1) < s * (quotient + 1) = lt-mul-div-succ (distance_up limit start + (s - 1)) (omega (arith, some)) in
      let e : s * (quotient + 1) ≡ s * n + s * 1 = mul-add s quotient 1 ∙ ap (λ m. s * m + s * 1) (sym is) in
      below (distance_up limit start + (s - 1)) (s * (quotient + 1)) (s * n + s * 1) d e
    where
      below : (a b c : ℕ) → a < b → b ≡ c → a < c
      below a b c h e = omega (arith, h, e)

  under : (n : ℕ) → n ≡ quotient → s * n ≤ distance_up limit start + (s - 1)
  under n is = subst (λ m. s * m ≤ distance_up limit start + (s - 1)) (sym is) (mul-div-le (distance_up limit start + (s - 1)) s)

  counted_up : (n : ℕ) → n ≡ quotient → MakesTurns limit s n start
  counted_up zero is = absurd (none (difference_of start limit) s (s * 0) (difference_small start limit) (mul_comm s 0 ∙ none_times s) (above 0 is) some)
    where
      none : (x s m : ℕ) → x < 65536 → m ≡ 0 → (65536 - x) + (s - 1) < m + s * 1 → s ≢ 0 → ⊥
      none x s m h e f g = omega (arith, h, e, f, g)
  counted_up (suc m) is =
      let e : s * suc m ≡ suc m * s = mul_comm s (suc m) in
      let f : suc m * s ≡ m * s + s = suc-mul m s in
      makes_up limit s m start low some
      (less (difference_of start limit) s (s * suc m) (suc m * s) (m * s) e f (difference_small start limit) some (under (suc m) is))
      (enough (difference_of start limit) s (s * suc m) (suc m * s) e (above (suc m) is))
    where
      less : (x s a b c : ℕ) → a ≡ b → b ≡ c + s → x < 65536 → s ≢ 0 → a ≤ (65536 - x) + (s - 1) → x + c < 65536
      less x s a b c e f h some g = omega (arith, e, f, h, some, g)

      enough : (x s a b : ℕ) → a ≡ b → (65536 - x) + (s - 1) < a + s * 1 → 65536 ≤ x + b
      enough x s a b e g = omega (arith, e, g)

counted_down : (limit start step n : ℕ) → 32768 ≤ step → step < 65536 → n ≡ turns_down limit start (65536 - step) → MakesTurns limit step n start
counted_down limit start step n large small is =
    let x = difference_of start limit in
    let q = x / (65536 - step) in
    let d : x < (65536 - step) * (q + 1) = lt-mul-div-succ x (omega (arith, small)) in
    let one : q + 1 ≡ suc q = omega arith in
    let e : (65536 - step) * (q + 1) ≡ suc q * (65536 - step) = mul_comm (65536 - step) (q + 1) ∙ ap (λ m. m * (65536 - step)) one in
    subst (λ m. MakesTurns limit step m start) (sym (is ∙ one)) (makes_down limit step q start large small (div-mul-le_self x (65536 - step)) (subst (λ m. x < m) e d))

module _ (limit start step : ℕ) where
  abbrev Counts : ℕ → Option ℕ → Type 0
  Counts n o = o ≡ Some n → MakesTurns limit step n start

  counted : (n : ℕ) → turns limit start step ≡ Some n → MakesTurns limit step n start
  counted n =
      ⊎_elim
      (λ t. subst (λ b. Counts n (if b then None else (if nat_lt step 32768 then Some (turns_up limit start step) else (if nat_lt step 65536 then Some (turns_down limit start (65536 - step)) else None)))) (sym t.0) (λ is. cc (is)))
      (λ t. subst (λ b. Counts n (if b then None else (if nat_lt step 32768 then Some (turns_up limit start step) else (if nat_lt step 65536 then Some (turns_down limit start (65536 - step)) else None)))) (sym t.0)
      (⊎_elim
      (λ u. subst (λ b. Counts n (if b then Some (turns_up limit start step) else (if nat_lt step 65536 then Some (turns_down limit start (65536 - step)) else None))) (sym u.0)
      (λ is. counted_up limit start step u.1 t.1 n (sym (some_same (turns_up limit start step) n is))))
      (λ u. subst (λ b. Counts n (if b then Some (turns_up limit start step) else (if nat_lt step 65536 then Some (turns_down limit start (65536 - step)) else None))) (sym u.0)
      (⊎_elim
      (λ v. subst (λ b. Counts n (if b then Some (turns_down limit start (65536 - step)) else None)) (sym v.0)
      (λ is. counted_down limit start step n (omega (arith, u.1)) v.1 (sym (some_same (turns_down limit start (65536 - step)) n is))))
      (λ v. subst (λ b. Counts n (if b then Some (turns_down limit start (65536 - step)) else None)) (sym v.0) (λ is. cc (is)))
      (leb_tells (suc step) 65536)))
      (leb_tells (suc step) 32768)))
      (eqb_tells step 0)

by_one : (limit start : ℕ) → MakesTurns limit 1 (distance_up limit start) start
by_one limit start =
    let small = difference_small start limit in
    let e : suc (65535 - difference_of start limit) ≡ distance_up limit start = omega (arith, small) in
    subst (λ n. MakesTurns limit 1 n start) e (makes_up limit 1 (65535 - difference_of start limit) start (omega arith) (omega arith) (omega (arith, small)) (omega (arith, small)))

by_none : (limit index : ℕ) → ends_at limit 0 index ≡ false
by_none limit index = stays_up (difference_of index limit) 0 (difference_small index limit) (let small = difference_small index limit in omega (arith, small))

pub turns_counted : TurnsAreCounted
turns_counted = record { by_one = by_one; by_step = counted; by_none = by_none }
