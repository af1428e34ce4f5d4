-- K-NUMBER and the words below it: MINUS? and SIGNED.
use Rattle.std.proofs.Common.{◌≡◌, ℕ, zero, suc, ◌+◌, ◌*◌, ◌/◌, ◌%◌, ◌≤◌, ◌<◌, Bool, true, false, ◌&&◌, ◌==◌, Option, Some, None, List, [], ◌∷◌, refl, ap, ap₂, sym, ◌∙◌, subst, arith, le-ltb, lt-ltb, eqb-true}
use Rattle.std.specs.Prelude.{if◌then◌else◌, nat_lt, bit_or}
use Rattle.std.proofs.lemmas.Nat.{le_or_l}
use Rattle.cell_math.specs.Cell.{sum_of, difference_of, flag, negated, low_cell, high_cell}
use Rattle.word_table.specs.declared.word.Word.TheVariants.{CFetch, Count}
use Rattle.forth_program.specs.State.{World, State, Work, Entry, Cell, Frame, Gives, ◌▸◌}
use Rattle.forth_program.specs.Program.{SourceProgram}
use Rattle.forth_program.specs.Access.{fetch_byte}
use Rattle.forth_program.specs.Step.{before, step}
use Rattle.forth_program.specs.Run.{steps}
use Rattle.forth_program.specs.Price.{spent}
use Rattle.kernel_words.specs.Places.{base_cell, digits_place, minus_sign_place, signed_place}
use Rattle.kernel_words.specs.Bodies.{IsKernel, minus_sign_body, signed_body, kernel_number_body}
use Rattle.kernel_words.specs.Running.{Comes, Returns}
use Rattle.kernel_words.specs.Memory.{IsDataSpace, data_cell, data_byte}
use Rattle.kernel_words.specs.Laws.{NumbersAreRead}
use Rattle.kernel_words.proofs.Values.{value_on, natural_at, number_of, number_at, answer_of, number_is_read}
use Rattle.kernel_words.proofs.Cases.{by_cases, by_less}
use Rattle.kernel_words.proofs.Runs.{by_way, by_word, by_call, there, renamed}
use Rattle.kernel_words.proofs.Memory.{reads_byte, byte_fetched, byte_fits}
use Rattle.kernel_words.proofs.Scanning.{less_one, one_more, skip}
use Rattle.kernel_words.proofs.Digits.{digit_code, digit_is, exact, grown, last_value, last_flag, last_none, last_more, flag_none, flag_more, some, flags, digits_returns}

-- ---- the next value is exact where it is a cell
exact_at : (q n : ℕ) → q < 2359297 → n < 65536 → (bit_or (flag (nat_lt (sum_of (low_cell q) n) n)) (high_cell q) == 0) ≡ nat_lt (q + n) 65536
exact_at q n fq fn = by_less (sum_of (low_cell q) n) n
    (λ less. rw (lt-ltb (sum_of (low_cell q) n) n less) (never (bit_or 65535 (high_cell q)) (le_or_l 65535 (high_cell q)) ∙ sym (le-ltb (q + n) 65536 (omega (arith, less, fn)))))
    (λ all. rw (le-ltb (sum_of (low_cell q) n) n all) (by_less q 65536
    (λ small. rw (none q small) (sym (lt-ltb (q + n) 65536 (omega (arith, small, all, fn)))))
    (λ large. never' (high_cell q) (omega (arith, large, fq)) ∙ sym (le-ltb (q + n) 65536 (omega (arith, large))))))
  where
    none : (q : ℕ) → q < 65536 → q / 65536 % 65536 ≡ 0
    none q h = omega (arith, h)

    never' : (x : ℕ) → 1 ≤ x → (x == 0) ≡ false
    never' x h = by_cases (x == 0) (λ e. let z : x ≡ 0 = eqb-true x 0 e in absurd (omega (arith, z, h))) (λ e. e)

    never : (x : ℕ) → 65535 ≤ x → (x == 0) ≡ false
    never x h = never' x (omega (arith, h))

grown_is : (q n : ℕ) → q + n < 65536 → sum_of (low_cell q) n ≡ q + n
grown_is q n h = omega (arith, h)

small_product : (v b : ℕ) → v < 65536 → b ≤ 36 → v * b < 2359297
small_product v b fv fb = let m : v * b ≤ v * 36 = (grind arith) in omega (arith, m, fv)

-- flag and value are those of the digits
abbrev Result : Option ℕ → Bool → ℕ → Type 0
Result None t v = t ≡ false
Result (Some m) t v = (m < 65536 → (t ≡ true) × (v ≡ m)) × (65536 ≤ m → t ≡ false)

abbrev IsLate : Option ℕ → Type 0
IsLate None = Unit {0}
IsLate (Some m) = 65536 ≤ m

late : (o : Option ℕ) (t : Bool) (v : ℕ) → IsLate o → t ≡ false → Result o t v
late None t v h e = e
late (Some m) t v h e = (λ k. absurd (omega (arith, h, k)), λ k. e)

module _ (p : SourceProgram) (w : World) (h : IsDataSpace w) (low_base : 2 ≤ data_cell w base_cell) (high_base : data_cell w base_cell ≤ 36) where
  never : (x y : Bool) → (x && y && false) ≡ false
  never true true = refl
  never true false = refl
  never false y = refl

  final_false : (n a v : ℕ) → last_flag p w h n a v false ≡ false
  final_false zero a v = flag_none p w h a v false
  final_false (suc n) a v = flag_more p w h n a v false
      ∙ ap (last_flag p w h n (suc a) (grown v (data_cell w base_cell) (digit_code (data_byte w a)))) (never (exact v (data_cell w base_cell) (digit_code (data_byte w a)))
      (nat_lt (digit_code (data_byte w a)) (data_cell w base_cell)))
      ∙ final_false n (suc a) (grown v (data_cell w base_cell) (digit_code (data_byte w a)))

  -- the value after a byte with this digit
  abbrev value_by : ℕ → ℕ → ℕ → Option ℕ → Option ℕ
  value_by n a v o = elim o as (λ _. Option ℕ) [ None ↦ None | Some d ↦ value_on w (data_cell w base_cell) n (suc a) (v * data_cell w base_cell + d) ]

  abbrev code_at : ℕ → ℕ
  code_at a = digit_code (data_byte w a)

  stays_late : (n a v : ℕ) → 65536 ≤ v → IsLate (value_on w (data_cell w base_cell) n a v)
  stays_late zero a v f = f
  stays_late (suc n) a v f = subst (λ o. IsLate (value_by n a v o)) (sym (digit_is (data_cell w base_cell) (data_byte w a) (byte_fits w a h))) (by_cases (nat_lt (code_at a) (data_cell w base_cell))
      (λ e. subst (λ t. IsLate (value_by n a v (if t then Some (code_at a) else None))) (sym e) (stays_late n (suc a) (v * data_cell w base_cell + code_at a)
      (let m : v * 1 ≤ v * data_cell w base_cell = product v (data_cell w base_cell) low_base in omega (arith, m, f))))
      (λ e. subst (λ t. IsLate (value_by n a v (if t then Some (code_at a) else None))) (sym e) tt))
    where
      product : (v b : ℕ) → 2 ≤ b → v * 1 ≤ v * b
      product v b f = grind arith

  reads_value : (n a v : ℕ) → v < 65536 → Result (value_on w (data_cell w base_cell) n a v) (last_flag p w h n a v true) (last_value p w h n a v)
  reads_value zero a v f = rw (flag_none p w h a v true, last_none p w h a v) ((λ _. (refl, refl)), λ k. absurd (omega (arith, k, f)))
  reads_value (suc n) a v f = subst (λ o. Result (value_by n a v o) (last_flag p w h (suc n) a v true) (last_value p w h (suc n) a v)) (sym (digit_is (data_cell w base_cell) (data_byte w a) (byte_fits w a h)))
      (rw (flag_more p w h n a v true, last_more p w h n a v)
      (subst (λ x. Result (value_by n a v (if nat_lt (code_at a) (data_cell w base_cell) then Some (code_at a) else None))
      (last_flag p w h n (suc a) (grown v (data_cell w base_cell) (code_at a)) (x && nat_lt (code_at a) (data_cell w base_cell) && true)) (last_value p w h n (suc a) (grown v (data_cell w base_cell) (code_at a))))
      (sym (exact_at (v * data_cell w base_cell) (code_at a) (small_product v (data_cell w base_cell) f high_base) code_small))
      (by_cases (nat_lt (code_at a) (data_cell w base_cell))
      (λ e. subst (λ t. Result (value_by n a v (if t then Some (code_at a) else None)) (last_flag p w h n (suc a) (grown v (data_cell w base_cell) (code_at a))
      (nat_lt (v * data_cell w base_cell + code_at a) 65536 && t && true)) (last_value p w h n (suc a) (grown v (data_cell w base_cell) (code_at a)))) (sym e)
      (by_less (v * data_cell w base_cell + code_at a) 65536
      (λ less. subst (λ t. Result (value_on w (data_cell w base_cell) n (suc a) (v * data_cell w base_cell + code_at a))
      (last_flag p w h n (suc a) (grown v (data_cell w base_cell) (code_at a)) (t && true && true)) (last_value p w h n (suc a) (grown v (data_cell w base_cell) (code_at a))))
      (sym (lt-ltb (v * data_cell w base_cell + code_at a) 65536 less))
      (subst (λ x. Result (value_on w (data_cell w base_cell) n (suc a) (v * data_cell w base_cell + code_at a)) (last_flag p w h n (suc a) x true) (last_value p w h n (suc a) x))
      (sym (grown_is (v * data_cell w base_cell) (code_at a) less)) (reads_value n (suc a) (v * data_cell w base_cell + code_at a) less)))
      (λ all. subst (λ t. Result (value_on w (data_cell w base_cell) n (suc a) (v * data_cell w base_cell + code_at a))
      (last_flag p w h n (suc a) (grown v (data_cell w base_cell) (code_at a)) (t && true && true)) (last_value p w h n (suc a) (grown v (data_cell w base_cell) (code_at a))))
      (sym (le-ltb (v * data_cell w base_cell + code_at a) 65536 all))
      (late _ _ _ (stays_late n (suc a) (v * data_cell w base_cell + code_at a) all) (final_false n (suc a) (grown v (data_cell w base_cell) (code_at a)))))))
      (λ e. subst (λ t. Result (value_by n a v (if t then Some (code_at a) else None)) (last_flag p w h n (suc a) (grown v (data_cell w base_cell) (code_at a))
      (nat_lt (v * data_cell w base_cell + code_at a) 65536 && t && true)) (last_value p w h n (suc a) (grown v (data_cell w base_cell) (code_at a)))) (sym e)
      (not_one (nat_lt (v * data_cell w base_cell + code_at a) 65536))))))
    where
      code_small : digit_code (data_byte w a) < 65536
      code_small = code (data_byte w a)
        where
          code : (x : ℕ) → digit_code x < 65536
          code x = by_cases (nat_lt (difference_of x 48) 10) (λ e. rw e (omega arith)) (λ e. rw e (by_cases (nat_lt
              (difference_of (if nat_lt (difference_of x 97) 26 then difference_of x 32 else x) 65) 26) (λ f. rw f (omega arith)) (λ f. rw f (omega arith))))

      not_one : (x : Bool) → last_flag p w h n (suc a) (grown v (data_cell w base_cell) (digit_code (data_byte w a))) (x && false && true) ≡ false
      not_one true = final_false n (suc a) (grown v (data_cell w base_cell) (digit_code (data_byte w a)))
      not_one false = final_false n (suc a) (grown v (data_cell w base_cell) (digit_code (data_byte w a)))

  natural_result : (n a : ℕ) → Result (natural_at w (data_cell w base_cell) n a) (last_flag p w h n a 0 (some p w h n)) (last_value p w h n a 0)
  natural_result zero a = flag_none p w h a 0 false
  natural_result (suc n) a = reads_value (suc n) a 0 (omega arith)

  -- ---- the sign
  abbrev minus : ℕ → ℕ → Bool
  minus zero a = false
  minus (suc n) a = data_byte w a == 45

  minus_returns : (n a : ℕ) (c : List ℕ) → 8192 ≤ a → a + n ≤ 16384 → Returns p minus_sign_body 6 33 (n ∷ a ∷ c) w (flag (minus n a) ∷ c) w
  unfolding step steps spent
  minus_returns zero a c low high work es callers = by_way p 4 0 0 refl (omega arith) (omega arith) (there p)
  minus_returns (suc n) a c low high work es callers = by_way p 1 5 32 refl (omega arith) (omega arith)
      (by_word p CFetch 4 8 (reads_byte w a c h low (omega (arith, high))) refl (omega arith) (omega arith)
      (by_way p 4 0 0 refl (omega arith) (omega arith) (there p)))

  abbrev signed_flag : Bool → Bool → ℕ → Bool
  signed_flag s t v = if s then (t && nat_lt v 32769) else t

  abbrev signed_value : Bool → ℕ → ℕ
  signed_value s v = if s then negated v else v

  signed_returns : (s t : Bool) (v : ℕ) (c : List ℕ) → Returns p signed_body 9 15 (flag s ∷ flag t ∷ v ∷ c) w (flag (signed_flag s t v) ∷ signed_value s v ∷ c) w
  unfolding step steps spent
  signed_returns true t v c work es callers = by_way p 9 0 0 refl (omega arith) (omega arith)
      (renamed p (ap (λ f. record { work = work; entries = es; callers = callers; cells = f ∷ negated v ∷ c; world = w }) (flags p w h t (nat_lt v 32769))) (there p))
  signed_returns false t v c work es callers = by_way p 2 0 0 refl (omega arith) (omega arith) (there p)

  -- what K-NUMBER leaves by flag and value
  abbrev left_by : Bool → ℕ → ℕ → List ℕ → List ℕ
  left_by true v a c = 65535 ∷ v ∷ c
  left_by false v a c = 0 ∷ a ∷ c

  left_is : (s : Bool) (o : Option ℕ) (t : Bool) (v a : ℕ) (c : List ℕ) → Result o t v → left_by (signed_flag s t v) (signed_value s v) a c ≡ answer_of (number_of s o) a c
  left_is true None t v a c r = ap (λ t. left_by (t && nat_lt v 32769) (negated v) a c) r
  left_is false None t v a c r = ap (λ t. left_by t v a c) r
  left_is false (Some m) t v a c r = by_less m 65536
      (λ less. ap₂ (λ t v. left_by t v a c) (r.0 less).0 (r.0 less).1 ∙ ap (λ b. answer_of (if b then Some m else None) a c) (sym (lt-ltb m 65536 less)))
      (λ all. ap (λ t. left_by t v a c) (r.1 all) ∙ ap (λ b. answer_of (if b then Some m else None) a c) (sym (le-ltb m 65536 all)))
  left_is true (Some m) t v a c r = by_less m 65536
      (λ less. ap₂ (λ t v. left_by (t && nat_lt v 32769) (negated v) a c) (r.0 less).0 (r.0 less).1 ∙ same (nat_lt m 32769))
      (λ all. ap (λ t. left_by (t && nat_lt v 32769) (negated v) a c) (r.1 all) ∙ ap (λ b. answer_of (if b then Some (negated m) else None) a c) (sym (le-ltb m 32769 (omega (arith, all)))))
    where
      same : (b : Bool) → left_by b (negated m) a c ≡ answer_of (if b then Some (negated m) else None) a c
      same true = refl
      same false = refl

  module _ (k : IsKernel p) (work : List Work) (es : List Entry) (callers : List Frame) (a : ℕ) (c : List ℕ) where
    abbrev read : List ℕ → State
    read cells = record { work = work; entries = es; callers = callers; cells = cells; world = w }

    -- where so many items are done
    abbrev reading : ℕ → List Entry → List ℕ → State
    reading n entries cells = record { work = before (skip n kernel_number_body) []; entries = entries; callers = record { work = work; entries = es } ∷ callers; cells = cells; world = w }

    answers : (t : Bool) (v : ℕ) → Comes p 6 8 (reading 10 [] (flag t ∷ v ∷ a ∷ c)) (read (left_by t v a c))
    unfolding step steps spent
    answers true v = by_way p 6 0 0 refl (omega arith) (omega arith) (there p)
    answers false v = by_way p 4 0 0 refl (omega arith) (omega arith) (there p)

    -- m digits from b on, after a sign or none
    after_sign : (s : Bool) (m b : ℕ) → 8192 ≤ b → b + m ≤ 16384 →
        Comes p (28 + 69 * m) (71 + 1250 * m) (reading 7 (Cell (flag s) ∷ []) (m ∷ b ∷ a ∷ c)) (read (answer_of (number_of s (natural_at w (data_cell w base_cell) m b)) a c))
    unfolding step steps spent
    after_sign s m b low high =
        by_call p digits_place (10 + 69 * m) (45 + 1250 * m) 17 25 k.digits (digits_returns p w h k m b (a ∷ c) low high) refl (omega arith) (omega arith)
        (by_way p 1 16 24 refl (omega arith) (omega arith)
        (by_call p signed_place 9 15 6 8 k.signed (signed_returns s (last_flag p w h m b 0 (some p w h m)) (last_value p w h m b 0) (a ∷ c)) refl (omega arith) (omega arith)
        (renamed p (ap read (left_is s (natural_at w (data_cell w base_cell) m b) (last_flag p w h m b 0 (some p w h m)) (last_value p w h m b 0) a c (natural_result m b)))
        (answers (signed_flag s (last_flag p w h m b 0 (some p w h m)) (last_value p w h m b 0)) (signed_value s (last_value p w h m b 0))))))

    abbrev signed_text : ℕ → Bool → Option ℕ
    signed_text m t = if t then number_of true (natural_at w (data_cell w base_cell) m (suc (a + 1))) else number_of false (natural_at w (data_cell w base_cell) (suc m) (a + 1))

    with_sign : (n : ℕ) → 8192 ≤ a → a + 1 + n ≤ 16384 →
        Comes p (33 + 69 * n) (78 + 1250 * n) (reading 6 (Cell (flag (minus n (a + 1))) ∷ []) (flag (minus n (a + 1)) ∷ n ∷ (a + 1) ∷ a ∷ c)) (read (answer_of (number_at w (data_cell w base_cell) n (a + 1)) a c))
    unfolding step steps spent
    with_sign zero low high = by_way p 1 28 71 refl (omega arith) (omega arith) (after_sign false 0 (a + 1) (omega (arith, low)) (omega (arith, high)))
    with_sign (suc m) low high = by_cases (data_byte w (a + 1) == 45)
        (λ e. subst (λ t. Comes p (33 + 69 * suc m) (78 + 1250 * suc m) (reading 6 (Cell (flag t) ∷ []) (flag t ∷ suc m ∷ (a + 1) ∷ a ∷ c)) (read (answer_of (signed_text m t) a c))) (sym e)
        (by_way p 5 (28 + 69 * m) (71 + 1250 * m) refl (omega arith) (omega arith) (rw (less_one m (omega (arith, low, high)), one_more (a + 1) (omega (arith, high)))
        (after_sign true m (suc (a + 1)) (omega (arith, low)) (omega (arith, high))))))
        (λ e. subst (λ t. Comes p (33 + 69 * suc m) (78 + 1250 * suc m) (reading 6 (Cell (flag t) ∷ []) (flag t ∷ suc m ∷ (a + 1) ∷ a ∷ c)) (read (answer_of (signed_text m t) a c))) (sym e)
        (by_way p 1 (28 + 69 * suc m) (71 + 1250 * suc m) refl (omega arith) (omega arith) (after_sign false (suc m) (a + 1) (omega (arith, low)) (omega (arith, high)))))

pub numbers_are_read : NumbersAreRead
unfolding step steps spent
numbers_are_read p a c w k h low_base high_base low high work es callers =
    by_way p 1 (45 + 69 * data_byte w a) (156 + 1250 * data_byte w a) refl (omega arith) (omega arith)
    (by_word p Count (44 + 69 * data_byte w a) (116 + 1250 * data_byte w a) (counted w h) refl (omega arith) (omega arith)
    (by_way p 1 (43 + 69 * data_byte w a) (114 + 1250 * data_byte w a) refl (omega arith) (omega arith)
    (by_call p minus_sign_place 6 33 (35 + 69 * data_byte w a) (80 + 1250 * data_byte w a) k.minus_sign (minus_returns p w h low_base high_base (data_byte w a) (a + 1)
    (data_byte w a ∷ (a + 1) ∷ a ∷ c) (omega (arith, low)) high) refl (omega arith) (omega arith)
    (by_way p 2 (33 + 69 * data_byte w a) (78 + 1250 * data_byte w a) refl (omega arith) (omega arith)
    (renamed p (ap (λ cells. record { work = work; entries = es; callers = callers; cells = cells; world = w }) (number_is_read w (data_cell w base_cell) (data_byte w a) (a + 1) a c low_base high_base))
    (with_sign p w h low_base high_base k work es callers a c (data_byte w a) low high))))))
  where
    counted : (w : World) → IsDataSpace w → (fetch_byte a w ▸ λ x. Gives (x ∷ sum_of a 1 ∷ a ∷ c)) ≡ Gives (data_byte w a ∷ (a + 1) ∷ a ∷ c) w
    counted w h = ap (λ r. r ▸ λ x. Gives (x ∷ sum_of a 1 ∷ a ∷ c)) (byte_fetched w a h low (omega (arith, high))) ∙ ap (λ b. Gives (data_byte w a ∷ b ∷ a ∷ c) w) (next a (omega (arith, high)))
      where
        next : (a : ℕ) → a < 65535 → sum_of a 1 ≡ a + 1
        next a h = omega (arith, h)
