-- The bytes of letters and digits: UPPER, DIGIT, GROW, TAKE-DIGIT and DIGITS.
use Rattle.std.proofs.Common.{◌≡◌, ℕ, zero, suc, ◌+◌, ◌*◌, ◌≤◌, ◌<◌, ◌⊎◌, inl, inr, Bool, true, false, ◌&&◌, ◌==◌, Some, None, List, [], ◌∷◌, refl, ap, sym, ◌∙◌, subst, arith, eqb-true, eq-eqb}
use Rattle.std.specs.Prelude.{if◌then◌else◌, nat_lt, bit_and, bit_or}
use Rattle.cell_math.specs.Cell.{sum_of, difference_of, flag, low_cell, high_cell}
use Rattle.word_table.specs.declared.word.Word.TheVariants.{CFetch, Fetch}
use Rattle.forth_program.specs.State.{World, State, Work, Entry, Frame, Gives, ◌▸◌}
use Rattle.forth_program.specs.Program.{SourceProgram}
use Rattle.forth_program.specs.Access.{fetch}
use Rattle.forth_reader.specs.Number.{digit_value}
use Rattle.std.specs.Char.{to_ascii_lowercase}
use Rattle.forth_program.specs.Step.{step}
use Rattle.forth_program.specs.Run.{steps}
use Rattle.forth_program.specs.Price.{spent}
use Rattle.kernel_words.specs.Places.{base_cell, digit_place, grow_place, take_digit_place, upper_place}
use Rattle.kernel_words.specs.Bodies.{IsKernel, upper_body, digit_body, grow_body, take_digit_body, digits_body}
use Rattle.kernel_words.specs.Running.{Comes, Returns}
use Rattle.kernel_words.specs.Memory.{IsDataSpace, data_cell, data_byte}
use Rattle.kernel_words.proofs.Values.{digit_read}
use Rattle.kernel_words.proofs.Cases.{by_cases, unequal}
use Rattle.kernel_words.proofs.Runs.{by_way, by_word, by_call, there, renamed}
use Rattle.kernel_words.proofs.Memory.{reads, reads_byte}
use Rattle.kernel_words.proofs.Scanning.{less_one, one_more, in_test}

-- ---- bytes
abbrev pub upper : ℕ → ℕ
upper x = if nat_lt (difference_of x 97) 26 then difference_of x 32 else x

abbrev pub digit_code : ℕ → ℕ
digit_code x =
    if nat_lt (difference_of x 48) 10 then difference_of x 48
    else (if nat_lt (difference_of (upper x) 65) 26 then difference_of (upper x) 55 else 36)

-- whether a test holds of all numbers below n
all_below : ℕ → (ℕ → Bool) → Bool
all_below zero test = true
all_below (suc n) test = test n && all_below n test

both : (a b : Bool) → (a && b) ≡ true → (a ≡ true) × (b ≡ true)
both true b e = (refl, e)
both false b e = let no : ⊥ = cc in absurd no

holds_below : (n i : ℕ) (test : ℕ → Bool) → all_below n test ≡ true → i < n → test i ≡ true
unfolding all_below
holds_below zero i test e h = let no : ⊥ = omega arith in absurd no
holds_below (suc n) i test e h =
    elim (last n i h) as (λ _. test i ≡ true) [ inl less ↦ holds_below n i test (both (test n) (all_below n test) e).1 less | inr same ↦ subst (λ j. test j ≡ true) (sym same) (both (test n) (all_below n test) e).0 ]
  where
    last : (n i : ℕ) → i < suc n → (i < n) ⊎ (i ≡ n)
    last n i h = grind arith

-- the digit of a byte, or 36
digit_code_is : (x : ℕ) → x < 256 → digit_code x ≡ digit_value x
unfolding all_below
digit_code_is x h = eqb-true _ _ (holds_below 256 x (λ x. digit_code x == digit_value x) refl h)

pub digit_is : (b x : ℕ) → x < 256 → digit_read b x ≡ (if nat_lt (digit_code x) b then Some (digit_code x) else None)
digit_is b x h = rw (digit_code_is x h) refl

-- UPPER raises letters: bytes that it makes the same differ in case alone
lower_upper : (x : ℕ) → x < 256 → to_ascii_lowercase (upper x) ≡ to_ascii_lowercase x
unfolding all_below
lower_upper x h = eqb-true _ _ (holds_below 256 x (λ x. to_ascii_lowercase (upper x) == to_ascii_lowercase x) refl h)

upper_lower : (x : ℕ) → x < 256 → upper (to_ascii_lowercase x) ≡ upper x
unfolding all_below
upper_lower x h = eqb-true _ _ (holds_below 256 x (λ x. upper (to_ascii_lowercase x) == upper x) refl h)

pub upper_is : (x y : ℕ) → x < 256 → y < 256 → (upper x == upper y) ≡ (to_ascii_lowercase y == to_ascii_lowercase x)
upper_is x y fx fy = by_cases (upper x == upper y)
    (λ e. let same : upper x ≡ upper y = eqb-true _ _ e in e ∙ sym (eq-eqb _ _ (sym (lower_upper y fy) ∙ ap to_ascii_lowercase (sym same) ∙ lower_upper x fx)))
    (λ e. e ∙ sym (unequal _ _ (λ f. let t : (upper x == upper y) ≡ true = eq-eqb _ _ (sym (upper_lower x fx) ∙ ap upper (sym f) ∙ upper_lower y fy) in let no : ⊥ = cc in no)))

module _ (p : SourceProgram) (w : World) where
  pub upper_returns : (x : ℕ) (c : List ℕ) → Returns p upper_body 9 20 (x ∷ c) w (upper x ∷ c) w
  unfolding step steps spent
  upper_returns x c work es callers = by_way p 5 4 8 refl (omega arith) (omega arith) (by_cases (nat_lt (difference_of x 97) 26)
      (λ e. rw e (by_way p 4 0 0 refl (omega arith) (omega arith) (there p)))
      (λ e. rw e (by_way p 2 0 0 refl (omega arith) (omega arith) (there p))))

  pub digit_returns : IsKernel p → (x : ℕ) (c : List ℕ) → Returns p digit_body 30 60 (x ∷ c) w (digit_code x ∷ c) w
  unfolding step steps spent
  digit_returns k x c work es callers = by_way p 5 25 50 refl (omega arith) (omega arith) (by_cases (nat_lt (difference_of x 48) 10)
      (λ e. rw e (by_way p 4 0 0 refl (omega arith) (omega arith) (there p)))
      (λ e. rw e (by_way p 1 24 49 refl (omega arith) (omega arith)
      (by_call p upper_place 9 20 13 25 k.upper (upper_returns x c) refl (omega arith) (omega arith)
      (by_way p 5 8 15 refl (omega arith) (omega arith) (by_cases (nat_lt (difference_of (upper x) 65) 26)
      (λ f. rw f (by_way p 4 0 0 refl (omega arith) (omega arith) (there p)))
      (λ f. rw f (by_way p 4 0 0 refl (omega arith) (omega arith) (there p)))))))))

-- BASE
reads_base : (w : World) (c : List ℕ) → IsDataSpace w → (fetch w.data_start w ▸ λ x. Gives (x ∷ c)) ≡ Gives (data_cell w base_cell ∷ c) w
reads_base w c h = ap (λ d. fetch d w ▸ λ x. Gives (x ∷ c)) h.start ∙ reads w base_cell c h (omega arith) (omega arith)

-- the next value modulo 65536, and whether it is that of the digits
abbrev pub exact : ℕ → ℕ → ℕ → Bool
exact v b n = bit_or (flag (nat_lt (sum_of (low_cell (v * b)) n) n)) (high_cell (v * b)) == 0

abbrev pub grown : ℕ → ℕ → ℕ → ℕ
grown v b n = sum_of (low_cell (v * b)) n

module _ (p : SourceProgram) (w : World) (h : IsDataSpace w) where
  pub grow_returns : (v n : ℕ) (c : List ℕ) → Returns p grow_body 14 1120 (n ∷ v ∷ c) w (flag (exact v (data_cell w base_cell) n) ∷ grown v (data_cell w base_cell) n ∷ c) w
  unfolding step steps spent
  grow_returns v n c work es callers = by_way p 2 12 1118 refl (omega arith) (omega arith)
      (by_word p Fetch 11 1117 (reads_base w (v ∷ n ∷ c) h) refl (omega arith) (omega arith)
      (by_way p 11 0 0 refl (omega arith) (omega arith) (there p)))

  pub flags : (x y : Bool) → bit_and (flag x) (flag y) ≡ flag (x && y)
  flags true true = refl
  flags true false = refl
  flags false true = refl
  flags false false = refl

  abbrev pub next_flag : Bool → ℕ → ℕ → Bool
  next_flag t v n = exact v (data_cell w base_cell) n && nat_lt n (data_cell w base_cell) && t

  pub take_digit_returns : IsKernel p → (t : Bool) (v x : ℕ) (c : List ℕ) → Returns p take_digit_body 57 1210 (x ∷ v ∷ flag t ∷ c) w (grown v (data_cell w base_cell) (digit_code x) ∷ flag (next_flag t v (digit_code x)) ∷ c) w
  unfolding step steps spent
  take_digit_returns k t v x c work es callers =
      by_call p digit_place 30 60 26 1149 k.digit (digit_returns p w k x (v ∷ flag t ∷ c)) refl (omega arith) (omega arith)
      (by_way p 2 24 1147 refl (omega arith) (omega arith)
      (by_word p Fetch 23 1146 (reads_base w (digit_code x ∷ digit_code x ∷ v ∷ flag t ∷ c) h) refl (omega arith) (omega arith)
      (by_way p 2 21 1143 refl (omega arith) (omega arith)
      (by_call p grow_place 14 1120 6 20 k.grow (grow_returns v (digit_code x) (flag t ∷ c)) refl (omega arith) (omega arith)
      (by_way p 6 0 0 refl (omega arith) (omega arith)
      (renamed p (ap (λ f. record { work = work; entries = es; callers = callers; cells = grown v (data_cell w base_cell) (digit_code x) ∷ f ∷ c; world = w })
      (ap (λ z. bit_and z (flag t)) (flags (exact v (data_cell w base_cell) (digit_code x)) (nat_lt (digit_code x) (data_cell w base_cell)))
      ∙ flags (exact v (data_cell w base_cell) (digit_code x) && nat_lt (digit_code x) (data_cell w base_cell)) t
      ∙ ap flag (together (exact v (data_cell w base_cell) (digit_code x)) (nat_lt (digit_code x) (data_cell w base_cell)) t))) (there p)))))))
    where
      together : (x y z : Bool) → ((x && y) && z) ≡ (x && y && z)
      together true y z = refl
      together false y z = refl

  -- what the digits leave
  pub last_value : ℕ → ℕ → ℕ → ℕ
  last_value zero a v = v
  last_value (suc n) a v = last_value n (suc a) (grown v (data_cell w base_cell) (digit_code (data_byte w a)))

  pub last_flag : ℕ → ℕ → ℕ → Bool → Bool
  last_flag zero a v t = t
  last_flag (suc n) a v t = last_flag n (suc a) (grown v (data_cell w base_cell) (digit_code (data_byte w a))) (next_flag t v (digit_code (data_byte w a)))

  pub last_none : (a v : ℕ) → last_value 0 a v ≡ v
  unfolding last_value
  last_none a v = refl

  pub last_more : (n a v : ℕ) → last_value (suc n) a v ≡ last_value n (suc a) (grown v (data_cell w base_cell) (digit_code (data_byte w a)))
  unfolding last_value
  last_more n a v = refl

  pub flag_none : (a v : ℕ) (t : Bool) → last_flag 0 a v t ≡ t
  unfolding last_flag
  flag_none a v t = refl

  pub flag_more : (n a v : ℕ) (t : Bool) → last_flag (suc n) a v t ≡ last_flag n (suc a) (grown v (data_cell w base_cell) (digit_code (data_byte w a))) (next_flag t v (digit_code (data_byte w a)))
  unfolding last_flag
  flag_more n a v t = refl

  module _ (k : IsKernel p) (work : List Work) (es : List Entry) (callers : List Frame) (c : List ℕ) where
    abbrev counts : ℕ → ℕ → ℕ → Bool → State
    counts n a v t = record { work = in_test 1 digits_body; entries = []; callers = record { work = work; entries = es } ∷ callers; cells = n ∷ n ∷ a ∷ v ∷ flag t ∷ c; world = w }

    turns : (n a v : ℕ) (t : Bool) → 8192 ≤ a → a + n ≤ 16384 →
        Comes p (4 + 69 * n) (5 + 1250 * n) (counts n a v t) (record { work = work; entries = es; callers = callers; cells = flag (last_flag n a v t) ∷ last_value n a v ∷ c; world = w })
    unfolding step steps spent last_value last_flag
    turns zero a v t low high = by_way p 4 0 0 refl (omega arith) (omega arith) (there p)
    turns (suc n) a v t low high =
        by_way p 4 (69 + 69 * n) (1251 + 1250 * n) refl (omega arith) (omega arith)
        (by_word p CFetch (68 + 69 * n) (1227 + 1250 * n) (reads_byte w a (v ∷ flag t ∷ c) h low (omega (arith, high))) refl (omega arith) (omega arith)
        (by_call p take_digit_place 57 1210 (10 + 69 * n) (14 + 1250 * n) k.take_digit (take_digit_returns k t v (data_byte w a) c) refl (omega arith) (omega arith)
        (by_way p 6 (4 + 69 * n) (5 + 1250 * n) refl (omega arith) (omega arith)
        (rw (less_one n (omega (arith, low, high)), one_more a (omega (arith, high)))
        (turns n (suc a) (grown v (data_cell w base_cell) (digit_code (data_byte w a))) (next_flag t v (digit_code (data_byte w a))) (omega (arith, low)) (omega (arith, high)))))))

  abbrev pub some : ℕ → Bool
  some zero = false
  some (suc n) = true

  pub digits_returns : IsKernel p → (n a : ℕ) (c : List ℕ) → 8192 ≤ a → a + n ≤ 16384 →
      Returns p digits_body (10 + 69 * n) (45 + 1250 * n) (n ∷ a ∷ c) w (flag (last_flag n a 0 (some n)) ∷ last_value n a 0 ∷ c) w
  unfolding step steps spent
  digits_returns k zero a c low high work es callers = by_way p 6 4 5 refl (omega arith) (omega arith) (turns k work es callers c 0 a 0 false low high)
  digits_returns k (suc n) a c low high work es callers = by_way p 6 (4 + 69 * suc n) (5 + 1250 * suc n) refl (omega arith) (omega arith)
      (rw (unequal (suc n) 0 (λ e. omega (arith, e))) (turns k work es callers c (suc n) a 0 true low high))
