-- The loops SKIP and SCAN over the bytes of a text.
use Rattle.std.proofs.Common.{◌≡◌, ℕ, zero, suc, ◌+◌, ◌-◌, ◌*◌, ◌≤◌, ◌<◌, ◌==◌, List, [], ◌∷◌, refl, ap₂, arith}
use Rattle.cell_math.specs.Cell.{sum_of, difference_of}
use Rattle.word_table.specs.declared.word.Word.TheVariants.{CFetch}
use Rattle.forth_program.specs.Tree.{Nodes, While, Then, Empty}
use Rattle.forth_program.specs.State.{World, State, Work, Entry, Frame, WhileTest}
use Rattle.forth_program.specs.Program.{SourceProgram}
use Rattle.forth_program.specs.Step.{before, step}
use Rattle.forth_program.specs.Run.{steps}
use Rattle.forth_program.specs.Price.{spent}
use Rattle.kernel_words.specs.Bodies.{skip_body, scan_body}
use Rattle.kernel_words.specs.Running.{Comes, Returns}
use Rattle.kernel_words.specs.Memory.{IsDataSpace, data_byte, leading_bytes, bytes_before}
use Rattle.kernel_words.proofs.Cases.{by_cases}
use Rattle.kernel_words.proofs.Runs.{by_way, by_word, there, renamed}
use Rattle.kernel_words.proofs.Memory.{reads_byte}

-- the test and the body of the first BEGIN .. WHILE .. REPEAT, and what follows it
abbrev pub test_of : Nodes → Nodes
test_of (Then (While test body) rest) = test
test_of (Then node rest) = test_of rest
test_of Empty = Empty

abbrev pub turn_of : Nodes → Nodes
turn_of (Then (While test body) rest) = body
turn_of (Then node rest) = turn_of rest
turn_of Empty = Empty

abbrev pub past_of : Nodes → Nodes
past_of (Then (While test body) rest) = rest
past_of (Then node rest) = past_of rest
past_of Empty = Empty

-- without the first n items
abbrev pub skip : ℕ → Nodes → Nodes
skip zero nodes = nodes
skip (suc n) Empty = Empty
skip (suc n) (Then node rest) = skip n rest

-- the work where n items of the test are done
abbrev pub in_test : ℕ → Nodes → List Work
in_test n body = before (skip n (test_of body)) (WhileTest (test_of body) (turn_of body) ∷ before (past_of body) [])

pub less_one : (n : ℕ) → suc n < 65536 → difference_of (suc n) 1 ≡ n
less_one n h = omega (arith, h)

pub one_more : (a : ℕ) → a < 65535 → sum_of a 1 ≡ suc a
one_more a h = omega (arith, h)

module _ (p : SourceProgram) (work : List Work) (es : List Entry) (callers : List Frame) (w : World) (h : IsDataSpace w) (c : ℕ) (r : List ℕ) where
  -- the count was copied
  abbrev decides : Nodes → ℕ → ℕ → State
  decides body n a = record { work = in_test 1 body; entries = []; callers = record { work = work; entries = es } ∷ callers; cells = n ∷ n ∷ a ∷ c ∷ r; world = w }

  abbrev leaves : ℕ → ℕ → State
  leaves n a = record { work = work; entries = es; callers = callers; cells = n ∷ a ∷ c ∷ r; world = w }

  skipped : (n a : ℕ) → 8192 ≤ a → a + n ≤ 16384 → Comes p (4 + 15 * n) (5 + 40 * n) (decides skip_body n a) (leaves (n - leading_bytes w c n a) (a + leading_bytes w c n a))
  unfolding step steps spent
  skipped zero a low high = by_way p 4 0 0 refl (omega arith) (omega arith) (renamed p (ap₂ leaves (all 0) (plus a)) (there p))
    where
      plus : (a : ℕ) → a ≡ a + 0
      plus a = omega arith

      all : (n : ℕ) → n ≡ n - 0
      all n = omega arith
  skipped (suc n) a low high = by_way p 3 (16 + 15 * n) (41 + 40 * n) refl (omega arith) (omega arith)
      (by_word p CFetch (15 + 15 * n) (17 + 40 * n) (reads_byte w a (c ∷ a ∷ c ∷ r) h low (omega (arith, high))) refl (omega arith) (omega arith)
      (by_way p 4 (11 + 15 * n) (13 + 40 * n) refl (omega arith) (omega arith) (by_cases (c == data_byte w a)
      (λ e. rw e (by_way p 7 (4 + 15 * n) (5 + 40 * n) refl (omega arith) (omega arith)
      (rw (less_one n (omega (arith, low, high)), one_more a (omega (arith, high))) (renamed p (ap₂ leaves (less n (leading_bytes w c n (suc a))) (plus a (leading_bytes w c n (suc a))))
      (skipped n (suc a) (omega (arith, low)) (omega (arith, high)))))))
      (λ e. rw e (by_way p 2 0 0 refl (omega arith) (omega arith) (renamed p (ap₂ leaves (all (suc n)) (none a)) (there p)))))))
    where
      plus : (a l : ℕ) → suc a + l ≡ a + suc l
      plus a l = omega arith

      less : (n l : ℕ) → n - l ≡ suc n - suc l
      less n l = omega arith

      all : (n : ℕ) → n ≡ n - 0
      all n = omega arith

      none : (a : ℕ) → a ≡ a + 0
      none a = omega arith

  scanned : (n a : ℕ) → 8192 ≤ a → a + n ≤ 16384 → Comes p (4 + 16 * n) (5 + 42 * n) (decides scan_body n a) (leaves (n - bytes_before w c n a) (a + bytes_before w c n a))
  unfolding step steps spent
  scanned zero a low high = by_way p 4 0 0 refl (omega arith) (omega arith) (renamed p (ap₂ leaves (all 0) (plus a)) (there p))
    where
      plus : (a : ℕ) → a ≡ a + 0
      plus a = omega arith

      all : (n : ℕ) → n ≡ n - 0
      all n = omega arith
  scanned (suc n) a low high = by_way p 3 (17 + 16 * n) (43 + 42 * n) refl (omega arith) (omega arith)
      (by_word p CFetch (16 + 16 * n) (19 + 42 * n) (reads_byte w a (c ∷ a ∷ c ∷ r) h low (omega (arith, high))) refl (omega arith) (omega arith)
      (by_way p 5 (11 + 16 * n) (13 + 42 * n) refl (omega arith) (omega arith) (by_cases (c == data_byte w a)
      (λ e. rw e (by_way p 2 0 0 refl (omega arith) (omega arith) (renamed p (ap₂ leaves (all (suc n)) (none a)) (there p))))
      (λ e. rw e (by_way p 7 (4 + 16 * n) (5 + 42 * n) refl (omega arith) (omega arith)
      (rw (less_one n (omega (arith, low, high)), one_more a (omega (arith, high))) (renamed p (ap₂ leaves (less n (bytes_before w c n (suc a))) (plus a (bytes_before w c n (suc a))))
      (scanned n (suc a) (omega (arith, low)) (omega (arith, high))))))))))
    where
      plus : (a l : ℕ) → suc a + l ≡ a + suc l
      plus a l = omega arith

      less : (n l : ℕ) → n - l ≡ suc n - suc l
      less n l = omega arith

      all : (n : ℕ) → n ≡ n - 0
      all n = omega arith

      none : (a : ℕ) → a ≡ a + 0
      none a = omega arith

pub skip_returns : (p : SourceProgram) (c n a : ℕ) (r : List ℕ) (w : World) → IsDataSpace w → 8192 ≤ a → a + n ≤ 16384 →
    Returns p skip_body (5 + 15 * n) (6 + 40 * n) (n ∷ a ∷ c ∷ r) w ((n - leading_bytes w c n a) ∷ (a + leading_bytes w c n a) ∷ c ∷ r) w
unfolding step steps spent
skip_returns p c n a r w h low high work es callers = by_way p 1 (4 + 15 * n) (5 + 40 * n) refl (omega arith) (omega arith) (skipped p work es callers w h c r n a low high)

pub scan_returns : (p : SourceProgram) (c n a : ℕ) (r : List ℕ) (w : World) → IsDataSpace w → 8192 ≤ a → a + n ≤ 16384 →
    Returns p scan_body (5 + 16 * n) (6 + 42 * n) (n ∷ a ∷ c ∷ r) w ((n - bytes_before w c n a) ∷ (a + bytes_before w c n a) ∷ c ∷ r) w
unfolding step steps spent
scan_returns p c n a r w h low high work es callers = by_way p 1 (4 + 16 * n) (5 + 42 * n) refl (omega arith) (omega arith) (scanned p work es callers w h c r n a low high)
