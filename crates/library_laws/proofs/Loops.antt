-- Loops of 16 turns.
use Rattle.std.proofs.Common.{◌≡◌, ℕ, zero, suc, ◌+◌, ◌*◌, ◌^◌, ◌≤◌, ◌<◌, ◌⊎◌, inl, inr, Bool, true, false, List, ◌∷◌, refl, ap, sym, ◌∙◌, subst, arith}
use Rattle.std.specs.Prelude.{if◌then◌else◌, ◌&&◌, not}
use Rattle.cell_math.specs.Cell.{sum_of, difference_of, signed}
use Rattle.forth_program.specs.Tree.{Nodes, If, Do, Until, While, Then, Empty}
use Rattle.forth_program.specs.State.{Entry, Loop, State, Work, WhileTest, Turn, Outcome, Goes}
use Rattle.forth_program.specs.Program.{SourceProgram}
use Rattle.forth_program.specs.Step.{before, crosses, turned, step}
use Rattle.library_laws.proofs.Comes.{Comes, by_step, cheaper}

-- the body of the first loop
abbrev pub loop_of : Nodes → Nodes
loop_of (Then (Do body plus) rest) = body
loop_of (Then node rest) = loop_of rest
loop_of Empty = Empty

-- the test and the body of the first BEGIN .. WHILE .. REPEAT, and what follows it
abbrev pub test_of : Nodes → Nodes
test_of (Then (While test body) rest) = test
test_of (Then node rest) = test_of rest
test_of Empty = Empty

abbrev pub turn_of : Nodes → Nodes
turn_of (Then (While test body) rest) = body
turn_of (Then node rest) = turn_of rest
turn_of Empty = Empty

abbrev pub past_of : Nodes → Nodes
past_of (Then (While test body) rest) = rest
past_of (Then node rest) = past_of rest
past_of Empty = Empty

-- the body of the first BEGIN .. UNTIL
abbrev pub until_of : Nodes → Nodes
until_of (Then (Until body) rest) = body
until_of (Then node rest) = until_of rest
until_of Empty = Empty

-- the branches of the first IF
abbrev pub then_of : Nodes → Nodes
then_of (Then (If first second) rest) = first
then_of (Then node rest) = then_of rest
then_of Empty = Empty

abbrev pub else_of : Nodes → Nodes
else_of (Then (If first second) rest) = second
else_of (Then node rest) = else_of rest
else_of Empty = Empty

-- the work where the test was made
abbrev pub after_test : Nodes → List Work → List Work
after_test nodes after = WhileTest (test_of nodes) (turn_of nodes) ∷ before (past_of nodes) after

-- without the first n items
abbrev pub skip : ℕ → Nodes → Nodes
skip zero nodes = nodes
skip (suc n) Empty = Empty
skip (suc n) (Then node rest) = skip n rest

chosen : {A : Type 0} (b : Bool) (x y : A) → b ≡ false → (if b then x else y) ≡ y
chosen true x y e = let no : ⊥ = cc in absurd no
chosen false x y e = refl

-- whether a test holds of all numbers below n
all_below : ℕ → (ℕ → Bool) → Bool
all_below zero test = true
all_below (suc n) test = test n && all_below n test

both : (a b : Bool) → (a && b) ≡ true → (a ≡ true) × (b ≡ true)
both true b e = (refl, e)
both false b e = let no : ⊥ = cc in absurd no

holds_below : (n i : ℕ) (test : ℕ → Bool) → all_below n test ≡ true → i < n → test i ≡ true
unfolding all_below
holds_below zero i test e h = let no : ⊥ = omega arith in absurd no
holds_below (suc n) i test e h =
    elim (last n i h) as (λ _. test i ≡ true) [ inl less ↦ holds_below n i test (both (test n) (all_below n test) e).1 less | inr same ↦ subst (λ j. test j ≡ true) (sym same) (both (test n) (all_below n test) e).0 ]
  where
    last : (n i : ℕ) → i < suc n → (i < n) ⊎ (i ≡ n)
    last n i h = grind arith

pub turns_on : (i : ℕ) (body : Nodes) (after : List Work) (es : List Entry) (s : State) → i < 15 →
    turned 1 body false after (Loop 16 i ∷ es) s ≡ Goes (record s { work = before body (Turn body false ∷ after); entries = Loop 16 (suc i) ∷ es })
unfolding all_below
turns_on i body after es s h =
    chosen (crosses (signed (difference_of i 16)) (signed 1)) _ _ (stays (crosses (signed (difference_of i 16)) (signed 1)) (holds_below 15 i (λ j. not (crosses (signed (difference_of j 16)) (signed 1))) refl h))
    ∙ ap (λ j. Goes (record s { work = before body (Turn body false ∷ after); entries = Loop 16 j ∷ es })) (next i h)
  where
    stays : (b : Bool) → not b ≡ true → b ≡ false
    stays true e = sym e
    stays false e = refl

    next : (i : ℕ) → i < 15 → sum_of i 1 ≡ suc i
    next i h = omega (arith, h)

-- a loop of 16 turns with nothing else on its work
module _ (p : SourceProgram) (s : State) (body : Nodes) (after : List Work) (es : List Entry) where
  -- at the head of turn i, at its end, and after the loop
  abbrev pub at_head : ℕ → List ℕ → State
  at_head i c = record s { work = before body (Turn body false ∷ after); entries = Loop 16 i ∷ es; cells = c }

  abbrev pub at_turn : ℕ → List ℕ → State
  at_turn i c = record s { work = Turn body false ∷ after; entries = Loop 16 i ∷ es; cells = c }

  abbrev pub past_loop : List ℕ → State
  past_loop c = record s { work = after; entries = es; cells = c }

  next_turn : {i n : ℕ} {c : List ℕ} {o : Outcome} → i < 15 → Comes p n (at_head (suc i) c) o → Comes p (12 + n) (at_turn i c) o
  unfolding step
  next_turn {i = i} {n = n} {c = c} h r = by_step p 12 n (turns_on i body after es (at_turn i c) h) refl (omega arith) r

  last_turn : {n : ℕ} {c : List ℕ} {o : Outcome} → Comes p n (past_loop c) o → Comes p (12 + n) (at_turn 15 c) o
  unfolding step
  last_turn {n = n} r = by_step p 12 n refl refl (omega arith) r

  -- what holds before the first turn, and after each turn if before it, holds after the loop; a turn costs a, and then the loop 12
  module _ (holds : ℕ → List ℕ → Type 0) (a m : ℕ) (o : Outcome)
      (turn : (i n : ℕ) (c : List ℕ) → holds i c → ((c' : List ℕ) → holds (suc i) c' → Comes p n (at_turn i c') o) → Comes p (a + n) (at_head i c) o)
      (rest : (c : List ℕ) → holds 16 c → Comes p m (past_loop c) o) where
    turns_from : (k i : ℕ) (c : List ℕ) → i + k ≡ 15 → holds i c → Comes p ((a + 12) * suc k + m) (at_head i c) o
    turns_from zero i c e h =
        let last : i ≡ 15 = omega (arith, e) in
        subst (λ j. Comes p ((a + 12) * 1 + m) (at_head j c) o) (sym last)
        (cheaper p (a + (12 + m)) (omega arith) (turn 15 (12 + m) c (subst (λ j. holds j c) last h) (λ c' h'. last_turn (rest c' h'))))
    turns_from (suc k) i c e h =
        cheaper p (a + (12 + ((a + 12) * suc k + m))) (price a k m)
        (turn i (12 + ((a + 12) * suc k + m)) c h (λ c' h'. next_turn (omega (arith, e)) (turns_from k (suc i) c' (omega (arith, e)) h')))
      where
        price : (a k m : ℕ) → a + (12 + ((a + 12) * suc k + m)) ≤ (a + 12) * suc (suc k) + m
        price a k m = omega arith

    pub sixteen : (c : List ℕ) → holds 0 c → Comes p ((a + 12) * 16 + m) (at_head 0 c) o
    sixteen c h = turns_from 15 0 c refl h

-- twice the power
pub doubled : (n : ℕ) → 2 * 2 ^ n ≡ 2 ^ suc n
doubled n = omega arith
