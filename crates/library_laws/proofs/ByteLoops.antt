-- TYPE SPACES FILL MOVE
use Rattle.std.proofs.Common.{◌≡◌, ℕ, zero, suc, ◌+◌, ◌*◌, ◌<◌, true, List, [], ◌∷◌, refl, ap, sym, ◌∙◌, arith, lt-ltb}
use Rattle.std.specs.Prelude.{nat_lt, int_lt}
use Rattle.cell_math.specs.Cell.{flag, sum_of, difference_of, signed}
use Rattle.word_table.specs.declared.word.Word.TheVariants.{TypeOut, Spaces, Fill, Move}
use Rattle.forth_program.specs.State.{Entry, Cell, State, World, Frame, Work, TrueEnd, Gives, ◌▸◌, Outcome, Reply}
use Rattle.forth_program.specs.Program.{SourceProgram}
use Rattle.forth_program.specs.Step.{step, before, on_cells}
use Rattle.library_laws.proofs.BodySteps.{body_steps, body_spent}
use Rattle.forth_program.specs.Access.{emit, fetch_byte, store_byte}
use Rattle.forth_program.specs.ByteWords.{type_out, emit_spaces, positive, fill, copy_byte, move_up, move_down}
use Rattle.library_laws.specs.Bodies.{body_of_word}
use Rattle.forth_program.specs.Cells.{IsWorld}
use Rattle.library_laws.specs.Library.{finished, TypeIsCheap, DefinitionDoes}
use Rattle.library_laws.proofs.Cells.{by_sign, by_cases, signed_small, signed_large}
use Rattle.library_laws.proofs.Comes.{Comes, by_way, by_reply, at_once, renamed, meant_by}
use Rattle.library_laws.proofs.Replies.{GivesCell, GivesNothing, regrouped, store_gives, fetch_byte_gives, store_byte_gives}
use Rattle.library_laws.proofs.Loops.{after_test, then_of, else_of, skip}

-- one less
pub less_one : (n : ℕ) → suc n < 65536 → difference_of (suc n) 1 ≡ n
less_one n h = omega (arith, h)

module _ (p : SourceProgram) (callers : List Frame) (c' : List ℕ) (w' : World) where
  abbrev state_of : List Work → List Entry → List ℕ → World → State
  state_of work es c w = record { work = work; entries = es; callers = callers; cells = c; world = w }

  -- what is still done before these cells are left
  abbrev leaves : Reply (Unit {0}) → List ℕ → Outcome
  leaves r c = on_cells (r ▸ λ _. Gives c) (finished callers c' w')

  -- one thing, and then the rest
  regroup : {A : Type 0} {n : ℕ} {s : State} (r : Reply A) (f : A → World → Reply (Unit {0})) (c : List ℕ) → Comes p n s (on_cells (r ▸ λ x w. (f x w ▸ λ _. Gives c)) (finished callers c' w')) → Comes p n s (leaves (r ▸ f) c)
  regroup r f c h = renamed p (ap (λ r. on_cells r (finished callers c' w')) (sym (regrouped r f (λ _. Gives c)))) h

  typed : (n a : ℕ) (c : List ℕ) (w : World) → n < 65536 → IsWorld w → Comes p (3 + 49 * n) (state_of (after_test (body_of_word TypeOut) []) [] (n ∷ n ∷ a ∷ c) w) (leaves (type_out n a w) c)
  unfolding step body_steps body_spent
  typed zero a c w fn h = at_once p 2 refl (omega arith)
  typed (suc n) a c w fn h = by_way p 2 (50 + 49 * n) refl (omega arith)
      (regroup (fetch_byte a w) (λ x w. emit x w ▸ λ _. type_out n (sum_of a 1)) c
      (by_reply p _ _ _ (fetch_byte a w) (GivesCell w) 40 (10 + 49 * n) (fetch_byte_gives w h a) refl refl (omega arith) (λ x w k.
      by_way p 5 (3 + 49 * n) refl (omega arith) (rw (less_one n fn) (typed n (sum_of a 1) c _ (omega (arith, fn)) (store_gives w k.1.world 16384 x k.0).world)))))

  filled : (n a x : ℕ) (c : List ℕ) (w : World) → n < 65536 → IsWorld w → Comes p (5 + 58 * n) (state_of (after_test (body_of_word Fill) []) (Cell x ∷ []) (n ∷ n ∷ a ∷ c) w) (leaves (fill n a x w) c)
  unfolding step body_steps body_spent
  filled zero a x c w fn h = at_once p 4 refl (omega arith)
  filled (suc n) a x c w fn h = by_way p 4 (59 + 58 * n) refl (omega arith)
      (regroup (store_byte a x w) (λ _. fill n (sum_of a 1) x) c
      (by_reply p _ _ _ (store_byte a x w) (GivesNothing w) 48 (11 + 58 * n) (store_byte_gives w h a x) refl refl (omega arith) (λ u w k.
      by_way p 5 (5 + 58 * n) refl (omega arith) (rw (less_one n fn) (filled n (sum_of a 1) x c w (omega (arith, fn)) k.world)))))

  spaced : (n : ℕ) (c : List ℕ) (w : World) → n < 32768 → Comes p (2 + 12 * n) (state_of (after_test (body_of_word Spaces) []) [] (flag (int_lt (signed 0) (signed n)) ∷ n ∷ c) w) (leaves (emit_spaces n w) c)
  unfolding step body_steps body_spent
  spaced zero c w fn = at_once p 2 refl (omega arith)
  spaced (suc n) c w fn = rw (above_zero n fn) (by_way p 7 (2 + 12 * n) refl (omega arith) (rw (less_one n (omega (arith, fn))) (spaced n c _ (omega (arith, fn)))))
    where
      above_zero : (n : ℕ) → suc n < 32768 → int_lt (signed 0) (signed (suc n)) ≡ true
      above_zero n h = rw (signed_small (suc n) h) (lt-ltb 0 (suc n) (omega arith))

  abbrev past : List Work
  past = before (skip 6 (body_of_word Move)) []

  moved_down : (n a b : ℕ) (c : List ℕ) (w : World) → n < 65536 → IsWorld w → Comes p (5 + 84 * n) (state_of (after_test (then_of (body_of_word Move)) (TrueEnd ∷ past)) [] (n ∷ n ∷ b ∷ a ∷ c) w) (leaves (move_down n a b w) c)
  unfolding step body_steps body_spent
  moved_down zero a b c w fn h = at_once p 4 refl (omega arith)
  moved_down (suc n) a b c w fn h = by_way p 6 (83 + 84 * n) refl (omega arith) (rw (less_one n fn)
      (renamed p
      (ap (λ r. on_cells r (finished callers c' w'))
      (sym
      (regrouped (copy_byte (sum_of a n) (sum_of b n) w) (λ _. move_down n a b) (λ _. Gives c)
      ∙ regrouped (fetch_byte (sum_of a n) w) (λ x. store_byte (sum_of b n) x) (λ _ w. move_down n a b w ▸ λ _. Gives c))))
      (by_reply p _ _ _ (fetch_byte (sum_of a n) w) (GivesCell w) 24 (59 + 84 * n) (fetch_byte_gives w h (sum_of a n)) refl refl (omega arith) (λ x w k. by_way p 3 (56 + 84 * n) refl (omega arith)
      (by_reply p _ _ _ (store_byte (sum_of b n) x w) (GivesNothing w) 48 (8 + 84 * n) (store_byte_gives w k.1.world (sum_of b n) x) refl refl (omega arith) (λ u w k. by_way p 3 (5 + 84 * n) refl (omega arith)
      (moved_down n a b c w (omega (arith, fn)) k.world)))))))

  moved_up : (n a b : ℕ) (c : List ℕ) (w : World) → n < 65536 → IsWorld w → Comes p (4 + 86 * n) (state_of (after_test (else_of (body_of_word Move)) past) [] (n ∷ n ∷ b ∷ a ∷ c) w) (leaves (move_up n a b w) c)
  unfolding step body_steps body_spent
  moved_up zero a b c w fn h = at_once p 3 refl (omega arith)
  moved_up (suc n) a b c w fn h = by_way p 3 (87 + 86 * n) refl (omega arith)
      (renamed p
      (ap (λ r. on_cells r (finished callers c' w'))
      (sym
      (regrouped (copy_byte a b w) (λ _. move_up n (sum_of a 1) (sum_of b 1)) (λ _. Gives c)
      ∙ regrouped (fetch_byte a w) (λ x. store_byte b x) (λ _ w. move_up n (sum_of a 1) (sum_of b 1) w ▸ λ _. Gives c))))
      (by_reply p _ _ _ (fetch_byte a w) (GivesCell w) 24 (63 + 86 * n) (fetch_byte_gives w h a) refl refl (omega arith) (λ x w k. by_way p 1 (62 + 86 * n) refl (omega arith)
      (by_reply p _ _ _ (store_byte b x w) (GivesNothing w) 48 (14 + 86 * n) (store_byte_gives w k.1.world b x) refl refl (omega arith) (λ u w k. by_way p 8 (4 + 86 * n) refl (omega arith)
      (rw (less_one n fn) (moved_up n (sum_of a 1) (sum_of b 1) c w (omega (arith, fn)) k.world)))))))

pub type_out_comes : DefinitionDoes (body_of_word TypeOut) TypeOut
unfolding step body_steps body_spent
type_out_comes p callers (u ∷ a ∷ c) w need cells world = meant_by (4 + 49 * u) (omega arith) refl need (by_way p 1 (3 + 49 * u) refl (omega arith) (typed p callers _ _ u a c w cells.0 world))
type_out_comes p callers c w need cells world = let no : ⊥ = omega (arith, need) in absurd no

pub fill_comes : DefinitionDoes (body_of_word Fill) Fill
unfolding step body_steps body_spent
fill_comes p callers (x ∷ u ∷ a ∷ c) w need cells world = meant_by (7 + 58 * u) (omega arith) refl need (by_way p 2 (5 + 58 * u) refl (omega arith) (filled p callers _ _ u a x c w cells.1.0 world))
fill_comes p callers c w need cells world = let no : ⊥ = omega (arith, need) in absurd no

pub spaces_comes : DefinitionDoes (body_of_word Spaces) Spaces
unfolding step body_steps body_spent
spaces_comes p callers (n ∷ c) w need cells world = by_sign n
    (λ small. meant_by (7 + 12 * n) (rw (signed_small n small) (omega arith)) refl need (by_way p 3 (2 + 12 * n) refl (omega arith)
    (renamed p (ap (λ m. leaves p callers (n ∷ c) w (emit_spaces (positive m) w) c) (sym (signed_small n small))) (spaced p callers _ _ n c w small))))
    (λ large. meant_by 7 (rw (signed_large n large) (omega arith)) refl need (by_way p 3 2 refl (omega arith)
    (rw (signed_large n large) (at_once p 2 refl (omega arith)))))
spaces_comes p callers [] w need cells world = let no : ⊥ = omega (arith, need) in absurd no

pub move_comes : DefinitionDoes (body_of_word Move) Move
unfolding step body_steps body_spent
move_comes p callers (u ∷ b ∷ a ∷ c) w need cells world = meant_by (13 + 86 * u) (omega arith) refl need (by_way p 5 (7 + 86 * u) refl (omega arith) (by_cases (nat_lt a b)
    (λ e. rw e (by_way p 2 (5 + 84 * u) refl (omega arith) (moved_down p callers _ _ u a b c w cells.0 world)))
    (λ e. rw e (by_way p 2 (4 + 86 * u) refl (omega arith) (moved_up p callers _ _ u a b c w cells.0 world)))))
move_comes p callers c w need cells world = let no : ⊥ = omega (arith, need) in absurd no

pub type_is_cheap : TypeIsCheap
unfolding step body_steps body_spent
type_is_cheap p callers u a c w cells world = meant_by (4 + 49 * u) (omega arith) refl (omega arith) (by_way p 1 (3 + 49 * u) refl (omega arith) (typed p callers _ _ u a c w cells.0 world))
