-- ACCEPT
use Rattle.std.proofs.Common.{◌≡◌, ℕ, zero, suc, ◌+◌, ◌*◌, ◌%◌, ◌<◌, true, false, ◌==◌, List, [], ◌∷◌, refl, ap, sym, arith}
use Rattle.cell_math.specs.Cell.{sum_of, difference_of}
use Rattle.word_table.specs.declared.word.Word.TheVariants.{Accept}
use Rattle.forth_program.specs.State.{Cell, State, World, Frame, Gives, ◌▸◌, Goes, Outcome, Reply}
use Rattle.forth_program.specs.Program.{SourceProgram}
use Rattle.forth_program.specs.Step.{step, on_cells}
use Rattle.forth_program.specs.Access.{take_key, store_byte}
use Rattle.forth_program.specs.ByteWords.{accept, accept_begins, begun_by}
use Rattle.library_laws.specs.Bodies.{body_of_word}
use Rattle.forth_program.specs.Cells.{IsWorld}
use Rattle.library_laws.specs.Library.{finished, DefinitionDoes}
use Rattle.library_laws.proofs.BodySteps.{body_steps, body_spent}
use Rattle.library_laws.proofs.Cells.{by_cases}
use Rattle.library_laws.proofs.Comes.{Comes, by_way, by_begun, at_once, renamed, meant_by}
use Rattle.library_laws.proofs.Replies.{GivesCell, GivesNothing, regrouped, fetch_gives, store_byte_gives}
use Rattle.library_laws.proofs.Loops.{after_test}
use Rattle.library_laws.proofs.ByteLoops.{less_one}

module _ (p : SourceProgram) (callers : List Frame) (c : List ℕ) (c' : List ℕ) (w' : World) (a0 : ℕ) (fa : a0 < 65536) where
  abbrev at_test : ℕ → ℕ → World → State
  at_test n a w = record { work = after_test (body_of_word Accept) []; entries = Cell a0 ∷ []; callers = callers; cells = n ∷ n ∷ a ∷ c; world = w }

  abbrev leaves : Reply ℕ → Outcome
  leaves r = on_cells (r ▸ λ n. Gives (n ∷ c)) (finished callers c' w')

  -- after a byte
  abbrev begins_on : ℕ → ℕ → ℕ → World → ℕ
  begins_on n a x w = elim (x == 10) [ true ↦ 0 | false ↦ begun_by (store_byte a x w) (λ _. accept_begins n (sum_of a 1)) ]

  abbrev accept_on : ℕ → ℕ → ℕ → ℕ → World → Reply ℕ
  accept_on n a kept x w = elim (x == 10) [ true ↦ Gives kept w | false ↦ store_byte a x w ▸ λ _. accept n (sum_of a 1) (kept + 1) ]

  -- a is the address after those that were kept
  counted : (kept a : ℕ) → kept < 65536 → a ≡ (a0 + kept) % 65536 → difference_of a a0 ≡ kept
  counted kept a h e = omega (arith, h, fa, e)

  accepted : (n kept a : ℕ) (w : World) → a ≡ (a0 + kept) % 65536 → kept + n < 65536 → IsWorld w → Comes p (7 + 68 * accept_begins n a w) (at_test n a w) (leaves (accept n a kept w))
  unfolding step body_steps body_spent
  accepted zero kept a w e fn h = at_once p 4 (ap (λ z. Goes (finished callers (z ∷ c) w)) (counted kept a (omega (arith, fn)) e)) (omega arith)
  accepted (suc n) kept a w e fn h = by_way p 1 (74 + 68 * begun_by (take_key w) (begins_on n a)) refl (omega arith)
      (renamed p (ap (λ r. on_cells r (finished callers c' w')) (sym (regrouped (take_key w) (accept_on n a kept) (λ n. Gives (n ∷ c)))))
      (by_begun p _ _ _ (take_key w) (GivesCell w) (begins_on n a) 2 72 68 (fetch_gives w h 0x4002) refl refl (omega arith) (λ x w k.
      by_way p 3 (68 + 68 * begins_on n a x w) refl (omega arith) (by_cases (x == 10)
      (λ t. rw (t, begins_on, accept_on) (at_once p 10 (ap (λ z. Goes (finished callers (z ∷ c) w)) (counted kept a (omega (arith, fn)) e)) (omega arith)))
      (λ t. rw (t, begins_on, accept_on) (by_way p 4 (61 + 68 * begun_by (store_byte a x w) (λ _. accept_begins n (sum_of a 1))) refl (omega arith)
      (renamed p (ap (λ r. on_cells r (finished callers c' w')) (sym (regrouped (store_byte a x w) (λ _. accept n (sum_of a 1) (kept + 1)) (λ n. Gives (n ∷ c)))))
      (by_begun p _ _ _ (store_byte a x w) (GivesNothing w) (λ _. accept_begins n (sum_of a 1)) 48 13 68 (store_byte_gives w k.1.world a x) refl refl (omega arith) (λ u w k.
      by_way p 5 (7 + 68 * accept_begins n (sum_of a 1) w) refl (omega arith)
      (rw (less_one n (omega (arith, fn))) (accepted n (kept + 1) (sum_of a 1) w (omega (arith, e, fn, fa)) (omega (arith, fn)) k.world)))))))))))

pub accept_comes : DefinitionDoes (body_of_word Accept) Accept
unfolding step body_steps body_spent
accept_comes p callers (u ∷ a ∷ c) w need cells world = meant_by (10 + 68 * accept_begins u a w) (omega arith) refl need (by_way p 3 (7 + 68 * accept_begins u a w) refl (omega arith)
    (accepted p callers c _ _ a cells.1.0 u 0 a w (let f = cells.1.0 in omega (arith, f)) (let f = cells.0 in omega (arith, f)) world))
accept_comes p callers c w need cells world = let no : ⊥ = omega (arith, need) in absurd no
