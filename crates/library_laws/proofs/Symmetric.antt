-- SM/REM
use Rattle.std.proofs.Common.{◌≡◌, ℕ, Bool, true, false, List, [], ◌∷◌, refl, ap, sym, arith}
use Rattle.std.specs.Prelude.{nat_lt, Some, None, pos, int_lt, unsigned_abs, bit_xor}
use Rattle.cell_math.specs.Cell.{flag, signed, negated, double}
use Rattle.cell_math.specs.Divisions.{Division, unsigned_division}
use Rattle.word_table.specs.declared.word.Word.TheVariants.{SMSlashRem}
use Rattle.forth_program.specs.State.{Cell, State, World, Frame, Outcome}
use Rattle.forth_program.specs.Program.{SourceProgram}
use Rattle.forth_program.specs.Step.{step, before, on_cells}
use Rattle.forth_program.specs.Meaning.{both}
use Rattle.library_laws.proofs.BodySteps.{body_steps, body_spent}
use Rattle.library_laws.specs.Bodies.{body_of_word}
use Rattle.library_laws.specs.Library.{finished, DefinitionDoes}
use Rattle.library_laws.proofs.Comes.{Comes, by_way, by_step, last_step, at_once, renamed, meant_by}
use Rattle.library_laws.proofs.Cells.{by_cases, by_sign, sign_small, sign_large}
use Rattle.library_laws.proofs.Loops.{skip}
use Rattle.library_laws.proofs.Signs.{with_signs, flag_is_sign, xor_is_sign, symmetric_small, symmetric_large}

module _ (p : SourceProgram) (callers : List Frame) (o : World) (n h l : ℕ) (c : List ℕ) where
  abbrev from : ℕ → List ℕ → State
  from k cells = record { work = before (skip k (body_of_word SMSlashRem)) []; entries = Cell h ∷ []; callers = callers; cells = cells; world = o }

  abbrev comes_to : Division → Outcome
  comes_to d = on_cells (both d c o) (finished callers (n ∷ h ∷ l ∷ c) o)

  -- after the division of the sizes: the signs of the dividend and of the quotient
  with_parts : (rs qs : Bool) (q r : ℕ) → flag (int_lt (signed h) (pos 0)) ≡ flag rs → flag (int_lt (signed (bit_xor n h)) (pos 0)) ≡ flag qs →
      Comes p 44 (from 14 (q ∷ r ∷ n ∷ c)) (comes_to (with_signs rs qs (Some (r, q))))
  unfolding step body_steps body_spent
  with_parts false false q r e f = by_way p 3 40 refl (omega arith) (rw e (by_way p 6 30 refl (omega arith) (rw f (by_way p 4 20 refl (omega arith) (by_cases (nat_lt 32767 q)
      (λ t. rw t (at_once p 4 refl (omega arith))) (λ t. rw t (at_once p 1 refl (omega arith))))))))
  with_parts false true q r e f = by_way p 3 40 refl (omega arith) (rw e (by_way p 6 30 refl (omega arith) (rw f (by_way p 4 20 refl (omega arith) (by_cases (nat_lt 32768 q)
      (λ t. rw t (at_once p 4 refl (omega arith))) (λ t. rw t (at_once p 3 refl (omega arith))))))))
  with_parts true false q r e f = by_way p 3 40 refl (omega arith) (rw e (by_way p 7 27 refl (omega arith) (rw f (by_way p 4 20 refl (omega arith) (by_cases (nat_lt 32767 q)
      (λ t. rw t (at_once p 4 refl (omega arith))) (λ t. rw t (at_once p 1 refl (omega arith))))))))
  with_parts true true q r e f = by_way p 3 40 refl (omega arith) (rw e (by_way p 7 27 refl (omega arith) (rw f (by_way p 4 20 refl (omega arith) (by_cases (nat_lt 32768 q)
      (λ t. rw t (at_once p 4 refl (omega arith))) (λ t. rw t (at_once p 3 refl (omega arith))))))))

  -- the division of the sizes
  divided : (rs qs : Bool) (d : Division) (u x y : ℕ) → unsigned_division (double y x) u ≡ d → flag (int_lt (signed h) (pos 0)) ≡ flag rs → flag (int_lt (signed (bit_xor n h)) (pos 0)) ≡ flag qs →
      Comes p 2444 (from 13 (u ∷ x ∷ y ∷ n ∷ c)) (comes_to (with_signs rs qs d))
  unfolding step
  divided rs qs None u x y g e f = last_step p 2400 (ap (λ d. on_cells (both d (n ∷ c) o) (from 14 (u ∷ x ∷ y ∷ n ∷ c))) g) refl (omega arith)
  divided rs qs (Some parts) u x y g e f =
      by_step p 2400 44 (ap (λ d. on_cells (both d (n ∷ c) o) (from 14 (u ∷ x ∷ y ∷ n ∷ c))) g) refl (omega arith) (with_parts rs qs parts.1 parts.0 e f)

pub sm_slash_rem : DefinitionDoes (body_of_word SMSlashRem) SMSlashRem
unfolding step body_steps body_spent
sm_slash_rem p callers (n ∷ h ∷ l ∷ c) w need cells world = meant_by 2500 (omega arith) refl need (by_way p 11 2460 refl (omega arith) (by_sign h
    (λ small. rw (sign_small h small) (by_way p 2 2444 refl (omega arith) (renamed p (ap (comes_to p callers w n h l c) (sym (symmetric_small l h n small cells.0)))
    (divided p callers w n h l c _ _ _ (unsigned_abs (signed n)) h l refl (flag_is_sign h) (xor_is_sign n h cells.0 cells.1.0)))))
    (λ large. rw (sign_large h large) (by_way p 9 2444 refl (omega arith) (renamed p (ap (comes_to p callers w n h l c) (sym (symmetric_large l h n cells.1.1.0 large cells.1.0 cells.0)))
    (divided p callers w n h l c _ _ _ (unsigned_abs (signed n)) _ (negated l) refl (flag_is_sign h) (xor_is_sign n h cells.0 cells.1.0)))))))
sm_slash_rem p callers c w need cells world = let no : ⊥ = omega (arith, need) in absurd no
