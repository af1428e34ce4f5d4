-- Lists with one thing for each definition.
use Rattle.std.proofs.Common.{◌≡◌, ℕ, zero, suc, ◌<◌, List, [], ◌∷◌, ◌++◌, length, refl, ap, sym, subst, ◌∙◌, arith, append_assoc, length-append}
use Rattle.std.specs.Prelude.{slice_index_or, ◌==◌, true, false}
use Rattle.std.proofs.lemmas.Bool.{eqb-true}
use Rattle.std.proofs.lemmas.Bool.Decides.{nat_tests}
use Rattle.made_sources.specs.MadeProgram.{for_each}

module _ {A : Type 0} (thing : ℕ → A) (none : A) where
  pub as_many : (count : ℕ) → length (for_each thing count) ≡ count
  as_many zero = refl
  as_many (suc count) = let r = as_many count in simp length-append (omega arith)

  at_seam : (front : List A) (x : A) (rest : List A) (i : ℕ) → length front ≡ i → slice_index_or (front ++ x ∷ rest) i none ≡ x
  at_seam [] x rest zero h = refl
  at_seam [] x rest (suc i) h = absurd (omega (arith, h))
  at_seam (y ∷ front) x rest zero h = absurd (omega (arith, h))
  at_seam (y ∷ front) x rest (suc i) h = at_seam front x rest i (omega (arith, h))

  -- what stands behind them
  pub behind_all : (count : ℕ) (x : A) (rest : List A) → slice_index_or (for_each thing count ++ x ∷ rest) count none ≡ x
  behind_all count x rest = at_seam (for_each thing count) x rest count (as_many count)

  pub among_all : (count definition : ℕ) (rest : List A) → definition < count → slice_index_or (for_each thing count ++ rest) definition none ≡ thing definition
  among_all zero definition rest inside = absurd (omega arith)
  among_all (suc count) definition rest inside =
      ap (λ xs. slice_index_or xs definition none) (append_assoc (for_each thing count) (thing count ∷ []) rest)
      ∙ (elim (definition == count) as (λ b. (definition == count) ≡ b → slice_index_or (for_each thing count ++ thing count ∷ rest) definition none ≡ thing definition) [
        | true ↦ λ e. let same : definition ≡ count = eqb-true definition count e in subst (λ d. slice_index_or (for_each thing count ++ thing count ∷ rest) d none ≡ thing d) (sym same) (behind_all count (thing count) rest)
        | false ↦ λ e. among_all count definition (thing count ∷ rest) (grind (arith, nat_tests))
      ] refl)
