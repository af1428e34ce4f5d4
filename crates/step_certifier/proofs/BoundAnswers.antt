-- The answer where no item is refused: by what the items of MAIN cost.
use Rattle.std.proofs.Common.{◌≡◌, ℕ, ◌+◌, Bool, true, false, if◌then◌else◌, List, map, Option, Some, None, refl, sym, ap, ◌∙◌, subst}
use Rattle.std.specs.Prelude.{nat_lt, slice_index_or}
use Rattle.forth_program.specs.Program.{SourceProgram}
use Rattle.step_certifier.specs.declared.bound.BoundCause.TheVariants.{TooLarge}
use Rattle.step_certifier.specs.Capped.{most_steps, capped}
use Rattle.step_certifier.specs.Cost.{costs}
use Rattle.step_certifier.specs.Bound.{bound, refused_item, Bounded, Refused, answer_of, step_bound}
use Rattle.step_certifier.proofs.CappedCosts.{index_capped}

-- steps, or none where there are too many
abbrev pub Steps : SourceProgram → Option ℕ → Type 0
Steps p None = step_bound p ≡ Refused p.main_body TooLarge
Steps p (Some steps) = step_bound p ≡ Bounded steps

pub steps_of : (p : SourceProgram) (table : List ℕ) (d main_cost : ℕ) (o : Option ℕ) → refused_item p ≡ None → table ≡ map capped (costs p.bodies) → d ≡ p.main_body → main_cost ≡ slice_index_or table d 0 →
    ((items : ℕ) → main_cost ≡ capped items → o ≡ (if nat_lt most_steps (8 + (items + 1)) then None else Some (8 + (items + 1)))) → Steps p o
steps_of p table d main_cost o none table_is main_is cost_is steps =
    let e : main_cost ≡ capped (slice_index_or (costs p.bodies) p.main_body 0) =
    cost_is ∙ ap (λ (n : ℕ). slice_index_or table n 0) main_is ∙ ap (λ (t : List ℕ). slice_index_or t p.main_body 0) table_is ∙ index_capped (costs p.bodies) p.main_body in
    of (nat_lt most_steps (bound p)) refl (steps (slice_index_or (costs p.bodies) p.main_body 0) e)
  where
    of : (b : Bool) → nat_lt most_steps (bound p) ≡ b → o ≡ (if nat_lt most_steps (bound p) then None else Some (bound p)) → Steps p o
    of true large is =
        subst (Steps p) (sym (is ∙ ap (λ (b : Bool). if b then None else Some (bound p)) large))
        (ap (answer_of p) none ∙ ap (λ (b : Bool). if b then Refused p.main_body TooLarge else Bounded (bound p)) large)
    of false small is =
        subst (Steps p) (sym (is ∙ ap (λ (b : Bool). if b then None else Some (bound p)) small))
        (ap (answer_of p) none ∙ ap (λ (b : Bool). if b then Refused p.main_body TooLarge else Bounded (bound p)) small)
