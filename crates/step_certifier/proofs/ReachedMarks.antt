-- Marks of the definitions that are reached, and the first refusal among these.
use Rattle.std.proofs.Common.{◌≡◌, ℕ, suc, ◌+◌, ◌-◌, ◌<◌, ◌≤◌, ◌||◌, ◌&&◌, Bool, true, false, if◌then◌else◌, List, length, drop, Option, None, refl, sym, ap, ◌∙◌, subst, arith, drop-cons}
use Rattle.std.specs.Prelude.{slice_index_or}
use Rattle.forth_program.specs.Tree.{Nodes, Empty}
use Rattle.step_certifier.specs.declared.bound.BoundCause.{BoundCause}
use Rattle.step_certifier.specs.Cost.{Other}
use Rattle.step_certifier.specs.Refusal.{refusal, calls, reaches, refusal_in, first_refusal}

or_false : (a b : Bool) → (a || (false && b)) ≡ a
or_false true b = refl
or_false false b = refl

-- one definition more, before those that were gone through
one_more : (main : ℕ) (bodies : List Nodes) (e k : ℕ) → e < length bodies →
    reaches main e (drop e bodies) k ≡ (reaches main (suc e) (drop (suc e) bodies) k || (reaches main (suc e) (drop (suc e) bodies) e && calls k (slice_index_or bodies e Empty)))
one_more main bodies e k below = ap (λ (bs : List Nodes). reaches main e bs k) (drop-cons bodies e Empty below)

module _ (main : ℕ) (bodies : List Nodes) where
  abbrev Reached : ℕ → List Bool → Type 0
  Reached d marks = (k : ℕ) → k < length bodies → slice_index_or marks k false ≡ reaches main d (drop d bodies) k

  called : (e d : ℕ) (body : Nodes) (old new : List Bool) → suc e ≡ d → d ≤ length bodies → Reached d old → slice_index_or old e false ≡ true → length old ≡ length bodies →
      ((k : ℕ) → k < length old → slice_index_or new k false ≡ (slice_index_or old k false || calls k body)) → body ≡ slice_index_or bodies e Empty → Reached e new
  called e d body old new is within each marked size adds body_is = λ k below.
      let here : e < length bodies = omega (arith, is, within) in
      let reached : (k : ℕ) → k < length bodies → slice_index_or old k false ≡ reaches main (suc e) (drop (suc e) bodies) k = subst (λ (n : ℕ). Reached n old) (sym is) each in
      let on : reaches main (suc e) (drop (suc e) bodies) e ≡ true = sym (reached e here) ∙ marked in
      let low : k < length old = omega (arith, size, below) in
      adds k low ∙ ap (λ (b : Bool). b || calls k body) (reached k below) ∙ ap (λ (b : Nodes). reaches main (suc e) (drop (suc e) bodies) k || calls k b) body_is
      ∙ sym (one_more main bodies e k here ∙ ap (λ (b : Bool). reaches main (suc e) (drop (suc e) bodies) k || (b && calls k (slice_index_or bodies e Empty))) on)

  not_called : (e d : ℕ) (old : List Bool) → suc e ≡ d → d ≤ length bodies → Reached d old → slice_index_or old e false ≡ false → Reached e old
  not_called e d old is within each marked = λ k below.
      let here : e < length bodies = omega (arith, is, within) in
      let reached : (k : ℕ) → k < length bodies → slice_index_or old k false ≡ reaches main (suc e) (drop (suc e) bodies) k = subst (λ (n : ℕ). Reached n old) (sym is) each in
      let off : reaches main (suc e) (drop (suc e) bodies) e ≡ false = sym (reached e here) ∙ marked in
      reached k below
      ∙ sym (one_more main bodies e k here ∙ ap (λ (b : Bool). reaches main (suc e) (drop (suc e) bodies) k || (b && calls k (slice_index_or bodies e Empty))) off
      ∙ or_false (reaches main (suc e) (drop (suc e) bodies) k) (calls k (slice_index_or bodies e Empty)))

  pub marks_called : (d : ℕ) (body : Nodes) (old new : List Bool) → 0 < d → d ≤ length bodies → Reached d old → slice_index_or old (d - 1) false ≡ true → length old ≡ length bodies →
      ((k : ℕ) → k < length old → slice_index_or new k false ≡ (slice_index_or old k false || calls k body)) → body ≡ slice_index_or bodies (d - 1) Empty → Reached (d - 1) new
  marks_called d body old new some within each marked size adds body_is = (let e : suc (d - 1) ≡ d = omega (arith, some) in called (d - 1) d body old new e within each marked size adds body_is)

  pub marks_kept : (d : ℕ) (old : List Bool) → 0 < d → d ≤ length bodies → Reached d old → slice_index_or old (d - 1) false ≡ false → Reached (d - 1) old
  marks_kept d old some within each marked = (let e : suc (d - 1) ≡ d = omega (arith, some) in not_called (d - 1) d old e within each marked)

-- a definition is passed where it is not reached, or has no refusal
pub passes : (reached : ℕ → Bool) (bodies : List Nodes) (d : ℕ) (x : Option (ℕ × BoundCause)) → d < length bodies → (if reached d then refusal d Other (slice_index_or bodies d Empty) else None) ≡ None →
    first_refusal reached d (drop d bodies) ≡ x → first_refusal reached (d + 1) (drop (d + 1) bodies) ≡ x
passes reached bodies d x below none first =
    let e : suc d ≡ d + 1 = omega arith in
    subst (λ n. first_refusal reached n (drop n bodies) ≡ x) e next
  where
    next : first_refusal reached (suc d) (drop (suc d) bodies) ≡ x
    next =
        ap (λ (o : Option BoundCause). refusal_in d o (first_refusal reached (suc d) (drop (suc d) bodies))) (sym none)
        ∙ (ap (first_refusal reached d) (sym (drop-cons bodies d Empty below)) ∙ first)

pub not_reached : (reached : ℕ → Bool) (d : ℕ) (mark : Bool) (x : Option BoundCause) → mark ≡ reached d → mark ≡ false → (if reached d then x else None) ≡ None
not_reached reached d mark x is off = ap (λ (b : Bool). if b then x else None) (sym is ∙ off)

pub without_refusal : (reached : ℕ → Bool) (d : ℕ) (x : Option BoundCause) → x ≡ None → (if reached d then x else None) ≡ None
without_refusal reached d x none = of (reached d)
  where
    of : (b : Bool) → (if b then x else None) ≡ None
    of true = none
    of false = refl
