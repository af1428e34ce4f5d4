-- The innermost structure stands last in the array, and first in the list that contracts see.
use Rattle.std.proofs.Common.{◌≡◌, ◌<◌, ◌≤◌, Bool, true, false, ◌||◌, List, [], ◌∷◌, ◌++◌, length, reverse, refl, ap, sym, ◌∙◌}
use Rattle.std.specs.Prelude.{Result, Ok, Err}
use Rattle.std.proofs.lemmas.Bool.{lt-ltb, le-ltb}
use Rattle.std.proofs.lemmas.List.{reverse-append}
use Rattle.control_flow.specs.declared.refusal.SourceCause.{SourceCause}
use Rattle.control_flow.specs.declared.refusal.SourceCause.TheVariants as cause
use Rattle.control_flow.specs.declared.nest.Open.{Open}
use Rattle.control_flow.specs.Nest.{with_open, is_do, any_do}

-- the last of an array is the innermost
pub innermost : (front : List Open) (top : Open) → reverse (front ++ top ∷ []) ≡ top ∷ reverse front
innermost front top = reverse-append front (top ∷ [])

pub nest_is : (items front : List Open) (top : Open) → items ≡ front ++ top ∷ [] → reverse items ≡ top ∷ reverse front
nest_is items front top e = ap reverse e ∙ innermost front top

-- there is room for a structure, or there is none
pub room_for : (structure : Open) (nest : List Open) → length nest < 16 → with_open structure nest ≡ Ok (structure ∷ nest)
room_for structure nest h = ap (λ t. elim t as (λ t. Result (List Open) SourceCause) [ true ↦ Ok (structure ∷ nest) | false ↦ Err cause.TooDeep ]) (lt-ltb (length nest) 16 h)

pub no_room : (structure : Open) (nest : List Open) → 16 ≤ length nest → with_open structure nest ≡ Err cause.TooDeep
no_room structure nest h = ap (λ t. elim t as (λ t. Result (List Open) SourceCause) [ true ↦ Ok (structure ∷ nest) | false ↦ Err cause.TooDeep ]) (le-ltb (length nest) 16 h)

-- whether a DO is among structures, in either order
swapped : (a b c : Bool) → (a || (b || c)) ≡ (b || (a || c))
swapped true true c = refl
swapped true false c = refl
swapped false b c = refl

inside_last : (os : List Open) (o : Open) → any_do (os ++ o ∷ []) ≡ (is_do o || any_do os)
inside_last [] o = refl
inside_last (p ∷ ps) o = ap (λ b. is_do p || b) (inside_last ps o) ∙ swapped (is_do p) (is_do o) (any_do ps)

pub inside_reverse : (os : List Open) → any_do (reverse os) ≡ any_do os
inside_reverse [] = refl
inside_reverse (o ∷ os) = ap any_do (reverse-append (o ∷ []) os) ∙ inside_last (reverse os) o ∙ ap (λ b. is_do o || b) (inside_reverse os)

pub seen_do : (items seen : List Open) → reverse items ≡ seen → any_do items ≡ any_do seen
seen_do items seen e = sym (inside_reverse items) ∙ ap any_do e
