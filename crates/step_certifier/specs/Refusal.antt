-- Which items have no bound.
use Rattle.std.specs.Prelude.{ℕ, suc, ◌==◌, nat_lt, if◌then◌else◌, Bool, false, ◌&&◌, ◌||◌, List, [], ◌∷◌, Option, Some, None}
use Rattle.word_table.specs.declared.word.Word.{Word}
use Rattle.word_table.specs.declared.word.Word.TheVariants.{Execute}
use Rattle.forth_program.specs.Tree.{Node, Nodes, Arms, Plain, Call, Child, If, Until, While, Again, Do, QDo, Case, Empty, Then, NoArm, Arm}
use Rattle.step_certifier.specs.declared.bound.BoundCause.{BoundCause}
use Rattle.step_certifier.specs.declared.bound.BoundCause.TheVariants.{BeginLoop, OpenBounds, Recursion}
use Rattle.step_certifier.specs.declared.bound.BoundCause.TheVariants as cause
use Rattle.step_certifier.specs.Cost.{Last, Other, last_after, known_count, loop_turns}

-- a refusal, or the next one
abbrev pub or_else : Option BoundCause → Option BoundCause → Option BoundCause
or_else None next = next
or_else (Some cause) next = Some cause

-- what has no number has open bounds
abbrev pub closed : Option ℕ → Option BoundCause
closed None = Some OpenBounds
closed (Some n) = None

-- a call leads to an earlier definition
abbrev pub call_refusal : ℕ → ℕ → Option BoundCause
call_refusal own definition = if nat_lt definition own then None else Some Recursion

abbrev pub word_refusal : Word → Last → Option BoundCause
word_refusal Execute last = Some cause.Execute
word_refusal word last = closed (known_count word last)

-- the first refusal among the items of a definition, a structure before its content
abbrev mutual
  pub node_refusal : ℕ → Last → Node → Option BoundCause
  node_refusal own last (Plain word) = word_refusal word last
  node_refusal own last (Call definition) = call_refusal own definition
  node_refusal own last (Child definition address) = call_refusal own definition
  node_refusal own last (If first second) = or_else (refusal own Other first) (refusal own Other second)
  node_refusal own last (Until body) = Some BeginLoop
  node_refusal own last (While test body) = Some BeginLoop
  node_refusal own last (Again body) = Some BeginLoop
  node_refusal own last (Do body plus) = or_else (closed (loop_turns last body plus)) (refusal own Other body)
  node_refusal own last (QDo body plus) = or_else (closed (loop_turns last body plus)) (refusal own Other body)
  node_refusal own last (Case arms rest) = or_else (arms_refusal own arms) (refusal own Other rest)
  node_refusal own last node = None

  pub refusal : ℕ → Last → Nodes → Option BoundCause
  refusal own last Empty = None
  refusal own last (Then node rest) = or_else (node_refusal own last node) (refusal own (last_after last node) rest)

  pub arms_refusal : ℕ → Arms → Option BoundCause
  arms_refusal own NoArm = None
  arms_refusal own (Arm tests body others) = or_else (refusal own Other tests) (or_else (refusal own Other body) (arms_refusal own others))

-- whether a definition is called, itself or by a child, among items
abbrev mutual
  pub node_calls : ℕ → Node → Bool
  node_calls d (Call definition) = d == definition
  node_calls d (Child definition address) = d == definition
  node_calls d (If first second) = calls d first || calls d second
  node_calls d (Until body) = calls d body
  node_calls d (While test body) = calls d test || calls d body
  node_calls d (Again body) = calls d body
  node_calls d (Do body plus) = calls d body
  node_calls d (QDo body plus) = calls d body
  node_calls d (Case arms rest) = arms_call d arms || calls d rest
  node_calls d node = false

  pub calls : ℕ → Nodes → Bool
  calls d Empty = false
  calls d (Then node rest) = node_calls d node || calls d rest

  pub arms_call : ℕ → Arms → Bool
  arms_call d NoArm = false
  arms_call d (Arm tests body others) = calls d tests || (calls d body || arms_call d others)

-- whether a definition is MAIN or is reached from MAIN through these, the last of which are gone through first: the first of
-- them has this number
abbrev pub reaches : ℕ → ℕ → List Nodes → ℕ → Bool
reaches main number [] d = d == main
reaches main number (body ∷ bodies) d = reaches main (suc number) bodies d || (reaches main (suc number) bodies number && calls d body)

-- the definition and the cause of the first refusal among those that are reached, in source order
abbrev pub refusal_in : ℕ → Option BoundCause → Option (ℕ × BoundCause) → Option (ℕ × BoundCause)
refusal_in number None next = next
refusal_in number (Some cause) next = Some (number, cause)

abbrev pub first_refusal : (ℕ → Bool) → ℕ → List Nodes → Option (ℕ × BoundCause)
first_refusal reached number [] = None
first_refusal reached number (body ∷ bodies) =
    refusal_in number (if reached number then refusal number Other body else None) (first_refusal reached (suc number) bodies)
