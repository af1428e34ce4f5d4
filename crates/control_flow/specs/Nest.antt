-- Open structures, and the words that open, part and end them (the control-flow stack of ANS Forth).
use Rattle.std.specs.Prelude.{◌≡◌, nat_lt, Bool, true, false, ◌||◌, List, [], ◌∷◌, length, Result, Ok, Err, MatchResult}
use Rattle.word_table.specs.declared.word.Word.{Word}
use Rattle.word_table.specs.declared.word.Word.TheVariants as word
use Rattle.control_flow.specs.declared.refusal.SourceCause.{SourceCause}
use Rattle.control_flow.specs.declared.refusal.SourceCause.TheVariants as cause
use Rattle.control_flow.specs.declared.nest.Open.{Open}
use Rattle.control_flow.specs.declared.nest.Open.TheVariants as kind
use Rattle.control_flow.specs.declared.nest.Opening.{Opening}
use Rattle.control_flow.specs.declared.nest.Opening.TheVariants as opening
use Rattle.control_flow.specs.declared.nest.Ending.{Ending}
use Rattle.control_flow.specs.declared.nest.Ending.TheVariants as ending
use Rattle.control_flow.specs.declared.nest.Step.{Step}
use Rattle.control_flow.specs.declared.nest.Step.TheVariants.{Gone, Becomes, Holds, Unfit}

-- one structure more; at most 16 are open at once
abbrev pub with_open : Open → List Open → Result (List Open) SourceCause
with_open o nest = elim (nat_lt (length nest) 16) [ true ↦ Ok (o ∷ nest) | false ↦ Err cause.TooDeep ]

abbrev pub open_of : Opening → Open
open_of opening.If = kind.If
open_of opening.Begin = kind.Begin
open_of opening.Do = kind.Do
open_of opening.QDo = kind.Do
open_of opening.Case = kind.Case

-- what a word does to the innermost open structure: it ends it, it goes on with its next part, or it opens one inside
abbrev pub step_of : Open → Ending → Step
step_of kind.If ending.Else = Becomes kind.Else
step_of kind.If ending.Then = Gone
step_of kind.Else ending.Then = Gone
step_of kind.Begin ending.Until = Gone
step_of kind.Begin ending.Again = Gone
step_of kind.Begin ending.While = Becomes kind.While
step_of kind.While ending.Repeat = Gone
step_of kind.Do ending.Loop = Gone
step_of kind.Do ending.PlusLoop = Gone
step_of kind.Case ending.Of = Holds kind.Of
step_of kind.Case ending.EndCase = Gone
step_of kind.Of ending.EndOf = Gone
step_of o word = Unfit

abbrev pub stepped : Step → Open → List Open → Result (List Open) SourceCause
stepped Gone o nest = Ok nest
stepped (Becomes next) o nest = Ok (next ∷ nest)
stepped (Holds inner) o nest = with_open inner (o ∷ nest)
stepped Unfit o nest = Err cause.BadNest

-- `;` alone ends a list of items where no structure is open
abbrev pub ended_outside : Ending → Result (List Open) SourceCause
ended_outside ending.Semicolon = Ok []
ended_outside word = Err cause.BadNest

-- the open structures behind a word that ends a list of items
abbrev pub nest_ended : List Open → Ending → Result (List Open) SourceCause
nest_ended [] word = ended_outside word
nest_ended (o ∷ nest) word = stepped (step_of o word) o nest

abbrev pub is_do : Open → Bool
is_do kind.Do = true
is_do o = false

-- whether a DO is among structures
abbrev pub any_do : List Open → Bool
any_do [] = false
any_do (o ∷ os) = is_do o || any_do os

-- LEAVE stands inside a DO or a ?DO
abbrev pub is_inside_do : List Open → Bool
is_inside_do nest = any_do nest

abbrev pub nest_left : List Open → Result (List Open) SourceCause
nest_left nest = elim (is_inside_do nest) [ true ↦ Ok nest | false ↦ Err cause.BadNest ]

-- the open structures behind a word that opens one
abbrev pub opened_by : List Open → Word → Result (List Open) SourceCause
opened_by nest word.If = with_open kind.If nest
opened_by nest word.Begin = with_open kind.Begin nest
opened_by nest word.Do = with_open kind.Do nest
opened_by nest word.QDo = with_open kind.Do nest
opened_by nest word.Case = with_open kind.Case nest
opened_by nest word.Of = nest_ended nest ending.Of
opened_by nest w = Err cause.BadNest

-- and behind one that ends, parts or leaves one
abbrev pub nest_closed_by : List Open → Word → Result (List Open) SourceCause
nest_closed_by nest word.Else = nest_ended nest ending.Else
nest_closed_by nest word.Then = nest_ended nest ending.Then
nest_closed_by nest word.Until = nest_ended nest ending.Until
nest_closed_by nest word.While = nest_ended nest ending.While
nest_closed_by nest word.Repeat = nest_ended nest ending.Repeat
nest_closed_by nest word.Again = nest_ended nest ending.Again
nest_closed_by nest word.Loop = nest_ended nest ending.Loop
nest_closed_by nest word.PlusLoop = nest_ended nest ending.PlusLoop
nest_closed_by nest word.EndOf = nest_ended nest ending.EndOf
nest_closed_by nest word.EndCase = nest_ended nest ending.EndCase
nest_closed_by nest word.Leave = nest_left nest
nest_closed_by nest w = Err cause.BadNest

-- a call makes of a nest what is said, or refuses with the cause and changes nothing
abbrev pub Nested : {A : Type 0} → List Open → List Open → Result A SourceCause → Result (List Open) SourceCause → Type 0
Nested old new result outcome = MatchResult result (λ done. outcome ≡ Ok new) (λ c. (outcome ≡ Err c) × (new ≡ old))
