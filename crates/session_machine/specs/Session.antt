-- The session machine: what an interactive Forth does with lines, as far as it is claimed. It keeps definitions and user cells, and runs
-- the items of definitions by the word steps of a source.
use Rattle.std.specs.Prelude.{ℕ, zero, suc, ◌+◌, Bool, true, false, List, [], ◌∷◌, ◌++◌, Option, Some, None}
use Rattle.word_table.specs.declared.word.Word.{Word}
use Rattle.word_table.specs.declared.word.Word.TheVariants.{Colon}
use Rattle.cell_math.specs.Bytes.{filled, cells_of_bytes}
use Rattle.forth_program.specs.Tree.{Node, Plain, Call}
use Rattle.forth_program.specs.State.{Work, Todo, Frame, State, End, InputEnded, Goes, Ends}
use Rattle.forth_program.specs.State.{Outcome as StepOutcome}
use Rattle.forth_program.specs.Step.{step}
use Rattle.forth_program.specs.Price.{step_price}
use Rattle.session_machine.specs.Lines.{line_words}
use Rattle.session_machine.specs.Definitions.{Definition, program_of, Sense, Calls, Does, Structures, Number, Unknown, sense_of, Begun}
use Rattle.session_machine.specs.Definitions.{nothing_begun, DefinitionRead, Whole, Dropped, colon, items_read}

-- the lines that are left, and the words that are left of the line in hand, where there is one; the definitions, the oldest first; the user
-- cells, data space and the prints, in the state of a run, with what is left of the word in hand; how many lines were taken; the price of
-- the word steps so far; and the end, where there is one
pub record Session : Type 0 where
  pub lines : List (List ℕ)
  pub words : Option (List (List ℕ))
  pub definitions : List Definition
  pub state : State
  pub taken : ℕ
  pub price : ℕ
  pub end : Option End

-- ---- what a session does next

pub data Action : Type 0 where
  -- a word step of the word in hand
  StepsOn : Action
  TakesLine : (line : List ℕ) (lines : List (List ℕ)) → Action
  -- no line is left
  EndsInput : Action
  -- the reply to a line without an unknown word
  Replies : Action
  Adds : (definition : Definition) (rest : List (List ℕ)) → Action
  Puts : (value : ℕ) (rest : List (List ℕ)) → Action
  Begins : (node : Node) (rest : List (List ℕ)) → Action
  -- a word that is not known, outside a definition and in one that is dropped
  Answers : (text : List ℕ) → Action
  Drops : (name : List ℕ) (begun : Begun) (text : List ℕ) → Action

abbrev pub definition_action : List ℕ → DefinitionRead → Action
definition_action name (Whole body weight rest) = Adds (record { name = name; body = body; weight = weight }) rest
definition_action name (Dropped begun text) = Drops name begun text

-- behind a colon
abbrev pub colon_action : List Definition → List (List ℕ) → Action
colon_action definitions [] = Answers colon
colon_action definitions (name ∷ words) = definition_action name (items_read definitions nothing_begun words)

abbrev pub structure_action : Word → List Definition → List ℕ → List (List ℕ) → Action
structure_action Colon definitions text words = colon_action definitions words
structure_action w definitions text words = Answers text

abbrev pub sense_action : Sense → List Definition → List ℕ → List (List ℕ) → Action
sense_action (Calls definition) definitions text words = Begins (Call definition) words
sense_action (Does w) definitions text words = Begins (Plain w) words
sense_action (Number value) definitions text words = Puts value words
sense_action (Structures w) definitions text words = structure_action w definitions text words
sense_action Unknown definitions text words = Answers text

-- between words
abbrev pub reading_action : Option (List (List ℕ)) → List (List ℕ) → List Definition → Action
reading_action None [] definitions = EndsInput
reading_action None (line ∷ lines) definitions = TakesLine line lines
reading_action (Some []) lines definitions = Replies
reading_action (Some (text ∷ words)) lines definitions = sense_action (sense_of definitions text) definitions text words

-- whether no word is in hand
abbrev pub is_between : List Work → List Frame → Bool
is_between [] [] = true
is_between work callers = false

abbrev pub action_of : Session → Action
action_of s = elim (is_between s.state.work s.state.callers) [ true ↦ reading_action s.words s.lines s.definitions | false ↦ StepsOn ]

-- ---- and does it

abbrev pub printing : List ℕ → State → State
printing bytes s = record s { world = record (s.world) { printed = s.world.printed ++ bytes } }

-- ` ok` and a line feed, and ` ?` and a line feed
abbrev pub ok_bytes : List ℕ
ok_bytes = 32 ∷ 111 ∷ 107 ∷ 10 ∷ []

abbrev pub question_bytes : List ℕ
question_bytes = 32 ∷ 63 ∷ 10 ∷ []

-- the word as typed and a question mark; the user cells and the rest of the line are dropped
abbrev pub answered : List ℕ → Session → Session
answered text s = record s { words = None; state = record (printing (text ++ question_bytes) s.state) { cells = [] } }

-- a word step, for its price
abbrev pub stepped : StepOutcome → ℕ → Session → Session
stepped (Goes state) spent s = record s { state = state; price = s.price + spent }
stepped (Ends end world) spent s = record s { state = record (s.state) { world = world }; price = s.price + spent; end = Some end }

abbrev pub done : Action → Session → Session
done StepsOn s = stepped (step (program_of s.definitions) s.state) (step_price s.state) s
done (TakesLine line lines) s = record s { lines = lines; words = Some (line_words line); taken = s.taken + 1 }
done EndsInput s = record s { end = Some InputEnded }
done Replies s = record s { words = None; state = printing ok_bytes s.state }
done (Adds definition rest) s = record s { words = Some rest; definitions = s.definitions ++ definition ∷ [] }
done (Puts value rest) s = record s { words = Some rest; state = record (s.state) { cells = value ∷ s.state.cells } }
done (Begins node rest) s = record s { words = Some rest; state = record (s.state) { work = Todo node ∷ [] } }
done (Answers text) s = answered text s
done (Drops name begun text) s = answered text s

-- one step, unless the session has ended
abbrev pub advanced : Option End → Session → Session
advanced (Some end) s = s
advanced None s = done (action_of s) s

unfoldable pub session_step : Session → Session
session_step s = advanced s.end s

-- at most k steps
unfoldable pub session_steps : ℕ → Session → Session
session_steps zero s = s
session_steps (suc k) s = session_steps k (session_step s)

-- ---- sessions

-- data space begins with 10 in BASE, and with the hold pointer and HERE of a source without data
abbrev pub first_bytes : List ℕ
first_bytes = 10 ∷ 0 ∷ 96 ∷ 32 ∷ 128 ∷ 32 ∷ []

abbrev pub first_state : State
first_state = record {
  work = [];
  entries = [];
  callers = [];
  cells = [];
  world = record { data_start = 8192; space = filled 4096 (cells_of_bytes first_bytes); input = []; printed = []; made = [] };
}

abbrev pub first_session : List (List ℕ) → Session
first_session lines = record { lines = lines; words = None; definitions = []; state = first_state; taken = 0; price = 0; end = None }

-- the session of these lines after at most k steps
unfoldable pub session_run : List (List ℕ) → ℕ → Session
session_run lines k = session_steps k (first_session lines)

-- the bytes that it has printed
abbrev pub printed_by : Session → List ℕ
printed_by s = s.state.world.printed
