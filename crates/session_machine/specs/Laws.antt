-- What holds of all sessions.
use Rattle.std.specs.Prelude.{◌≡◌, ℕ, zero, suc, ◌+◌, ◌<◌, ◌≤◌, false, List, [], ◌∷◌, ◌++◌, length, Option, Some, None}
use Rattle.forth_program.specs.State.{State, End, Goes}
use Rattle.forth_program.specs.Program.{SourceProgram}
use Rattle.forth_program.specs.Step.{step}
use Rattle.forth_program.specs.Run.{steps}
use Rattle.forth_program.specs.Price.{step_price, spent}
use Rattle.session_machine.specs.Definitions.{Definition, program_of}
use Rattle.session_machine.specs.Session.{Session, Action, StepsOn, is_between, action_of, stepped, session_step, session_steps}
use Rattle.session_machine.specs.Session.{first_session, session_run, printed_by}

-- a + b steps are a steps and then b more
abbrev pub SessionsCompose : Type 0
SessionsCompose = (a b : ℕ) (s : Session) → session_steps (a + b) s ≡ session_steps b (session_steps a s)

-- a session that has ended stays as it is
abbrev pub SessionsStayEnded : Type 0
SessionsStayEnded = (k : ℕ) (s : Session) (end : End) → s.end ≡ Some end → session_steps k s ≡ s

-- what a session may come to from another: more is printed, lines are taken from the front, and definitions are added at the end
pub record IsLater (old new : Session) : Type 0 where
  pub prints : (more : List ℕ) × (printed_by new ≡ printed_by old ++ more)
  pub lines : (taken : List (List ℕ)) × (old.lines ≡ taken ++ new.lines) × (new.taken ≡ old.taken + length taken)
  pub defines : (more : List Definition) × (new.definitions ≡ old.definitions ++ more)

abbrev pub SessionsGrow : Type 0
SessionsGrow = (k : ℕ) (s : Session) → IsLater s (session_steps k s)

-- what was spent before adds to what the steps spend, and changes nothing else
abbrev pub spent_before : ℕ → Session → Session
spent_before before s = record s { price = before + s.price }

abbrev pub PricesAdd : Type 0
PricesAdd = (before k : ℕ) (s : Session) → session_steps k (spent_before before s) ≡ spent_before before (session_steps k s)

-- ---- how many steps a session takes

abbrev pub word_step_of : Option End → Action → ℕ
word_step_of None StepsOn = 1
word_step_of end action = 0

-- how many of k steps are word steps
unfoldable pub word_steps : ℕ → Session → ℕ
word_steps zero s = 0
word_steps (suc k) s = word_step_of s.end (action_of s) + word_steps k (session_step s)

-- the other steps of lines: each line is taken, has its words and its reply
abbrev pub reading_steps : List (List ℕ) → ℕ
reading_steps [] = 0
reading_steps (line ∷ lines) = length line + 2 + reading_steps lines

-- until a session ends its steps are word steps, and at most so many others for each line taken as the line has bytes, and two
pub record TakesFewSteps (lines : List (List ℕ)) (k : ℕ) : Type 0 where
  pub taken : List (List ℕ)
  pub begin : lines ≡ taken ++ (session_run lines k).lines
  pub count : (session_run lines k).taken ≡ length taken
  pub steps : k ≤ word_steps k (first_session lines) + reading_steps taken

abbrev pub SessionsTakeFewSteps : Type 0
SessionsTakeFewSteps = (lines : List (List ℕ)) (k : ℕ) → (session_run lines k).end ≡ None → TakesFewSteps lines k

-- ---- a word in hand

-- a step inside a word is one of the program of the definitions
abbrev pub InsideSteps : Type 0
InsideSteps =
    (s : Session) → s.end ≡ None → is_between s.state.work s.state.callers ≡ false →
    session_step s ≡ stepped (step (program_of s.definitions) s.state) (step_price s.state) s

-- before each of d steps the word has something to do
abbrev pub StaysInside : SourceProgram → ℕ → State → Type 0
StaysInside p d s = (j : ℕ) (u : State) → j < d → steps p j s ≡ Goes u → is_between u.work u.callers ≡ false

-- so a word runs as its item does in a source, for the same price, and changes nothing else
abbrev pub WordsRunAsSources : Type 0
WordsRunAsSources =
    (s : Session) (d : ℕ) (t : State) → s.end ≡ None → StaysInside (program_of s.definitions) d s.state →
    steps (program_of s.definitions) d s.state ≡ Goes t →
    session_steps d s ≡ record s { state = t; price = s.price + spent (program_of s.definitions) 0 d s.state }
