-- What INTERPRET does. Each law speaks of every program that has these definitions, of any cells below, and of any
-- frame that called; it says what is taken and printed, the kernel's state afterwards, which bytes may have changed, and within how many
-- word steps and for what price.
use Rattle.std.specs.Prelude.{◌≡◌, ◌⊎◌, ℕ, zero, suc, ◌+◌, ◌*◌, List, [], ◌∷◌}
use Rattle.std.specs.Prelude.{true}
use Rattle.forth_program.specs.Tree.{Nodes, Call}
use Rattle.forth_program.specs.State.{World, State, Entry, Frame, Work, Todo, Repeat, WhileTest}
use Rattle.forth_program.specs.Program.{SourceProgram, body_of}
use Rattle.forth_program.specs.Step.{before}
use Rattle.forth_program.specs.Run.{steps}
use Rattle.kernel_words.specs.Places.{length_cell, error_cell, word_buffer}
use Rattle.kernel_words.specs.Bodies.{IsKernel}
use Rattle.kernel_words.specs.Memory.{IsDataSpace, data_cell}
use Rattle.kernel_words.specs.Running.{Comes, Returns}
use Rattle.kernel_lines.specs.Places.{kept_here_cell, kept_latest_cell}
use Rattle.kernel_lines.specs.Places.{interpret_word_place, try_place, check_place, keep_places_place}
use Rattle.kernel_lines.specs.Bodies.{interpret_test, interpret_turn, HasLines, check_body, keep_places_body}
use Rattle.kernel_lines.specs.Bodies.{interpret_body}
use Rattle.kernel_lines.specs.State.{kernel_state, cells_at}
use Rattle.kernel_lines.specs.State.{Does}
use Rattle.kernel_lines.specs.Words.{has_byte}
use Rattle.kernel_lines.specs.Laws.{checked, with_places_kept, NextIsRead}

-- a definition in a frame, with this work
abbrev pub interprets : List Work → List Entry → List Frame → List Work → List ℕ → World → State
interprets work entries callers todo c w = record {
  work = todo;
  entries = [];
  callers = record { work = work; entries = entries } ∷ callers;
  cells = c;
  world = w;
}

-- the work of INTERPRET behind a word: CHECK and KEEP-PLACES, and on; and before a further word
abbrev pub behind_word : List Work
behind_word = Todo (Call check_place) ∷ Todo (Call keep_places_place) ∷ Repeat interpret_test interpret_turn ∷ []

abbrev pub further_word : List Work
further_word = before interpret_test (WhileTest interpret_test interpret_turn ∷ [])

-- so it stands at its start or before a further word
abbrev pub IsBeforeWord : List Work → Type 0
IsBeforeWord todo = (todo ≡ before interpret_body []) ⊎ (todo ≡ further_word)

-- behind an error INTERPRET ( -- ) does nothing
abbrev pub ErrorsEndLines : Type 0
ErrorsEndLines =
    (p : SourceProgram) (c : List ℕ) (w : World) (error : ℕ) (todo : List Work) → HasLines p → IsDataSpace w → IsBeforeWord todo →
    data_cell w error_cell ≡ suc error →
    (work : List Work) (entries : List Entry) (callers : List Frame) →
    Comes p 7 9 (interprets work entries callers todo c w)
    (record { work = work; entries = entries; callers = callers; cells = c; world = w })

-- without one it ends where no word is left
abbrev pub LinesEnd : Type 0
LinesEnd =
    (p : SourceProgram) (c : List ℕ) (w : World) (todo : List Work) → HasLines p → IsDataSpace w → IsBeforeWord todo →
    data_cell w error_cell ≡ 0 → IsKernel p →
    (next : NextIsRead p c w []) → (work : List Work) (entries : List Entry) (callers : List Frame) →
    Comes p (410 + 400 * data_cell w length_cell) (340 + 250 * data_cell w length_cell) (interprets work entries callers todo c w)
    (record { work = work; entries = entries; callers = callers; cells = c; world = next.after })

-- where INTERPRET-WORD has left 0 the word is done; where it has left code, TRY begins
abbrev pub word_met : List Work → List Entry → List Frame → Nodes → ℕ → List ℕ → World → State
word_met work entries callers try zero c w = interprets work entries callers behind_word c w
word_met work entries callers try (suc code) c w = interprets behind_word [] (record { work = work; entries = entries } ∷ callers)
    (before try []) (suc code ∷ c) w

-- else it reads a word and does it by INTERPRET-WORD, up to TRY
abbrev pub WordsAreBegun : Type 0
WordsAreBegun =
    (p : SourceProgram) (c : List ℕ) (w : World) (todo : List Work) (word : List ℕ) (words : List (List ℕ))
    (next : NextIsRead p c w (word ∷ words)) (most highest code : ℕ) (found : World) →
    HasLines p → IsKernel p → IsDataSpace w → IsBeforeWord todo → data_cell w error_cell ≡ 0 → has_byte word ≡ true →
    Returns p (body_of p interpret_word_place) most highest (word_buffer ∷ c) next.after (code ∷ c) found →
    (work : List Work) (entries : List Entry) (callers : List Frame) →
    Comes p (411 + 400 * data_cell w length_cell + most) (347 + 250 * data_cell w length_cell + highest)
    (interprets work entries callers todo c w) (word_met work entries callers (body_of p try_place) code c found)

-- behind a word it checks and keeps the places, and stands before a further one
abbrev pub WordsAreEnded : Type 0
WordsAreEnded =
    (p : SourceProgram) (c : List ℕ) (done : World) → HasLines p →
    (check : Does p check_body 26 40 c done c done.input [] (checked (kernel_state done)) (cells_at (error_cell ∷ []))) →
    (keep : Does p keep_places_body 14 26 c check.after c check.after.input [] (with_places_kept (kernel_state check.after))
    (cells_at (kept_here_cell ∷ kept_latest_cell ∷ []))) →
    (work : List Work) (entries : List Entry) (callers : List Frame) →
    Comes p 43 69 (interprets work entries callers behind_word c done) (interprets work entries callers further_word c keep.after)

-- so where no code is left, it comes from a word to the next
abbrev pub WordsAreDone : Type 0
WordsAreDone =
    (p : SourceProgram) (c : List ℕ) (w : World) (todo : List Work) (word : List ℕ) (words : List (List ℕ))
    (next : NextIsRead p c w (word ∷ words)) (most highest : ℕ) (done : World) →
    HasLines p → IsKernel p → IsDataSpace w → IsBeforeWord todo → data_cell w error_cell ≡ 0 → has_byte word ≡ true →
    Returns p (body_of p interpret_word_place) most highest (word_buffer ∷ c) next.after (0 ∷ c) done →
    (check : Does p check_body 26 40 c done c done.input [] (checked (kernel_state done)) (cells_at (error_cell ∷ []))) →
    (keep : Does p keep_places_body 14 26 c check.after c check.after.input [] (with_places_kept (kernel_state check.after))
    (cells_at (kept_here_cell ∷ kept_latest_cell ∷ []))) →
    (work : List Work) (entries : List Entry) (callers : List Frame) →
    Comes p (454 + 400 * data_cell w length_cell + most) (416 + 250 * data_cell w length_cell + highest)
    (interprets work entries callers todo c w) (interprets work entries callers further_word c keep.after)
