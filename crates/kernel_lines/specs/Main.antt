-- What ONE-LINE and MAIN do. Each law speaks of every program that has these definitions, of any cells below, and of any
-- frame that called; it says what is taken and printed, the kernel's state afterwards, which bytes may have changed, and within how many
-- word steps and for what price.
use Rattle.std.specs.Prelude.{◌≡◌, ℕ, ◌+◌, ◌*◌, ◌≤◌, List, [], ◌∷◌, ◌++◌, length}
use Rattle.forth_program.specs.Tree.{Nodes, Literal, Call}
use Rattle.forth_program.specs.State.{World, State, Entry, Frame, Work, Todo, UntilTest, End, Ends, InputEnded}
use Rattle.forth_program.specs.Program.{SourceProgram}
use Rattle.forth_program.specs.Step.{before}
use Rattle.forth_program.specs.Run.{steps}
use Rattle.forth_program.specs.Price.{spent}
use Rattle.kernel_words.specs.Places.{length_cell, reached_cell, source_cell, error_cell, line_buffer, word_buffer}
use Rattle.kernel_words.specs.Bodies.{items}
use Rattle.kernel_words.specs.Memory.{IsDataSpace, data_cell, data_byte}
use Rattle.kernel_words.specs.Running.{Comes, Returns}
use Rattle.kernel_words.specs.Laws.{HasSource}
use Rattle.kernel_lines.specs.Places.{user_count_cell}
use Rattle.kernel_lines.specs.Places.{level_cell}
use Rattle.kernel_lines.specs.Places.{reply_place, one_line_place}
use Rattle.kernel_lines.specs.Bodies.{HasLines, reset_body, reply_body, one_line_body}
use Rattle.kernel_lines.specs.Bodies.{interpret_body, main_body}
use Rattle.kernel_lines.specs.State.{KernelState, kernel_state, source_left, word_read, cells_at}
use Rattle.kernel_lines.specs.State.{OnlyChanges, Does, HasTexts}
use Rattle.kernel_lines.specs.Words.{IsTyped, kept_line}
use Rattle.kernel_lines.specs.Laws.{set_back, set_back_cells, reply_text, replied, with_line, SourceIsApart}
use Rattle.kernel_lines.specs.Interpreting.{interprets}

-- ---- a line

-- the source is the line, from its first byte on
abbrev pub with_source : KernelState → KernelState
with_source s = record s { start = line_buffer; reached = 0; level = 0 }

-- what ONE-LINE still has to do behind INTERPRET: the reply
abbrev pub behind_interpret : List Work
behind_interpret = Todo (Call reply_place) ∷ []

abbrev pub LinesAreReplied : Type 0
LinesAreReplied =
    (p : SourceProgram) (c : List ℕ) (done : World) → HasLines p →
    (reply : Does p reply_body 80 (1600 + 80 * data_byte done word_buffer) c done c done.input
    (reply_text (data_cell done error_cell) (word_read done)) (replied (kernel_state done))
    (cells_at (user_count_cell ∷ set_back_cells))) →
    (work : List Work) (entries : List Entry) (callers : List Frame) →
    Comes p 82 (1602 + 80 * data_byte done word_buffer) (interprets work entries callers behind_interpret c done)
    (record { work = work; entries = entries; callers = callers; cells = c; world = reply.after })

-- behind a line that INTERPRET has left in this world: it is replied
pub record LineEnds (p : SourceProgram) (most highest : ℕ) (c : List ℕ) (w done : World) : Type 0 where
  pub after : World
  pub run : Returns p one_line_body most highest c w c after
  pub input : after.input ≡ done.input
  pub printed : after.printed ≡ done.printed ++ reply_text (data_cell done error_cell) (word_read done)
  pub state_is : kernel_state after ≡ replied (kernel_state done)
  pub others : OnlyChanges (cells_at (user_count_cell ∷ set_back_cells)) done after

-- ONE-LINE ( -- ) reads a line, so that INTERPRET stands before its words, and replies to what INTERPRET has done
pub record LineIsDone (p : SourceProgram) (c : List ℕ) (w : World) (typed left : List ℕ) : Type 0 where
  pub ready : World
  pub input : ready.input ≡ left
  pub printed : ready.printed ≡ w.printed
  pub state_is : kernel_state ready ≡ with_source (with_line typed (kernel_state w))
  pub line : source_left ready ≡ kept_line 80 typed
  pub source : HasSource ready (data_cell ready source_cell)
  pub apart : SourceIsApart ready
  pub others : OnlyChanges ((line_buffer, 80) ∷ cells_at (error_cell ∷ length_cell ∷ source_cell ∷ reached_cell ∷ level_cell ∷ [])) w ready
  pub begins : (work : List Work) (entries : List Entry) (callers : List Frame) →
      Comes p (31 + 24 * length typed) (50 + 120 * length typed) (interprets work entries callers (before one_line_body []) c w)
      (interprets behind_interpret [] (record { work = work; entries = entries } ∷ callers) (before interpret_body []) c ready)
  pub ends : (most highest : ℕ) (done : World) → Returns p interpret_body most highest c ready c done → IsDataSpace done → HasTexts done →
      LineEnds p (113 + 24 * length typed + most) (1652 + 120 * length typed + 80 * data_byte done word_buffer + highest) c w done

abbrev pub LinesAreDone : Type 0
LinesAreDone =
    (p : SourceProgram) (c : List ℕ) (w : World) (typed left : List ℕ) → HasLines p → IsDataSpace w → IsTyped typed →
    w.input ≡ typed ++ 10 ∷ left →
    LineIsDone p c w typed left

-- ---- lines

-- what a line has come to, and within how many word steps and for what price
pub record Line : Type 0 where
  pub most : ℕ
  pub highest : ℕ
  pub after : World

-- ONE-LINE does these lines one after the other, with no cells on the stack
abbrev pub LinesFollow : SourceProgram → World → List Line → Type 0
LinesFollow p w [] = Unit {0}
LinesFollow p w (line ∷ lines) = Returns p one_line_body line.most line.highest [] w [] line.after × LinesFollow p line.after lines

abbrev pub last_world : World → List Line → World
last_world w [] = w
last_world w (line ∷ lines) = last_world line.after lines

abbrev pub most_steps : List Line → ℕ
most_steps [] = 0
most_steps (line ∷ lines) = 3 + line.most + most_steps lines

abbrev pub whole_price : List Line → ℕ
whole_price [] = 0
whole_price (line ∷ lines) = 4 + line.highest + whole_price lines

-- MAIN at its start, and before a further line
abbrev pub main_begins : World → State
main_begins w = record { work = before main_body []; entries = []; callers = []; cells = []; world = w }

abbrev pub line_turn : Nodes
line_turn = items (Call one_line_place ∷ Literal 0 ∷ [])

abbrev pub main_goes_on : World → State
main_goes_on w = record { work = before line_turn (UntilTest line_turn ∷ []); entries = []; callers = []; cells = []; world = w }

-- MAIN sets the kernel back and repeats ONE-LINE
abbrev pub MainRepeatsLines : Type 0
MainRepeatsLines =
    (p : SourceProgram) (w : World) → HasLines p → IsDataSpace w →
    (back : Does p reset_body 29 54 [] w [] w.input [] (set_back (kernel_state w)) (cells_at set_back_cells)) →
    (line : Line) (lines : List Line) → LinesFollow p back.after (line ∷ lines) →
    Comes p (30 + most_steps (line ∷ lines)) (55 + whole_price (line ∷ lines)) (main_begins w)
    (main_goes_on (last_world back.after (line ∷ lines)))

-- and goes on so from each line
abbrev pub MainGoesOn : Type 0
MainGoesOn =
    (p : SourceProgram) (w : World) (lines : List Line) → HasLines p → LinesFollow p w lines →
    Comes p (most_steps lines) (whole_price lines) (main_goes_on w) (main_goes_on (last_world w lines))

-- ---- MAIN around a line, whatever the line does

-- ONE-LINE begins, and has ended
abbrev pub behind_line : List Work
behind_line = Todo (Literal 0) ∷ UntilTest line_turn ∷ []

abbrev pub line_begins : World → State
line_begins w = interprets behind_line [] [] (before one_line_body []) [] w

abbrev pub line_has_ended : World → State
line_has_ended w = record { work = behind_line; entries = []; callers = []; cells = []; world = w }

abbrev pub FirstLineBegins : Type 0
FirstLineBegins =
    (p : SourceProgram) (w : World) → HasLines p → (back : Does p reset_body 29 54 [] w [] w.input [] (set_back (kernel_state w))
    (cells_at set_back_cells)) →
    Comes p 31 56 (main_begins w) (line_begins back.after)

abbrev pub LinesBegin : Type 0
LinesBegin = (p : SourceProgram) (w : World) → HasLines p → Comes p 1 1 (main_goes_on w) (line_begins w)

abbrev pub LinesHaveEnded : Type 0
LinesHaveEnded = (p : SourceProgram) (w : World) → Comes p 2 3 (line_has_ended w) (main_goes_on w)

-- ---- the end of the input

-- a run comes to its end within so many word steps and for so high a price, with this printed in all
pub record ComesToEnd (p : SourceProgram) (most highest : ℕ) (s : State) (end : End) (printed : List ℕ) : Type 0 where
  pub count : ℕ
  pub world : World
  pub run : steps p count s ≡ Ends end world
  pub few : count ≤ most
  pub paid : spent p 0 count s ≤ highest
  pub printed_is : world.printed ≡ printed

-- before a further line MAIN comes to its end where the input has no line feed any more: nothing more is printed
abbrev pub InputEnds : Type 0
InputEnds =
    (p : SourceProgram) (w : World) → HasLines p → IsDataSpace w → IsTyped w.input →
    ComesToEnd p (4 + 21 * length w.input) (6 + 93 * length w.input) (main_goes_on w) InputEnded w.printed
