-- A turn of INTERPRET's loop with a word of an open definition.
use Rattle.std.specs.Prelude.{◌≡◌, ◌≢◌, ◌⊎◌, ℕ, suc, ◌+◌, ◌*◌, ◌/◌, ◌≤◌, Some, List, ◌∷◌, length}
use Rattle.forth_program.specs.State.{Entry, World, Frame, Work, State}
use Rattle.forth_program.specs.Program.{SourceProgram}
use Rattle.kernel_words.specs.Bodies.{next_word_body}
use Rattle.kernel_words.specs.Places.{base_cell, here_cell, length_cell, reached_cell, word_buffer, source_cell, error_cell}
use Rattle.kernel_words.specs.Running.{Comes, Returns}
use Rattle.kernel_words.specs.Memory.{IsDataSpace, KeepsConsole, data_cell, data_byte, data_bytes}
use Rattle.kernel_words.specs.Headers.{Header}
use Rattle.kernel_words.specs.Laws.{HasSource, IsNextWord, place_past}
use Rattle.kernel_lines.specs.Places.{new_cell, first_here_cell, user_count_cell}
use Rattle.kernel_lines.specs.Bodies.{check_body, keep_places_body}
use Rattle.kernel_lines.specs.Interpreting.{interprets, further_word}
use Rattle.kernel_definitions.specs.Bodies.{HasDefiningWords, interpret_word_body}
use Rattle.kernel_definitions.specs.TypedItems.{TypedWord}
use Rattle.kernel_definitions.specs.OpenDefinition.{OpenItems, after_word, end_of, entries, IsOpen, IsOutside}
use Rattle.kernel_definitions.specs.Compiling.{OperandFits}
use Rattle.kernel_definitions.specs.Interpreting.{StandsFor}

-- INTERPRET, called from any frame, stands before its test
abbrev pub before_test : List Work → List Entry → List Frame → List ℕ → World → State
before_test work entries callers c w = interprets work entries callers further_word c w

-- a turn of the loop, from what its words do: where there is no error and a word is left, and INTERPRET-WORD leaves 0, so that nothing is
-- tried
abbrev pub TurnsAreComposed : Type 0
TurnsAreComposed =
    (p : SourceProgram) (i j n b k l m o size : ℕ) (c : List ℕ) (w w1 w2 w3 w4 : World) → HasDefiningWords p → IsDataSpace w →
    IsDataSpace w1 → data_cell w error_cell ≡ 0 →
    Returns p next_word_body i j c w (word_buffer ∷ c) w1 → data_byte w1 word_buffer ≡ suc size →
    Returns p interpret_word_body n b (word_buffer ∷ c) w1 (0 ∷ c) w2 →
    Returns p check_body k l c w2 c w3 → Returns p keep_places_body m o c w3 c w4 →
    (work : List Work) (entries : List Entry) (callers : List Frame) →
    Comes p (13 + i + n + k + m) (49 + j + b + l + o) (before_test work entries callers c w) (before_test work entries callers c w4)

-- CHECK ( -- ) finds nothing where the user has at most 20 cells and HERE lies from FIRST-HERE to 16288
abbrev pub ChecksPass : Type 0
ChecksPass =
    (p : SourceProgram) (c : List ℕ) (w : World) → HasDefiningWords p → IsDataSpace w → data_cell w user_count_cell ≤ 20 →
    data_cell w first_here_cell ≤ data_cell w here_cell → data_cell w here_cell ≤ 16288 →
    Returns p check_body 15 21 c w c w

-- KEEP-PLACES ( -- ) keeps nothing while a definition is open
abbrev pub PlacesWait : Type 0
PlacesWait =
    (p : SourceProgram) (h : ℕ) (c : List ℕ) (w : World) → HasDefiningWords p → IsDataSpace w → data_cell w error_cell ≡ 0 →
    data_cell w new_cell ≡ suc h → Returns p keep_places_body 7 9 c w c w

-- there is no error; the next word of the source, which lies apart from >IN and WORD-BUFFER, is this; the user has at most 20 cells, and
-- BASE is one
pub record MeetsWord (w : World) (first size : ℕ) : Type 0 where
  pub no_error : data_cell w error_cell ≡ 0
  pub source : HasSource w (data_cell w source_cell)
  pub apart : (data_cell w source_cell + data_cell w length_cell ≤ reached_cell) ⊎ (word_buffer + 82 ≤ data_cell w source_cell)
  pub word : IsNextWord w 32 (data_cell w source_cell) first size
  pub some : 1 ≤ size
  pub few : size ≤ 80
  pub users : data_cell w user_count_cell ≤ 20
  pub base_low : 2 ≤ data_cell w base_cell
  pub base_high : data_cell w base_cell ≤ 36

-- the loop comes back to its test with that word read; no cell is left, and no byte outside is changed but those of >IN and WORD-BUFFER
pub record TurnIsMade (p : SourceProgram) (most highest : ℕ) (c : List ℕ) (w : World) (first size h a : ℕ) (name : List ℕ)
    (older : List Header) (items : OpenItems) : Type 0 where
  pub after : World
  pub run : (work : List Work) (entries : List Entry) (callers : List Frame) →
      Comes p most highest (before_test work entries callers c w) (before_test work entries callers c after)
  pub console : KeepsConsole w after
  pub still_open : IsOpen after h a name older items
  pub place : data_cell after reached_cell ≡ place_past w (data_cell w source_cell) first size
  pub rest : (b : ℕ) → IsOutside a (end_of items a) b → b / 2 ≢ reached_cell / 2 → ((i : ℕ) → i ≤ size → b ≢ word_buffer + i) →
      data_byte after b ≡ data_byte w b

-- a turn of the loop reads a word of an open definition, where its code stays between FIRST-HERE and 16288
abbrev pub TurnsAreMade : Type 0
TurnsAreMade =
    (p : SourceProgram) (word : TypedWord) (c : List ℕ) (w : World) (first size h a : ℕ) (name : List ℕ) (older : List Header)
    (items next : OpenItems) →
    HasDefiningWords p → OperandFits word → IsOpen w h a name older items → after_word word items.around items.done ≡ Some next →
    end_of next a ≤ 16288 → entries next.around ≤ 16 →
    data_cell w first_here_cell ≤ a → MeetsWord w first size → StandsFor older (data_cell w base_cell) (data_bytes w size first) word →
    TurnIsMade p (400 * (data_cell w length_cell + 1) + 4000 * (length older + 1) + 1000 * (size + 1) + 250)
    (250 * data_cell w length_cell + 4000 * (length older + 1) + 1300 * (size + 1) + 1000) c w
    first size h a name older next
