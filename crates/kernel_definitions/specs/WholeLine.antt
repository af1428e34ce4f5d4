-- The words of a definition, one after the other, as INTERPRET's loop reads them off a line.
use Rattle.std.specs.Prelude.{◌≡◌, ◌≢◌, ◌⊎◌, ℕ, ◌+◌, ◌-◌, ◌*◌, ◌/◌, ◌≤◌, ◌<◌, List, [], ◌∷◌, length}
use Rattle.forth_program.specs.State.{Entry, World, Frame, Work}
use Rattle.forth_program.specs.Program.{SourceProgram}
use Rattle.kernel_words.specs.Places.{base_cell, length_cell, reached_cell, word_buffer, source_cell, error_cell}
use Rattle.kernel_words.specs.Running.{Comes}
use Rattle.kernel_words.specs.Memory.{KeepsConsole, data_cell, data_byte, data_bytes, leading_bytes, bytes_before}
use Rattle.kernel_words.specs.Headers.{Header}
use Rattle.kernel_words.specs.Laws.{place_past}
use Rattle.kernel_lines.specs.Places.{first_here_cell, user_count_cell}
use Rattle.kernel_definitions.specs.Bodies.{HasDefiningWords}
use Rattle.kernel_definitions.specs.TypedItems.{TypedWord, TypedItems, items_size, words_of}
use Rattle.kernel_definitions.specs.OpenDefinition.{OpenItems, nothing_read, IsOpen, IsOutside}
use Rattle.kernel_definitions.specs.Compiling.{OperandFits, ReadsTo, nesting}
use Rattle.kernel_definitions.specs.Interpreting.{StandsFor}
use Rattle.kernel_definitions.specs.Turns.{before_test}

-- from the place r of the source on, the next word begins at first and has size bytes
pub record IsWordAt (w : World) (r first size : ℕ) : Type 0 where
  pub place : r ≤ data_cell w length_cell
  pub begins : first ≡ data_cell w source_cell + r + leading_bytes w 32 (data_cell w length_cell - r) (data_cell w source_cell + r)
  pub ends : size ≡ bytes_before w 32 (data_cell w source_cell + data_cell w length_cell - first) first
  pub some : 1 ≤ size
  pub few : size ≤ 80

-- from the place r to the place r' stand texts of these words of a definition, with these headers before its own
abbrev pub WordsStand : World → List Header → ℕ → List TypedWord → ℕ → Type 0
WordsStand w older r [] r' = r ≡ r'
WordsStand w older r (word ∷ words) r' =
    (first : ℕ) × (size : ℕ) × IsWordAt w r first size × OperandFits word ×
    StandsFor older (data_cell w base_cell) (data_bytes w size first) word
    × WordsStand w older (place_past w (data_cell w source_cell) first size) words r'

-- the source is a line below >IN, there is no error, the user has at most 20 cells, BASE is one, and the code lies behind FIRST-HERE
pub record IsLine (w : World) (a : ℕ) : Type 0 where
  pub low : 8198 ≤ data_cell w source_cell
  pub high : data_cell w source_cell + data_cell w length_cell ≤ reached_cell
  pub no_error : data_cell w error_cell ≡ 0
  pub users : data_cell w user_count_cell ≤ 20
  pub base_low : 2 ≤ data_cell w base_cell
  pub base_high : data_cell w base_cell ≤ 36
  pub first_here : data_cell w first_here_cell ≤ a

-- what a turn takes at most, in word steps and in price, with a line of so many bytes and so many headers
abbrev pub turn_steps : ℕ → ℕ → ℕ
turn_steps size headers = 400 * (size + 1) + 4000 * (headers + 1) + 81250

abbrev pub turn_price : ℕ → ℕ → ℕ
turn_price size headers = 250 * size + 4000 * (headers + 1) + 106300

-- the loop comes back to its test with all of these words read
pub record WordsAreDone (p : SourceProgram) (count end : ℕ) (c : List ℕ) (w : World) (h a : ℕ) (name : List ℕ) (older : List Header)
    (last : OpenItems) (r' : ℕ) : Type 0 where
  pub after : World
  pub run : (work : List Work) (entries : List Entry) (callers : List Frame) →
      Comes p (count * turn_steps (data_cell w length_cell) (length older)) (count * turn_price (data_cell w length_cell) (length older))
      (before_test work entries callers c w) (before_test work entries callers c after)
  pub console : KeepsConsole w after
  pub still_open : IsOpen after h a name older last
  pub place : data_cell after reached_cell ≡ r'
  pub rest : (b : ℕ) → IsOutside a end b → b / 2 ≢ reached_cell / 2 → (b < word_buffer) ⊎ (word_buffer + 82 ≤ b) →
      data_byte after b ≡ data_byte w b

-- words that lead from what has been read to the last are read off the line
abbrev pub LinesOfWordsAreRead : Type 0
LinesOfWordsAreRead =
    (p : SourceProgram) (words : List TypedWord) (c : List ℕ) (w : World) (most end h a : ℕ) (name : List ℕ) (older : List Header)
    (items last : OpenItems) (r' : ℕ) →
    HasDefiningWords p → IsOpen w h a name older items → IsLine w a → ReadsTo most end a words items last → most ≤ 16 → end ≤ 16288 →
    WordsStand w older (data_cell w reached_cell) words r' →
    WordsAreDone p (length words) end c w h a name older last r'

-- and so those of items that are nested at most eight deep, behind the name of their definition
abbrev pub BodiesAreRead : Type 0
BodiesAreRead =
    (p : SourceProgram) (items : TypedItems) (c : List ℕ) (w : World) (h a : ℕ) (name : List ℕ) (older : List Header) (r' : ℕ) →
    HasDefiningWords p → IsOpen w h a name older nothing_read → IsLine w a → nesting items ≤ 8 → a + items_size items ≤ 16288 →
    WordsStand w older (data_cell w reached_cell) (words_of items) r' →
    WordsAreDone p (length (words_of items)) (a + items_size items) c w h a name older (record { around = []; done = items }) r'
