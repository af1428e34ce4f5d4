-- A turn of INTERPRET's loop with `:` and the name behind it.
use Rattle.std.specs.Prelude.{◌≡◌, ◌≢◌, ◌⊎◌, ℕ, ◌+◌, ◌*◌, ◌/◌, ◌≤◌, ◌<◌, List, length}
use Rattle.console_ports.specs.Ports.{even}
use Rattle.forth_program.specs.State.{Entry, World, Frame, Work}
use Rattle.forth_program.specs.Program.{SourceProgram}
use Rattle.kernel_words.specs.Places.{here_cell, latest_cell, length_cell, reached_cell, source_cell, word_buffer}
use Rattle.kernel_words.specs.Running.{Comes}
use Rattle.kernel_words.specs.Memory.{IsDataSpace, KeepsConsole, data_cell, data_byte, data_bytes}
use Rattle.kernel_words.specs.Headers.{Header, Headers}
use Rattle.kernel_words.specs.Laws.{IsApart, place_past}
use Rattle.kernel_lines.specs.Places.{state_cell, new_cell, open_count_cell, leaves_cell, loops_cell}
use Rattle.kernel_definitions.specs.Places.{code_of_token}
use Rattle.kernel_definitions.specs.Bodies.{HasDefiningWords}
use Rattle.kernel_definitions.specs.OpenDefinition.{nothing_read, LieBelow, IsOpen}
use Rattle.kernel_definitions.specs.Interpreting.{IsFound}
use Rattle.kernel_definitions.specs.Turns.{before_test, MeetsWord}
use Rattle.kernel_definitions.specs.WholeLine.{IsWordAt, IsLine}

-- outside definitions the next word of a line is `:`, and a name of at most 31 bytes is behind it, whose header has room at h, and whose
-- code will begin at a; the chain has these headers
pub record MeetsColon (w : World) (first size first' size' h a : ℕ) (older : List Header) : Type 0 where
  pub meets : MeetsWord w first size
  pub line : IsLine w a
  pub colon : IsFound older (data_bytes w size first) 65535 (code_of_token 5)
  pub name : IsWordAt w (place_past w (data_cell w source_cell) first size) first' size'
  pub few : size' ≤ 31
  pub outside : data_cell w state_cell ≡ 0
  pub low : 8640 ≤ data_cell w here_cell
  pub header : h ≡ even (data_cell w here_cell + 1)
  pub code : a ≡ even (h + 6 + size' + 1)
  pub room : a ≤ 16288
  pub chain : Headers w (data_cell w latest_cell) older
  pub lie : LieBelow w (data_cell w here_cell) (data_cell w latest_cell) older

-- the loop comes back to its test with a definition open of which nothing has been read; the line is one still
pub record DefinitionIsOpened (p : SourceProgram) (most highest : ℕ) (c : List ℕ) (w : World) (first size first' size' h a : ℕ)
    (older : List Header) : Type 0 where
  pub after : World
  pub run : (work : List Work) (entries : List Entry) (callers : List Frame) →
      Comes p most highest (before_test work entries callers c w) (before_test work entries callers c after)
  pub console : KeepsConsole w after
  pub open_now : IsOpen after h a (data_bytes w size' first') older nothing_read
  pub latest : data_cell after latest_cell ≡ data_cell w latest_cell
  pub place : data_cell after reached_cell ≡ place_past w (data_cell w source_cell) first' size'
  pub rest : (b : ℕ) → 8192 ≤ b → b / 2 ≢ here_cell / 2 → b / 2 ≢ reached_cell / 2 → b / 2 ≢ latest_cell / 2 →
      (b < word_buffer) ⊎ (word_buffer + 82 ≤ b) →
      b / 2 ≢ state_cell / 2 → b / 2 ≢ new_cell / 2 → b / 2 ≢ open_count_cell / 2 → b / 2 ≢ leaves_cell / 2 → b / 2 ≢ loops_cell / 2 →
      IsApart b h (h + 6 + size') →
      data_byte after b ≡ data_byte w b

abbrev pub DefinitionsAreOpened : Type 0
DefinitionsAreOpened =
    (p : SourceProgram) (c : List ℕ) (w : World) (first size first' size' h a : ℕ) (older : List Header) → HasDefiningWords p →
    IsDataSpace w → MeetsColon w first size first' size' h a older →
    DefinitionIsOpened p (800 * (data_cell w length_cell + 1) + 4000 * (length older + 1) + 250)
    (500 * data_cell w length_cell + 4000 * (length older + 1) + 160 * size' + 1600) c w first size first' size' h a older
