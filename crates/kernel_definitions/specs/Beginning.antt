-- What `:` does.
use Rattle.std.specs.Prelude.{◌≡◌, ◌≢◌, ◌⊎◌, ℕ, ◌+◌, ◌*◌, ◌/◌, ◌≤◌, List}
use Rattle.console_ports.specs.Ports.{even}
use Rattle.forth_program.specs.Tree.{Nodes}
use Rattle.forth_program.specs.State.{World}
use Rattle.forth_program.specs.Program.{SourceProgram}
use Rattle.kernel_words.specs.Places.{here_cell, length_cell, reached_cell, latest_cell, word_buffer, source_cell}
use Rattle.kernel_words.specs.Running.{Returns}
use Rattle.kernel_words.specs.Memory.{IsDataSpace, KeepsConsole, data_cell, data_byte, data_bytes}
use Rattle.kernel_words.specs.Headers.{Header, Headers}
use Rattle.kernel_words.specs.Laws.{HasSource, IsNextWord, IsApart, place_past}
use Rattle.kernel_lines.specs.Places.{state_cell, new_cell, open_count_cell, leaves_cell, loops_cell}
use Rattle.kernel_definitions.specs.Bodies.{HasDefiningWords, kernel_colon_body}
use Rattle.kernel_definitions.specs.OpenDefinition.{nothing_read, LieBelow, IsOpen}

-- the next word of the source is a name of 1 to 31 bytes, which begins at first; its header has room at h, which is HERE aligned, and its
-- code will begin at a; the chain has these headers, all of them behind the open structures and below HERE
pub record MayBegin (w : World) (first size h a : ℕ) (older : List Header) : Type 0 where
  pub space : IsDataSpace w
  pub source : HasSource w (data_cell w source_cell)
  pub apart : (data_cell w source_cell + data_cell w length_cell ≤ reached_cell) ⊎ (word_buffer + 82 ≤ data_cell w source_cell)
  pub word : IsNextWord w 32 (data_cell w source_cell) first size
  pub some : 1 ≤ size
  pub few : size ≤ 31
  pub low : 8640 ≤ data_cell w here_cell
  pub header : h ≡ even (data_cell w here_cell + 1)
  pub code : a ≡ even (h + 6 + size + 1)
  pub room : a ≤ 16384
  pub chain : Headers w (data_cell w latest_cell) older
  pub lie : LieBelow w (data_cell w here_cell) (data_cell w latest_cell) older

-- a definition is open of which nothing has been read, with that name; its header is made, and is not in the chain
pub record IsBegun (p : SourceProgram) (body : Nodes) (most highest : ℕ) (c : List ℕ) (w : World) (c' : List ℕ) (first size h a : ℕ)
    (older : List Header) : Type 0 where
  pub after : World
  pub run : Returns p body most highest c w c' after
  pub console : KeepsConsole w after
  pub open_now : IsOpen after h a (data_bytes w size first) older nothing_read
  pub latest : data_cell after latest_cell ≡ data_cell w latest_cell
  pub place : data_cell after reached_cell ≡ place_past w (data_cell w source_cell) first size
  pub rest : (b : ℕ) → 8192 ≤ b → b / 2 ≢ here_cell / 2 → b / 2 ≢ reached_cell / 2 → b / 2 ≢ latest_cell / 2 →
      ((i : ℕ) → i ≤ size → b ≢ word_buffer + i) →
      b / 2 ≢ state_cell / 2 → b / 2 ≢ new_cell / 2 → b / 2 ≢ open_count_cell / 2 → b / 2 ≢ leaves_cell / 2 → b / 2 ≢ loops_cell / 2 →
      IsApart b h (h + 6 + size) →
      data_byte after b ≡ data_byte w b

-- `:` begins a definition
abbrev pub DefinitionsAreBegun : Type 0
DefinitionsAreBegun =
    (p : SourceProgram) (c : List ℕ) (w : World) (first size h a : ℕ) (older : List Header) → HasDefiningWords p →
    MayBegin w first size h a older →
    IsBegun p kernel_colon_body (76 + 400 * (data_cell w length_cell + 1))
    (991 + 250 * data_cell w length_cell + 160 * size) c w c first size h a older
