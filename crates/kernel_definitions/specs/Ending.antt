-- A turn of INTERPRET's loop with `;`.
use Rattle.std.specs.Prelude.{◌≡◌, ◌≢◌, ℕ, ◌+◌, ◌*◌, ◌/◌, ◌≤◌, false, List, [], ◌∷◌, length}
use Rattle.forth_program.specs.State.{Entry, World, Frame, Work}
use Rattle.forth_program.specs.Program.{SourceProgram}
use Rattle.kernel_words.specs.Places.{here_cell, latest_cell, length_cell, reached_cell, source_cell, word_buffer}
use Rattle.kernel_words.specs.Running.{Comes}
use Rattle.kernel_words.specs.Memory.{KeepsConsole, data_cell, data_byte, data_bytes}
use Rattle.kernel_words.specs.Headers.{Header, Headers}
use Rattle.kernel_words.specs.Laws.{place_past}
use Rattle.kernel_lines.specs.Places.{state_cell, new_cell, kept_here_cell, kept_latest_cell, first_here_cell}
use Rattle.kernel_definitions.specs.Places.{code_of_token}
use Rattle.kernel_definitions.specs.Bodies.{HasDefiningWords}
use Rattle.kernel_definitions.specs.TypedItems.{TypedItems, items_size, typed_cells, CellsStand}
use Rattle.kernel_definitions.specs.OpenDefinition.{LieBelow, IsOpen}
use Rattle.kernel_definitions.specs.Interpreting.{IsFound}
use Rattle.kernel_definitions.specs.Turns.{before_test, MeetsWord}

-- the loop comes back to its test, the definition is whole and its header the newest, and HERE and LATEST are kept as the places to come
-- back to
pub record DefinitionIsKept (p : SourceProgram) (most highest : ℕ) (c : List ℕ) (w : World) (first size h a : ℕ) (name : List ℕ)
    (older : List Header) (items : TypedItems) : Type 0 where
  pub after : World
  pub run : (work : List Work) (entries : List Entry) (callers : List Frame) →
      Comes p most highest (before_test work entries callers c w) (before_test work entries callers c after)
  pub console : KeepsConsole w after
  pub cells : CellsStand after a (typed_cells items a)
  pub here : data_cell after here_cell ≡ a + items_size items + 2
  pub latest : data_cell after latest_cell ≡ h
  pub chain : Headers after h (record { name = name; code = a; immediate = false } ∷ older)
  pub lie : LieBelow after a h (record { name = name; code = a; immediate = false } ∷ older)
  pub state : data_cell after state_cell ≡ 0
  pub new : data_cell after new_cell ≡ 0
  pub kept_here : data_cell after kept_here_cell ≡ a + items_size items + 2
  pub kept_latest : data_cell after kept_latest_cell ≡ h
  pub place : data_cell after reached_cell ≡ place_past w (data_cell w source_cell) first size
  pub rest : (b : ℕ) → 8192 ≤ b → b / 2 ≢ here_cell / 2 → b / 2 ≢ latest_cell / 2 → b / 2 ≢ state_cell / 2 → b / 2 ≢ new_cell / 2 →
      b / 2 ≢ kept_here_cell / 2 → b / 2 ≢ kept_latest_cell / 2 →
      b / 2 ≢ reached_cell / 2 → ((i : ℕ) → i ≤ size → b ≢ word_buffer + i) → b / 2 ≢ (a + items_size items) / 2 →
      data_byte after b ≡ data_byte w b

abbrev pub DefinitionsAreKept : Type 0
DefinitionsAreKept =
    (p : SourceProgram) (c : List ℕ) (w : World) (first size h a : ℕ) (name : List ℕ) (older : List Header) (items : TypedItems) →
    HasDefiningWords p → IsOpen w h a name older (record { around = []; done = items }) → a + items_size items + 2 ≤ 16288 →
    data_cell w first_here_cell ≤ a → MeetsWord w first size →
    IsFound older (data_bytes w size first) 1 (code_of_token 6) →
    DefinitionIsKept p (400 * (data_cell w length_cell + 1) + 4000 * (length older + 1) + 250)
    (250 * data_cell w length_cell + 4000 * (length older + 1) + 1000) c w first size h a name older items
