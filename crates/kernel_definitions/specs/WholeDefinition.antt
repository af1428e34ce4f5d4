-- A whole definition on a line: `:`, its name, the words of its items and `;`, read by as many turns of INTERPRET's loop.
use Rattle.std.specs.Prelude.{◌≡◌, ◌≢◌, ◌⊎◌, ℕ, ◌+◌, ◌*◌, ◌/◌, ◌≤◌, ◌<◌, false, List, ◌∷◌, length}
use Rattle.forth_program.specs.State.{Entry, World, Frame, Work}
use Rattle.forth_program.specs.Program.{SourceProgram}
use Rattle.kernel_words.specs.Places.{here_cell, latest_cell, length_cell, reached_cell, source_cell}
use Rattle.kernel_words.specs.Running.{Comes}
use Rattle.kernel_words.specs.Memory.{IsDataSpace, KeepsConsole, data_cell, data_byte, data_bytes}
use Rattle.kernel_words.specs.Headers.{Header, Headers}
use Rattle.kernel_words.specs.Laws.{place_past}
use Rattle.kernel_lines.specs.Places.{state_cell, new_cell, kept_here_cell, kept_latest_cell, first_here_cell, open_count_cell, level_cell}
use Rattle.kernel_definitions.specs.Places.{code_of_token}
use Rattle.kernel_definitions.specs.Bodies.{HasDefiningWords}
use Rattle.kernel_definitions.specs.TypedItems.{TypedItems, items_size, words_of, typed_cells, CellsStand}
use Rattle.kernel_definitions.specs.OpenDefinition.{LieBelow}
use Rattle.kernel_definitions.specs.Compiling.{nesting}
use Rattle.kernel_definitions.specs.Interpreting.{IsFound}
use Rattle.kernel_definitions.specs.Turns.{before_test}
use Rattle.kernel_definitions.specs.WholeLine.{IsWordAt, WordsStand, turn_steps, turn_price}
use Rattle.kernel_definitions.specs.Opening.{MeetsColon}

-- the next words of the line are `:` and a name, the words of these items, and `;` at last, and there is room for the cells of the items
pub record MeetsDefinition (w : World) (first size first' size' last last_size h a : ℕ) (older : List Header)
    (items : TypedItems) : Type 0 where
  pub begins : MeetsColon w first size first' size' h a older
  pub nested : nesting items ≤ 8
  pub room : a + items_size items + 2 ≤ 16288
  pub behind : ℕ
  pub body : WordsStand w older (place_past w (data_cell w source_cell) first' size') (words_of items) behind
  pub end : IsWordAt w behind last last_size
  pub semicolon : IsFound older (data_bytes w last_size last) 1 (code_of_token 6)

-- the loop comes back to its test with the definition whole: its cells are those of its items with the return behind, its header has its
-- name and is the newest, and HERE and LATEST are kept; no byte is changed but those of HERE, of the cells from >IN to WORD-BUFFER, from
-- STATE to KEPT-LATEST and from OPEN-COUNT to LOOPS, and from its header on to its end
pub record DefinitionIsTyped (p : SourceProgram) (most highest : ℕ) (c : List ℕ) (w : World) (last last_size h a : ℕ) (name : List ℕ)
    (older : List Header) (items : TypedItems) : Type 0 where
  pub after : World
  pub run : (work : List Work) (entries : List Entry) (callers : List Frame) →
      Comes p most highest (before_test work entries callers c w) (before_test work entries callers c after)
  pub console : KeepsConsole w after
  pub cells : CellsStand after a (typed_cells items a)
  pub here : data_cell after here_cell ≡ a + items_size items + 2
  pub latest : data_cell after latest_cell ≡ h
  pub chain : Headers after h (record { name = name; code = a; immediate = false } ∷ older)
  pub lie : LieBelow after a h (record { name = name; code = a; immediate = false } ∷ older)
  pub state : data_cell after state_cell ≡ 0
  pub new : data_cell after new_cell ≡ 0
  pub kept_here : data_cell after kept_here_cell ≡ a + items_size items + 2
  pub kept_latest : data_cell after kept_latest_cell ≡ h
  pub place : data_cell after reached_cell ≡ place_past w (data_cell w source_cell) last last_size
  pub rest : (b : ℕ) → 8192 ≤ b → b / 2 ≢ here_cell / 2 → (b < reached_cell) ⊎ (source_cell ≤ b) →
      (b < state_cell) ⊎ (first_here_cell ≤ b) →
      (b < open_count_cell) ⊎ (level_cell ≤ b) → (b < h) ⊎ (a + items_size items + 2 ≤ b) → data_byte after b ≡ data_byte w b

abbrev pub DefinitionsAreTyped : Type 0
DefinitionsAreTyped =
    (p : SourceProgram) (c : List ℕ) (w : World) (first size first' size' last last_size h a : ℕ) (older : List Header)
    (items : TypedItems) →
    HasDefiningWords p → IsDataSpace w → MeetsDefinition w first size first' size' last last_size h a older items →
    DefinitionIsTyped p
    (length (words_of items) * turn_steps (data_cell w length_cell) (length older) + 1200 * (data_cell w length_cell + 1)
    + 8000 * (length older + 1) + 500)
    (length (words_of items) * turn_price (data_cell w length_cell) (length older) + 750 * data_cell w length_cell
    + 8000 * (length older + 1) + 160 * size' + 2600)
    c w last last_size h a (data_bytes w size' first') older items
