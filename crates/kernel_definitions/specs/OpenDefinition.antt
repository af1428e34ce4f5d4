-- A typed definition that is open: what of its items has been read, and what stands for it in data space.
use Rattle.std.specs.Prelude.{◌≡◌, ◌≢◌, ◌⊎◌, ℕ, ◌+◌, ◌/◌, ◌%◌, ◌≤◌, ◌<◌, false, Option, Some, None, List, [], ◌∷◌}
use Rattle.forth_program.specs.State.{World}
use Rattle.kernel_words.specs.Places.{here_cell, latest_cell}
use Rattle.kernel_words.specs.Memory.{IsDataSpace, data_cell, data_byte}
use Rattle.kernel_words.specs.Headers.{Header, Headers}
use Rattle.kernel_lines.specs.Places.{state_cell, new_cell, open_count_cell}
use Rattle.kernel_definitions.specs.Stores.{entry}
use Rattle.kernel_definitions.specs.TypedItems.{TypedItem, Number, Called, IfThen, IfElse, BeginUntil, BeginWhile, TypedItems, NoItem}
use Rattle.kernel_definitions.specs.TypedItems.{added, items_size, items_cells, CellsStand}
use Rattle.kernel_definitions.specs.TypedItems.{TypedWord, IsNumber, IsCalled, IsIf, IsElse, IsThen, IsBegin, IsUntil, IsWhile, IsRepeat}

-- ---- what has been read

-- a structure that is open, with the items before it, and with those of its parts that are whole
pub data OpenStructure : Type 0 where
  InIf : (before : TypedItems) → OpenStructure
  InElse : (before first : TypedItems) → OpenStructure
  InBegin : (before : TypedItems) → OpenStructure
  InWhile : (before test : TypedItems) → OpenStructure

-- the open structures, the innermost first, and the items that were read in the innermost
pub record OpenItems : Type 0 where
  pub around : List OpenStructure
  pub done : TypedItems

abbrev pub nothing_read : OpenItems
nothing_read = record { around = []; done = NoItem }

abbrev pub opens : OpenStructure → List OpenStructure → Option OpenItems
opens structure outer = Some (record { around = structure ∷ outer; done = NoItem })

abbrev pub goes_on : List OpenStructure → TypedItems → TypedItem → Option OpenItems
goes_on outer before item = Some (record { around = outer; done = added before item })

-- what has been read after one word more; none where it has no place there
abbrev pub after_word : TypedWord → List OpenStructure → TypedItems → Option OpenItems
after_word (IsNumber value) around done = goes_on around done (Number value)
after_word (IsCalled address) around done = goes_on around done (Called address)
after_word IsIf around done = opens (InIf done) around
after_word IsElse (InIf before ∷ outer) done = opens (InElse before done) outer
after_word IsThen (InIf before ∷ outer) done = goes_on outer before (IfThen done)
after_word IsThen (InElse before first ∷ outer) done = goes_on outer before (IfElse first done)
after_word IsBegin around done = opens (InBegin done) around
after_word IsUntil (InBegin before ∷ outer) done = goes_on outer before (BeginUntil done)
after_word IsWhile (InBegin before ∷ outer) done = opens (InWhile before done) outer
after_word IsRepeat (InWhile before test ∷ outer) done = goes_on outer before (BeginWhile test done)
after_word word around done = None

-- after a list of words
abbrev pub after_words : List TypedWord → OpenItems → Option OpenItems
after_words [] items = Some items
after_words (word ∷ words) items = elim (after_word word items.around items.done) [ None ↦ None | Some next ↦ after_words words next ]

-- ---- what stands for it

-- the address at which the items of the innermost structure begin
abbrev pub inner : List OpenStructure → ℕ → ℕ
inner [] a = a
inner (InIf before ∷ outer) a = inner outer a + items_size before + 2
inner (InElse before first ∷ outer) a = inner outer a + items_size before + 2 + items_size first + 2
inner (InBegin before ∷ outer) a = inner outer a + items_size before
inner (InWhile before test ∷ outer) a = inner outer a + items_size before + items_size test + 2

-- and at which what is read next will stand
abbrev pub end_of : OpenItems → ℕ → ℕ
end_of items a = inner items.around a + items_size items.done

-- the cells of the open structures: those of their items, with 8192 for a branch and 0 for a jump whose place is not known yet
abbrev pub OuterStand : World → ℕ → List OpenStructure → Type 0
OuterStand w a [] = Unit {0}
OuterStand w a (InIf before ∷ outer) =
    CellsStand w (inner outer a) (items_cells before (inner outer a)) × (data_cell w (inner outer a + items_size before) ≡ 8192) ×
    OuterStand w a outer
OuterStand w a (InElse before first ∷ outer) =
    CellsStand w (inner outer a) (items_cells before (inner outer a)) ×
    (data_cell w (inner outer a + items_size before) ≡ 8192 + (inner outer a + items_size before + 2 + items_size first + 2) / 2) ×
    CellsStand w (inner outer a + items_size before + 2) (items_cells first (inner outer a + items_size before + 2)) ×
    (data_cell w (inner outer a + items_size before + 2 + items_size first) ≡ 0) × OuterStand w a outer
OuterStand w a (InBegin before ∷ outer) = CellsStand w (inner outer a) (items_cells before (inner outer a)) × OuterStand w a outer
OuterStand w a (InWhile before test ∷ outer) =
    CellsStand w (inner outer a) (items_cells before (inner outer a)) ×
    CellsStand w (inner outer a + items_size before) (items_cells test (inner outer a + items_size before)) ×
    (data_cell w (inner outer a + items_size before + items_size test) ≡ 8192) × OuterStand w a outer

-- how many entries of STRUCTURES they have
abbrev pub entries : List OpenStructure → ℕ
entries [] = 0
entries (InIf before ∷ outer) = entries outer + 1
entries (InElse before first ∷ outer) = entries outer + 1
entries (InBegin before ∷ outer) = entries outer + 1
entries (InWhile before test ∷ outer) = entries outer + 2

-- an entry has this kind and this place
abbrev pub IsEntry : World → ℕ → ℕ → ℕ → Type 0
IsEntry w n kind place = (data_cell w (entry n) ≡ kind) × (data_cell w (entry n + 2) ≡ place)

-- and which they are: kind 1 with the place of a cell to be led to its end, kind 2 with a place to go back to
abbrev pub EntriesStand : World → ℕ → List OpenStructure → Type 0
EntriesStand w a [] = Unit {0}
EntriesStand w a (InIf before ∷ outer) = IsEntry w (entries outer) 1 (inner outer a + items_size before) × EntriesStand w a outer
EntriesStand w a (InElse before first ∷ outer) =
    IsEntry w (entries outer) 1 (inner outer a + items_size before + 2 + items_size first) × EntriesStand w a outer
EntriesStand w a (InBegin before ∷ outer) = IsEntry w (entries outer) 2 (inner outer a + items_size before) × EntriesStand w a outer
EntriesStand w a (InWhile before test ∷ outer) =
    IsEntry w (entries outer) 1 (inner outer a + items_size before + items_size test) ×
    IsEntry w (entries outer + 1) 2 (inner outer a + items_size before) ×
    EntriesStand w a outer

-- the headers of a chain lie behind the open structures and below an address
abbrev pub LieBelow : World → ℕ → ℕ → List Header → Type 0
LieBelow w end h [] = Unit {0}
LieBelow w end h (header ∷ older) = (8640 ≤ h) × (h + 6 + data_byte w (h + 4) ≤ end) × LieBelow w end (data_cell w h) older

-- a definition is open whose header is at h and whose code is at a: STATE is -1, NEW is its header, which is linked to the older ones and
-- not in the chain itself; from a on stand the cells of what has been read, up to HERE, and STRUCTURES has the open structures
pub record IsOpen (w : World) (h a : ℕ) (name : List ℕ) (older : List Header) (items : OpenItems) : Type 0 where
  pub space : IsDataSpace w
  pub state : data_cell w state_cell ≡ 65535
  pub new : data_cell w new_cell ≡ h
  pub some : 1 ≤ h
  pub chain : Headers w h (record { name = name; code = a; immediate = false } ∷ older)
  pub lie : LieBelow w a h (record { name = name; code = a; immediate = false } ∷ older)
  pub latest : data_cell w latest_cell ≡ data_cell w h
  pub even : a % 2 ≡ 0
  pub low : 8640 ≤ a
  pub here : data_cell w here_cell ≡ end_of items a
  pub high : end_of items a ≤ 16384
  pub outer : OuterStand w a items.around
  pub done : CellsStand w (inner items.around a) (items_cells items.done (inner items.around a))
  pub count : data_cell w open_count_cell ≡ entries items.around
  pub few : entries items.around ≤ 16
  pub structures : EntriesStand w a items.around

-- an address is outside what a word of an open definition may change: HERE, OPEN-COUNT and STRUCTURES, and the code up to the new HERE
pub record IsOutside (a end b : ℕ) : Type 0 where
  pub low : 8192 ≤ b
  pub here : b / 2 ≢ here_cell / 2
  pub entries : (b < 8568) ⊎ (8634 ≤ b)
  pub code : (b < a) ⊎ (end ≤ b)
