-- What the kernel's words do with an open definition.
use Rattle.std.specs.Prelude.{◌≡◌, ◌≢◌, ℕ, ◌+◌, ◌*◌, ◌/◌, ◌≤◌, ◌<◌, nat_lt, if◌then◌else◌, false, Some, List, [], ◌∷◌}
use Rattle.forth_program.specs.Tree.{Nodes}
use Rattle.forth_program.specs.State.{World}
use Rattle.forth_program.specs.Program.{SourceProgram}
use Rattle.kernel_words.specs.Running.{Returns}
use Rattle.kernel_words.specs.Places.{here_cell, latest_cell}
use Rattle.kernel_words.specs.Memory.{IsDataSpace, KeepsConsole, data_cell}
use Rattle.kernel_words.specs.Headers.{Header, Headers}
use Rattle.kernel_lines.specs.Places.{state_cell, new_cell, open_count_cell}
use Rattle.kernel_definitions.specs.Bodies.{HasDefiningWords, compile_literal_body, compile_call_body, kernel_if_body, kernel_then_body}
use Rattle.kernel_definitions.specs.Bodies.{kernel_else_body, kernel_begin_body, kernel_until_body, kernel_while_body, kernel_repeat_body}
use Rattle.kernel_definitions.specs.Bodies.{kernel_semicolon_body}
use Rattle.kernel_definitions.specs.TypedItems.{TypedItem, Number, Called, IfThen, IfElse, BeginUntil, BeginWhile, TypedItems, NoItem, Item}
use Rattle.kernel_definitions.specs.TypedItems.{items_size, words_of, typed_cells, CellsStand}
use Rattle.kernel_definitions.specs.TypedItems.{TypedWord, IsNumber, IsCalled, IsIf, IsElse, IsThen, IsBegin, IsUntil, IsWhile, IsRepeat}
use Rattle.kernel_definitions.specs.OpenDefinition.{OpenItems, nothing_read, after_word, end_of, entries, LieBelow, IsOpen, IsOutside}

-- a definition of the kernel returns, and of the typed definition these items are read now; nothing is printed or taken, and no cell
-- outside is changed
pub record IsRead (p : SourceProgram) (body : Nodes) (most highest : ℕ) (c : List ℕ) (w : World) (c' : List ℕ) (h a : ℕ) (name : List ℕ)
    (older : List Header) (items : OpenItems) : Type 0 where
  pub after : World
  pub run : Returns p body most highest c w c' after
  pub console : KeepsConsole w after
  pub still_open : IsOpen after h a name older items
  pub rest : (b : ℕ) → IsOutside a (end_of items a) b → data_cell after b ≡ data_cell w b

-- the definition of the kernel that reads a word, and the cells that it takes
abbrev pub word_body : TypedWord → Nodes
word_body (IsNumber value) = compile_literal_body
word_body (IsCalled address) = compile_call_body
word_body IsIf = kernel_if_body
word_body IsElse = kernel_else_body
word_body IsThen = kernel_then_body
word_body IsBegin = kernel_begin_body
word_body IsUntil = kernel_until_body
word_body IsWhile = kernel_while_body
word_body IsRepeat = kernel_repeat_body

abbrev pub with_operand : TypedWord → List ℕ → List ℕ
with_operand (IsNumber value) c = value ∷ c
with_operand (IsCalled address) c = address ∷ c
with_operand word c = c

-- a number and an address are cells
abbrev pub OperandFits : TypedWord → Type 0
OperandFits (IsNumber value) = value < 65536
OperandFits (IsCalled address) = address < 65536
OperandFits word = Unit {0}

-- a word that has its place there is read, where there is room for its cells and for its entries
abbrev pub WordsAreRead : Type 0
WordsAreRead =
    (p : SourceProgram) (word : TypedWord) (c : List ℕ) (w : World) (h a : ℕ) (name : List ℕ) (older : List Header)
    (items next : OpenItems) →
    HasDefiningWords p → OperandFits word → IsOpen w h a name older items → after_word word items.around items.done ≡ Some next →
    end_of next a ≤ 16384 → entries next.around ≤ 16 →
    IsRead p (word_body word) 78 280 (with_operand word c) w c h a name older next

-- ---- whole lists of words

-- how deep the structures of items are nested
abbrev pub deeper : ℕ → ℕ → ℕ
deeper m n = if nat_lt m n then n else m

abbrev mutual
  pub item_nesting : TypedItem → ℕ
  item_nesting (Number value) = 0
  item_nesting (Called address) = 0
  item_nesting (IfThen first) = 1 + nesting first
  item_nesting (IfElse first second) = 1 + deeper (nesting first) (nesting second)
  item_nesting (BeginUntil body) = 1 + nesting body
  item_nesting (BeginWhile test body) = 1 + deeper (nesting test) (nesting body)

  pub nesting : TypedItems → ℕ
  nesting NoItem = 0
  nesting (Item item rest) = deeper (item_nesting item) (nesting rest)

-- from what has been read the words lead, one by one, to the last; behind each there are at most so many entries, and what was read ends by
-- the end
abbrev pub ReadsTo : ℕ → ℕ → ℕ → List TypedWord → OpenItems → OpenItems → Type 0
ReadsTo most end a [] items last = items ≡ last
ReadsTo most end a (word ∷ words) items last =
    (next : OpenItems) × (after_word word items.around items.done ≡ Some next) × (entries next.around ≤ most) × (end_of next a ≤ end) ×
    ReadsTo most end a words next last

-- the words that items are typed as lead to these items, with two entries for each level at most
abbrev pub ItemsAreRead : Type 0
ItemsAreRead =
    (items : TypedItems) (a : ℕ) → ReadsTo (2 * nesting items) (a + items_size items) a (words_of items) nothing_read
    (record { around = []; done = items })

-- ---- `;`

-- the definition is whole: its cells are those of its items with the return behind, and its header is the newest
pub record IsDefined (p : SourceProgram) (body : Nodes) (most highest : ℕ) (c : List ℕ) (w : World) (c' : List ℕ) (h a : ℕ) (name : List ℕ)
    (older : List Header) (items : TypedItems) : Type 0 where
  pub after : World
  pub run : Returns p body most highest c w c' after
  pub console : KeepsConsole w after
  pub cells : CellsStand after a (typed_cells items a)
  pub here : data_cell after here_cell ≡ a + items_size items + 2
  pub latest : data_cell after latest_cell ≡ h
  pub chain : Headers after h (record { name = name; code = a; immediate = false } ∷ older)
  pub lie : LieBelow after a h (record { name = name; code = a; immediate = false } ∷ older)
  pub state : data_cell after state_cell ≡ 0
  pub new : data_cell after new_cell ≡ 0
  pub rest : (b : ℕ) → 8192 ≤ b → b / 2 ≢ here_cell / 2 → b / 2 ≢ latest_cell / 2 → b / 2 ≢ state_cell / 2 → b / 2 ≢ new_cell / 2 →
      b / 2 ≢ (a + items_size items) / 2 →
      data_cell after b ≡ data_cell w b

-- `;` ends a definition in which no structure is open
abbrev pub DefinitionsAreEnded : Type 0
DefinitionsAreEnded =
    (p : SourceProgram) (c : List ℕ) (w : World) (h a : ℕ) (name : List ℕ) (older : List Header) (items : TypedItems) →
    HasDefiningWords p → IsOpen w h a name older (record { around = []; done = items }) → a + items_size items + 2 ≤ 16384 →
    IsDefined p kernel_semicolon_body 24 84 c w c h a name older items

-- ---- what other words may do meanwhile

-- whatever keeps STATE, NEW, LATEST, HERE, OPEN-COUNT and STRUCTURES, and what stands from behind the open structures up to HERE, keeps a
-- definition open
pub record KeepsDefinition (old new : World) (end : ℕ) : Type 0 where
  pub space : IsDataSpace new
  pub here : data_cell new here_cell ≡ data_cell old here_cell
  pub latest : data_cell new latest_cell ≡ data_cell old latest_cell
  pub state : data_cell new state_cell ≡ data_cell old state_cell
  pub header : data_cell new new_cell ≡ data_cell old new_cell
  pub structures : (b : ℕ) → open_count_cell ≤ b → b < 8634 → data_cell new b ≡ data_cell old b
  pub code : (b : ℕ) → 8640 ≤ b → b < end → data_cell new b ≡ data_cell old b

abbrev pub OpenStays : Type 0
OpenStays =
    (v w : World) (h a : ℕ) (name : List ℕ) (older : List Header) (items : OpenItems) → IsOpen w h a name older items →
    KeepsDefinition w v (end_of items a) → IsOpen v h a name older items
