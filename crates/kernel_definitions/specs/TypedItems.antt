-- The items of a typed definition, as trees, the words that they are typed as, and the cells that stand for them.
use Rattle.std.specs.Prelude.{◌≡◌, ℕ, ◌+◌, ◌-◌, ◌/◌, nat_lt, if◌then◌else◌, List, [], ◌∷◌, ◌++◌}
use Rattle.forth_program.specs.State.{World}
use Rattle.kernel_words.specs.Memory.{data_cell}

mutual
  pub data TypedItem : Type 0 where
    Number : (value : ℕ) → TypedItem
    -- a call of code at a byte address
    Called : (address : ℕ) → TypedItem
    -- IF first THEN, and IF first ELSE second THEN
    IfThen : (first : TypedItems) → TypedItem
    IfElse : (first second : TypedItems) → TypedItem
    -- BEGIN body UNTIL, and BEGIN test WHILE body REPEAT
    BeginUntil : (body : TypedItems) → TypedItem
    BeginWhile : (test body : TypedItems) → TypedItem

  pub data TypedItems : Type 0 where
    NoItem : TypedItems
    Item : (item : TypedItem) (rest : TypedItems) → TypedItems

-- an item behind others
abbrev pub added : TypedItems → TypedItem → TypedItems
added NoItem item = Item item NoItem
added (Item first rest) item = Item first (added rest item)

-- ---- the words as they are typed
pub data TypedWord : Type 0 where
  IsNumber : (value : ℕ) → TypedWord
  IsCalled : (address : ℕ) → TypedWord
  IsIf : TypedWord
  IsElse : TypedWord
  IsThen : TypedWord
  IsBegin : TypedWord
  IsUntil : TypedWord
  IsWhile : TypedWord
  IsRepeat : TypedWord

abbrev mutual
  pub words_of_item : TypedItem → List TypedWord
  words_of_item (Number value) = IsNumber value ∷ []
  words_of_item (Called address) = IsCalled address ∷ []
  words_of_item (IfThen first) = IsIf ∷ (words_of first ++ IsThen ∷ [])
  words_of_item (IfElse first second) = IsIf ∷ (words_of first ++ IsElse ∷ (words_of second ++ IsThen ∷ []))
  words_of_item (BeginUntil body) = IsBegin ∷ (words_of body ++ IsUntil ∷ [])
  words_of_item (BeginWhile test body) = IsBegin ∷ (words_of test ++ IsWhile ∷ (words_of body ++ IsRepeat ∷ []))

  pub words_of : TypedItems → List TypedWord
  words_of NoItem = []
  words_of (Item item rest) = words_of_item item ++ words_of rest

-- ---- how many bytes their cells take
abbrev pub number_size : ℕ → ℕ
number_size value = if nat_lt value 32768 then 2 else 4

abbrev mutual
  pub item_size : TypedItem → ℕ
  item_size (Number value) = number_size value
  item_size (Called address) = 2
  item_size (IfThen first) = 2 + items_size first
  item_size (IfElse first second) = 4 + items_size first + items_size second
  item_size (BeginUntil body) = items_size body + 2
  item_size (BeginWhile test body) = items_size test + items_size body + 4

  pub items_size : TypedItems → ℕ
  items_size NoItem = 0
  items_size (Item item rest) = item_size item + items_size rest

-- ---- the cells from a byte address on. A branch has 8192 and half the address that it leads to where the flag is 0, a jump half its
-- address, a call 16384 and half the address; a number from 32768 on is its complement as a literal and INVERT
abbrev pub number_cells : ℕ → List ℕ
number_cells value = if nat_lt value 32768 then (32768 + value) ∷ [] else (98303 - value) ∷ 26112 ∷ []

abbrev mutual
  pub item_cells : TypedItem → ℕ → List ℕ
  item_cells (Number value) a = number_cells value
  item_cells (Called address) a = (16384 + address / 2) ∷ []
  item_cells (IfThen first) a = (8192 + (a + 2 + items_size first) / 2) ∷ items_cells first (a + 2)
  item_cells (IfElse first second) a =
      (8192 + (a + 2 + items_size first + 2) / 2) ∷
      (items_cells first (a + 2) ++ ((a + 2 + items_size first + 2 + items_size second) / 2 ∷ items_cells second
      (a + 2 + items_size first + 2)))
  item_cells (BeginUntil body) a = items_cells body a ++ (8192 + a / 2) ∷ []
  item_cells (BeginWhile test body) a =
      items_cells test a ++ ((8192 + (a + items_size test + 2 + items_size body + 2) / 2) ∷
      (items_cells body (a + items_size test + 2) ++ a / 2 ∷ []))

  pub items_cells : TypedItems → ℕ → List ℕ
  items_cells NoItem a = []
  items_cells (Item item rest) a = item_cells item a ++ items_cells rest (a + item_size item)

-- a definition's cells: those of its items, and the return
abbrev pub typed_cells : TypedItems → ℕ → List ℕ
typed_cells items a = items_cells items a ++ 28684 ∷ []

-- these cells stand in data space from a byte address on
abbrev pub CellsStand : World → ℕ → List ℕ → Type 0
CellsStand w a [] = Unit {0}
CellsStand w a (cell ∷ cells) = (data_cell w a ≡ cell) × CellsStand w (a + 2) cells
