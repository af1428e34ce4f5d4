-- Definitions that are typed at the interactive Forth: their items, what these mean, and the cells that the kernel lays for them in data
-- space. A place is that of a cell in memory, half its address.
use Rattle.std.specs.Prelude.{ℕ, ◌+◌, ◌<◌, ◌≡◌, Bool, true, false, List, [], ◌∷◌, ◌++◌, length, max}
use Rattle.word_table.specs.declared.word.Word.{Word}
use Rattle.word_table.specs.declared.word.Word.TheVariants.{Dup, DropTop, Swap, Over, Rot, QDup, TwoDup, TwoDrop, TwoSwap, TwoOver, Plus}
use Rattle.word_table.specs.declared.word.Word.TheVariants.{Minus, Star, Slash, Mod, SlashMod, StarSlash, StarSlashMod}
use Rattle.word_table.specs.declared.word.Word.TheVariants.{OnePlus, OneMinus, TwoStar, TwoSlash, Negate, Abs, Max, Min, And, Or, Xor}
use Rattle.word_table.specs.declared.word.Word.TheVariants.{Invert, LShift, RShift, Equal, Less, Greater, ULess}
use Rattle.word_table.specs.declared.word.Word.TheVariants.{ZeroEqual, ZeroLess, Emit, Cr, Space, Spaces, Dot, UDot}
use Rattle.forth_program.specs.Tree.{Node, Nodes, Literal, Plain, Call, If, Until, While, Empty, Then}
use Rattle.word_laws.specs.Numbers.{number_cells}

-- ---- the words of the table that typed items may have

-- arithmetic and logic
abbrev pub computes : Word → Bool
computes Plus = true
computes Minus = true
computes Star = true
computes Slash = true
computes Mod = true
computes SlashMod = true
computes StarSlash = true
computes StarSlashMod = true
computes OnePlus = true
computes OneMinus = true
computes TwoStar = true
computes TwoSlash = true
computes Negate = true
computes Abs = true
computes Max = true
computes Min = true
computes And = true
computes Or = true
computes Xor = true
computes Invert = true
computes LShift = true
computes RShift = true
computes Equal = true
computes Less = true
computes Greater = true
computes ULess = true
computes ZeroEqual = true
computes ZeroLess = true
computes word = false

-- the stack, output, and these
abbrev pub is_listed : Word → Bool
is_listed Dup = true
is_listed DropTop = true
is_listed Swap = true
is_listed Over = true
is_listed Rot = true
is_listed QDup = true
is_listed TwoDup = true
is_listed TwoDrop = true
is_listed TwoSwap = true
is_listed TwoOver = true
is_listed Emit = true
is_listed Cr = true
is_listed Space = true
is_listed Spaces = true
is_listed Dot = true
is_listed UDot = true
is_listed word = computes word

-- ---- items

mutual
  pub data TypedItem : Type 0 where
    Number : (value : ℕ) → TypedItem
    -- a word of the table
    Listed : (word : Word) → TypedItem
    -- the name of a definition
    Name : (definition : ℕ) → TypedItem
    -- IF first THEN, and IF first ELSE second THEN
    IfThen : (first : TypedItems) → TypedItem
    IfElse : (first second : TypedItems) → TypedItem
    -- BEGIN body UNTIL, and BEGIN test WHILE body REPEAT
    BeginUntil : (body : TypedItems) → TypedItem
    BeginWhile : (test body : TypedItems) → TypedItem

  pub data TypedItems : Type 0 where
    NoItem : TypedItems
    Item : (item : TypedItem) (rest : TypedItems) → TypedItems

-- what they are in a source. An ELSE with nothing behind it is none there
abbrev mutual
  pub node_of : TypedItem → Node
  node_of (Number value) = Literal value
  node_of (Listed word) = Plain word
  node_of (Name definition) = Call definition
  node_of (IfThen first) = If (nodes_of first) Empty
  node_of (IfElse first second) = If (nodes_of first) (nodes_of second)
  node_of (BeginUntil body) = Until (nodes_of body)
  node_of (BeginWhile test body) = While (nodes_of test) (nodes_of body)

  pub nodes_of : TypedItems → Nodes
  nodes_of NoItem = Empty
  nodes_of (Item item rest) = Then (node_of item) (nodes_of rest)

-- numbers are cells, words are listed, and names are those of so many definitions
abbrev mutual
  pub IsTyped : ℕ → TypedItem → Type 0
  IsTyped definitions (Number value) = value < 0x10000
  IsTyped definitions (Listed word) = is_listed word ≡ true
  IsTyped definitions (Name definition) = definition < definitions
  IsTyped definitions (IfThen first) = AreTyped definitions first
  IsTyped definitions (IfElse first second) = AreTyped definitions first × AreTyped definitions second
  IsTyped definitions (BeginUntil body) = AreTyped definitions body
  IsTyped definitions (BeginWhile test body) = AreTyped definitions test × AreTyped definitions body

  pub AreTyped : ℕ → TypedItems → Type 0
  AreTyped definitions NoItem = Unit {0}
  AreTyped definitions (Item item rest) = IsTyped definitions item × AreTyped definitions rest

-- how deep structures are nested
abbrev mutual
  pub item_nesting : TypedItem → ℕ
  item_nesting (Number value) = 0
  item_nesting (Listed word) = 0
  item_nesting (Name definition) = 0
  item_nesting (IfThen first) = 1 + nesting first
  item_nesting (IfElse first second) = 1 + max (nesting first) (nesting second)
  item_nesting (BeginUntil body) = 1 + nesting body
  item_nesting (BeginWhile test body) = 1 + max (nesting test) (nesting body)

  pub nesting : TypedItems → ℕ
  nesting NoItem = 0
  nesting (Item item rest) = max (item_nesting item) (nesting rest)

-- ---- their cells

-- a jump, a branch where T is 0, a call, and a return
abbrev jump_to : ℕ → ℕ
jump_to target = target

abbrev branch_to : ℕ → ℕ
branch_to target = 0x2000 + target

abbrev call_to : ℕ → ℕ
call_to target = 0x4000 + target

abbrev return_cell : ℕ
return_cell = 0x700C

-- how many there are
abbrev mutual
  pub item_size : TypedItem → ℕ
  item_size (Number value) = length (number_cells value)
  item_size (Listed word) = 1
  item_size (Name definition) = 1
  item_size (IfThen first) = 1 + items_size first
  item_size (IfElse first second) = 1 + items_size first + 1 + items_size second
  item_size (BeginUntil body) = items_size body + 1
  item_size (BeginWhile test body) = items_size test + 1 + items_size body + 1

  pub items_size : TypedItems → ℕ
  items_size NoItem = 0
  items_size (Item item rest) = item_size item + items_size rest

-- the cells of an item at a place: a number is a literal, which is inverted where it is 32768 or more; a word is the call of its token's
-- code and a name that of its definition; IF and WHILE are branches and ELSE is a jump, led to their ends; UNTIL is a branch back and
-- REPEAT a jump back
abbrev mutual
  pub item_cells : (Word → ℕ) → (ℕ → ℕ) → ℕ → TypedItem → List ℕ
  item_cells token place at (Number value) = number_cells value
  item_cells token place at (Listed word) = call_to (token word) ∷ []
  item_cells token place at (Name definition) = call_to (place definition) ∷ []
  item_cells token place at (IfThen first) = branch_to (at + 1 + items_size first) ∷ typed_cells token place (at + 1) first
  item_cells token place at (IfElse first second) =
      branch_to (at + 1 + items_size first + 1) ∷ (typed_cells token place (at + 1) first
      ++ jump_to (at + 1 + items_size first + 1 + items_size second) ∷ typed_cells token place (at + 1 + items_size first + 1) second)
  item_cells token place at (BeginUntil body) = typed_cells token place at body ++ branch_to at ∷ []
  item_cells token place at (BeginWhile test body) =
      typed_cells token place at test
      ++ branch_to (at + items_size test + 1 + items_size body + 1) ∷
      (typed_cells token place (at + items_size test + 1) body ++ jump_to at ∷ [])

  -- those of items, one after the other
  pub typed_cells : (Word → ℕ) → (ℕ → ℕ) → ℕ → TypedItems → List ℕ
  typed_cells token place at NoItem = []
  typed_cells token place at (Item item rest) = item_cells token place at item ++ typed_cells token place (at + item_size item) rest

-- the code of a definition: its items, and a return
abbrev pub definition_cells : (Word → ℕ) → (ℕ → ℕ) → ℕ → TypedItems → List ℕ
definition_cells token place at items = typed_cells token place at items ++ return_cell ∷ []
