-- The cost of items: a ceiling on the price of what they do, whichever way they go.
use Rattle.std.specs.Prelude.{ℕ, ◌+◌, ◌*◌, ◌==◌, if◌then◌else◌, max, Bool, true, false, List, [], ◌∷◌, ◌++◌, Option, Some, None, slice_index_or}
use Rattle.word_table.specs.declared.word.Word.{Word}
use Rattle.word_table.specs.declared.word.Word.TheVariants.{Spaces, TypeOut, Fill, Move, Accept, ToNumber}
use Rattle.word_table.specs.Table.{entry_of}
use Rattle.cell_math.specs.Cell.{signed}
use Rattle.forth_program.specs.declared.item.TextKind.{TextKind}
use Rattle.forth_program.specs.declared.item.TextKind.TheVariants as text
use Rattle.forth_program.specs.Tree.{Node, Nodes, Arms, Literal, Plain, Call, Child, Text, If, Until, While, Again, Do, QDo, Case, Leave, Exit, Empty, Then, NoArm, Arm}
use Rattle.forth_program.specs.ByteWords.{positive}
use Rattle.forth_program.specs.Price.{turn_price}
use Rattle.step_certifier.specs.Turns.{distance_up, turns}

-- what stands directly before an item in its list: a literal, two literals, S" with the size of its text, or something else
pub data Last : Type 0 where
  Other : Last
  One : (value : ℕ) → Last
  Two : (value next : ℕ) → Last
  TextSize : (size : ℕ) → Last

abbrev pub with_literal : Last → ℕ → Last
with_literal (One value) next = Two value next
with_literal (Two value value') next = Two value' next
with_literal last next = One next

abbrev pub last_after : Last → Node → Last
last_after last (Literal value) = with_literal last value
last_after last (Text text.Address address size) = TextSize size
last_after last node = Other

abbrev pub last_of : Last → Nodes → Last
last_of last Empty = last
last_of last (Then node rest) = last_of (last_after last node) rest

-- the literal directly before an item
abbrev pub literal_of : Last → Option ℕ
literal_of (One value) = Some value
literal_of (Two value next) = Some next
literal_of last = None

-- TYPE is counted by the text before it too
abbrev pub type_count : Last → Option ℕ
type_count (TextSize size) = Some size
type_count last = literal_of last

abbrev pub spaces_count : Option ℕ → Option ℕ
spaces_count None = None
spaces_count (Some value) = Some (positive (signed value))

-- the count of a word, where it has none or it is known
abbrev pub known_count : Word → Last → Option ℕ
known_count TypeOut last = type_count last
known_count Spaces last = spaces_count (literal_of last)
known_count Move last = literal_of last
known_count Accept last = literal_of last
known_count Fill last = None
known_count ToNumber last = None
known_count word last = Some 0

-- the turns of a loop after two literals; +LOOP takes the literal that ends its content as its step
abbrev pub turns_by : ℕ → ℕ → Option ℕ → Option ℕ
turns_by limit start None = None
turns_by limit start (Some step) = turns limit start step

abbrev pub loop_turns : Last → Nodes → Bool → Option ℕ
loop_turns (Two limit start) body false = Some (distance_up limit start)
loop_turns (Two limit start) body true = turns_by limit start (literal_of (last_of Other body))
loop_turns last body plus = None

-- ?DO makes no turn where the literals are equal
abbrev pub entered_turns : Last → ℕ → ℕ
entered_turns (Two limit start) turns = if limit == start then 0 else turns
entered_turns last turns = turns

-- what has no number costs nothing here: it is refused
abbrev pub or_none : Option ℕ → ℕ
or_none None = 0
or_none (Some n) = n

-- ABORT" with a true flag
abbrev pub text_cost : TextKind → ℕ → ℕ
text_cost text.Address size = 2
text_cost text.Print size = 42 + 80 * size
text_cost text.Abort size = 40 + 80 * size

-- the end of a true branch, where the false one has items
abbrev pub true_end : Nodes → ℕ
true_end Empty = 0
true_end (Then node rest) = 1

-- of items, where the earlier definitions cost so much
abbrev mutual
  pub node_cost : List ℕ → Last → Node → ℕ
  node_cost known last (Literal value) = 2
  node_cost known last (Plain word) = (entry_of word).base + (entry_of word).per * or_none (known_count word last)
  node_cost known last (Call callee) = 1 + (slice_index_or known callee 0 + 1)
  node_cost known last (Child callee address) = 2 + (slice_index_or known callee 0 + 1)
  node_cost known last (Text kind address size) = text_cost kind size
  node_cost known last (If first second) = 1 + max (cost known Other first + true_end second) (cost known Other second)
  node_cost known last (Do body plus) = 8 + or_none (loop_turns last body plus) * (turn_price plus + cost known Other body)
  node_cost known last (QDo body plus) = 12 + entered_turns last (or_none (loop_turns last body plus)) * (turn_price plus + cost known Other body)
  node_cost known last (Case arms rest) = tests_cost known arms + (1 + greatest_end known arms (cost known Other rest))
  node_cost known last Leave = 5
  node_cost known last Exit = 1
  node_cost known last (Until body) = 0
  node_cost known last (While test body) = 0
  node_cost known last (Again body) = 0

  pub cost : List ℕ → Last → Nodes → ℕ
  cost known last Empty = 0
  cost known last (Then node rest) = node_cost known last node + cost known (last_after last node) rest

  -- all tests, with OF
  pub tests_cost : List ℕ → Arms → ℕ
  tests_cost known NoArm = 0
  tests_cost known (Arm tests body others) = cost known Other tests + 4 + tests_cost known others

  -- the greatest of the bodies and the last items
  pub greatest_end : List ℕ → Arms → ℕ → ℕ
  greatest_end known NoArm last_items = last_items
  greatest_end known (Arm tests body others) last_items = max (cost known Other body) (greatest_end known others last_items)

-- of the items of each definition, in source order
abbrev pub costs_with : List ℕ → List Nodes → List ℕ
costs_with known [] = known
costs_with known (body ∷ bodies) = costs_with (known ++ cost known Other body ∷ []) bodies

abbrev pub costs : List Nodes → List ℕ
costs bodies = costs_with [] bodies
