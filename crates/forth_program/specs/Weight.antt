-- The weight of a program: a ceiling on the cells of its code.
use Rattle.std.specs.Prelude.{ℕ, ◌+◌, Bool, true, false, List, [], ◌∷◌}
use Rattle.word_table.specs.Table.{entry_of}
use Rattle.forth_program.specs.declared.item.TextKind.{TextKind}
use Rattle.forth_program.specs.declared.item.TextKind.TheVariants as text
use Rattle.forth_program.specs.Tree.{Node, Nodes, Arms, Literal, Plain, Call, Child, Text, If, Until, While, Again, Do, QDo, Case, Leave, Exit, Empty, Then, NoArm, Arm}

abbrev pub text_weight : TextKind → ℕ
text_weight text.Address = 2
text_weight kind = 3

-- ELSE, where it has items
abbrev pub else_weight : Nodes → ℕ
else_weight Empty = 0
else_weight (Then node rest) = 1

-- LOOP, and +LOOP
abbrev pub turn_weight : Bool → ℕ
turn_weight false = 12
turn_weight true = 24

-- of items, as the table gives it for the words of which they are made
abbrev mutual
  pub node_weight : Node → ℕ
  node_weight (Literal value) = 2
  node_weight (Plain word) = (entry_of word).weight
  node_weight (Call definition) = 1
  node_weight (Child definition address) = 2
  node_weight (Text kind address size) = text_weight kind
  node_weight (If first second) = 1 + weight first + else_weight second + weight second
  node_weight (Until body) = weight body + 1
  node_weight (While test body) = weight test + 1 + weight body + 1
  node_weight (Again body) = weight body + 1
  node_weight (Do body plus) = 8 + weight body + turn_weight plus
  node_weight (QDo body plus) = 15 + weight body + turn_weight plus
  node_weight (Case arms rest) = arms_weight arms + weight rest + 1
  node_weight Leave = 5
  node_weight Exit = 1

  pub weight : Nodes → ℕ
  weight Empty = 0
  weight (Then node rest) = node_weight node + weight rest

  pub arms_weight : Arms → ℕ
  arms_weight NoArm = 0
  arms_weight (Arm tests body others) = weight tests + 4 + weight body + 1 + arms_weight others

-- of definitions, each with the end of its body
abbrev pub bodies_weight : List Nodes → ℕ
bodies_weight [] = 0
bodies_weight (body ∷ bodies) = weight body + 1 + bodies_weight bodies

-- what the first tick of an execution token adds, for its jump and the code of its own: for a word, what its cells take and 2 more
abbrev pub token_weight : Node → ℕ
token_weight (Call definition) = 1
token_weight (Plain word) = 2 + (entry_of word).weight
token_weight node = 5
