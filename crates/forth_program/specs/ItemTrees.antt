-- The declared items as plain trees.
use Rattle.std.specs.Prelude.{List, [], ◌∷◌}
use Rattle.forth_program.specs.declared.item.Item as item
use Rattle.forth_program.specs.declared.item.Item.{Item, Row_of-Item, end_of-Item, more_of-Item}
use Rattle.forth_program.specs.declared.item.Item.TheBlock.{Row_of-Arms-list-2, end_of-Arms-list-2, more_of-Arms-list-2, the_data-1, struct-Arms}
use Rattle.forth_program.specs.declared.item.Items.{Items}
use Rattle.forth_program.specs.declared.item.Arms.{out-Arms}
use Rattle.forth_program.specs.declared.item.Arms as declared_arms
use Rattle.forth_program.specs.Tree.{Node, Nodes, Literal, Plain, Call, Child, Text, If, Until, While, Again, Do, QDo, Case, Leave, Exit, Empty, Then, Arms, NoArm, Arm}

-- a list of items, in the order of the source
abbrev pub items_of : Items → List Item
items_of items = items.list.items

-- the tree of one item
abbrev mutual
  pub node_of : Item → Node
  node_of (item.Literal value) = Literal value
  node_of (item.Word word) = Plain word
  node_of (item.Call id) = Call id.0
  node_of (item.Child id address) = Child id.0 address
  node_of (item.Text kind address size) = Text kind address size
  node_of (item.If' n first m second) = If (nodes_in first) (nodes_in second)
  node_of (item.Until' n body) = Until (nodes_in body)
  node_of (item.While' n test m body) = While (nodes_in test) (nodes_in body)
  node_of (item.Again' n body) = Again (nodes_in body)
  node_of (item.Do' n body plus) = Do (nodes_in body) plus
  node_of (item.QDo' n body plus) = QDo (nodes_in body) plus
  node_of (item.Case' arms m rest) = Case (arms_inside arms) (nodes_in rest)
  node_of item.Leave = Leave
  node_of item.Exit = Exit

  -- of a row of items, as a structure holds them
  pub nodes_in : {m : _} → Row_of-Item m → Nodes
  nodes_in end_of-Item = Empty
  nodes_in (more_of-Item first rest) = Then (node_of first) (nodes_in rest)

  -- of arms, and of a row of them
  pub arms_inside : the_data-1 → Arms
  arms_inside (struct-Arms n row) = arms_in row

  pub arms_in : {m : _} → Row_of-Arms-list-2 m → Arms
  arms_in end_of-Arms-list-2 = NoArm
  arms_in (more_of-Arms-list-2 n tests m body rest) = Arm (nodes_in tests) (nodes_in body) (arms_in rest)

-- of a list of items
abbrev pub nodes_of : List Item → Nodes
nodes_of [] = Empty
nodes_of (item ∷ items) = Then (node_of item) (nodes_of items)

-- the trees of a body
abbrev pub tree_of : Items → Nodes
tree_of items = nodes_of (items_of items)

-- the arms of a case, in the order of the source: the items before OF, and those after it
abbrev pub arms_of : declared_arms.Arms → List (Items × Items)
arms_of arms = (out-Arms arms).list.items

abbrev pub arms_tree : List (Items × Items) → Arms
arms_tree [] = NoArm
arms_tree (arm ∷ arms) = Arm (tree_of arm.0) (tree_of arm.1) (arms_tree arms)
