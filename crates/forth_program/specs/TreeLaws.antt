-- What the trees of items are at each structure, and of a list after another.
use Rattle.std.specs.Prelude.{◌≡◌, Bool, List, ◌++◌}
use Rattle.forth_program.specs.declared.item.Item.{Item, If, Until, While, Again, Do, QDo, Case}
use Rattle.forth_program.specs.declared.item.Items.{Items}
use Rattle.forth_program.specs.declared.item.Arms.{Arms}
use Rattle.forth_program.specs.Tree as tree
use Rattle.forth_program.specs.ItemTrees.{node_of, nodes_of, tree_of, arms_of, arms_tree}

-- IF has the trees of both branches
abbrev pub IfTree : Type 0
IfTree = (item : Item) (first second : Items) → item ≡ If first second → node_of item ≡ tree.If (tree_of first) (tree_of second)

-- UNTIL has that of its body
abbrev pub UntilTree : Type 0
UntilTree = (item : Item) (body : Items) → item ≡ Until body → node_of item ≡ tree.Until (tree_of body)

-- WHILE has those of its test and its body
abbrev pub WhileTree : Type 0
WhileTree = (item : Item) (test body : Items) → item ≡ While test body → node_of item ≡ tree.While (tree_of test) (tree_of body)

-- AGAIN has that of its body
abbrev pub AgainTree : Type 0
AgainTree = (item : Item) (body : Items) → item ≡ Again body → node_of item ≡ tree.Again (tree_of body)

-- DO has that of its body
abbrev pub DoTree : Type 0
DoTree = (item : Item) (body : Items) (plus : Bool) → item ≡ Do body plus → node_of item ≡ tree.Do (tree_of body) plus

-- and so has ?DO
abbrev pub QDoTree : Type 0
QDoTree = (item : Item) (body : Items) (plus : Bool) → item ≡ QDo body plus → node_of item ≡ tree.QDo (tree_of body) plus

-- CASE has those of its arms, and of the items behind them
abbrev pub CaseTree : Type 0
CaseTree = (item : Item) (arms : Arms) (rest : Items) → item ≡ Case arms rest → node_of item ≡ tree.Case (arms_tree (arms_of arms)) (tree_of rest)

-- one list after another
abbrev pub TreesJoin : Type 0
TreesJoin = (items more : List Item) → nodes_of (items ++ more) ≡ tree.joined (nodes_of items) (nodes_of more)
