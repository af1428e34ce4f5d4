-- Where GO stands nowhere in a structure, by the lists of items that it holds.
use Rattle.std.proofs.Common.{◌≡◌, Bool, ◌&&◌, ap}
use Rattle.forth_program.specs.declared.item.Item.{Item, If, Until, While, Again, Do, QDo, Case}
use Rattle.forth_program.specs.declared.item.Items.{Items}
use Rattle.forth_program.specs.declared.item.Arms.{Arms}
use Rattle.forth_program.specs.Tree as tree
use Rattle.forth_program.specs.ItemTrees.{node_of, nodes_of, arms_of, arms_tree}
use Rattle.forth_program.specs.Form.{everywhere, inside, in_arms, is_not_go}
use Rattle.forth_program.proofs.Views.{view_If, view_Until, view_While, view_Again, view_Do, view_QDo, view_Case}

abbrev lacking : tree.Node → Bool
lacking node = is_not_go node && inside is_not_go node

pub go_If : (item : Item) (a b : Items) → item ≡ If a b → (is_not_go (node_of item) && inside is_not_go (node_of item)) ≡ (everywhere is_not_go (nodes_of (a.list.items)) && everywhere is_not_go (nodes_of (b.list.items)))
go_If item a b e = ap lacking (view_If item a b e)

pub go_Until : (item : Item) (a : Items) → item ≡ Until a → (is_not_go (node_of item) && inside is_not_go (node_of item)) ≡ everywhere is_not_go (nodes_of (a.list.items))
go_Until item a e = ap lacking (view_Until item a e)

pub go_While : (item : Item) (a b : Items) → item ≡ While a b → (is_not_go (node_of item) && inside is_not_go (node_of item)) ≡ (everywhere is_not_go (nodes_of (a.list.items)) && everywhere is_not_go (nodes_of (b.list.items)))
go_While item a b e = ap lacking (view_While item a b e)

pub go_Do : (item : Item) (a : Items) (plus : Bool) → item ≡ Do a plus → (is_not_go (node_of item) && inside is_not_go (node_of item)) ≡ everywhere is_not_go (nodes_of (a.list.items))
go_Do item a plus e = ap lacking (view_Do item a plus e)

pub go_Again : (item : Item) (a : Items) → item ≡ Again a → (is_not_go (node_of item) && inside is_not_go (node_of item)) ≡ everywhere is_not_go (nodes_of (a.list.items))
go_Again item a e = ap lacking (view_Again item a e)

pub go_QDo : (item : Item) (a : Items) (plus : Bool) → item ≡ QDo a plus → (is_not_go (node_of item) && inside is_not_go (node_of item)) ≡ everywhere is_not_go (nodes_of (a.list.items))
go_QDo item a plus e = ap lacking (view_QDo item a plus e)

pub go_Case : (item : Item) (arms : Arms) (a : Items) → item ≡ Case arms a → (is_not_go (node_of item) && inside is_not_go (node_of item)) ≡ (in_arms is_not_go (arms_tree (arms_of arms)) && everywhere is_not_go (nodes_of (a.list.items)))
go_Case item arms a e = ap lacking (view_Case item arms a e)
