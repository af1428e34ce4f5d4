-- An item's tree, at the lists that its structures hold.
use Rattle.std.proofs.Common.{◌≡◌, Bool, ◌||◌, List, [], ◌∷◌, ◌++◌, refl, sym, ap, ◌∙◌}
use Rattle.forth_program.specs.declared.item.Item.{Item, If, Until, While, Again, Do, QDo, Case, Row_of-Item, end_of-Item, more_of-Item, items-the_row-Item, items_hidden-the_row-Item-0}
use Rattle.forth_program.specs.declared.item.Item.TheBlock.{hidden-the_row-Item-0, shown-the_row-Item-0, items_shown-the_row-Item-0, Row_of-Arms-list-2}
use Rattle.forth_program.specs.declared.item.Item.TheBlock.{end_of-Arms-list-2, more_of-Arms-list-2, items-the_row-Arms-list-2}
use Rattle.forth_program.specs.declared.item.Item.TheBlock.{items_shown-the_row-Arms-list-2-1, the_data-1, struct-Arms}
use Rattle.forth_program.specs.declared.item.Item.TheViews.{outs-struct-Arms}
use Rattle.forth_program.specs.declared.item.Items.{Items}
use Rattle.forth_program.specs.declared.item.Arms.{Arms}
use Rattle.forth_program.specs.Tree as tree
use Rattle.forth_program.specs.Tree.{Nodes}
use Rattle.forth_program.specs.ItemTrees.{node_of, nodes_in, arms_inside, arms_in, nodes_of, arms_of, arms_tree}
use Rattle.forth_program.specs.Program.{depth_in, depth_within, depth_in_arms}

row_view : {m : _} (row : Row_of-Item m) → nodes_in row ≡ nodes_of (items-the_row-Item _ row)
row_view end_of-Item = refl
row_view (more_of-Item item rest) = ap (λ r. tree.Then (node_of item) r) (row_view rest)

-- the tree of the items that a structure holds
held : (items : Items) → nodes_in (hidden-the_row-Item-0 (items.list)) ≡ nodes_of (items.list.items)
held items = row_view (hidden-the_row-Item-0 (items.list)) ∙ ap nodes_of (items_hidden-the_row-Item-0 (items.list))

both_held : (make : Nodes → Nodes → tree.Node) (a b : Items) → make (nodes_in (hidden-the_row-Item-0 (a.list))) (nodes_in (hidden-the_row-Item-0 (b.list))) ≡ make (nodes_of (a.list.items)) (nodes_of (b.list.items))
both_held make a b = ap (λ x. make x (nodes_in (hidden-the_row-Item-0 (b.list)))) (held a) ∙ ap (λ y. make (nodes_of (a.list.items)) y) (held b)

pub view_If : (item : Item) (a b : Items) → item ≡ If a b → node_of item ≡ tree.If (nodes_of (a.list.items)) (nodes_of (b.list.items))
view_If item a b e = ap node_of e ∙ both_held tree.If a b

pub view_Until : (item : Item) (a : Items) → item ≡ Until a → node_of item ≡ tree.Until (nodes_of (a.list.items))
view_Until item a e = ap node_of e ∙ ap tree.Until (held a)

pub view_While : (item : Item) (a b : Items) → item ≡ While a b → node_of item ≡ tree.While (nodes_of (a.list.items)) (nodes_of (b.list.items))
view_While item a b e = ap node_of e ∙ both_held tree.While a b

pub view_Again : (item : Item) (a : Items) → item ≡ Again a → node_of item ≡ tree.Again (nodes_of (a.list.items))
view_Again item a e = ap node_of e ∙ ap tree.Again (held a)

pub view_QDo : (item : Item) (a : Items) (plus : Bool) → item ≡ QDo a plus → node_of item ≡ tree.QDo (nodes_of (a.list.items)) plus
view_QDo item a plus e = ap node_of e ∙ ap (λ x. tree.QDo x plus) (held a)

arms_view : {m : _} (row : Row_of-Arms-list-2 m) → arms_in row ≡ arms_tree (items-the_row-Arms-list-2 _ row)
arms_view end_of-Arms-list-2 = refl
arms_view (more_of-Arms-list-2 n tests m body rest) =
    ap (λ x. tree.Arm x (nodes_in body) (arms_in rest)) (row_view tests ∙ ap nodes_of (sym (items_shown-the_row-Item-0 n tests)))
    ∙ ap (λ y. tree.Arm (nodes_of (shown-the_row-Item-0 n tests).items) y (arms_in rest)) (row_view body ∙ ap nodes_of (sym (items_shown-the_row-Item-0 m body)))
    ∙ ap (λ z. tree.Arm (nodes_of (shown-the_row-Item-0 n tests).items) (nodes_of (shown-the_row-Item-0 m body).items) z) (arms_view rest)

arms_held : (arms : Arms) → arms_inside arms ≡ arms_tree (arms_of arms)
arms_held (struct-Arms n row) = arms_view row ∙ ap arms_tree (sym (items_shown-the_row-Arms-list-2-1 n row)) ∙ ap (λ arms. arms_tree (arms.list.items)) (sym (outs-struct-Arms n row))

pub view_Case : (item : Item) (arms : Arms) (a : Items) → item ≡ Case arms a → node_of item ≡ tree.Case (arms_tree (arms_of arms)) (nodes_of (a.list.items))
view_Case item arms a e = ap node_of e ∙ ap (λ x. tree.Case x (nodes_in (hidden-the_row-Item-0 (a.list)))) (arms_held arms) ∙ ap (λ x. tree.Case (arms_tree (arms_of arms)) x) (held a)

pub view_Do : (item : Item) (a : Items) (plus : Bool) → item ≡ Do a plus → node_of item ≡ tree.Do (nodes_of (a.list.items)) plus
view_Do item a plus e = ap node_of e ∙ ap (λ x. tree.Do x plus) (held a)

pub view_append : (xs ys : List Item) → nodes_of (xs ++ ys) ≡ tree.joined (nodes_of xs) (nodes_of ys)
view_append [] ys = refl
view_append (x ∷ xs) ys = ap (λ r. tree.Then (node_of x) r) (view_append xs ys)

-- at a structure, by lists of items
pub depth_If : (item : Item) (a b : Items) → item ≡ If a b → depth_in (node_of item) ≡ (depth_within (nodes_of (a.list.items)) || depth_within (nodes_of (b.list.items)))
depth_If item a b e = ap depth_in (view_If item a b e)

pub depth_Until : (item : Item) (a : Items) → item ≡ Until a → depth_in (node_of item) ≡ depth_within (nodes_of (a.list.items))
depth_Until item a e = ap depth_in (view_Until item a e)

pub depth_While : (item : Item) (a b : Items) → item ≡ While a b → depth_in (node_of item) ≡ (depth_within (nodes_of (a.list.items)) || depth_within (nodes_of (b.list.items)))
depth_While item a b e = ap depth_in (view_While item a b e)

pub depth_Do : (item : Item) (a : Items) (plus : Bool) → item ≡ Do a plus → depth_in (node_of item) ≡ depth_within (nodes_of (a.list.items))
depth_Do item a plus e = ap depth_in (view_Do item a plus e)

pub depth_Again : (item : Item) (a : Items) → item ≡ Again a → depth_in (node_of item) ≡ depth_within (nodes_of (a.list.items))
depth_Again item a e = ap depth_in (view_Again item a e)

pub depth_QDo : (item : Item) (a : Items) (plus : Bool) → item ≡ QDo a plus → depth_in (node_of item) ≡ depth_within (nodes_of (a.list.items))
depth_QDo item a plus e = ap depth_in (view_QDo item a plus e)

pub depth_Case : (item : Item) (arms : Arms) (a : Items) → item ≡ Case arms a → depth_in (node_of item) ≡ (depth_in_arms (arms_tree (arms_of arms)) || depth_within (nodes_of (a.list.items)))
depth_Case item arms a e = ap depth_in (view_Case item arms a e)
