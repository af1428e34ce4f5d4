use Rattle.std.proofs.Common.{◌+◌, ◌*◌, length, drop}
use Rattle.forth_program.specs.ItemTrees.{node_of, tree_of, arms_tree}
use Rattle.depth_certifier.specs.Walks.{items_step}
use Rattle.depth_certifier.specs.Notes.{walk_in}
use Rattle.depth_certifier.specs.Certificate.{loops}
use Rattle.depth_certifier.proofs.Rest.{Remains, Roomy, node_items, items_in, items_in_arms}
use Rattle.depth_certifier.proofs.walking.+walking.Given as goal

abbrev pub invariant-walk_items-loop-at : goal.invariant-walk_items-loop-at
invariant-walk_items-loop-at l =
    Remains l.facts l.effects l.heads l.top l.next (items_in (tree_of l.items))
    (items_step l.facts l.effects l.heads l.top l.next (tree_of l.items) (walk_in l.facts.finding l.fn.notes l.fn.walker))
    (walk_in l.facts.finding l.notes l.walker) (drop l.at l.list)
    × Roomy l.facts.finding (l.fn.walker.count + loops (tree_of l.items)) (length l.fn.notes) l.walker.count l.notes (drop l.at l.list)

-- the work that remains, by the items
abbrev pub decreases-walk_item : goal.decreases-walk_item
decreases-walk_item l = 3 * node_items (node_of l.item.now)

abbrev pub decreases-walk_items : goal.decreases-walk_items
decreases-walk_items l = 3 * items_in (tree_of l.items.now) + 1

abbrev pub decreases-walk_if : goal.decreases-walk_if
decreases-walk_if l = 3 * (items_in (tree_of l.first.now) + items_in (tree_of l.second.now)) + 2

abbrev pub decreases-walk_until : goal.decreases-walk_until
decreases-walk_until l = 3 * items_in (tree_of l.body.now) + 2

abbrev pub decreases-walk_while : goal.decreases-walk_while
decreases-walk_while l = 3 * (items_in (tree_of l.test.now) + items_in (tree_of l.body.now)) + 2

abbrev pub decreases-walk_do : goal.decreases-walk_do
decreases-walk_do l = 3 * items_in (tree_of l.body.now) + 2

abbrev pub decreases-walk_again : goal.decreases-walk_again
decreases-walk_again l = 3 * items_in (tree_of l.body.now) + 2

abbrev pub decreases-walk_query_do : goal.decreases-walk_query_do
decreases-walk_query_do l = 3 * items_in (tree_of l.body.now) + 2

abbrev pub decreases-walk_arms : goal.decreases-walk_arms
decreases-walk_arms l = 3 * (items_in_arms (arms_tree l.arms.now) + items_in (tree_of l.rest.now)) + 2

abbrev pub decreases-walk_arm : goal.decreases-walk_arm
decreases-walk_arm l = 3 * (items_in (tree_of l.tests.now) + items_in (tree_of l.body.now) + items_in_arms (arms_tree l.others.now) + items_in (tree_of l.rest.now)) + 3
