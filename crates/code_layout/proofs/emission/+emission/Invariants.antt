use Rattle.std.proofs.Common.{◌+◌, ◌*◌, true, ◌++◌, length, drop}
use Rattle.forth_program.specs.ItemTrees.{node_of, tree_of, arms_of, arms_tree}
use Rattle.forth_program.specs.SourceTokens.{node_tokens, tokens_of, arms_tokens}
use Rattle.code_layout.specs.Places.{place_by, word_count, definition_count}
use Rattle.code_layout.specs.Layout.{nodes_cells, arms_cells}
use Rattle.code_layout.proofs.AddedCells.{Before, ArmsBefore}
use Rattle.code_layout.proofs.emission.+emission.Given as goal

abbrev pub invariant-add_items-loop-i : goal.invariant-add_items-loop-i
invariant-add_items-loop-i l =
    let place = place_by l.places in
    Before l.data_start place l.out_at l.tail (word_count l.places) (definition_count l.places) (tokens_of (tree_of l.items))
    (l.fn.code.items ++ nodes_cells l.data_start place l.out_at (length l.fn.code.items) l.tail true (tree_of l.items)) l.code.items l.reached
    (drop l.i l.list)

-- the work that remains, by the tokens of what is laid out
abbrev pub decreases-add_item : goal.decreases-add_item
decreases-add_item l = 3 * node_tokens (node_of l.item.now)

abbrev pub decreases-add_items : goal.decreases-add_items
decreases-add_items l = 3 * tokens_of (tree_of l.items.now) + 1

abbrev pub decreases-add_if : goal.decreases-add_if
decreases-add_if l = 3 * (tokens_of (tree_of l.first.now) + tokens_of (tree_of l.second.now)) + 2

abbrev pub decreases-add_until : goal.decreases-add_until
decreases-add_until l = 3 * tokens_of (tree_of l.body.now) + 2

abbrev pub decreases-add_while : goal.decreases-add_while
decreases-add_while l = 3 * (tokens_of (tree_of l.test.now) + tokens_of (tree_of l.body.now)) + 2

abbrev pub decreases-add_do_loop : goal.decreases-add_do_loop
decreases-add_do_loop l = 3 * tokens_of (tree_of l.body.now) + 2

abbrev pub invariant-add_arms-loop-arm : goal.invariant-add_arms-loop-arm
invariant-add_arms-loop-arm l =
    let place = place_by l.places in
    ArmsBefore l.data_start place l.out_at l.tail l.end_at (word_count l.places) (definition_count l.places) (arms_tokens (arms_tree l.arms))
    (l.initial.code.items ++ arms_cells l.data_start place l.out_at (length l.initial.code.items) l.tail l.end_at (arms_tree l.arms)) l.code.items
    (drop l.arm-index l.arms)

abbrev pub decreases-add_again : goal.decreases-add_again
decreases-add_again l = 3 * tokens_of (tree_of l.body.now) + 2

abbrev pub decreases-add_q_do : goal.decreases-add_q_do
decreases-add_q_do l = 3 * tokens_of (tree_of l.body.now) + 3

abbrev pub decreases-add_arm : goal.decreases-add_arm
decreases-add_arm l = 3 * (tokens_of (tree_of l.tests.now) + tokens_of (tree_of l.body.now)) + 2

abbrev pub decreases-add_arms : goal.decreases-add_arms
decreases-add_arms l = 3 * arms_tokens (arms_tree l.arms.now) + 1

abbrev pub decreases-add_case : goal.decreases-add_case
decreases-add_case l = 3 * (arms_tokens (arms_tree (arms_of l.arms.now)) + tokens_of (tree_of l.rest.now)) + 2
