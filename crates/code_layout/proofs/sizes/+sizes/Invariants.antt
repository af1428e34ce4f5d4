use Rattle.std.proofs.Common.{◌≡◌, ◌+◌, ◌≤◌, true, drop}
use Rattle.forth_program.specs.ItemTrees.{nodes_of, tree_of, arms_tree}
use Rattle.code_layout.specs.Layout.{size, arms_size}
use Rattle.code_layout.proofs.sizes.+sizes.Given as goal

abbrev pub invariant-items_size-loop-i : goal.invariant-items_size-loop-i
invariant-items_size-loop-i l =
    (l.total + size l.tail l.reached (nodes_of (drop l.i l.list)) ≡ size l.tail true (tree_of l.items)) × (size l.tail true (tree_of l.items) ≤ 8000)

abbrev pub invariant-arms_size-loop-arm : goal.invariant-arms_size-loop-arm
invariant-arms_size-loop-arm l =
    (l.total + arms_size l.tail (arms_tree (drop l.arm-index l.arms)) ≡ arms_size l.tail (arms_tree l.arms)) × (arms_size l.tail (arms_tree l.arms) ≤ 8000)
