use Rattle.std.proofs.Common.{◌≡◌, true, drop}
use Rattle.forth_program.specs.ItemTrees.{nodes_of, tree_of}
use Rattle.code_layout.specs.Layout.{reaches_end}
use Rattle.code_layout.proofs.reach.+reach.Given as goal

abbrev pub invariant-end_is_reached-loop-i : goal.invariant-end_is_reached-loop-i
invariant-end_is_reached-loop-i l = reaches_end l.tail l.reached (nodes_of (drop l.i l.list)) ≡ reaches_end l.tail true (tree_of l.items)
