use Rattle.std.proofs.Common.{◌≡◌, ◌+◌, drop}
use Rattle.forth_program.specs.ItemTrees.{nodes_of, arms_tree}
use Rattle.depth_certifier.specs.Certificate.{loops, loops_in_arms}
use Rattle.depth_certifier.proofs.counting.+loops.Given as goal

abbrev pub invariant-add_loops-loop-item : goal.invariant-add_loops-loop-item
invariant-add_loops-loop-item l = l.total + loops (nodes_of (drop l.item-index l.items)) ≡ l.fn.count + loops (nodes_of l.items)

abbrev pub invariant-add_loops_of_arms-loop-arm : goal.invariant-add_loops_of_arms-loop-arm
invariant-add_loops_of_arms-loop-arm l = l.total + loops_in_arms (arms_tree (drop l.arm-index l.arms)) ≡ l.fn.count + loops_in_arms (arms_tree l.arms)
