use Rattle.std.proofs.Common.{◌≡◌, drop}
use Rattle.forth_program.specs.ItemTrees.{nodes_of, arms_tree}
use Rattle.depth_certifier.specs.Counting.{execute_within, execute_in_arms}
use Rattle.depth_certifier.proofs.counting.+execute.Given as goal

abbrev pub invariant-have_execute-loop-item : goal.invariant-have_execute-loop-item
invariant-have_execute-loop-item l = execute_within (nodes_of (drop l.item-index l.items)) ≡ execute_within (nodes_of l.items)

abbrev pub invariant-arms_have_execute-loop-arm : goal.invariant-arms_have_execute-loop-arm
invariant-arms_have_execute-loop-arm l = execute_in_arms (arms_tree (drop l.arm-index l.arms)) ≡ execute_in_arms (arms_tree l.arms)
