use Rattle.std.proofs.Common.{◌≡◌, drop}
use Rattle.forth_program.specs.ItemTrees.{nodes_of, arms_tree}
use Rattle.forth_program.specs.Program.{depth_within, depth_in_arms}
use Rattle.forth_program.proofs.depth.+depth.Given as goal

abbrev pub invariant-have_depth-loop-item : goal.invariant-have_depth-loop-item
invariant-have_depth-loop-item l = depth_within (nodes_of (drop l.item-index l.items)) ≡ depth_within (nodes_of l.items)

abbrev pub invariant-arms_have_depth-loop-arm : goal.invariant-arms_have_depth-loop-arm
invariant-arms_have_depth-loop-arm l = depth_in_arms (arms_tree (drop l.arm-index l.arms)) ≡ depth_in_arms (arms_tree l.arms)
