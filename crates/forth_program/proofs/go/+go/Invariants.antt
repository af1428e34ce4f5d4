use Rattle.std.proofs.Common.{◌≡◌, drop}
use Rattle.forth_program.specs.ItemTrees.{nodes_of, arms_tree}
use Rattle.forth_program.specs.Form.{everywhere, in_arms, is_not_go}
use Rattle.forth_program.proofs.go.+go.Given as goal

abbrev pub invariant-all_lack_go-loop-item : goal.invariant-all_lack_go-loop-item
invariant-all_lack_go-loop-item l = everywhere is_not_go (nodes_of (drop l.item-index l.items)) ≡ everywhere is_not_go (nodes_of l.items)

abbrev pub invariant-arms_lack_go-loop-arm : goal.invariant-arms_lack_go-loop-arm
invariant-arms_lack_go-loop-arm l = in_arms is_not_go (arms_tree (drop l.arm-index l.arms)) ≡ in_arms is_not_go (arms_tree l.arms)
