use Rattle.std.proofs.Common.{◌≡◌, drop}
use Rattle.forth_program.specs.ItemTrees.{nodes_of, arms_tree}
use Rattle.step_certifier.specs.Refusal.{calls, arms_call}
use Rattle.step_certifier.proofs.calls.+calls.Given as goal

abbrev pub invariant-calls-loop-item : goal.invariant-calls-loop-item
invariant-calls-loop-item l = calls l.definition.0 (nodes_of (drop l.item-index l.items)) ≡ calls l.definition.0 (nodes_of l.items)

abbrev pub invariant-arms_call-loop-arm : goal.invariant-arms_call-loop-arm
invariant-arms_call-loop-arm l = arms_call l.definition.0 (arms_tree (drop l.arm-index l.arms)) ≡ arms_call l.definition.0 (arms_tree l.arms)
