use Rattle.std.proofs.Common.{◌≡◌, drop}
use Rattle.forth_program.specs.ItemTrees.{nodes_of, arms_tree}
use Rattle.step_certifier.specs.Cost.{Other}
use Rattle.step_certifier.specs.Refusal.{refusal, arms_refusal}
use Rattle.step_certifier.specs.Views.{last_of}
use Rattle.step_certifier.proofs.refusals.+refusals.Given as goal

abbrev pub invariant-items_refusal-loop-item : goal.invariant-items_refusal-loop-item
invariant-items_refusal-loop-item l = refusal l.own (last_of l.last) (nodes_of (drop l.item-index l.items)) ≡ refusal l.own Other (nodes_of l.items)

abbrev pub invariant-arms_refusal-loop-arm : goal.invariant-arms_refusal-loop-arm
invariant-arms_refusal-loop-arm l = arms_refusal l.own (arms_tree (drop l.arm-index l.arms)) ≡ arms_refusal l.own (arms_tree l.arms)
