use Rattle.std.proofs.Common.{◌≡◌, ◌+◌, ◌≤◌, drop}
use Rattle.forth_program.specs.ItemTrees.{nodes_of, arms_tree}
use Rattle.step_certifier.specs.Capped.{most_steps, capped}
use Rattle.step_certifier.specs.Cost.{Other, cost, tests_cost, greatest_end}
use Rattle.step_certifier.specs.Views.{last_of}
use Rattle.step_certifier.proofs.costs.+costs.Given as goal

abbrev pub invariant-items_cost-loop-item : goal.invariant-items_cost-loop-item
invariant-items_cost-loop-item l = record {
  within : l.total ≤ most_steps;
  rest : capped (l.total + cost l.known (last_of l.last) (nodes_of (drop l.item-index l.items))) ≡ capped (cost l.known Other (nodes_of l.items));
}

abbrev pub invariant-tests_cost-loop-arm : goal.invariant-tests_cost-loop-arm
invariant-tests_cost-loop-arm l = record {
  within : l.total ≤ most_steps;
  rest : capped (l.total + tests_cost l.known (arms_tree (drop l.arm-index l.arms))) ≡ capped (tests_cost l.known (arms_tree l.arms));
}

abbrev pub invariant-greatest_end-loop-arm : goal.invariant-greatest_end-loop-arm
invariant-greatest_end-loop-arm l = record {
  within : l.last_items ≤ most_steps → l.greatest ≤ most_steps;
  rest : capped (greatest_end l.known (arms_tree (drop l.arm-index l.arms)) l.greatest) ≡ capped (greatest_end l.known (arms_tree l.arms) l.last_items);
}
