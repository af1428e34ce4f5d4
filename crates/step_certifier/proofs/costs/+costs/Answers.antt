use Rattle.std.proofs.Common.{rules, arith}
use Rattle.forth_program.specs.ItemTrees.{node_of, tree_of}
use Rattle.step_certifier.proofs.CountedCosts.{do_cost, q_do_cost, item_passes, tests_pass, ends_pass, ends_within, ends_done}
use Rattle.step_certifier.specs.Views.{last_of}
use Rattle.step_certifier.proofs.costs.+costs.Goals as goal

pub items_cost-loop-item-preserved : goal.items_cost-loop-item-preserved
items_cost-loop-item-preserved t c = record {
  within = (let e = c.sum-total.ensures.value in omega (arith, e));
  rest = item_passes _ (last_of c.loop-item.last) (last_of c.after-last.result) c.args.items.now c.loop-item.item-index c.item-item.result c.loop-item.total c.item_cost.result c.sum-total.result _ (search rules) (search rules)
      c.sum-total.ensures.value c.item_cost.ensures c.after-last.ensures c.loop-item.invariant.rest;
}

pub tests_cost-loop-arm-preserved : goal.tests_cost-loop-arm-preserved
tests_cost-loop-arm-preserved t c = record {
  within = (let e = c.sum-total.ensures.value in omega (arith, e));
  rest = tests_pass _ c.args.arms.now c.loop-arm.arm-index c.arm-item.result c.loop-arm.total c.items_cost.result c.sum.result c.sum-total.result _ (search rules) (search rules) c.sum-total.ensures.value c.sum.ensures.value
      (search rules) c.loop-arm.invariant.rest;
}

pub greatest_end-loop-arm-preserved : goal.greatest_end-loop-arm-preserved
greatest_end-loop-arm-preserved t c = record {
  within = ends_within _ c.loop-arm.greatest c.items_cost.result c.greater-greatest.result _ c.loop-arm.invariant.within c.greater-greatest.ensures.value c.items_cost.ensures;
  rest = ends_pass _ c.args.arms.now c.loop-arm.arm-index c.arm-item.result c.loop-arm.greatest c.items_cost.result c.greater-greatest.result _ (search rules) (search rules) c.greater-greatest.ensures.value (search rules)
      c.loop-arm.invariant.rest;
}

pub greatest_end-returns : goal.greatest_end-returns
greatest_end-returns t c = ends_done _ c.args.arms.now c.args.last_items c.loop-arm.greatest c.loop-arm.arm-index c.loop-arm-test.false c.loop-arm.invariant.within c.loop-arm.invariant.rest

pub item_cost-returns-in-Do : goal.item_cost-returns-in-Do
item_cost-returns-in-Do t c =
    do_cost c.args.known.now (last_of c.args.last) (node_of c.args.item.now) (tree_of c.in-Do.body) c.in-Do.plus c.known_turns.result c.turn_price.result c.items_cost-in-Do.result c.sum-turn.result c.product.result c.sum-in-Do.result
    c.do_has_parts.ensures c.known_turns.ensures c.turn_price.ensures (search rules) c.sum-turn.ensures.value c.product.ensures.value c.sum-in-Do.ensures.value

pub item_cost-returns-in-QDo : goal.item_cost-returns-in-QDo
item_cost-returns-in-QDo t c =
    q_do_cost c.args.known.now (last_of c.args.last) (node_of c.args.item.now) (tree_of c.in-QDo.body) c.in-QDo.plus c.known_turns-in-QDo.result c.entered-turns.result c.turn_price-in-QDo.result c.items_cost-in-QDo.result
    c.sum-turn-in-QDo.result c.product-in-QDo.result c.sum-in-QDo.result
    c.q_do_has_parts.ensures c.known_turns-in-QDo.ensures c.entered-turns.ensures c.turn_price-in-QDo.ensures (search rules) c.sum-turn-in-QDo.ensures.value c.product-in-QDo.ensures.value c.sum-in-QDo.ensures.value
