use Rattle.std.proofs.Common.{◌+◌, arith, length}
use Rattle.forth_program.specs.ItemTrees.{tree_of}
use Rattle.depth_certifier.specs.Certificate.{loops}
use Rattle.depth_certifier.proofs.Rest.{items_in, one_walked, do_walked, query_do_walked, one_counted}
use Rattle.depth_certifier.proofs.walking.+walking.Goals as goal

pub walk_items-loop-at-preserved : goal.walk_items-loop-at-preserved
walk_items-loop-at-preserved t c = (
  one_walked c.args.facts c.args.effects.now c.args.heads.now c.args.top c.args.next (items_in (tree_of c.args.items.now)) c.list-list.result.now c.loop-at.at
      c.index-list-at.result _ _ _ c.next_at-follows.result (omega arith) c.index-list-at.is c.next_at-follows.ensures c.in_ok-walk_item.ensures.step
      c.loop-at.invariant.0,
  one_counted c.args.facts.finding (c.args.walker.now.count + loops (tree_of c.args.items.now)) (length c.args.notes.now) c.loop-at.walker.count _
      c.loop-at.notes _ c.list-list.result.now c.loop-at.at c.index-list-at.result (omega arith) c.index-list-at.is c.in_ok-walk_item.ensures.count
      c.walk_item.ensures.length c.loop-at.invariant.1,
)

pub walk_do-returns-clause-step : goal.walk_do-returns-clause-step
walk_do-returns-clause-step t c =
    do_walked c.args.facts c.args.effects.now c.args.heads.now c.args.top c.args.next (tree_of c.args.body.now) c.args.plus c.entries_at.result
    c.table_demand.result c.turn_word.result c.close_loop.result _ _ _ _ _ c.table_demand.ensures c.turn_word.ensures c.in_ok-take.ensures.step
    c.in_ok-enter.ensures.step c.entries_at.ensures c.in_ok-walk_items.ensures.step c.close_loop.ensures.step

pub walk_query_do-returns-clause-step : goal.walk_query_do-returns-clause-step
walk_query_do-returns-clause-step t c =
    query_do_walked c.args.facts c.args.effects.now c.args.heads.now c.args.top c.args.next (tree_of c.args.body.now) c.args.plus c.entries_at.result
    c.table_demand.result c.turn_word.result c.close_query_loop.result _ _ _ _ _ c.table_demand.ensures c.turn_word.ensures c.in_ok-take.ensures.step
    c.in_ok-enter.ensures.step c.entries_at.ensures c.in_ok-walk_items.ensures.step c.close_query_loop.ensures.step
