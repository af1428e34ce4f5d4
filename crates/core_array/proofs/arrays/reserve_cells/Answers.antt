use Rattle.std.proofs.Common.{rules, ◌∙◌, ◌<◌, length}
use Rattle.std.proofs.lemmas.List.{length-set}
use Rattle.core_array.proofs.KeptLists.{kept_reserved, below_set}
use Rattle.core_array.proofs.arrays.reserve_cells.Goals as goal

pub returns-in_err-reserve-clause-items : goal.returns-in_err-reserve-clause-items
returns-in_err-reserve-clause-items c =
    kept_reserved c.loop-i.lists.items c.loop-i.i c.index_mut.result.now c.reserve.new.self (search rules) c.index_mut.ensures.value c.reserve.ensures.items ∙ c.loop-i.invariant.0

pub loop-i-preserved : goal.loop-i-preserved
loop-i-preserved c =
    let lt : c.loop-i.i < length c.loop-i.lists.items = search rules in (
      kept_reserved c.loop-i.lists.items c.loop-i.i c.index_mut.result.now c.reserve.new.self lt c.index_mut.ensures.value c.reserve.ensures.items
          ∙ c.loop-i.invariant.0,
      length-set c.loop-i.lists.items c.loop-i.i c.reserve.new.self
          ∙ c.loop-i.invariant.1,
      below_set c.loop-i.lists.items c.loop-i.i c.args.n c.reserve.new.self lt c.loop-i.invariant.2 (search rules),
    )
