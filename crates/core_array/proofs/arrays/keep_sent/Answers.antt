use Rattle.std.proofs.Common.{rules, ap, sym, ◌∙◌, map, ◌∷◌, []}
use Rattle.core_array.specs.ArrayState.{kept_items, sent_on}
use Rattle.core_array.proofs.KeptLists.{kept_push}
use Rattle.core_array.proofs.arrays.keep_sent.Goals as goal

pub returns-in-Some-clause-histories : goal.returns-in-Some-clause-histories
returns-in-Some-clause-histories c =
    kept_push c.args.histories.now.items c.in-Some.link c.index_mut.result.now c.push.new.self (c.in-Some.cell ∷ []) (search rules) c.index_mut.ensures.value c.push.ensures.items
    ∙ sym (ap (λ s. sent_on s (map kept_items c.args.histories.now.items)) c.in-Some.is)
