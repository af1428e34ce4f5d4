use Rattle.std.proofs.Common.{ap, sym, ◌∙◌, map, set, ◌++◌, ◌∷◌, []}
use Rattle.core_array.specs.Network.{event_bytes, list_at}
use Rattle.core_array.specs.ArrayState.{kept_items}
use Rattle.core_array.proofs.KeptLists.{kept_push}
use Rattle.core_array.proofs.arrays.keep_bytes.Goals as goal

pub returns-in-Printed-clause-printed : goal.returns-in-Printed-clause-printed
returns-in-Printed-clause-printed c =
    kept_push c.args.printed.now.items c.args.core c.index_mut.result.now c.push.new.self (c.in-Printed.byte ∷ []) c.requires.core c.index_mut.ensures.value c.push.ensures.items
    ∙ sym (ap (λ e. set (map kept_items c.args.printed.now.items) c.args.core (list_at (map kept_items c.args.printed.now.items) c.args.core ++ event_bytes e)) c.in-Printed.is)
