use Rattle.std.proofs.Common.{◌++◌, length, sym, ap, ◌∙◌}
use Rattle.std.specs.Prelude.{string_bytes}
use Rattle.std.proofs.lemmas.List.{length-map}
use Rattle.net_file.proofs.Turns.{rounds_more, entry_below}
use Rattle.net_file.proofs.schedules.schedule.Goals as goal

pub loop-preserved : goal.loop-preserved
loop-preserved c =
    c.in_ok-extend_from_slice.ensures.items ∙ ap (λ s. c.loop.schedule.items ++ s) c.as_slice.ensures.value
    ∙ ap (λ t. t ++ c.in_ok-round.round.items) c.loop.invariant ∙ rounds_more c.loop.counter c.in_ok-round.round.items

pub returns-clause-cores : goal.returns-clause-cores
returns-clause-cores c =
    entry_below c.loop.schedule.items c.in_ok-round.round.items c.loop.counter _ (length c.args.net.now.cores) _ c.loop.invariant c.in_ok-round.ensures
    (sym (length-map c.cores.result.now string_bytes) ∙ ap length c.cores.ensures)
