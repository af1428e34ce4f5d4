use Rattle.std.proofs.Common.{rules, ◌≡◌, ◌<◌, ◌++◌, refl, sym, ap, ◌∙◌, subst, length, map, set}
use Rattle.std.specs.Prelude.{slice_index}
use Rattle.core_array.specs.contracts.arrays.Array.{the_view}
use Rattle.core_array.specs.Network.{event_bytes, list_at}
use Rattle.core_array.specs.ArrayState.{kept_items, ArrayState}
use Rattle.core_array.proofs.SingleSteps.{step_follows, whole}
use Rattle.core_array.proofs.ScheduleRuns.{went_on}
use Rattle.core_array.proofs.arrays.Array.run.Goals as goal

pub loop-core-preserved : goal.loop-core-preserved
loop-core-preserved c =
    let now : ArrayState = the_view c.loop-core.self-inside in
    let schedule = c.args.schedule.now in
    let i = c.loop-core.core-index in
    let core = slice_index c.args.schedule.now c.loop-core.core-index in
    let same : length (the_view c.self.inside).cores ≡ length c.args.self.now.cores = ap (λ (a : ArrayState). length a.cores) c.self.view_is in
    let below : i < length schedule = search rules in
    let lt : core < length now.cores = subst (λ n. core < n) (sym (c.loop-core.invariant.count ∙ same)) (c.requires i below) in
    let f = step_follows now now core c.from.result c.deref.result.now c.index_mut-machine.result.now c.make-turn.new.machine
    c.deref_mut.result.now c.make-turn.new.mailboxes c.make-turn.result refl c.from.ensures c.deref.ensures.value
    c.deref_mut.ensures.value lt c.index_mut-machine.ensures.value c.make-turn.ensures.does in
    let printed = subst (λ n. map kept_items c.keep_bytes.new.printed.items ≡ set (map kept_items now.printed) n (list_at (map kept_items now.printed) n ++ event_bytes c.make-turn.result.event))
    (c.from-in-loop-core.ensures ∙ sym c.from.ensures) c.keep_bytes.ensures.printed in
    went_on schedule i core c.from.result _ now _ c.make-turn.result c.make-turn.new.machine c.make-turn.new.mailboxes
    c.loop-core.invariant below refl (sym c.from.ensures) f refl refl (whole _ _ _
    (search rules)) (search rules)
    printed c.keep_bytes.ensures.room c.keep_bytes.ensures.len c.keep_sent.ensures.histories c.keep_sent.ensures.room c.keep_sent.ensures.len
