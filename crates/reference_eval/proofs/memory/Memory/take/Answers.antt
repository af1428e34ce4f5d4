use Rattle.std.proofs.Common.{ap, ◌∙◌, sym}
use Rattle.reference_eval.specs.Outside.{IsWrittenOut}
use Rattle.reference_eval.proofs.AccessResults.{after_same, not_written, took_as, ended_as, not_read_as}
use Rattle.reference_eval.proofs.memory.Memory.take.Goals.{in-Ok-Some, in-Ok-None, in-Err}
use Rattle.reference_eval.proofs.memory.Memory.take.Goals as goal

pub returns-then-self : goal.returns-then-self
returns-then-self g c = after_same _ _ _ _ _ (c.flush.ensures.leads _ _) (not_written _ _ _ _ _ (sym (ap (λ m. m.failed) c.self.view_is) ∙ c.if-self.true))

pub returns : goal.returns
returns g c =
    let well = sym (ap (λ m. m.failed) c.self.view_is) ∙ c.if-self.false in
    let out : IsWrittenOut c.flush.new.self = record { waiting = c.flush.ensures.empty well; well = well } in
    after_same _ _ _ _ _ (c.flush.ensures.leads _ _) (elim c.match-ask.branch [
      | in-Ok-Some w ↦ took_as _ _ w.in-Ok-Some.field-0 _ _ _ _ _ _ _ _ w.result-is w.from.ensures w.in-Ok-Some.field-0-is w.in-Ok-Some.ensures.byte c.ask.ensures.calls c.ask.ensures.cause.later
      | in-Ok-None w ↦ ended_as _ w.in-Ok-None.field-0 _ _ _ _ _ _ _ w.result-is w.in-Ok-None.field-0-is w.in-Ok-None.ensures.byte c.ask.ensures.calls out c.ask.ensures.cause.later
      | in-Err w ↦ not_read_as _ _ _ _ _ _ _ _ w.result-is w.in-Err.ensures.byte c.ask.ensures.calls out c.ask.ensures.cause.later w.in-Err.ensures.cause.failed
    ])
