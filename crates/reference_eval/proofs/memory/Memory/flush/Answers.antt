use Rattle.std.proofs.Common.{refl, ap, sym}
use Rattle.reference_eval.proofs.AccessResults.{flushed, not_flushed}
use Rattle.reference_eval.specs.Outside.{MemoryState}
use Rattle.reference_eval.proofs.memory.Memory.flush.Goals as goal

pub returns-in-Ok-clause-leads : goal.returns-in-Ok-clause-leads
returns-in-Ok-clause-leads g c = λ left reads. rw (sym c.self.view_is)
    (flushed _ _ left reads _ _ _ _ c.if-self.false
    (ap (λ b. let m : MemoryState = record { data_start = c.self.inside.fence.data_start; space = c.self.inside.space.items; waiting = b; failed = c.self.inside.failed } in m) c.in-Ok.ensures.empty)
    c.in-Ok.ensures.bytes c.flush.ensures.cause.later)

pub returns-in-Err-clause-leads : goal.returns-in-Err-clause-leads
returns-in-Err-clause-leads g c = λ left reads. rw (sym c.self.view_is)
    (not_flushed _ _ c.flush.new.self left reads _ _ _ _ c.if-self.false refl c.in-Err.ensures.bytes c.flush.ensures.cause.later c.in-Err.ensures.cause.failed)
