use Rattle.std.proofs.Common.{refl, ◌∙◌, sym}
use Rattle.reference_eval.proofs.AccessResults.{fetched_as, fetched_end, fetched_key}
use Rattle.reference_eval.proofs.memory.Memory.fetch.Goals as goal

pub returns-in-Data : goal.returns-in-Data
returns-in-Data g c = rw (sym c.self.view_is) (fetched_as c.args.address c.in-Data.place c.from.result _ c.as_slice.result.now _ _ _ _ _ (sym c.in-Data.is ∙ c.access.ensures) c.cell_at.ensures c.as_slice.ensures.value c.from.ensures)

pub returns-in-Key : goal.returns-in-Key
returns-in-Key g c = rw (sym c.self.view_is) (fetched_key c.args.address _ _ _ _ _ _ _ (sym c.in-Key.is ∙ c.access.ensures) (rw (sym c.self.view_is) at c.take.ensures))

pub returns-in-Outside : goal.returns-in-Outside
returns-in-Outside g c = rw (sym c.self.view_is) (fetched_end c.args.address _ _ _ _ _ _ _ (sym c.in-Outside.is ∙ c.access.ensures) refl (λ w. refl))
