use Rattle.std.proofs.Common.{refl, ap, ◌∙◌, true, sym}
use Rattle.console_ports.specs.Ports.{access_at}
use Rattle.reference_eval.proofs.AccessResults.{stored_as, stored_end, stored_print}
use Rattle.reference_eval.proofs.memory.Memory.store.Goals as goal

pub returns-in-Data : goal.returns-in-Data
returns-in-Data g c = λ left reads. rw (sym c.self.view_is) (stored_as c.args.address c.args.cell c.in-Data.place c.from.result _ _ left reads _ _ (sym c.in-Data.is ∙ c.access.ensures) refl c.set_cell.ensures c.from.ensures)

pub returns-in-Print : goal.returns-in-Print
returns-in-Print g c = λ left reads. stored_print c.args.address c.args.cell _ left reads _ _ _ (sym c.in-Print.is ∙ c.access.ensures ∙ ap (λ m. access_at m.data_start true c.args.address) c.self.view_is) (c.print.ensures left reads)

pub returns-in-Halt : goal.returns-in-Halt
returns-in-Halt g c = λ left reads. rw (sym c.self.view_is) (stored_end c.args.address c.args.cell _ _ _ left reads _ _ (sym c.in-Halt.is ∙ c.access.ensures) refl (λ w. refl))

pub returns-in-Outside : goal.returns-in-Outside
returns-in-Outside g c = λ left reads. rw (sym c.self.view_is) (stored_end c.args.address c.args.cell _ _ _ left reads _ _ (sym c.in-Outside.is ∙ c.access.ensures) refl (λ w. refl))
