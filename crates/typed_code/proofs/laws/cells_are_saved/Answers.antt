use Rattle.typed_code.proofs.Memory.{saved_keeps}
use Rattle.typed_code.proofs.Running.{save_puts_back}
use Rattle.typed_code.proofs.laws.cells_are_saved.Goals as goal

pub returns-clause-save : goal.returns-clause-save
returns-clause-save c = save_puts_back (record { runs = c.runs_join.ensures.runs; bounds = c.runs_join.ensures.bounds })

pub returns-clause-saved : goal.returns-clause-saved
returns-clause-saved c = saved_keeps
