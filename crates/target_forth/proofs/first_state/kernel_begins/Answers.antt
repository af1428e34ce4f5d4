use Rattle.target_forth.proofs.FirstCells.{kernel_begins}
use Rattle.target_forth.proofs.first_state.kernel_begins.Goals as goal

pub returns : goal.returns
returns c = kernel_begins c.texts_end_in_sources.ensures c.programs_are_sources.ensures.each
