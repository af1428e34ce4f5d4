use Rattle.target_forth.proofs.CodeCells.{kernel_has_machine_code}
use Rattle.target_forth.proofs.machine_code.kernel_has_machine_code.Goals as goal

pub returns : goal.returns
returns c = kernel_has_machine_code c.texts_end_in_sources.ensures c.programs_are_sources.ensures.each
