use Rattle.forth_program.proofs.StepStays.{programs_stay}
use Rattle.forth_program.proofs.laws.sources_stay.Goals as goal

pub returns : goal.returns
returns c = programs_stay
