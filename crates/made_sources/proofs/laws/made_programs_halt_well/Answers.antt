use Rattle.made_sources.proofs.Runs.{programs_halt}
use Rattle.made_sources.proofs.laws.made_programs_halt_well.Goals as goal

pub returns : goal.returns
returns c = programs_halt
