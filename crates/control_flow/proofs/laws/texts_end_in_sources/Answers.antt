use Rattle.control_flow.proofs.SourceMore.{program_of_end}
use Rattle.control_flow.proofs.laws.texts_end_in_sources.Goals as goal

pub returns : goal.returns
returns c = program_of_end
