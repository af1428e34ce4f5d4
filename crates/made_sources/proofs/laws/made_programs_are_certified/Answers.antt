use Rattle.made_sources.proofs.Certificate.{programs_certified}
use Rattle.made_sources.proofs.laws.made_programs_are_certified.Goals as goal

pub returns : goal.returns
returns c = programs_certified c.rounds_judge.ensures.end c.rounds_judge.ensures.least c.rounds_judge.ensures.none
