use Rattle.forth_library.proofs.Certified as law
use Rattle.forth_library.proofs.laws.library_is_certified.Goals as goal

pub returns : goal.returns
returns c = law.certified c.rounds_judge.ensures.least
