use Rattle.library_laws.proofs.Definitions as law
use Rattle.library_laws.proofs.laws.bodies_mean_words.Goals as goal

pub returns : goal.returns
returns c = law.bodies_mean
