use Rattle.word_laws.proofs.Needs as law
use Rattle.word_laws.proofs.words.needs_are_exact.Goals as goal

pub returns : goal.returns
returns c = law.needs_are_exact
