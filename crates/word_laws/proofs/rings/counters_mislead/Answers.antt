use Rattle.word_laws.proofs.Refuted as law
use Rattle.word_laws.proofs.rings.counters_mislead.Goals as goal

pub returns : goal.returns
returns c = law.counters_mislead
