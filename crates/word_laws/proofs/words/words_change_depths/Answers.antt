use Rattle.word_laws.proofs.Exits as law
use Rattle.word_laws.proofs.words.words_change_depths.Goals as goal

pub returns : goal.returns
returns c = law.words_change_depths
