use Rattle.word_laws.proofs.Meanings as law
use Rattle.word_laws.proofs.words.words_do_their_meaning.Goals as goal

pub returns : goal.returns
returns c = law.words_do_their_meaning
