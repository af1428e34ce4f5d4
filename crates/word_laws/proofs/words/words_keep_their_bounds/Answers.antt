use Rattle.word_laws.proofs.Meanings as law
use Rattle.word_laws.proofs.words.words_keep_their_bounds.Goals as goal

pub returns-clause-before_each : goal.returns-clause-before_each
returns-clause-before_each c = law.words_keep_their_bounds

pub returns-clause-at_the_end : goal.returns-clause-at_the_end
returns-clause-at_the_end c = law.words_end_within_bounds
