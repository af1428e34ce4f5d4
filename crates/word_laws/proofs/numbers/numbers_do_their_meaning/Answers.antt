use Rattle.word_laws.proofs.NumberRows.{numbers_do_their_meaning, numbers_keep_their_bounds}
use Rattle.word_laws.proofs.numbers.numbers_do_their_meaning.Goals as goal

pub returns-clause-meaning : goal.returns-clause-meaning
returns-clause-meaning c = numbers_do_their_meaning

pub returns-clause-bounds : goal.returns-clause-bounds
returns-clause-bounds c = numbers_keep_their_bounds
