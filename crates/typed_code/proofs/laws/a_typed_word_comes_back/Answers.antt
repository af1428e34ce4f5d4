use Rattle.typed_code.proofs.Running.{typed_words_come_back}
use Rattle.typed_code.proofs.laws.a_typed_word_comes_back.Goals as goal

pub returns-clause-comes_back : goal.returns-clause-comes_back
returns-clause-comes_back c = typed_words_come_back (record { runs = c.runs_join.ensures.runs; bounds = c.runs_join.ensures.bounds })
