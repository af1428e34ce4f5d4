use Rattle.kernel_definitions.proofs.TurnLaw as law
use Rattle.kernel_definitions.proofs.laws.turns_read_words.Goals as goal

pub returns-clause-turn : goal.returns-clause-turn
returns-clause-turn c = law.turns_are_made c.kernel_words_keep_their_laws.ensures.next_kept c.texts_are_interpreted.ensures.word

pub returns-clause-composed : goal.returns-clause-composed
returns-clause-composed c = law.turns_are_composed

pub returns-clause-check : goal.returns-clause-check
returns-clause-check c = law.checks_pass

pub returns-clause-wait : goal.returns-clause-wait
returns-clause-wait c = law.places_wait
