use Rattle.kernel_definitions.proofs.TextLaw as law
use Rattle.kernel_definitions.proofs.laws.texts_are_interpreted.Goals as goal

pub returns-clause-colon : goal.returns-clause-colon
returns-clause-colon c = law.colons_are_read c.kernel_words_keep_their_laws.ensures.found c.typed_definitions_are_compiled.ensures.begin

pub returns-clause-word : goal.returns-clause-word
returns-clause-word c = law.texts_are_read c.kernel_words_keep_their_laws.ensures.found c.kernel_words_keep_their_laws.ensures.number

pub returns-clause-semicolon : goal.returns-clause-semicolon
returns-clause-semicolon c = law.semicolons_are_read c.kernel_words_keep_their_laws.ensures.found
