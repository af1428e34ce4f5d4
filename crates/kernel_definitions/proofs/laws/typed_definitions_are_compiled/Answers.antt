use Rattle.kernel_definitions.proofs.ColonLaw as colon
use Rattle.kernel_definitions.proofs.WordLaw as law
use Rattle.kernel_definitions.proofs.laws.typed_definitions_are_compiled.Goals as goal

pub returns-clause-begin : goal.returns-clause-begin
returns-clause-begin c =
    colon.definitions_are_begun c.kernel_words_keep_their_laws.ensures.next_kept c.kernel_words_keep_their_laws.ensures.header c.kernel_words_keep_their_laws.ensures.list

pub returns-clause-word : goal.returns-clause-word
returns-clause-word c = law.words_are_read

pub returns-clause-end : goal.returns-clause-end
returns-clause-end c = law.definitions_are_ended

pub returns-clause-stays : goal.returns-clause-stays
returns-clause-stays c = law.open_stays
