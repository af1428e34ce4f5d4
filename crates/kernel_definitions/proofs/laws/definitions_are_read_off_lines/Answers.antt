use Rattle.kernel_definitions.proofs.EndLaw as end
use Rattle.kernel_definitions.proofs.LineLaw as law
use Rattle.kernel_definitions.proofs.OpenLaw as open_law
use Rattle.kernel_definitions.proofs.WholeLaw as whole
use Rattle.kernel_definitions.proofs.laws.definitions_are_read_off_lines.Goals as goal

pub returns-clause-words : goal.returns-clause-words
returns-clause-words c = law.lines_of_words_are_read c.turns_read_words.ensures.turn

pub returns-clause-body : goal.returns-clause-body
returns-clause-body c = law.bodies_are_read c.turns_read_words.ensures.turn

pub returns-clause-opened : goal.returns-clause-opened
returns-clause-opened c =
    open_law.definitions_are_opened c.kernel_words_keep_their_laws.ensures.next_kept c.texts_are_interpreted.ensures.word
    c.texts_are_interpreted.ensures.colon

pub returns-clause-kept : goal.returns-clause-kept
returns-clause-kept c =
    end.definitions_are_kept c.kernel_words_keep_their_laws.ensures.next_kept c.texts_are_interpreted.ensures.word
    c.texts_are_interpreted.ensures.semicolon

pub returns-clause-whole : goal.returns-clause-whole
returns-clause-whole c =
    whole.definitions_are_typed (returns-clause-opened c) (returns-clause-body c) (returns-clause-kept c)
