use Rattle.kernel_words.proofs.CellLaw as cell
use Rattle.kernel_words.proofs.FindLaw as find
use Rattle.kernel_words.proofs.HeaderLaw as header
use Rattle.kernel_words.proofs.HeaderList as list
use Rattle.kernel_words.proofs.NumberLaw as number
use Rattle.kernel_words.proofs.WordLaw as word
use Rattle.kernel_words.proofs.laws.kernel_words_keep_their_laws.Goals as goal

pub returns-clause-taken : goal.returns-clause-taken
returns-clause-taken c = word.words_are_taken

pub returns-clause-parsed : goal.returns-clause-parsed
returns-clause-parsed c = word.texts_are_parsed

pub returns-clause-text_kept : goal.returns-clause-text_kept
returns-clause-text_kept c = word.texts_are_kept

pub returns-clause-word_kept : goal.returns-clause-word_kept
returns-clause-word_kept c = word.words_are_kept

pub returns-clause-next_kept : goal.returns-clause-next_kept
returns-clause-next_kept c = word.next_words_are_kept

pub returns-clause-number : goal.returns-clause-number
returns-clause-number c = number.numbers_are_read

pub returns-clause-found : goal.returns-clause-found
returns-clause-found c = find.names_are_found

pub returns-clause-cell : goal.returns-clause-cell
returns-clause-cell c = cell.cells_are_laid

pub returns-clause-header : goal.returns-clause-header
returns-clause-header c = header.headers_are_made

pub returns-clause-list : goal.returns-clause-list
returns-clause-list c = list.list_is_longer
