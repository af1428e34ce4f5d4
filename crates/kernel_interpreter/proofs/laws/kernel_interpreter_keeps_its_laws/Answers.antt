use Rattle.kernel_interpreter.proofs.Returning as returning
use Rattle.kernel_interpreter.proofs.RunLaw as run
use Rattle.kernel_interpreter.proofs.UserCellLaw as user
use Rattle.kernel_interpreter.proofs.WordLaw as word
use Rattle.kernel_interpreter.proofs.laws.kernel_interpreter_keeps_its_laws.Goals as goal

pub returns-clause-stay : goal.returns-clause-stay
returns-clause-stay c = returning.returns_stay

pub returns-clause-pushed : goal.returns-clause-pushed
returns-clause-pushed c = user.user_cells_are_pushed

pub returns-clause-popped : goal.returns-clause-popped
returns-clause-popped c = user.user_cells_are_popped

pub returns-clause-none_popped : goal.returns-clause-none_popped
returns-clause-none_popped c = user.no_user_cells_fail

pub returns-clause-need : goal.returns-clause-need
returns-clause-need c = run.needs_are_known

pub returns-clause-lacking : goal.returns-clause-lacking
returns-clause-lacking c = run.lacking_words_fail

pub returns-clause-run : goal.returns-clause-run
returns-clause-run c = run.words_are_run

pub returns-clause-found : goal.returns-clause-found
returns-clause-found c = word.words_are_found c.kernel_words_keep_their_laws.ensures.found c.kernel_words_keep_their_laws.ensures.number

pub returns-clause-structure : goal.returns-clause-structure
returns-clause-structure c =
    word.structures_are_done c.kernel_words_keep_their_laws.ensures.found c.kernel_words_keep_their_laws.ensures.number

pub returns-clause-number : goal.returns-clause-number
returns-clause-number c = word.numbers_are_taken c.kernel_words_keep_their_laws.ensures.found c.kernel_words_keep_their_laws.ensures.number

pub returns-clause-unknown : goal.returns-clause-unknown
returns-clause-unknown c =
    word.unknown_words_fail c.kernel_words_keep_their_laws.ensures.found c.kernel_words_keep_their_laws.ensures.number
