use Rattle.word_laws.proofs.WordCells as law
use Rattle.word_laws.proofs.words.words_leave_cells.Goals as goal

pub returns : goal.returns
returns c = law.words_leave_cells
