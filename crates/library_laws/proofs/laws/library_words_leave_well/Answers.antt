use Rattle.library_laws.proofs.LeftCells as law
use Rattle.library_laws.proofs.laws.library_words_leave_well.Goals as goal

pub returns : goal.returns
returns c = law.leave_well
