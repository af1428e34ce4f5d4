use Rattle.word_laws.proofs.RunParts as law
use Rattle.word_laws.proofs.joins.cells_stand.Goals as goal

pub returns : goal.returns
returns c = law.cells_stand
