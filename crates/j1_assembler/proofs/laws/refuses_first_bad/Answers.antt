use Rattle.j1_assembler.proofs.FirstBad.{first_bad, bad_refused}
use Rattle.j1_assembler.proofs.laws.refuses_first_bad.Goals as goal

pub returns : goal.returns
returns c = λ text number cause. (first_bad text number cause, bad_refused text number cause)
