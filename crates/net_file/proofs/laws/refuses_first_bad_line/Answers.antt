use Rattle.net_file.proofs.FirstBad.{bad_is_first, first_is_bad}
use Rattle.net_file.proofs.laws.refuses_first_bad_line.Goals as goal

pub returns : goal.returns
returns c = λ text number. (bad_is_first text number, first_is_bad text number)
