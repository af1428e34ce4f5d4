use Rattle.image_file.proofs.Whole.{one_first_bad}
use Rattle.image_file.proofs.laws.bytes_have_one_first_bad.Goals as goal

pub returns : goal.returns
returns c = one_first_bad
