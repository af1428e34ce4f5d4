use Rattle.image_file.proofs.Whole.{bad_no_file}
use Rattle.image_file.proofs.laws.refused_is_no_file.Goals as goal

pub returns : goal.returns
returns c = bad_no_file
