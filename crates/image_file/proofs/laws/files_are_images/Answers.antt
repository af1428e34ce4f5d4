use Rattle.image_file.proofs.Fronts.{files_one}
use Rattle.image_file.proofs.laws.files_are_images.Goals as goal

pub returns : goal.returns
returns c = files_one
