use Rattle.chip_laws.proofs.Returning.{certified_return}
use Rattle.chip_laws.proofs.laws.certified_images_return.Goals as goal

pub returns : goal.returns
returns c = certified_return c.images_return.ensures c.certified_runs_fit_behind_go.ensures
