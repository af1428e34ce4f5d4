use Rattle.chip_laws.proofs.Premises.{certified_chips}
use Rattle.chip_laws.proofs.laws.certified_chips_agree.Goals as goal

pub returns : goal.returns
returns c = certified_chips c.chips_agree.ensures c.certified_runs_fit.ensures c.sources_stay.ensures
