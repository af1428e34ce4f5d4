use Rattle.chip_laws.proofs.Premises.{certified_tight}
use Rattle.chip_laws.proofs.laws.certified_chips_keep_tight.Goals as goal

pub returns : goal.returns
returns c = certified_tight c.chips_agree.ensures c.certified_runs_fit.ensures c.sources_stay.ensures
