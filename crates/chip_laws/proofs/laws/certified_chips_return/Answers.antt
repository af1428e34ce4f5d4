use Rattle.chip_laws.proofs.Returning.{certified_chips, certified_tight}
use Rattle.chip_laws.proofs.laws.certified_chips_return.Goals as goal

pub returns-clause-agree : goal.returns-clause-agree
returns-clause-agree c = certified_chips c.chips_return.ensures c.certified_runs_fit.ensures c.certified_runs_fit_behind_go.ensures

pub returns-clause-tight : goal.returns-clause-tight
returns-clause-tight c = certified_tight c.chips_return.ensures c.certified_runs_fit.ensures c.certified_runs_fit_behind_go.ensures
