use Rattle.word_laws.proofs.RunParts.{runs_join, bounds_join, bounds_widen, bounds_fit_rings, ends_stay}
use Rattle.word_laws.proofs.joins.runs_join.Goals as goal

pub returns-clause-runs : goal.returns-clause-runs
returns-clause-runs c = runs_join

pub returns-clause-bounds : goal.returns-clause-bounds
returns-clause-bounds c = bounds_join

pub returns-clause-wider : goal.returns-clause-wider
returns-clause-wider c = bounds_widen

pub returns-clause-rings : goal.returns-clause-rings
returns-clause-rings c = bounds_fit_rings

pub returns-clause-ended : goal.returns-clause-ended
returns-clause-ended c = ends_stay
