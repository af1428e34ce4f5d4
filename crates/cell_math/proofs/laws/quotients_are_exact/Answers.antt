use Rattle.cell_math.proofs.Exact as law
use Rattle.cell_math.proofs.laws.quotients_are_exact.Goals as goal

pub returns-clause-floored : goal.returns-clause-floored
returns-clause-floored c = law.floored_is

pub returns-clause-symmetric : goal.returns-clause-symmetric
returns-clause-symmetric c = law.symmetric_is
