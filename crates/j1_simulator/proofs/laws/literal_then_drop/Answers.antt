use Rattle.j1_simulator.proofs.TwoCells as two
use Rattle.j1_simulator.proofs.laws.literal_then_drop.Goals as goal

pub returns-clause-round : goal.returns-clause-round
returns-clause-round c = two.literal_then_drop

pub returns-clause-open : goal.returns-clause-open
returns-clause-open c = two.literal_then_drop_below
