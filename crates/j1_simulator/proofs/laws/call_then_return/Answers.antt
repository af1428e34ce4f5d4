use Rattle.j1_simulator.proofs.TwoCells as two
use Rattle.j1_simulator.proofs.laws.call_then_return.Goals as goal

pub returns : goal.returns
returns c = two.call_then_return
