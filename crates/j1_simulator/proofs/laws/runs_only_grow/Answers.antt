use Rattle.j1_simulator.specs.OpenMachine.{open_storage}
use Rattle.j1_simulator.specs.RoundMachine.{round_storage}
use Rattle.j1_simulator.proofs.RunGrowth.{only_grows}
use Rattle.j1_simulator.proofs.laws.runs_only_grow.Goals as goal

pub returns-clause-round : goal.returns-clause-round
returns-clause-round c = only_grows round_storage

pub returns-clause-open : goal.returns-clause-open
returns-clause-open c = only_grows open_storage
