use Rattle.session_runs.proofs.Enough.{enough}
use Rattle.session_runs.proofs.laws.few_steps_are_enough.Goals as goal

pub returns : goal.returns
returns c = enough c.sessions_take_few_steps.ensures
