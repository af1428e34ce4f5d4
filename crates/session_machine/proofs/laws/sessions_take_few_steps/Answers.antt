use Rattle.session_machine.proofs.Steps.{takes_few_steps}
use Rattle.session_machine.proofs.laws.sessions_take_few_steps.Goals as goal

pub returns : goal.returns
returns c = takes_few_steps
