use Rattle.session_machine.proofs.Steps.{steps_later}
use Rattle.session_machine.proofs.laws.sessions_grow.Goals as goal

pub returns : goal.returns
returns c = steps_later c.worlds_grow.ensures
