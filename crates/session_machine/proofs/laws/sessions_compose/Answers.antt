use Rattle.session_machine.proofs.Steps.{compose, stay_ended}
use Rattle.session_machine.proofs.laws.sessions_compose.Goals as goal

pub returns : goal.returns
returns c = record { composed = compose; ended = stay_ended }
