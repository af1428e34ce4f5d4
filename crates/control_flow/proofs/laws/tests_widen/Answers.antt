use Rattle.control_flow.proofs.BodyFacts.{all_wider}
use Rattle.control_flow.proofs.laws.tests_widen.Goals as goal

pub returns : goal.returns
returns c = all_wider
