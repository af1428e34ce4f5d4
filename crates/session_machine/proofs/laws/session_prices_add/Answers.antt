use Rattle.session_machine.proofs.Steps.{prices_add}
use Rattle.session_machine.proofs.laws.session_prices_add.Goals as goal

pub returns : goal.returns
returns c = prices_add
