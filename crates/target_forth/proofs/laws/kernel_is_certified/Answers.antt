use Rattle.target_forth.proofs.ReadText as reading
use Rattle.target_forth.proofs.laws.kernel_is_certified.Goals as goal

pub returns : goal.returns
returns c = reading.kernel_is_certified c.checks_are_exact.ensures
