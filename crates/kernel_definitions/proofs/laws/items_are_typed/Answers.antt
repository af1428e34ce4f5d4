use Rattle.kernel_definitions.proofs.ItemWords as law
use Rattle.kernel_definitions.proofs.laws.items_are_typed.Goals as goal

pub returns : goal.returns
returns c = law.items_are_read
