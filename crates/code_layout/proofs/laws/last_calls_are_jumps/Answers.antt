use Rattle.code_layout.proofs.LastCalls.{last_calls}
use Rattle.code_layout.proofs.laws.last_calls_are_jumps.Goals as goal

pub returns : goal.returns
returns c = last_calls c.cells_stand.ensures
