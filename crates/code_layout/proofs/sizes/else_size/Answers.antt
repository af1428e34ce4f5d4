use Rattle.std.proofs.Common.{arith}
use Rattle.std.proofs.lemmas.Grind.{common_steps}
use Rattle.code_layout.proofs.AddedCells.{some_else_size}
use Rattle.code_layout.proofs.sizes.else_size.Goals as goal

pub returns-else-is_empty : goal.returns-else-is_empty
returns-else-is_empty c = grind (arith, common_steps, some_else_size)
