use Rattle.std.proofs.Common.{arith}
use Rattle.std.proofs.lemmas.Grind.{common_steps}
use Rattle.code_layout.proofs.AddedCells.{some_else_cells}
use Rattle.code_layout.proofs.emission.add_else.Goals as goal

pub returns-then-end_is_reached : goal.returns-then-end_is_reached
returns-then-end_is_reached c = grind (arith, common_steps, some_else_cells)
