use Rattle.compiled_items.proofs.Agreement.{cells_agree}
use Rattle.compiled_items.proofs.Standing.{definitions_stand}
use Rattle.compiled_items.proofs.laws.compiled_cells_are_typed_cells.Goals as goal

pub returns-clause-cells : goal.returns-clause-cells
returns-clause-cells c = cells_agree

pub returns-clause-stand : goal.returns-clause-stand
returns-clause-stand c = definitions_stand
