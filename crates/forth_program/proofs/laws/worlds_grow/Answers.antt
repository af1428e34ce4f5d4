use Rattle.forth_program.proofs.StepGrowth.{steps_later}
use Rattle.forth_program.proofs.laws.worlds_grow.Goals as goal

pub returns : goal.returns
returns c = steps_later
