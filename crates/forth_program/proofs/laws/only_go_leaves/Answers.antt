use Rattle.forth_program.proofs.LeavesAtGo.{only_go_leaves}
use Rattle.forth_program.proofs.laws.only_go_leaves.Goals as goal

pub returns : goal.returns
returns c = only_go_leaves
