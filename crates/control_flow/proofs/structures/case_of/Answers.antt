use Rattle.std.proofs.Common.{refl}
use Rattle.forth_program.specs.declared.item.Item as item
use Rattle.control_flow.proofs.structures.case_of.Goals as goal

pub returns : goal.returns
returns c = c.trees_have_parts.ensures.case_tree (item.Case c.args.arms c.args.rest) c.args.arms c.args.rest refl
