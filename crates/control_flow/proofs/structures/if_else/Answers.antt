use Rattle.std.proofs.Common.{refl}
use Rattle.forth_program.specs.declared.item.Item as item
use Rattle.control_flow.proofs.structures.if_else.Goals as goal

pub returns : goal.returns
returns c = c.trees_have_parts.ensures.if_tree (item.If c.args.first c.args.second) c.args.first c.args.second refl
