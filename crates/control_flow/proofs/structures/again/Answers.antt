use Rattle.std.proofs.Common.{refl}
use Rattle.forth_program.specs.declared.item.Item as item
use Rattle.control_flow.proofs.structures.again.Goals as goal

pub returns : goal.returns
returns c = c.trees_have_parts.ensures.again_tree (item.Again c.args.body) c.args.body refl
