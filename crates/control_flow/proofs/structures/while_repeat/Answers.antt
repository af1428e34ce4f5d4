use Rattle.std.proofs.Common.{refl}
use Rattle.forth_program.specs.declared.item.Item as item
use Rattle.control_flow.proofs.structures.while_repeat.Goals as goal

pub returns : goal.returns
returns c = c.trees_have_parts.ensures.while_tree (item.While c.args.test c.args.body) c.args.test c.args.body refl
