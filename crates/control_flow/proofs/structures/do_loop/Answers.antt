use Rattle.std.proofs.Common.{refl}
use Rattle.forth_program.specs.declared.item.Item as item
use Rattle.control_flow.proofs.structures.do_loop.Goals as goal

pub returns : goal.returns
returns c = c.trees_have_parts.ensures.do_tree (item.Do c.args.body c.args.plus) c.args.body c.args.plus refl
