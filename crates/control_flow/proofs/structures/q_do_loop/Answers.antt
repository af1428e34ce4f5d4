use Rattle.std.proofs.Common.{refl}
use Rattle.forth_program.specs.declared.item.Item as item
use Rattle.control_flow.proofs.structures.q_do_loop.Goals as goal

pub returns : goal.returns
returns c = c.trees_have_parts.ensures.q_do_tree (item.QDo c.args.body c.args.plus) c.args.body c.args.plus refl
