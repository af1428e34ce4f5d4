use Rattle.forth_program.proofs.Views.{view_If, view_Until, view_While, view_Again, view_Do, view_QDo, view_Case, view_append}
use Rattle.forth_program.proofs.laws.trees_have_parts.Goals as goal

pub returns : goal.returns
returns c = record { if_tree = view_If; until_tree = view_Until; while_tree = view_While; again_tree = view_Again; do_tree = view_Do; q_do_tree = view_QDo; case_tree = view_Case; joined = view_append }
