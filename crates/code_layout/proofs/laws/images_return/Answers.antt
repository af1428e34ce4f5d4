use Rattle.code_layout.proofs.ReturningImage.{images_return}
use Rattle.code_layout.proofs.laws.images_return.Goals as goal

pub returns : goal.returns
returns c = images_return (record {
  words = c.words_do_their_meaning.ensures;
  word_bounds = c.words_keep_their_bounds.ensures.before_each;
  word_ends = c.words_keep_their_bounds.ensures.at_the_end;
  word_needs = c.needs_are_exact.ensures;
  word_cells = c.words_leave_cells.ensures;
  word_depths = c.words_change_depths.ensures;
  numbers = c.numbers_do_their_meaning.ensures.meaning;
  number_bounds = c.numbers_do_their_meaning.ensures.bounds;
  jumps = c.control_leads.ensures.jump;
  calls = c.control_leads.ensures.call;
  returns = c.control_leads.ensures.returns;
  branches = c.control_leads.ensures.branch;
  passes = c.control_leads.ensures.passes;
  halts = c.halt_ends.ensures;
  cells_stand = c.cells_stand.ensures;
  runs_join = c.runs_join.ensures.runs;
  bounds_join = c.runs_join.ensures.bounds;
  bounds_widen = c.runs_join.ensures.wider;
  grows = c.runs_only_grow.ensures.open;
}) c.only_go_leaves.ensures
