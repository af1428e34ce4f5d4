use Rattle.target_forth.proofs.FirstLine.{first_lines_begin}
use Rattle.target_forth.proofs.first_state.first_line_begins.Goals as goal

pub returns : goal.returns
returns c = first_lines_begin c.kernel_begins.ensures c.kernel_is_read.ensures.lines c.lines_keep_their_laws.ensures.set_back c.main_repeats_lines.ensures.first c.what_is_outside_stays.ensures.texts
