use Rattle.kernel_lines.proofs.Ending as ending
use Rattle.kernel_lines.proofs.Lines as lines
use Rattle.kernel_lines.proofs.laws.main_repeats_lines.Goals as goal

pub returns-clause-line : goal.returns-clause-line
returns-clause-line c = lines.lines_are_done

pub returns-clause-main : goal.returns-clause-main
returns-clause-main c = lines.main_repeats_lines

pub returns-clause-further : goal.returns-clause-further
returns-clause-further c = lines.main_goes_on_law

pub returns-clause-ends : goal.returns-clause-ends
returns-clause-ends c = ending.input_ends

pub returns-clause-replied : goal.returns-clause-replied
returns-clause-replied c = lines.lines_are_replied

pub returns-clause-first : goal.returns-clause-first
returns-clause-first c = lines.first_line_begins

pub returns-clause-begins : goal.returns-clause-begins
returns-clause-begins c = lines.lines_begin

pub returns-clause-ended : goal.returns-clause-ended
returns-clause-ended c = lines.lines_have_ended
