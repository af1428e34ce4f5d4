use Rattle.kernel_lines.proofs.Interpreting as interpreting
use Rattle.kernel_lines.proofs.laws.lines_are_interpreted.Goals as goal

pub returns-clause-errors : goal.returns-clause-errors
returns-clause-errors c = interpreting.errors_end_lines

pub returns-clause-ends : goal.returns-clause-ends
returns-clause-ends c = interpreting.lines_end

pub returns-clause-begun : goal.returns-clause-begun
returns-clause-begun c = interpreting.words_are_begun

pub returns-clause-ended : goal.returns-clause-ended
returns-clause-ended c = interpreting.words_are_ended

pub returns-clause-done : goal.returns-clause-done
returns-clause-done c = interpreting.words_are_done
