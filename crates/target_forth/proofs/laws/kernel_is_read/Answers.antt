use Rattle.target_forth.proofs.ReadText as reading
use Rattle.target_forth.proofs.laws.kernel_is_read.Goals as goal

pub returns-clause-read : goal.returns-clause-read
returns-clause-read c = reading.text_is_read

pub returns-clause-words : goal.returns-clause-words
returns-clause-words c = reading.kernel_has_words

pub returns-clause-lines : goal.returns-clause-lines
returns-clause-lines c = reading.kernel_has_lines

pub returns-clause-built : goal.returns-clause-built
returns-clause-built c = reading.kernel_is_built

pub returns-clause-defining : goal.returns-clause-defining
returns-clause-defining c = reading.kernel_has_defining_words

pub returns-clause-interpreter : goal.returns-clause-interpreter
returns-clause-interpreter c = reading.kernel_is_interpreter
