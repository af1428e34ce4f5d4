use Rattle.std.proofs.Common.{refl}
use Rattle.word_table.proofs.Lines.{line_is, line_in_range}
use Rattle.word_table.proofs.table.line_of.Goals as goal

pub returns-clause-row : goal.returns-clause-row
returns-clause-row c = line_is c.line_at.ensures refl

pub returns-clause-range : goal.returns-clause-range
returns-clause-range c = line_in_range c.line_at.ensures refl refl
