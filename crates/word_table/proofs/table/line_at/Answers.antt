use Rattle.std.proofs.Common.{arith}
use Rattle.word_table.proofs.Lines.{below, line_found}
use Rattle.word_table.proofs.table.line_at.Goals as goal

pub bounds-lines-word : goal.bounds-lines-word
bounds-lines-word c = omega (arith, below c.args.word)

pub returns : goal.returns
returns c = line_found c.args.lines.now c.args.word _ c.requires
