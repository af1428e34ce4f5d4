use Rattle.word_table.proofs.WordNames.{some_is, none_is}
use Rattle.word_table.proofs.names.word_of.Goals as goal

pub returns-clause-some : goal.returns-clause-some
returns-clause-some c = some_is c.args.name.now c.first_of.result c.first_of.ensures

pub returns-clause-none : goal.returns-clause-none
returns-clause-none c = none_is c.args.name.now c.first_of.result c.first_of.ensures
