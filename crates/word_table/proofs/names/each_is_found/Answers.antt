use Rattle.word_table.proofs.WordNames.{found, lack_go}
use Rattle.word_table.proofs.names.each_is_found.Goals as goal

pub returns-clause-found : goal.returns-clause-found
returns-clause-found c = found

pub returns-clause-sources : goal.returns-clause-sources
returns-clause-sources c = lack_go
