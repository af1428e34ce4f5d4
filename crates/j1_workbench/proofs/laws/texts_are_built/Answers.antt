use Rattle.word_table.specs.declared.word.Vocabulary.TheVariants.{Source}
use Rattle.j1_workbench.proofs.laws.texts_are_built.Goals as goal

pub returns : goal.returns
returns c = λ text program is. c.sources_are_built.ensures program (c.programs_are_sources.ensures.each Source text program is)
