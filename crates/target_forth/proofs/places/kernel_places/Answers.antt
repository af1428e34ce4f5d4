use Rattle.target_forth.proofs.FirstHere.{stand_apart}
use Rattle.target_forth.proofs.Names.{names_are}
use Rattle.target_forth.proofs.ReadText.{kernel_has_words}
use Rattle.target_forth.proofs.places.kernel_places.Goals as goal

pub returns-clause-apart : goal.returns-clause-apart
returns-clause-apart c = stand_apart c.texts_end_in_sources.ensures

pub returns-clause-names : goal.returns-clause-names
returns-clause-names c = names_are

pub returns-clause-kernel : goal.returns-clause-kernel
returns-clause-kernel c = kernel_has_words
