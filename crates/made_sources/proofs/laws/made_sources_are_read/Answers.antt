use Rattle.made_sources.proofs.Reading.{sources_read}
use Rattle.made_sources.proofs.laws.made_sources_are_read.Goals as goal

pub returns : goal.returns
returns c = sources_read c.readings_are_splittings.ensures.next c.readings_are_splittings.ensures.name
