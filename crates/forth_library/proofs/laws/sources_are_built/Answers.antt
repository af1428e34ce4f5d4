use Rattle.forth_library.proofs.Built.{sources_built}
use Rattle.forth_library.proofs.laws.sources_are_built.Goals as goal

pub returns : goal.returns
returns c = sources_built c.tests_widen.ensures c.code_is_light.ensures c.items_are_light.ensures.tokens c.library_means.ensures.size
