use Rattle.library_laws.proofs.ByteLoops as bytes
use Rattle.library_laws.proofs.Definitions as law
use Rattle.library_laws.proofs.laws.definitions_do_their_meaning.Goals as goal

pub returns-clause-meaning : goal.returns-clause-meaning
returns-clause-meaning c = law.definitions_do

pub returns-clause-type_is_cheap : goal.returns-clause-type_is_cheap
returns-clause-type_is_cheap c = bytes.type_is_cheap
