use Rattle.forth_library.proofs.ReadDefinitions as reading
use Rattle.forth_library.proofs.laws.library_text_is_read.Goals as goal

pub returns : goal.returns
returns c = reading.text_is_read
