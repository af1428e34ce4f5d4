use Rattle.word_laws.proofs.ControlRows as law
use Rattle.word_laws.proofs.control.halt_ends.Goals as goal

pub returns : goal.returns
returns c = law.halt_ends
