use Rattle.session_machine.proofs.Inside.{inside_step, words_run}
use Rattle.session_machine.proofs.laws.words_run_as_sources.Goals as goal

pub returns : goal.returns
returns c = record { steps = inside_step; words = words_run c.prices_add.ensures }
