use Rattle.session_runs.proofs.Parts.{quiet, returns_on, print_more, stay_ended}
use Rattle.session_runs.proofs.laws.texts_go_on_in_parts.Goals as goal

pub returns : goal.returns
returns c = record { quiet = quiet; returned = returns_on; prints = print_more c.worlds_grow.ensures; ended = stay_ended }
