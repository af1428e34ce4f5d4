use Rattle.session_runs.proofs.Splicing.{chips_spliced, open_spliced}
use Rattle.session_runs.proofs.laws.runs_are_spliced.Goals as goal

pub returns : goal.returns
returns c = record { round = chips_spliced; «open» = open_spliced }
