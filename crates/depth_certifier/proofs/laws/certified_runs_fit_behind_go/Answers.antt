use Rattle.depth_certifier.proofs.Runs.{certified_runs_fit_behind_go}
use Rattle.depth_certifier.proofs.laws.certified_runs_fit_behind_go.Goals as goal

pub returns : goal.returns
returns c = certified_runs_fit_behind_go c.only_go_leaves.ensures
