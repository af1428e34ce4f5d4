use Rattle.depth_certifier.proofs.Runs.{certified_runs_fit}
use Rattle.depth_certifier.proofs.laws.certified_runs_fit.Goals as goal

pub returns : goal.returns
returns c = certified_runs_fit
