use Rattle.session_runs.proofs.InWords.{forward, backward}
use Rattle.session_runs.proofs.Kernels.{kernels}
use Rattle.session_runs.proofs.laws.texts_answer.Goals as goal

pub returns : goal.returns
returns c = record {
  forward = λ w k agree f. forward c.runs_only_grow.ensures.round w agree f k;
  backward = λ w n agree f u. backward c.runs_only_grow.ensures.round w agree f n u;
  sessions = kernels c.runs_only_grow.ensures.round;
}
