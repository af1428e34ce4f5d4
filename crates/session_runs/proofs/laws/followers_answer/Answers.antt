use Rattle.session_runs.proofs.Following.{forward, backward}
use Rattle.session_runs.proofs.laws.followers_answer.Goals as goal

pub returns : goal.returns
returns c = record {
  forward = λ image lines more k f.
      forward c.sessions_compose.ensures.composed c.sessions_compose.ensures.ended c.runs_only_grow.ensures.round image lines more f k;
  backward = λ image lines more n f u.
      backward c.sessions_compose.ensures.composed c.sessions_compose.ensures.ended c.runs_only_grow.ensures.round image lines more f n u;
}
