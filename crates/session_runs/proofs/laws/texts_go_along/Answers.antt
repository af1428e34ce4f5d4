use Rattle.session_runs.proofs.Along.{begins, quiet_step}
use Rattle.session_runs.proofs.CallsAlong.{call_along}
use Rattle.session_runs.proofs.EndsAlong.{last_call}
use Rattle.session_runs.proofs.InputEndsAlong.{to_the_end}
use Rattle.session_runs.proofs.laws.texts_go_along.Goals as goal

pub returns : goal.returns
returns c = record {
  begins = begins;
  quiet = quiet_step c.prices_add.ensures;
  calls = λ w k d t call a i r.
      call_along c.prices_add.ensures c.worlds_grow.ensures c.sessions_compose.ensures.composed c.sessions_grow.ensures w k d t call a i r;
  last = last_call c.worlds_grow.ensures c.sessions_compose.ensures.composed c.sessions_grow.ensures;
  input = λ w k t agree a q.
      to_the_end c.prices_add.ensures c.worlds_grow.ensures c.runs_only_grow.ensures.round c.sessions_compose.ensures.composed
      c.sessions_compose.ensures.ended c.sessions_grow.ensures w k t agree a q;
}
