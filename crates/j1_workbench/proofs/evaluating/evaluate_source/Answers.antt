use Rattle.std.proofs.Common.{refl}
use Rattle.j1_workbench.proofs.Commands.{eval_refused, eval_evaluated}
use Rattle.j1_workbench.proofs.evaluating.evaluate_source.Goals as goal

pub evaluate-requires : goal.evaluate-requires
evaluate-requires g c = c.programs_are_sources.ensures.no_go c.in-Ok.ensures.found.0 c.in-Ok.program c.in-Ok.ensures.found.2.program_is

pub returns-in-Err : goal.returns-in-Err
returns-in-Err g c = eval_refused _ _ _ _ _ _ c.read_source.ensures.read c.in-Err.ensures.found refl refl

pub returns : goal.returns
returns g c = eval_evaluated _ c.args.steps _ _ c.status_after.result c.answered.result c.in-Ok.program c.evaluate.result c.answered.ensures c.status_after.ensures c.read_source.ensures.read c.in-Ok.ensures.found c.evaluate.ensures
