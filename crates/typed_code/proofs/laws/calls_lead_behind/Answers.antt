use Rattle.typed_code.proofs.Running.{jumps_lead, calls_lead_behind}
use Rattle.typed_code.proofs.laws.calls_lead_behind.Goals as goal

pub returns-clause-jump : goal.returns-clause-jump
returns-clause-jump c = jumps_lead

pub returns-clause-call : goal.returns-clause-call
returns-clause-call c = calls_lead_behind (record { runs = c.runs_join.ensures.runs; bounds = c.runs_join.ensures.bounds })
