use Rattle.std.proofs.Common.{◌+◌}
use Rattle.forth_program.specs.Access as access
use Rattle.reference_eval.proofs.AccessSequences as does
use Rattle.reference_eval.proofs.accesses.here.Goals as goal

pub returns : goal.returns
returns g c = does.at_start (λ start. access.fetch (start + 4)) c.data_start-start.result _ _ _ c.data_start-start.ensures.value c.fetch.ensures
