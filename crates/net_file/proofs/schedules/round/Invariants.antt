use Rattle.std.proofs.Common.{◌≡◌, ◌++◌, ◌-◌}
use Rattle.net_file.specs.Schedule.{round_from}
use Rattle.net_file.proofs.schedules.round.Given as goal

abbrev pub invariant-loop-core : goal.invariant-loop-core
invariant-loop-core l = l.round.items ++ round_from (l.cores - l.core) l.core l.entries ≡ round_from l.cores 0 l.entries
