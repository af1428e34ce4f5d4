use Rattle.std.proofs.Common.{◌≡◌}
use Rattle.net_file.specs.Schedule.{rounds_of}
use Rattle.net_file.proofs.schedules.schedule.Given as goal

abbrev pub invariant-loop : goal.invariant-loop
invariant-loop l = l.schedule.items ≡ rounds_of l.counter l.round.items
