use Rattle.std.proofs.Common.{◌≡◌, ◌++◌, replicate}
use Rattle.net_file.proofs.schedules.add_entries.Given as goal

abbrev pub invariant-loop : goal.invariant-loop
invariant-loop l = l.round.items ≡ l.fn.round.items ++ replicate l.counter l.core
