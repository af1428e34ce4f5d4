use Rattle.std.proofs.Common.{◌≡◌, replicate, []}
use Rattle.core_array.proofs.arrays.mailboxes_of.Given as goal

abbrev pub invariant-loop : goal.invariant-loop
invariant-loop l = l.mailboxes.items ≡ replicate l.counter []
