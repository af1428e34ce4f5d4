use Rattle.std.proofs.Common.{◌≡◌, map, replicate, []}
use Rattle.core_array.specs.ArrayState.{kept_items}
use Rattle.core_array.proofs.arrays.empty_prints.Given as goal

abbrev pub invariant-loop : goal.invariant-loop
invariant-loop l = map kept_items l.lists.items ≡ replicate l.counter []
