use Rattle.std.proofs.Common.{◌≡◌, ◌≤◌, length, take}
use Rattle.dictionary_core.specs.Chains.{IsChained, pairs_in}
use Rattle.dictionary_core.proofs.dictionary.Dictionary.forget_to.Given as goal

abbrev pub invariant-loop-self : goal.invariant-loop-self
invariant-loop-self g l = record {
  chained : IsChained (take (length l.self-inside.entries.items) l.self-inside.names.names) l.self-inside.entries.items l.self-inside.heads;
  within : length l.self-inside.entries.items ≤ length l.self-inside.names.names;
  above : l.mark.0 ≤ length l.self-inside.entries.items;
  pairs : pairs_in l.self-inside.names.names l.self-inside.entries.items ≡ take (length l.self-inside.entries.items) l.fn.self.pairs;
  looks : l.self-inside.names.looks ≡ l.fn.self.looks;
}

abbrev pub decreases-loop-self : goal.decreases-loop-self
decreases-loop-self g l = length l.self-inside.entries.items
