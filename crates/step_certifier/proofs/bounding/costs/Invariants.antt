use Rattle.std.proofs.Common.{◌≡◌, ℕ, List, length, map, drop}
use Rattle.step_certifier.specs.Capped.{capped}
use Rattle.step_certifier.specs.Cost.{costs, costs_with}
use Rattle.step_certifier.proofs.bounding.costs.Given as goal

abbrev pub invariant-loop-d : goal.invariant-loop-d
invariant-loop-d l = record {
  size : length l.costs.items ≡ l.d;
  table : (table : List ℕ) × (l.costs.items ≡ map capped table) × (costs_with table (drop l.d l.program.bodies) ≡ costs l.program.bodies);
}
