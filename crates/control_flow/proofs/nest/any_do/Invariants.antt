use Rattle.std.proofs.Common.{◌≡◌, drop}
use Rattle.control_flow.specs.Nest.{any_do}
use Rattle.control_flow.proofs.nest.any_do.Given as goal

abbrev pub invariant-loop-structure : goal.invariant-loop-structure
invariant-loop-structure l = any_do (drop l.structure-index l.structures) ≡ any_do l.structures
