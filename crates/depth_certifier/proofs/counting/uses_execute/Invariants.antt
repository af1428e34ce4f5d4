use Rattle.std.proofs.Common.{◌≡◌, drop}
use Rattle.std.specs.List.{list_any}
use Rattle.depth_certifier.specs.Counting.{execute_within}
use Rattle.depth_certifier.proofs.counting.uses_execute.Given as goal

abbrev pub invariant-loop-d : goal.invariant-loop-d
invariant-loop-d l = list_any execute_within (drop l.d l.program.bodies) ≡ list_any execute_within l.program.bodies
