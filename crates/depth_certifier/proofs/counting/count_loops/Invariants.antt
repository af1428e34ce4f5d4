use Rattle.std.proofs.Common.{◌≡◌, ◌+◌, drop}
use Rattle.depth_certifier.specs.Counting.{all_loops}
use Rattle.depth_certifier.proofs.counting.count_loops.Given as goal

abbrev pub invariant-loop-d : goal.invariant-loop-d
invariant-loop-d l = l.total + all_loops (drop l.d l.program.bodies) ≡ all_loops l.program.bodies
