use Rattle.depth_certifier.proofs.Bodies.{Whole}
use Rattle.depth_certifier.proofs.validity.bodies_hold.Given as goal

abbrev pub invariant-loop-d : goal.invariant-loop-d
invariant-loop-d l = Whole l.program l.certificate l.d l.count
