use Rattle.std.proofs.Common.{◌≡◌, drop}
use Rattle.step_certifier.specs.Refusal.{reaches, first_refusal}
use Rattle.step_certifier.specs.Bound.{refused_item}
use Rattle.step_certifier.proofs.bounding.first_refused.Given as goal

abbrev pub invariant-loop-d : goal.invariant-loop-d
invariant-loop-d l = first_refusal (reaches l.program.main_body 0 l.program.bodies) l.d (drop l.d l.program.bodies) ≡ refused_item l.program
