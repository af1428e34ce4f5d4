use Rattle.std.proofs.Common.{ap, arith}
use Rattle.depth_certifier.specs.Place.{size}
use Rattle.depth_certifier.proofs.validity.begin.Goals as goal

pub invariant_of-result-clause-small : goal.invariant_of-result-clause-small
invariant_of-result-clause-small c = let few = ap size c.none-entries.ensures in omega (arith, few)
