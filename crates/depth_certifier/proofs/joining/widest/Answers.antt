use Rattle.std.proofs.Common.{arith}
use Rattle.std.proofs.lemmas.Int.{ints, clamps}
use Rattle.depth_certifier.proofs.joining.widest.Goals as goal

pub invariant_of-result : goal.invariant_of-result
invariant_of-result c = record { least = grind (arith, ints, clamps); order = grind (arith, ints, clamps); most = grind (arith, ints, clamps); small = c.args.other.small }
