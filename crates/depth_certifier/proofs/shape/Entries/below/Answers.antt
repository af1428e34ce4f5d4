use Rattle.std.proofs.Common.{arith}
use Rattle.depth_certifier.proofs.Slots.{below_is}
use Rattle.depth_certifier.proofs.shape.Entries.below.Goals as goal

pub returns : goal.returns
returns c = below_is c.args.self.slots c.args.self.count (omega arith) (omega arith)
