use Rattle.std.proofs.Common.{arith}
use Rattle.depth_certifier.proofs.Slots.{few_entries}
use Rattle.depth_certifier.proofs.walker.Walker.take_at.Goals as goal

pub changed-entries-requires : goal.changed-entries-requires
changed-entries-requires c = few_entries c.args.spot.entries.slots c.args.spot.entries.count (omega arith) c.args.spot.small
