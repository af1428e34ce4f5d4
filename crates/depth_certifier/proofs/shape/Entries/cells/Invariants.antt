use Rattle.std.proofs.Common.{◌≡◌, ◌*◌, ◌≤◌, reverse, take}
use Rattle.depth_certifier.specs.Place.{size}
use Rattle.depth_certifier.proofs.shape.Entries.cells.Given as goal

abbrev pub invariant-loop-i : goal.invariant-loop-i
invariant-loop-i l = (l.total ≡ size (reverse (take l.i l.self.slots))) × (l.total ≤ 2 * l.i)
