use Rattle.std.proofs.Common.{◌≡◌, length}
use Rattle.depth_certifier.proofs.Settled.{Stands, left}
use Rattle.depth_certifier.proofs.settling.settle.Given as goal

abbrev pub invariant-rounds : goal.invariant-rounds
invariant-rounds l = Stands l.program l.effects l.shared × (length l.effects ≡ length l.program.bodies) × (length l.next ≡ length l.program.bodies) × (length l.notes ≡ length l.fn.notes)

abbrev pub decreases-rounds : goal.decreases-rounds
decreases-rounds l = left l.program l.effects l.shared
