use Rattle.std.proofs.Common.{◌≡◌, length}
use Rattle.depth_certifier.proofs.Made.{Made}
use Rattle.depth_certifier.proofs.rounds.make_definitions.Given as goal

abbrev pub invariant-loop-d : goal.invariant-loop-d
invariant-loop-d l =
    Made l.program (record { definitions = l.effects; shared = l.shared }) l.d l.count l.next l.notes × (length l.notes ≡ length l.fn.notes)
