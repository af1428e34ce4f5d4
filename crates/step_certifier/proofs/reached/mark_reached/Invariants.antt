use Rattle.std.proofs.Common.{◌≡◌, ℕ, ◌<◌, ◌≤◌, false, length, drop, get_or}
use Rattle.step_certifier.specs.Refusal.{reaches}
use Rattle.step_certifier.proofs.reached.mark_reached.Given as goal

abbrev pub invariant-loop-d : goal.invariant-loop-d
invariant-loop-d l = record {
  within : l.d ≤ length l.program.bodies;
  each : (k : ℕ) → k < length l.program.bodies → get_or l.marks k false ≡ reaches l.program.main_body l.d (drop l.d l.program.bodies) k;
}

abbrev pub decreases-loop-d : goal.decreases-loop-d
decreases-loop-d l = l.d
