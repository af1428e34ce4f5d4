use Rattle.std.proofs.Common.{◌≡◌, ◌-◌, map, drop}
use Rattle.forth_program.specs.Parts.{token_node}
use Rattle.depth_certifier.specs.Rounds.{shared_of}
use Rattle.depth_certifier.specs.Settling.{effects_alone}
use Rattle.depth_certifier.proofs.sharing.shared_of.Given as goal

abbrev pub invariant-loop-done : goal.invariant-loop-done
invariant-loop-done l = l.shared ≡ shared_of (effects_alone l.effects) (map token_node (drop (l.count - l.done) l.tokens))
