use Rattle.std.proofs.Common.{◌≡◌, drop}
use Rattle.std.specs.List.{list_all}
use Rattle.depth_certifier.specs.Checking.{is_ordered}
use Rattle.depth_certifier.proofs.comparing.are_ordered.Given as goal

abbrev pub invariant-loop-effect : goal.invariant-loop-effect
invariant-loop-effect l = list_all (λ e. is_ordered e.exit) (drop l.effect-index l.effects) ≡ list_all (λ e. is_ordered e.exit) l.effects
