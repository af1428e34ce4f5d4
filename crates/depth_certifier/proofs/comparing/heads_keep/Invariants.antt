use Rattle.std.proofs.Common.{◌≡◌, drop}
use Rattle.std.specs.List.{list_all}
use Rattle.depth_certifier.specs.Checking.{interval_keeps}
use Rattle.depth_certifier.proofs.comparing.heads_keep.Given as goal

abbrev pub invariant-loop-head : goal.invariant-loop-head
invariant-loop-head l = list_all (interval_keeps 33) (drop l.head-index l.heads) ≡ list_all (interval_keeps 33) l.heads
