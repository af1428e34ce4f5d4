use Rattle.std.proofs.Common.{◌≡◌, drop}
use Rattle.j1_workbench.specs.Networking.{first_status}
use Rattle.j1_workbench.proofs.networking.first_status.Given as goal

abbrev pub invariant-loop-core : goal.invariant-loop-core
invariant-loop-core l = first_status (drop l.core l.array.cores) ≡ first_status l.array.cores
