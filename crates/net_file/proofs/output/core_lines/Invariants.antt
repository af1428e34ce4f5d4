use Rattle.std.proofs.Common.{◌≡◌, ◌++◌, ◌-◌}
use Rattle.core_array.specs.ArrayState.{network_of}
use Rattle.net_file.specs.Output.{core_lines}
use Rattle.net_file.proofs.output.core_lines.Given as goal

abbrev pub invariant-loop-core : goal.invariant-loop-core
invariant-loop-core l = l.text.items ++ core_lines (l.cores - l.core) l.core (network_of l.array).printed ≡ core_lines l.cores 0 (network_of l.array).printed
