use Rattle.std.proofs.Common.{◌≡◌, map, take}
use Rattle.j1_simulator.specs.MachineState.{machine_start}
use Rattle.core_array.proofs.arrays.machines_of.Given as goal

abbrev pub invariant-loop-image : goal.invariant-loop-image
invariant-loop-image l = l.machines.items ≡ map machine_start (take l.image-index l.images)
