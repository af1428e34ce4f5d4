use Rattle.core_array.specs.contracts.arrays.Array.{the_view}
use Rattle.core_array.proofs.ScheduleRuns.{RunKeeps}
use Rattle.core_array.proofs.arrays.Array.run.Given as goal

abbrev pub invariant-loop-core : goal.invariant-loop-core
invariant-loop-core l = RunKeeps l.schedule l.core-index (the_view l.initial.self-inside) (the_view l.self-inside)
