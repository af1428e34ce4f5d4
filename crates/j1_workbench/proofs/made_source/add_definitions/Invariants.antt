use Rattle.std.proofs.Common.{◌≡◌, ◌++◌, ◌+◌, ◌-◌}
use Rattle.made_sources.specs.MadeSource.{definitions}
use Rattle.j1_workbench.proofs.made_source.add_definitions.Given as goal

abbrev pub invariant-loop-done : goal.invariant-loop-done
invariant-loop-done l = l.text.items ++ definitions (l.count - l.done) (l.done + 1) l.number ≡ l.fn.text.items ++ definitions l.count 1 l.seed
