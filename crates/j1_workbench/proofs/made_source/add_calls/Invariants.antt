use Rattle.std.proofs.Common.{◌≡◌, ◌++◌, ◌+◌, ◌-◌}
use Rattle.made_sources.specs.MadeSource.{calls}
use Rattle.j1_workbench.proofs.made_source.add_calls.Given as goal

abbrev pub invariant-loop-done : goal.invariant-loop-done
invariant-loop-done l = l.text.items ++ calls (l.count - l.done) (l.done + 1) ≡ l.fn.text.items ++ calls l.count 1
