use Rattle.std.proofs.Common.{◌≡◌, ◌++◌, drop, map}
use Rattle.made_sources.specs.MadeSource.{joined}
use Rattle.j1_workbench.proofs.made_source.add_parts.Given as goal

abbrev pub invariant-loop-part : goal.invariant-loop-part
invariant-loop-part l = l.text.items ++ joined (map (λ part. part.now) (drop l.part-index l.parts)) ≡ l.fn.text.items ++ joined (map (λ part. part.now) l.parts)
