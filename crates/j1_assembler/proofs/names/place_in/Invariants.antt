use Rattle.std.proofs.Common.{◌≡◌, drop, map}
use Rattle.j1_assembler.specs.Names.{place_from}
use Rattle.j1_assembler.proofs.names.place_in.Given as goal

abbrev pub invariant-loop-place : goal.invariant-loop-place
invariant-loop-place l = place_from l.place l.field (map (λ x. x.now) (drop l.place l.names)) ≡ place_from 0 l.field (map (λ x. x.now) l.names)
