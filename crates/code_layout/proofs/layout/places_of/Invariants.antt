use Rattle.std.proofs.Common.{◌≡◌, ◌+◌, ◌≤◌, ◌++◌, drop, take, length}
use Rattle.code_layout.specs.Layout.{bodies_size}
use Rattle.code_layout.specs.Places.{places_from}
use Rattle.code_layout.proofs.layout.places_of.Given as goal

abbrev pub invariant-loop-definition : goal.invariant-loop-definition
invariant-loop-definition l =
    let bodies = take l.count l.program.bodies in
    (l.places.items ++ places_from l.at (drop l.definition bodies) ≡ places_from l.first bodies) × (l.at + bodies_size (drop l.definition bodies) ≤ 8000) × (length bodies ≡ l.count)
