use Rattle.std.proofs.Common.{◌≡◌, ◌+◌, ◌≤◌, drop, take, length}
use Rattle.code_layout.specs.Layout.{bodies_size}
use Rattle.code_layout.proofs.layout.code_size.Given as goal

abbrev pub invariant-loop-definition : goal.invariant-loop-definition
invariant-loop-definition l =
    let bodies = take l.count l.program.bodies in
    (l.total + bodies_size (drop l.definition bodies) ≡ bodies_size bodies) × (bodies_size bodies ≤ 8000) × (length bodies ≡ l.count)
