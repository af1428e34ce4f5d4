use Rattle.std.proofs.Common.{◌++◌, length, drop, take}
use Rattle.code_layout.specs.Layout.{bodies_cells}
use Rattle.code_layout.specs.Places.{place_by, word_count, definition_count}
use Rattle.code_layout.proofs.DefinitionPlaces.{Before}
use Rattle.code_layout.proofs.layout.add_bodies.Given as goal

abbrev pub invariant-loop-definition : goal.invariant-loop-definition
invariant-loop-definition l =
    let bodies = take l.count l.program.bodies in
    Before l.data_start (place_by l.places) (word_count l.places) (definition_count l.places)
    (l.initial.code.items ++ bodies_cells l.data_start (place_by l.places) (length l.initial.code.items) bodies) l.code.items (drop l.definition bodies)
