use Rattle.std.proofs.Common.{◌++◌, length, take, ap, ◌∙◌}
use Rattle.std.proofs.lemmas.Result.{on_ok_weaker}
use Rattle.code_layout.specs.Layout.{type_routine, bodies_cells, execute_cells, abort_cells}
use Rattle.code_layout.specs.Places.{place_by, library_of}
use Rattle.code_layout.proofs.DefinitionPlaces.{three_parts}
use Rattle.code_layout.proofs.layout.add_library.Goals as goal

pub returns : goal.returns
returns c =
    let places = c.args.places.now in
    let place = place_by c.args.places.now in
    let before = c.args.code.now.items in
    let middle = c.add_execute.new.code.items in
    on_ok_weaker c.add_abort.result
    (λ added.
    three_parts before c.add_bodies.new.code.items middle c.add_abort.new.code.items
    (bodies_cells c.args.data_start place (length before) (library_of c.args.library.now)) (execute_cells places.execute c.args.token_count)
    (abort_cells places.abort (place_by places type_routine))
    (c.in_ok-add_bodies.ensures
    ∙ ap (λ n. before ++ bodies_cells c.args.data_start place (length before) (take n c.args.library.now.bodies)) c.main.ensures.value)
    c.in_ok-add_execute.ensures (added ∙ ap (λ t. middle ++ abort_cells places.abort t) c.type_place.ensures.value)) c.add_abort.ensures
