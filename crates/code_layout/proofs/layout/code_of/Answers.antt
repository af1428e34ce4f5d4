use Rattle.std.proofs.Common.{◌≡◌, ◌++◌, true, length, map, take, sym, ap, ◌∙◌, subst, arith}
use Rattle.std.specs.Prelude.{not}
use Rattle.std.specs.List.{list_all}
use Rattle.std.proofs.Math.Seq.{take-length}
use Rattle.forth_program.specs.Form.{everywhere, has_no_go}
use Rattle.forth_program.specs.Parts.{token_node}
use Rattle.code_layout.specs.Built.{is_laid_out, token_is_laid_out}
use Rattle.code_layout.specs.Layout.{type_routine, bodies_size, bodies_cells, execute_cells, abort_cells, tokens_size, token_jumps, leaving_cells, tokens_cells}
use Rattle.code_layout.specs.Places.{place_by, word_count, definition_count, library_of}
use Rattle.code_layout.proofs.DefinitionPlaces.{room, definitions_are, are_places, main_low, main_is, library_items, program_items, token_items, after_jumps, after_library, not_not, cells_are}
use Rattle.code_layout.proofs.layout.code_of.Goals as goal

pub place_of-requires : goal.place_of-requires
place_of-requires c = omega (arith, definitions_are (library_of c.args.library.now) c.args.program.now c.requires.program c.in_ok-places.places c.in_ok-places.ensures, c.main.ensures.form)

pub header_cells-requires : goal.header_cells-requires
header_cells-requires c = main_low (library_of c.args.library.now) c.args.program.now c.requires.program c.in_ok-places.places c.in_ok-places.ensures c.place_of.result c.main.result.0 c.place_of.ensures

pub add_token_jumps-requires-clause-laid_out : goal.add_token_jumps-requires-clause-laid_out
add_token_jumps-requires-clause-laid_out c =
    subst (λ tokens. list_all (token_is_laid_out (word_count c.in_ok-places.places) (definition_count c.in_ok-places.places)) tokens ≡ true)
    (sym c.tokens-tokens.ensures)
    (token_items (library_of c.args.library.now) c.args.program.now c.requires.program c.in_ok-places.places c.in_ok-places.ensures)

pub add_token_jumps-requires-clause-room : goal.add_token_jumps-requires-clause-room
add_token_jumps-requires-clause-room c = let tokens = c.in_ok-places.ensures.tokens in omega (arith, room (library_of c.args.library.now) c.args.program.now c.requires.program, tokens, ap tokens_size c.tokens-tokens.ensures)

pub token_count-requires : goal.token_count-requires
token_count-requires c = omega (arith, room (library_of c.args.library.now) c.args.program.now c.requires.program)

pub add_library-requires-clause-places : goal.add_library-requires-clause-places
add_library-requires-clause-places c = are_places (library_of c.args.library.now) c.args.program.now c.requires.program c.in_ok-places.places c.in_ok-places.ensures

pub add_library-requires-clause-laid_out : goal.add_library-requires-clause-laid_out
add_library-requires-clause-laid_out c = library_items (library_of c.args.library.now) c.args.program.now c.requires.program c.in_ok-places.places c.in_ok-places.ensures c.requires.library

pub add_library-requires-clause-room : goal.add_library-requires-clause-room
add_library-requires-clause-room c =
    omega (
      arith,
      room (library_of c.args.library.now) c.args.program.now c.requires.program,
      ap length c.tokens-tokens.ensures,
      after_jumps (place_by c.in_ok-places.places) c.in_ok-code.code.items c.add_token_jumps.new.code.items c.place_of.result c.in_ok-places.places.tokens
          c.args.program.now.tokens c.in_ok-code.ensures
          (c.in_ok-add_token_jumps.ensures
          ∙ ap (λ tokens. c.in_ok-code.code.items ++ token_jumps (place_by c.in_ok-places.places) c.in_ok-places.places.tokens tokens) c.tokens-tokens.ensures),
    )

pub add_library-requires-clause-execute : goal.add_library-requires-clause-execute
add_library-requires-clause-execute c = let execute = c.in_ok-places.ensures.execute in omega (arith, room (library_of c.args.library.now) c.args.program.now c.requires.program, execute)

pub add_library-requires-clause-abort : goal.add_library-requires-clause-abort
add_library-requires-clause-abort c = let abort = c.in_ok-places.ensures.abort in omega (arith, room (library_of c.args.library.now) c.args.program.now c.requires.program, abort)

pub add_library-requires-clause-tokens : goal.add_library-requires-clause-tokens
add_library-requires-clause-tokens c = omega (arith, room (library_of c.args.library.now) c.args.program.now c.requires.program, c.token_count.ensures)

pub add_bodies-requires-clause-places : goal.add_bodies-requires-clause-places
add_bodies-requires-clause-places c = are_places (library_of c.args.library.now) c.args.program.now c.requires.program c.in_ok-places.places c.in_ok-places.ensures

pub add_bodies-requires-clause-laid_out : goal.add_bodies-requires-clause-laid_out
add_bodies-requires-clause-laid_out c =
    let all = ap (λ n. take n c.args.program.now.bodies) c.def_count-count.ensures.value ∙ take-length c.args.program.now.bodies in
    subst (λ bodies. list_all (everywhere (is_laid_out true (word_count c.in_ok-places.places) (definition_count c.in_ok-places.places))) bodies ≡ true)
    (sym all) (program_items (library_of c.args.library.now) c.args.program.now c.requires.program c.in_ok-places.places c.in_ok-places.ensures)

pub add_bodies-requires-clause-room : goal.add_bodies-requires-clause-room
add_bodies-requires-clause-room c =
    omega (
      arith,
      room (library_of c.args.library.now) c.args.program.now c.requires.program,
      after_jumps (place_by c.in_ok-places.places) c.in_ok-code.code.items c.add_token_jumps.new.code.items c.place_of.result c.in_ok-places.places.tokens
          c.args.program.now.tokens c.in_ok-code.ensures
          (c.in_ok-add_token_jumps.ensures
          ∙ ap (λ tokens. c.in_ok-code.code.items ++ token_jumps (place_by c.in_ok-places.places) c.in_ok-places.places.tokens tokens) c.tokens-tokens.ensures),
      after_library c.data_start-data_start.result (place_by c.in_ok-places.places) c.add_token_jumps.new.code.items c.add_library.new.code.items
          (library_of c.args.library.now) c.in_ok-places.places.execute c.token_count.result c.in_ok-places.places.abort
          (place_by c.in_ok-places.places type_routine) c.in_ok-add_library.ensures,
      ap (λ n. bodies_size (take n c.args.program.now.bodies)) c.def_count-count.ensures.value ∙ ap bodies_size (take-length c.args.program.now.bodies),
    )

pub add_tokens-requires-clause-places : goal.add_tokens-requires-clause-places
add_tokens-requires-clause-places c = are_places (library_of c.args.library.now) c.args.program.now c.requires.program c.in_ok-places.places c.in_ok-places.ensures

pub add_tokens-requires-clause-laid_out : goal.add_tokens-requires-clause-laid_out
add_tokens-requires-clause-laid_out c =
    subst (λ tokens. list_all (token_is_laid_out (word_count c.in_ok-places.places) (definition_count c.in_ok-places.places)) tokens ≡ true)
    (sym c.tokens-tokens.ensures)
    (token_items (library_of c.args.library.now) c.args.program.now c.requires.program c.in_ok-places.places c.in_ok-places.ensures)

pub returns : goal.returns
returns c =
    let place = place_by c.in_ok-places.places in
    let places = c.in_ok-places.places in
    let start = c.data_start-data_start.ensures.value in
    cells_are (library_of c.args.library.now) c.args.program.now c.requires.program c.in_ok-places.places c.in_ok-places.ensures c.in_ok-code.code.items
    c.add_token_jumps.new.code.items c.add_library.new.code.items c.add_bodies.new.code.items c.add_tokens.new.code.items c.add_leaving.new.code.items c.place_of.result places.tokens
    (main_is (library_of c.args.library.now) c.args.program.now c.requires.program c.in_ok-places.places c.in_ok-places.ensures c.main.result.0
    c.place_of.result c.place_of.ensures c.main.ensures.value) c.in_ok-places.ensures.tokens c.in_ok-code.ensures
    (c.in_ok-add_token_jumps.ensures ∙ ap (λ tokens. c.in_ok-code.code.items ++ token_jumps place places.tokens tokens) c.tokens-tokens.ensures)
    (c.in_ok-add_library.ensures
    ∙ ap
    (λ d.
    c.add_token_jumps.new.code.items
    ++ (bodies_cells d place (length c.add_token_jumps.new.code.items) (library_of c.args.library.now)
    ++ (execute_cells places.execute c.token_count.result ++ abort_cells places.abort (place_by places type_routine)))) start
    ∙ ap
    (λ n.
    c.add_token_jumps.new.code.items
    ++ (bodies_cells c.args.program.now.data_start place (length c.add_token_jumps.new.code.items) (library_of c.args.library.now)
    ++ (execute_cells places.execute n ++ abort_cells places.abort (place_by places type_routine)))) c.token_count.ensures)
    (c.in_ok-add_bodies.ensures ∙ ap (λ d. c.add_library.new.code.items ++ bodies_cells d place (length c.add_library.new.code.items) (take c.def_count-count.result c.args.program.now.bodies)) start
    ∙ ap (λ bodies. c.add_library.new.code.items ++ bodies_cells c.args.program.now.data_start place (length c.add_library.new.code.items) bodies)
    (ap (λ n. take n c.args.program.now.bodies) c.def_count-count.ensures.value ∙ take-length c.args.program.now.bodies))
    (c.in_ok-add_tokens.ensures ∙ ap (λ d. c.add_bodies.new.code.items ++ tokens_cells d place (map token_node c.tokens-tokens.result.now)) start
    ∙ ap (λ tokens. c.add_bodies.new.code.items ++ tokens_cells c.args.program.now.data_start place tokens) c.tokens-tokens.ensures)
    (c.in_ok-add_leaving.ensures ∙ ap (λ used. c.add_tokens.new.code.items ++ leaving_cells (not used)) c.uses_go.ensures
    ∙ ap (λ lacking. c.add_tokens.new.code.items ++ leaving_cells lacking) (not_not (has_no_go c.args.program.now)))
