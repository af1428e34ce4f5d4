use Rattle.std.proofs.Common.{ap, ◌∙◌, take, arith}
use Rattle.std.proofs.Math.Seq.{take-length}
use Rattle.code_layout.specs.Layout.{bodies_size, tokens_size}
use Rattle.code_layout.specs.Places.{library_of}
use Rattle.code_layout.proofs.DefinitionPlaces.{room}
use Rattle.code_layout.proofs.layout.routine_places.Goals as goal

pub token_count-first-requires : goal.token_count-first-requires
token_count-first-requires c = omega (arith, room (library_of c.args.library.now) c.args.program.now c.requires)

pub overflow_add-first : goal.overflow_add-first
overflow_add-first c = omega (arith, room (library_of c.args.library.now) c.args.program.now c.requires, c.token_count-first.ensures)

pub code_size-requires-clause-room : goal.code_size-requires-clause-room
code_size-requires-clause-room c =
    omega (arith, room (library_of c.args.library.now) c.args.program.now c.requires, ap (λ n. bodies_size (take n c.args.library.now.bodies)) c.main-count.ensures.value)

pub overflow_add-execute : goal.overflow_add-execute
overflow_add-execute c =
    omega (arith, room (library_of c.args.library.now) c.args.program.now c.requires, c.token_count-first.ensures, c.code_size.ensures ∙ ap (λ n. bodies_size (take n c.args.library.now.bodies)) c.main-count.ensures.value)

pub overflow_add-abort : goal.overflow_add-abort
overflow_add-abort c =
    omega (arith, room (library_of c.args.library.now) c.args.program.now c.requires, c.token_count-first.ensures, c.code_size.ensures ∙ ap (λ n. bodies_size (take n c.args.library.now.bodies)) c.main-count.ensures.value)

pub places_of-requires-clause-room : goal.places_of-requires-clause-room
places_of-requires-clause-room c =
    omega (arith, room (library_of c.args.library.now) c.args.program.now c.requires, c.token_count-first.ensures, ap (λ n. bodies_size (take n c.args.library.now.bodies)) c.main-count.ensures.value)

pub overflow_add-abort-2 : goal.overflow_add-abort-2
overflow_add-abort-2 c =
    omega (arith, room (library_of c.args.library.now) c.args.program.now c.requires, c.token_count-first.ensures, c.code_size.ensures ∙ ap (λ n. bodies_size (take n c.args.library.now.bodies)) c.main-count.ensures.value)

pub places_of-requires-2-clause-room : goal.places_of-requires-2-clause-room
places_of-requires-2-clause-room c =
    omega (
      arith,
      room (library_of c.args.library.now) c.args.program.now c.requires,
      c.token_count-first.ensures,
      c.code_size.ensures ∙ ap (λ n. bodies_size (take n c.args.library.now.bodies)) c.main-count.ensures.value,
      ap (λ n. bodies_size (take n c.args.program.now.bodies)) c.def_count-defined.ensures.value ∙ ap bodies_size (take-length c.args.program.now.bodies),
    )

pub code_size-requires-2-clause-room : goal.code_size-requires-2-clause-room
code_size-requires-2-clause-room c =
    omega (arith, room (library_of c.args.library.now) c.args.program.now c.requires, ap (λ n. bodies_size (take n c.args.program.now.bodies)) c.def_count-defined.ensures.value ∙ ap bodies_size (take-length c.args.program.now.bodies))

pub overflow_add-tokens : goal.overflow_add-tokens
overflow_add-tokens c =
    omega (arith, room (library_of c.args.library.now) c.args.program.now c.requires, c.token_count-first.ensures, c.code_size.ensures ∙ ap (λ n. bodies_size (take n c.args.library.now.bodies)) c.main-count.ensures.value)

pub overflow_add-tokens-2 : goal.overflow_add-tokens-2
overflow_add-tokens-2 c =
    omega (
      arith,
      room (library_of c.args.library.now) c.args.program.now c.requires,
      c.token_count-first.ensures,
      c.code_size.ensures ∙ ap (λ n. bodies_size (take n c.args.library.now.bodies)) c.main-count.ensures.value,
      c.code_size-2.ensures ∙ ap (λ n. bodies_size (take n c.args.program.now.bodies)) c.def_count-defined.ensures.value ∙ ap bodies_size (take-length c.args.program.now.bodies),
    )

pub tokens_size-requires : goal.tokens_size-requires
tokens_size-requires c = omega (arith, room (library_of c.args.library.now) c.args.program.now c.requires, ap tokens_size c.tokens.ensures)

pub overflow_add-leaving : goal.overflow_add-leaving
overflow_add-leaving c =
    omega (
      arith,
      room (library_of c.args.library.now) c.args.program.now c.requires,
      c.token_count-first.ensures,
      c.code_size.ensures ∙ ap (λ n. bodies_size (take n c.args.library.now.bodies)) c.main-count.ensures.value,
      c.code_size-2.ensures ∙ ap (λ n. bodies_size (take n c.args.program.now.bodies)) c.def_count-defined.ensures.value ∙ ap bodies_size (take-length c.args.program.now.bodies),
      c.tokens_size.ensures ∙ ap tokens_size c.tokens.ensures,
    )
