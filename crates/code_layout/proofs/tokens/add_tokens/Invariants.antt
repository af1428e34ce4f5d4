use Rattle.std.proofs.Common.{◌++◌, drop, map}
use Rattle.forth_program.specs.Parts.{token_node}
use Rattle.code_layout.specs.Layout.{tokens_cells}
use Rattle.code_layout.specs.Places.{place_by, word_count, definition_count}
use Rattle.code_layout.proofs.DefinitionPlaces.{TokensBefore}
use Rattle.code_layout.proofs.tokens.add_tokens.Given as goal

abbrev pub invariant-loop-token : goal.invariant-loop-token
invariant-loop-token l =
    TokensBefore l.data_start (place_by l.places) (word_count l.places) (definition_count l.places) (l.initial.code.items ++ tokens_cells l.data_start (place_by l.places) (map token_node l.tokens)) l.code.items (drop l.token-index l.tokens)
