use Rattle.std.proofs.Common.{◌++◌, drop, map}
use Rattle.forth_program.specs.Parts.{token_node}
use Rattle.code_layout.specs.Layout.{token_jumps}
use Rattle.code_layout.specs.Places.{place_by, word_count, definition_count}
use Rattle.code_layout.proofs.DefinitionPlaces.{JumpsBefore}
use Rattle.code_layout.proofs.tokens.add_token_jumps.Given as goal

abbrev pub invariant-loop-token : goal.invariant-loop-token
invariant-loop-token l =
    JumpsBefore (place_by l.places) (word_count l.places) (definition_count l.places) (l.initial.code.items ++ token_jumps (place_by l.places) l.first (map token_node l.tokens)) l.code.items l.at (drop l.token-index l.tokens)
