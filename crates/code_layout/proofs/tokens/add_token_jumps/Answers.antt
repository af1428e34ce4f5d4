use Rattle.std.proofs.Common.{◌+◌, [], ◌∷◌, ◌++◌, ap, ◌∙◌, arith}
use Rattle.forth_program.specs.declared.program.Token.TheVariants.{Def}
use Rattle.code_layout.specs.Places.{place_by, word_count, definition_count}
use Rattle.code_layout.proofs.DefinitionPlaces.{token_laid, token_fits, jump_added}
use Rattle.code_layout.proofs.tokens.add_token_jumps.Goals as goal

pub token_place-requires : goal.token_place-requires
token_place-requires c = token_laid (word_count c.args.places.now) (definition_count c.args.places.now) c.args.tokens.now c.loop-token.token-index _ c.loop-token-test.true c.loop-token.invariant.1

pub overflow_add-at : goal.overflow_add-at
overflow_add-at c = omega (arith, c.token_size-at.ensures, token_fits c.args.tokens.now c.loop-token.token-index c.loop-token.at (Def (record { 0 = 0 })) c.loop-token-test.true c.loop-token.invariant.2)

pub loop-token-preserved : goal.loop-token-preserved
loop-token-preserved c =
    let l = c.loop-token in
    jump_added (place_by c.args.places.now) (word_count c.args.places.now) (definition_count c.args.places.now) _ l.code.items c.add_jump.new.code.items l.at
    (l.at + c.token_size-at.result) c.args.tokens.now l.token-index (Def (record { 0 = 0 })) c.loop-token-test.true
    (c.in_ok-add_jump.ensures ∙ ap (λ n. l.code.items ++ n ∷ []) c.token_place.ensures) (ap (λ n. l.at + n) c.token_size-at.ensures) l.invariant
