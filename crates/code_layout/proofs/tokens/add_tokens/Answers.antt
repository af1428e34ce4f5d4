use Rattle.code_layout.specs.Places.{place_by, word_count, definition_count}
use Rattle.code_layout.proofs.DefinitionPlaces.{token_laid, token_added}
use Rattle.code_layout.proofs.tokens.add_tokens.Goals as goal

pub add_token-requires-clause-laid_out : goal.add_token-requires-clause-laid_out
add_token-requires-clause-laid_out c = token_laid (word_count c.args.places.now) (definition_count c.args.places.now) c.args.tokens.now c.loop-token.token-index _ c.loop-token-test.true c.loop-token.invariant.1

pub loop-token-preserved : goal.loop-token-preserved
loop-token-preserved c =
    let l = c.loop-token in
    token_added c.args.data_start (place_by c.args.places.now) (word_count c.args.places.now) (definition_count c.args.places.now) _ l.code.items
    c.add_token.new.code.items c.args.tokens.now l.token-index _ c.loop-token-test.true c.in_ok-add_token.ensures l.invariant
