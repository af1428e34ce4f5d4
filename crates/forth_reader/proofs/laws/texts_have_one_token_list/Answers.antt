use Rattle.forth_reader.proofs.Calls.{calls_give_tokens}
use Rattle.forth_reader.proofs.TokenLists.{text_has_tokens, no_other_tokens}
use Rattle.forth_reader.proofs.laws.texts_have_one_token_list.Goals as goal

pub returns : goal.returns
returns c = record {
  exists = text_has_tokens;
  unique = no_other_tokens;
  given = calls_give_tokens;
}
