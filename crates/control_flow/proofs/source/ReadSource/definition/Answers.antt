use Rattle.std.proofs.Common.{arith, ◌∙◌, ap, sym, suc, length}
use Rattle.dictionary_core.specs.Pairs.{DictionaryState}
use Rattle.host_state.specs.declared.entry.Entry.{Entry}
use Rattle.control_flow.specs.ReadTokens.{ReadToken, token_at}
use Rattle.control_flow.specs.Items.{items_by, items_at}
use Rattle.control_flow.specs.Answers.{parser_state}
use Rattle.control_flow.proofs.Moves.{good_is}
use Rattle.control_flow.proofs.KeptSource.{grows_then, same_entries}
use Rattle.control_flow.proofs.ItemFacts.{TokenRead, token_read, ItemsRead, items_from_read}
use Rattle.control_flow.proofs.source.ReadSource.definition.Goals as goal

pub define-requires-clause-counted : goal.define-requires-clause-counted
define-requires-clause-counted c =
    let n = suc (length c.name.new.self.reader.rest) in
    let at = parser_state c.name.new.self in
    let seen : ReadToken = record { sense = c.in_ok-first.first; at = parser_state c.token.new.self } in
    let t = good_is (TokenRead at) (token_at at) seen c.in_ok-first.ensures.gives (token_read at) in
    let r = good_is (ItemsRead at) (items_by (items_at n) n seen.at seen.sense) _ (c.in_ok-body.ensures.gives n (omega (arith, t.passed.left))) (items_from_read c.host_words_keep.ensures.words n at seen t (omega (arith, t.passed.left))) in
    let d = r.definitions ∙ c.name.ensures.kept.1 in
    let same = ap length (r.entries ∙ ap (λ (d : DictionaryState Entry). d.pairs) c.name.ensures.kept.0) in
    record {
      names = c.requires.counted.names ∙ sym d;
      bodies = c.requires.counted.bodies ∙ sym d;
      entries = omega (arith, d, same, c.requires.counted.entries);
      defining = omega (arith, same, c.requires.counted.defining);
    }

pub define-requires-clause-room : goal.define-requires-clause-room
define-requires-clause-room c =
    let n = suc (length c.name.new.self.reader.rest) in
    let at = parser_state c.name.new.self in
    let seen : ReadToken = record { sense = c.in_ok-first.first; at = parser_state c.token.new.self } in
    let t = good_is (TokenRead at) (token_at at) seen c.in_ok-first.ensures.gives (token_read at) in
    let r = good_is (ItemsRead at) (items_by (items_at n) n seen.at seen.sense) _ (c.in_ok-body.ensures.gives n (omega (arith, t.passed.left))) (items_from_read c.host_words_keep.ensures.words n at seen t (omega (arith, t.passed.left))) in
    omega (arith, ap length r.entries, c.in_ok-name.ensures.room)

-- what is read of a definition leaves what stands before it
pub returns-in_err-name-clause-grows : goal.returns-in_err-name-clause-grows
returns-in_err-name-clause-grows c = same_entries c.args.self.now c.name.new.self (ap (λ (d : DictionaryState Entry). d.pairs) c.name.ensures.kept.0)

pub returns-in_err-first-clause-grows : goal.returns-in_err-first-clause-grows
returns-in_err-first-clause-grows c = same_entries c.args.self.now c.token.new.self (c.token.ensures.entries ∙ ap (λ (d : DictionaryState Entry). d.pairs) c.name.ensures.kept.0)

pub returns-then-is_create-clause-grows : goal.returns-then-is_create-clause-grows
returns-then-is_create-clause-grows c =
    grows_then _ _ _ (same_entries c.args.self.now c.token.new.self (c.token.ensures.entries ∙ ap (λ (d : DictionaryState Entry). d.pairs) c.name.ensures.kept.0)) c.defining_word.ensures.grows

pub returns-in_err-body-clause-grows : goal.returns-in_err-body-clause-grows
returns-in_err-body-clause-grows c = same_entries c.args.self.now c.items_from.new.self (c.items_from.ensures.entries ∙ c.token.ensures.entries ∙ ap (λ (d : DictionaryState Entry). d.pairs) c.name.ensures.kept.0)

pub returns-in-Semicolon-clause-grows : goal.returns-in-Semicolon-clause-grows
returns-in-Semicolon-clause-grows c =
    grows_then _ _ _ (same_entries c.args.self.now c.items_from.new.self (c.items_from.ensures.entries ∙ c.token.ensures.entries ∙ ap (λ (d : DictionaryState Entry). d.pairs) c.name.ensures.kept.0)) c.define.ensures.grows

pub returns-in_default-clause-grows : goal.returns-in_default-clause-grows
returns-in_default-clause-grows c = same_entries c.args.self.now c.items_from.new.self (c.items_from.ensures.entries ∙ c.token.ensures.entries ∙ ap (λ (d : DictionaryState Entry). d.pairs) c.name.ensures.kept.0)
