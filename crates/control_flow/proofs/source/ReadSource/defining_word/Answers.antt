use Rattle.std.proofs.Common.{arith, ◌∙◌, sym, true}
use Rattle.control_flow.specs.Answers.{parser_state}
use Rattle.control_flow.proofs.KeptSource.{same_entries, grows_then}
use Rattle.control_flow.proofs.SourceFacts.{part_keeps, body_keeps}
use Rattle.control_flow.proofs.source.ReadSource.defining_word.Goals as goal

pub define_defining-requires-clause-counted : goal.define_defining-requires-clause-counted
define_defining-requires-clause-counted c =
    let p = part_keeps c.host_words_keep.ensures.words (parser_state c.args.self.now.parser) _ c.in_ok-part.ensures.gives in
    record {
      names = c.requires.counted.names ∙ sym p.0;
      bodies = c.requires.counted.bodies ∙ sym p.0;
      entries = omega (arith, p.0, p.1, c.requires.counted.entries);
      defining = omega (arith, p.1, c.requires.counted.defining);
    }

pub define_defining-requires-clause-room : goal.define_defining-requires-clause-room
define_defining-requires-clause-room c =
    let p = part_keeps c.host_words_keep.ensures.words (parser_state c.args.self.now.parser) _ c.in_ok-part.ensures.gives in
    omega (arith, p.1, c.requires.room)

pub define_defining-requires-in-Semicolon-clause-counted : goal.define_defining-requires-in-Semicolon-clause-counted
define_defining-requires-in-Semicolon-clause-counted c =
    let p = part_keeps c.host_words_keep.ensures.words (parser_state c.args.self.now.parser) _ c.in_ok-part.ensures.gives in
    let b = body_keeps c.host_words_keep.ensures.words (record (parser_state c.host_part.new.self) { does = true }) _ c.in_ok-body.ensures.gives in
    record {
      names = c.requires.counted.names ∙ sym (b.0 ∙ p.0);
      bodies = c.requires.counted.bodies ∙ sym (b.0 ∙ p.0);
      entries = omega (arith, b.0, p.0, b.1, p.1, c.requires.counted.entries);
      defining = omega (arith, b.1, p.1, c.requires.counted.defining);
    }

pub define_defining-requires-in-Semicolon-clause-room : goal.define_defining-requires-in-Semicolon-clause-room
define_defining-requires-in-Semicolon-clause-room c =
    let p = part_keeps c.host_words_keep.ensures.words (parser_state c.args.self.now.parser) _ c.in_ok-part.ensures.gives in
    let b = body_keeps c.host_words_keep.ensures.words (record (parser_state c.host_part.new.self) { does = true }) _ c.in_ok-body.ensures.gives in
    omega (arith, b.1, p.1, c.requires.room)

pub keep-requires-clause-due : goal.keep-requires-clause-due
keep-requires-clause-due c =
    let p = part_keeps c.host_words_keep.ensures.words (parser_state c.args.self.now.parser) _ c.in_ok-part.ensures.gives in
    let b = body_keeps c.host_words_keep.ensures.words (record (parser_state c.host_part.new.self) { does = true }) _ c.in_ok-body.ensures.gives in
    let d = c.in_ok-define_defining-in-Semicolon.ensures in
    omega (arith, d.kept, d.longer, b.0, p.0, b.1, p.1, c.requires.counted.entries)

pub keep-requires-clause-few : goal.keep-requires-clause-few
keep-requires-clause-few c =
    let p = part_keeps c.host_words_keep.ensures.words (parser_state c.args.self.now.parser) _ c.in_ok-part.ensures.gives in
    let b = body_keeps c.host_words_keep.ensures.words (record (parser_state c.host_part.new.self) { does = true }) _ c.in_ok-body.ensures.gives in
    omega (arith, c.in_ok-define_defining-in-Semicolon.ensures.longer, b.1, p.1, c.requires.room)

-- what is read of a defining word leaves what stands before it
pub returns-in_err-part-clause-grows : goal.returns-in_err-part-clause-grows
returns-in_err-part-clause-grows c = same_entries c.args.self.now c.host_part.new.self c.host_part.ensures.entries

pub returns-in_err-body-clause-grows : goal.returns-in_err-body-clause-grows
returns-in_err-body-clause-grows c = same_entries c.args.self.now c.items.new.self (c.items.ensures.entries ∙ c.host_part.ensures.entries)

pub returns-in_default-clause-grows : goal.returns-in_default-clause-grows
returns-in_default-clause-grows c = same_entries c.args.self.now c.items.new.self (c.items.ensures.entries ∙ c.host_part.ensures.entries)

pub returns-in_err-define_defining-in-Semicolon-clause-grows : goal.returns-in_err-define_defining-in-Semicolon-clause-grows
returns-in_err-define_defining-in-Semicolon-clause-grows c =
    grows_then _ _ _ (same_entries c.args.self.now c.items.new.self (c.items.ensures.entries ∙ c.host_part.ensures.entries)) c.define_defining-in-Semicolon.ensures.grows

pub returns-in_ok-define_defining-in-Semicolon-clause-grows : goal.returns-in_ok-define_defining-in-Semicolon-clause-grows
returns-in_ok-define_defining-in-Semicolon-clause-grows c =
    grows_then _ _ _ (same_entries c.args.self.now c.items.new.self (c.items.ensures.entries ∙ c.host_part.ensures.entries))
    (grows_then _ _ _ c.define_defining-in-Semicolon.ensures.grows c.keep.ensures.grows)
