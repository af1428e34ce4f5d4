use Rattle.std.proofs.Common.{◌∙◌, sym, ap, subst}
use Rattle.word_table.specs.declared.word.Vocabulary.TheVariants as vocabulary
use Rattle.control_flow.specs.SourceText.{program_of_text}
use Rattle.control_flow.specs.Answers.{source_of, AnswersAs}
use Rattle.control_flow.proofs.Moves.{Good}
use Rattle.control_flow.proofs.TextFacts.{IsRead, text_read, program_form}
use Rattle.control_flow.proofs.KeptSource.{where_kept, program_is}
use Rattle.control_flow.proofs.pieces.Reading.finish.Goals as goal

pub program-requires-clause-form : goal.program-requires-clause-form
program-requires-clause-form c =
    let text = c.self.inside.bytes.items in
    let kept = where_kept text c.self.inside.source c.in-Some.source (sym c.in-Some.is) c.self.invariant in
    program_form vocabulary.Source _ (subst (Good (IsRead vocabulary.Source)) (program_is vocabulary.Source text (source_of c.in-Some.source) kept.read)
    (text_read (record { keep = c.host_words_keep.ensures.words; fit = c.host_words_keep.ensures.images; begin = c.host_words_keep.ensures.first }) vocabulary.Source text))

pub returns-clause-program : goal.returns-clause-program
returns-clause-program c =
    let text = c.self.inside.bytes.items in
    let kept = where_kept text c.self.inside.source c.in-Some.source (sym c.in-Some.is) c.self.invariant in
    subst (λ o. AnswersAs (λ program. program) c.program.result o) (sym (ap program_of_text (sym c.self.view_is) ∙ program_is vocabulary.Source text (source_of c.in-Some.source) kept.read)) c.program.ensures
