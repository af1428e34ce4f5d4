use Rattle.std.proofs.Common.{sym, subst}
use Rattle.control_flow.specs.Answers.{source_of, AnswersAs}
use Rattle.control_flow.proofs.Moves.{Good}
use Rattle.control_flow.proofs.TextFacts.{IsRead, text_read, program_form}
use Rattle.control_flow.proofs.KeptSource.{program_is, text_ends, text_fails}
use Rattle.control_flow.proofs.source.read_in.Goals as goal

pub program-requires-clause-form : goal.program-requires-clause-form
program-requires-clause-form c =
    let text = c.args.bytes.now in
    let last = source_of c.read_on.new.self in
    program_form c.args.words _ (subst (Good (IsRead c.args.words)) (program_is c.args.words text last (text_ends c.args.words text _ last c.in-Ok.ensures.start c.in-Ok-read_on.ensures.gives))
    (text_read (record { keep = c.host_words_keep.ensures.words; fit = c.host_words_keep.ensures.images; begin = c.host_words_keep.ensures.first }) c.args.words text))

pub returns-in-Ok-read_on : goal.returns-in-Ok-read_on
returns-in-Ok-read_on c =
    let text = c.args.bytes.now in
    let last = source_of c.read_on.new.self in
    subst (λ o. AnswersAs (λ program. program) c.program.result o) (sym (program_is c.args.words text last (text_ends c.args.words text _ last c.in-Ok.ensures.start c.in-Ok-read_on.ensures.gives))) c.program.ensures

pub returns-in-Err-read_on : goal.returns-in-Err-read_on
returns-in-Err-read_on c = text_fails c.args.words c.args.bytes.now _ c.in-Err-read_on.error c.in-Ok.ensures.start c.in-Err-read_on.ensures.gives
