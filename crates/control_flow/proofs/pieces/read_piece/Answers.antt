use Rattle.std.proofs.Common.{[], ◌∙◌, ap, arith, length}
use Rattle.control_flow.specs.Answers.{parser_state, source_of}
use Rattle.control_flow.proofs.SourceMore.{nothing_left}
use Rattle.control_flow.proofs.KeptSource.{at_rest}
use Rattle.control_flow.proofs.pieces.read_piece.Goals as goal

pub returns-in-Ok-read_on-clause-gives : goal.returns-in-Ok-read_on-clause-gives
returns-in-Ok-read_on-clause-gives c n h =
    let last = source_of c.read_on.new.self in
    let first = source_of c.on-longer.result in
    let read = c.in-Ok-read_on.ensures.gives n (omega (arith, ap length c.on-longer.ensures.rest, h)) in
    at_rest n _ first last _
    (c.on-longer.ensures.source ∙ ap (λ k. record (source_of c.args.source) { at = record (parser_state c.args.source.parser) { rest = c.args.bytes.now; count = k } }) c.in-Ok.ensures.count) read
    (c.on.ensures.source ∙ ap (λ k. record last { at = record last.at { rest = []; count = k } }) c.count-count.ensures.value) (nothing_left n first last read)
