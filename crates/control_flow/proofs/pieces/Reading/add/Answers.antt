use Rattle.std.proofs.Common.{[], ◌∷◌, ◌++◌, ◌∙◌, arith, sym, ap, subst, length, length-append}
use Rattle.std.proofs.lemmas.List.{append_assoc}
use Rattle.control_flow.specs.Answers.{source_of}
use Rattle.control_flow.specs.Pieces.{IsReadable}
use Rattle.control_flow.proofs.SourceMore.{read_on}
use Rattle.control_flow.proofs.KeptSource.{where_kept, piece_kept, piece_readable, piece_refused}
use Rattle.control_flow.proofs.pieces.Reading.add.Goals as goal

pub read_piece-source-requires-clause-rest : goal.read_piece-source-requires-clause-rest
read_piece-source-requires-clause-rest c =
    let kept = where_kept c.self.inside.bytes.items c.self.inside.source c.in-Some.source c.in-Some.ensures.value c.self.invariant in
    (read_on c.self.inside.bytes.items [] (source_of c.in-Some.source) kept.read).rest

pub read_piece-source-requires-clause-short : goal.read_piece-source-requires-clause-short
read_piece-source-requires-clause-short c =
    let kept = where_kept c.self.inside.bytes.items c.self.inside.source c.in-Some.source c.in-Some.ensures.value c.self.invariant in
    omega (arith, (read_on c.self.inside.bytes.items [] (source_of c.in-Some.source) kept.read).count, kept.short, ap length c.self.view_is, c.requires)

pub invariant_of-self-in-Ok-result : goal.invariant_of-self-in-Ok-result
invariant_of-self-in-Ok-result c =
    let text = c.self.inside.bytes.items in
    let longer = c.in-Ok-extend_from_slice.ensures.items ∙ ap (λ l. l ++ c.args.bytes.now) c.in-Ok.ensures.items ∙ append_assoc text (10 ∷ []) c.args.bytes.now in
    let kept = where_kept text c.self.inside.source c.in-Some.source c.in-Some.ensures.value c.self.invariant in
    piece_kept text c.args.bytes.now c.in-Some.source c.read_piece-source.result.0 kept c.read_piece-source.result.1 c.read_piece-source.ensures.gives
    c.extend_from_slice.new.self.items longer c.in-Ok-result.field-0 c.in-Ok-result.is
    (omega (arith, ap length longer, length-append text (10 ∷ c.args.bytes.now), ap length c.self.view_is, c.requires)) c.read_piece-source.ensures.ready c.read_piece-source.ensures.counted

pub returns-in-Ok-result-clause-readable : goal.returns-in-Ok-result-clause-readable
returns-in-Ok-result-clause-readable c =
    let text = c.self.inside.bytes.items in
    let kept = where_kept text c.self.inside.source c.in-Some.source c.in-Some.ensures.value c.self.invariant in
    let longer = c.in-Ok-extend_from_slice.ensures.items ∙ ap (λ l. l ++ c.args.bytes.now) c.in-Ok.ensures.items ∙ append_assoc text (10 ∷ []) c.args.bytes.now in
    subst IsReadable (sym longer)
    (piece_readable text c.args.bytes.now c.in-Some.source c.read_piece-source.result.0 kept c.read_piece-source.result.1 c.read_piece-source.ensures.gives c.in-Ok-result.field-0 c.in-Ok-result.is)

pub returns-in-Err-result-clause-refused : goal.returns-in-Err-result-clause-refused
returns-in-Err-result-clause-refused c =
    let text = c.self.inside.bytes.items in
    let kept = where_kept text c.self.inside.source c.in-Some.source c.in-Some.ensures.value c.self.invariant in
    rw (sym c.self.view_is)
    (piece_refused text c.args.bytes.now c.in-Some.source c.read_piece-source.result.0 kept c.read_piece-source.result.1 c.read_piece-source.ensures.gives c.in-Err-result.error c.in-Err-result.is)
