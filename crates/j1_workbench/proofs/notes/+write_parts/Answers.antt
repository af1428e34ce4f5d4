use Rattle.std.proofs.Common.{sym, subst, rules}
use Rattle.outside_io.specs.Bytes.{WritesAll}
use Rattle.j1_workbench.proofs.SinkContents.{fails_early, writes_then, parts_ended}
use Rattle.j1_workbench.proofs.notes.+write_parts.Goals as goal

pub returns-in_err-write-in-len1-up-clause-bytes : goal.returns-in_err-write-in-len1-up-clause-bytes
returns-in_err-write-in-len1-up-clause-bytes g t c =
    subst (WritesAll (g.N.Sink.held c.args.notes.now) (g.N.Sink.held c.write-in-len1-up.new.self) c.from_residual.result) (sym (parts_ended c.args.parts.now _ c.in-len1-up.len_at_least))
    (fails_early _ _ c.from_residual.result c.in_err-write-in-len1-up.field-0.0 _ _ (search rules) c.in_err-write-in-len1-up.ensures.bytes)

pub returns-in_ok-write-in-len1-up-clause-bytes : goal.returns-in_ok-write-in-len1-up-clause-bytes
returns-in_ok-write-in-len1-up-clause-bytes g t c =
    subst (WritesAll (g.N.Sink.held c.args.notes.now) (g.N.Sink.held c.write_parts.new.notes) c.write_parts.result) (sym (parts_ended c.args.parts.now _ c.in-len1-up.len_at_least))
    (writes_then _ _ _ c.write_parts.result _ _ c.in_ok-write-in-len1-up.ensures.bytes c.write_parts.ensures.bytes)
