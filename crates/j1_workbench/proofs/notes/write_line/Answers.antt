use Rattle.std.proofs.Common.{map, rules}
use Rattle.std.specs.Prelude.{codes}
use Rattle.j1_workbench.specs.Notes.{ended}
use Rattle.j1_workbench.proofs.SinkContents.{fails_early, writes_then}
use Rattle.j1_workbench.proofs.notes.write_line.Goals as goal

pub returns-in_err-write-clause-bytes : goal.returns-in_err-write-clause-bytes
returns-in_err-write-clause-bytes g c = fails_early _ _ c.from_residual.result c.in_err-write.field-0.0 (codes "j1: ") (ended (map (λ part. part.now) c.args.parts.now)) (search rules) c.in_err-write.ensures.bytes

pub returns-clause-bytes : goal.returns-clause-bytes
returns-clause-bytes g c = writes_then _ _ _ c.write_parts.result (codes "j1: ") (ended (map (λ part. part.now) c.args.parts.now)) c.in_ok-write.ensures.bytes c.write_parts.ensures.bytes
