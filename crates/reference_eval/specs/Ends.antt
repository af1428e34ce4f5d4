-- The ends of the evaluator as ends of a source run.
use Rattle.reference_eval.specs.declared.ends.End.{End}
use Rattle.reference_eval.specs.declared.ends.End.TheVariants as end
use Rattle.forth_program.specs.State as run

abbrev pub end_of : End → run.End
end_of (end.Halted status) = run.Halted status
end_of end.InputEnded = run.InputEnded
end_of (end.Outside address) = run.Outside address
