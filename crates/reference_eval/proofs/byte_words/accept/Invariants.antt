use Rattle.std.proofs.Common.{◌≡◌, ◌+◌}
use Rattle.forth_program.specs.ByteWords as bytes
use Rattle.reference_eval.specs.Outside.{scene, input_of}
use Rattle.reference_eval.proofs.AccessSequences.{Continues}
use Rattle.reference_eval.proofs.byte_words.accept.Given as goal

abbrev pub invariant-loop-left : goal.invariant-loop-left
invariant-loop-left g l = (l.kept + l.left ≡ l.most) × Continues (bytes.accept l.most l.address 0) (bytes.accept l.left l.at l.kept) (scene l.initial.memory (input_of (g.C.Source.left l.initial.console) (g.C.Source.calls l.initial.console))
    (g.C.Source.faults l.initial.console) (g.O.Sink.held l.initial.out) (g.O.Sink.faults l.initial.out)) (scene l.memory (input_of (g.C.Source.left l.console)
    (g.C.Source.calls l.console)) (g.C.Source.faults l.console) (g.O.Sink.held l.out) (g.O.Sink.faults l.out))

abbrev pub decreases-loop-left : goal.decreases-loop-left
decreases-loop-left g l = l.left
