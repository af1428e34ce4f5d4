use Rattle.forth_program.specs.State.{◌▸◌}
use Rattle.forth_program.specs.Access.{base}
use Rattle.forth_program.specs.ByteWords as bytes
use Rattle.reference_eval.specs.Outside.{scene, input_of}
use Rattle.reference_eval.proofs.AccessSequences.{Continues}
use Rattle.reference_eval.proofs.byte_words.number_from.Given as goal

abbrev pub invariant-loop-left : goal.invariant-loop-left
invariant-loop-left g l = Continues (λ w. base w ▸ λ b w. bytes.number_from b l.size l.address l.number w) (bytes.number_from l.radix l.left l.at l.value) (scene l.fn.memory
    (input_of (g.C.Source.left l.fn.console) (g.C.Source.calls l.fn.console)) (g.C.Source.faults l.fn.console) (g.O.Sink.held l.fn.out) (g.O.Sink.faults l.fn.out))
    (scene l.memory (input_of (g.C.Source.left l.console) (g.C.Source.calls l.console)) (g.C.Source.faults l.console)
    (g.O.Sink.held l.out) (g.O.Sink.faults l.out))

abbrev pub decreases-loop-left : goal.decreases-loop-left
decreases-loop-left g l = l.left
