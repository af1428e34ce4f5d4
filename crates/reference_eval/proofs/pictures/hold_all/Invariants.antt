use Rattle.forth_program.specs.PicturedOutput as picture
use Rattle.reference_eval.specs.Outside.{scene, input_of}
use Rattle.reference_eval.proofs.AccessSequences.{Continues}
use Rattle.reference_eval.proofs.pictures.hold_all.Given as goal

abbrev pub invariant-loop-digits : goal.invariant-loop-digits
invariant-loop-digits g l = Continues (picture.hold_all l.number) (picture.hold_digits l.digits l.left) (scene l.initial.memory (input_of (g.C.Source.left l.initial.console) (g.C.Source.calls l.initial.console))
    (g.C.Source.faults l.initial.console) (g.O.Sink.held l.initial.out) (g.O.Sink.faults l.initial.out)) (scene l.memory (input_of (g.C.Source.left l.console)
    (g.C.Source.calls l.console)) (g.C.Source.faults l.console) (g.O.Sink.held l.out) (g.O.Sink.faults l.out))

abbrev pub decreases-loop-digits : goal.decreases-loop-digits
decreases-loop-digits g l = l.digits
