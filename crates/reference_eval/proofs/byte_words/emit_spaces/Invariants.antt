use Rattle.std.proofs.Common.{ℕ, List, Option}
use Rattle.cell_math.specs.Cell.{signed}
use Rattle.forth_program.specs.ByteWords as bytes
use Rattle.reference_eval.specs.Outside.{scene, Input}
use Rattle.reference_eval.proofs.AccessSequences.{Continues}
use Rattle.reference_eval.proofs.byte_words.emit_spaces.Given as goal

abbrev pub invariant-loop-left : goal.invariant-loop-left
invariant-loop-left g l = (input : Input) (reads : ℕ) → Continues (bytes.emit_spaces (bytes.positive (signed l.count))) (bytes.emit_spaces l.left) (scene l.initial.memory input reads
    (g.O.Sink.held l.initial.out) (g.O.Sink.faults l.initial.out)) (scene l.memory input reads (g.O.Sink.held l.out) (g.O.Sink.faults l.out))

abbrev pub decreases-loop-left : goal.decreases-loop-left
decreases-loop-left g l = l.left
