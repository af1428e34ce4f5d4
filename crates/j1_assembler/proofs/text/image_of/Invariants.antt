use Rattle.std.proofs.Common.{◌≡◌, ◌+◌, ◌<◌, ◌^◌, length}
use Rattle.j1_assembler.specs.Text.{lines_of}
use Rattle.j1_assembler.specs.Labels.{found_in}
use Rattle.j1_assembler.specs.Assembly.{lines_outcome, opened}
use Rattle.j1_assembler.proofs.text.image_of.Given as goal

abbrev pub invariant-loop-line : goal.invariant-loop-line
invariant-loop-line l = record {
  same : lines_outcome (found_in l.labels) l.number l.assembler (lines_of l.rest) ≡ lines_outcome (found_in l.labels) l.fn.opening.number (opened l.fn.opening.data_start) (lines_of l.fn.opening.rest.now);
  bound : l.number + length l.rest < 2 ^ 32;
}

abbrev pub decreases-loop-line : goal.decreases-loop-line
decreases-loop-line l = length l.rest
