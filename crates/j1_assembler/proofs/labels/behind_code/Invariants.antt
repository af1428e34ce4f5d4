use Rattle.std.proofs.Common.{◌≡◌, ◌+◌, ◌<◌, length}
use Rattle.j1_assembler.specs.Text.{lines_of}
use Rattle.j1_assembler.specs.Labels.{labels_from}
use Rattle.j1_assembler.proofs.labels.behind_code.Given as goal

abbrev pub invariant-loop-line : goal.invariant-loop-line
invariant-loop-line l = record {
  same : labels_from l.number (lines_of l.rest) ≡ labels_from 1 (lines_of l.fn.text);
  bound : l.number + length l.rest < 4294967296;
}

abbrev pub decreases-loop-line : goal.decreases-loop-line
decreases-loop-line l = length l.rest
