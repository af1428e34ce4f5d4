use Rattle.std.proofs.Common.{◌≡◌, ℕ, List, ◌+◌, ◌<◌, length}
use Rattle.j1_assembler.specs.Text.{lines_of}
use Rattle.j1_assembler.specs.Labels.{labels_in, found_in, or_else, defined}
use Rattle.j1_assembler.proofs.labels.labels_in.Given as goal

abbrev pub invariant-loop-line : goal.invariant-loop-line
invariant-loop-line l = record {
  same : (name : List ℕ) → or_else (found_in l.labels name) (defined (labels_in l.number l.cell (lines_of l.rest)) name) ≡ defined (labels_in l.fn.first 0 (lines_of l.fn.text)) name;
  small : l.cell < 8192;
  bound : l.number + length l.rest < 4294967296;
}

abbrev pub decreases-loop-line : goal.decreases-loop-line
decreases-loop-line l = length l.rest
