use Rattle.std.proofs.Common.{◌≡◌, ℕ, List, Option, ◌+◌, ◌<◌, ◌^◌, length}
use Rattle.j1_assembler.specs.Text.{lines_of}
use Rattle.j1_assembler.specs.declared.labels.Definition.{Definition}
use Rattle.j1_assembler.specs.Assembly.{text_outcome}
use Rattle.j1_assembler.proofs.text.opening_of.Given as goal

abbrev pub invariant-loop-line : goal.invariant-loop-line
invariant-loop-line l = record {
  same : (find : List ℕ → Option Definition) → text_outcome find l.number (lines_of l.rest) ≡ text_outcome find 1 (lines_of l.fn.text);
  bound : l.number + length l.rest < 2 ^ 32;
}

abbrev pub decreases-loop-line : goal.decreases-loop-line
decreases-loop-line l = length l.rest
