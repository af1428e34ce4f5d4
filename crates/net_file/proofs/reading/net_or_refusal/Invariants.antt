use Rattle.std.proofs.Common.{◌≡◌, ◌+◌, ◌<◌, ◌^◌, length}
use Rattle.j1_assembler.specs.Text.{lines_of}
use Rattle.net_file.specs.Reading.{lines_told, net_told}
use Rattle.net_file.proofs.reading.net_or_refusal.Given as goal

abbrev pub invariant-loop-line : goal.invariant-loop-line
invariant-loop-line l = record {
  same : lines_told l.number l.reader (lines_of l.rest) ≡ net_told l.fn.text;
  bound : l.number + length l.rest < 2 ^ 32;
}

abbrev pub decreases-loop-line : goal.decreases-loop-line
decreases-loop-line l = length l.rest
