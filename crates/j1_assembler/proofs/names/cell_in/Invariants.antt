use Rattle.std.proofs.Common.{◌≡◌, drop, map}
use Rattle.j1_assembler.specs.Names.{cell_in}
use Rattle.j1_assembler.proofs.names.cell_in.Given as goal

abbrev pub invariant-loop-entry : goal.invariant-loop-entry
invariant-loop-entry l = cell_in l.field (map (λ entry. (entry.0.now, entry.1)) (drop l.entry-index l.entries)) ≡ cell_in l.field (map (λ entry. (entry.0.now, entry.1)) l.entries)
