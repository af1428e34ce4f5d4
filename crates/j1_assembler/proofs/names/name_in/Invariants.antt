use Rattle.std.proofs.Common.{◌≡◌, drop, map}
use Rattle.j1_assembler.specs.Names.{name_in}
use Rattle.j1_assembler.proofs.names.name_in.Given as goal

abbrev pub invariant-loop-entry : goal.invariant-loop-entry
invariant-loop-entry l = name_in l.cell (map (λ entry. (entry.0.now, entry.1)) (drop l.entry-index l.entries)) ≡ name_in l.cell (map (λ entry. (entry.0.now, entry.1)) l.entries)
