-- Steps of the assembler.
use Rattle.std.proofs.Common.{◌≡◌, ℕ, List, Option, Some, None, Bor, ap, sym, ◌∙◌}
use Rattle.j1_table.specs.Instruction.{encoded}
use Rattle.j1_assembler.specs.declared.refusal.AsmCause.TheVariants as causes
use Rattle.j1_assembler.specs.declared.instruction.Way.{Way}
use Rattle.j1_assembler.specs.declared.instruction.Operation.{Operation as Parsed}
use Rattle.j1_assembler.specs.declared.instruction.Operation.TheVariants as parsed
use Rattle.j1_assembler.specs.declared.labels.Definition.{Definition}
use Rattle.j1_assembler.specs.Instruction.{seen, going}
use Rattle.j1_assembler.specs.Assembly.{Fine, Faulty, ◌>>=◌, present, label_cell, cell_of}

-- an instruction that goes to a label
pub refers : (find : List ℕ → Option Definition) (operation : Parsed) (way : Way) (name : Bor (List ℕ)) (d : Definition) (cell : ℕ) →
    operation ≡ parsed.Reference way name → Some d ≡ find name.now → cell ≡ encoded (going way d.cell) → cell_of find (seen operation) ≡ Fine cell
refers find operation way name d cell e f g =
    ap (λ o. cell_of find (seen o)) e ∙ (ap (λ o. present (label_cell o) causes.Label >>= λ target. Fine (encoded (going way target))) (sym f) ∙ ap Fine (sym g))

pub refers_none : (find : List ℕ → Option Definition) (operation : Parsed) (way : Way) (name : Bor (List ℕ)) → operation ≡ parsed.Reference way name → None ≡ find name.now → cell_of find (seen operation) ≡ Faulty causes.Label
refers_none find operation way name e f =
    ap (λ o. cell_of find (seen o)) e ∙ ap (λ o. present (label_cell o) causes.Label >>= λ target. Fine (encoded (going way target))) (sym f)
