-- The instructions of code lines.
use Rattle.std.specs.Prelude.{ℕ, ◌+◌, ◌*◌, nat_le, ◌==◌, true, false, List, [], ◌∷◌, Option, Some, None, codes, bit_or}
use Rattle.std.specs.Str.{bytes_eq}
use Rattle.j1_table.specs.declared.instr.Instr.{Instr}
use Rattle.j1_table.specs.declared.instr.Instr.TheVariants.{Literal, Jump, Branch, Call}
use Rattle.j1_table.specs.Instruction.{encoded}
use Rattle.j1_assembler.specs.declared.instruction.Way.{Way}
use Rattle.j1_assembler.specs.declared.instruction.Way.TheVariants as ways
use Rattle.j1_assembler.specs.declared.instruction.Operation.{Operation as Parsed}
use Rattle.j1_assembler.specs.declared.instruction.Operation.TheVariants as parsed
use Rattle.j1_assembler.specs.declared.instruction.Mnemonic.{Mnemonic}
use Rattle.j1_assembler.specs.declared.instruction.Mnemonic.TheVariants.{Lit, Raw, Alu, Goes, Other}
use Rattle.j1_assembler.specs.Numbers.{◌>>=◌, hex4}
use Rattle.j1_assembler.specs.Names.{is_name, operation_names, named_cells, place_from, cell_in}

-- a cell, or a jump, a branch or a call of a label
pub data Operation : Type 0 where
  Fixed : (cell : ℕ) → Operation
  Refers : (way : Way) (name : List ℕ) → Operation

abbrev pub seen : Parsed → Operation
seen (parsed.Cell cell) = Fixed cell
seen (parsed.Reference way name) = Refers way name.now

abbrev pub going : Way → ℕ → Instr
going ways.Jump target = Jump target
going ways.Branch target = Branch target
going ways.Call target = Call target

abbrev pub at_most : ℕ → ℕ → Option ℕ
at_most most n = elim (nat_le n most) [ true ↦ Some n | false ↦ None ]

-- one field alone
abbrev pub alone : List (List ℕ) → Option (List ℕ)
alone [] = None
alone (field ∷ []) = Some field
alone (field ∷ other ∷ fields) = None

-- a number of four digits, or `:` and a name
abbrev pub target_of : Way → List ℕ → Option Operation
target_of way [] = None
target_of way (b ∷ bs) = elim (b == 58) [
  | true ↦ elim (is_name bs) [ true ↦ Some (Refers way bs) | false ↦ None ]
  | false ↦ hex4 (b ∷ bs) >>= λ n. at_most 0x1FFF n >>= λ target. Some (Fixed (encoded (going way target)))
]

-- the bits so far of an ALU cell, and the fields that are left
pub record Bits : Type 0 where
  pub bits : ℕ
  pub fields : List (List ℕ)

abbrev pub chosen_by : ℕ → List ℕ → List (List ℕ) → Option ℕ → Bits
chosen_by bits field fields None = record { bits = bits; fields = field ∷ fields }
chosen_by bits field fields (Some more) = record { bits = bit_or bits more; fields = fields }

-- one of these fields, if it comes next, adds its bits
abbrev pub chosen : List (List ℕ × ℕ) → ℕ → List (List ℕ) → Bits
chosen entries bits [] = record { bits = bits; fields = [] }
chosen entries bits (field ∷ fields) = chosen_by bits field fields (cell_in field entries)

abbrev pub then_chosen : List (List ℕ × ℕ) → Bits → Bits
then_chosen entries so_far = chosen entries so_far.bits so_far.fields

-- the whole cell, where no field is left
abbrev pub finished : ℕ → List (List ℕ) → Option ℕ
finished bits [] = Some bits
finished bits (field ∷ fields) = None

-- the optional fields behind an operation, in this order
abbrev pub options_of : Bits → Bits
options_of so_far =
    then_chosen ((codes "d+1", 1) ∷ (codes "d-1", 3) ∷ (codes "d-2", 2) ∷ [])
    (then_chosen ((codes "r+1", 4) ∷ (codes "r-1", 12) ∷ (codes "r-2", 8) ∷ [])
    (then_chosen ((codes "R->PC", 0x1000) ∷ [])
    (then_chosen ((codes "N->[T]", 0x20) ∷ [])
    (then_chosen ((codes "T->R", 0x40) ∷ [])
    (then_chosen ((codes "T->N", 0x80) ∷ []) so_far)))))

-- an ALU cell: an operation and its optional fields
abbrev pub alu_of : List (List ℕ) → Option ℕ
alu_of [] = None
alu_of (field ∷ fields) = place_from 0 field operation_names >>= λ operation.
    finished (options_of (record { bits = 0x6000 + 256 * operation; fields = fields })).bits (options_of (record { bits = 0x6000 + 256 * operation; fields = fields })).fields

-- what the first field of an instruction says
abbrev pub mnemonic_of : List ℕ → Mnemonic
mnemonic_of word = elim (bytes_eq word (codes "lit")) [
  | true ↦ Lit
  | false ↦ elim (bytes_eq word (codes "jump")) [
    | true ↦ Goes ways.Jump
    | false ↦ elim (bytes_eq word (codes "branch")) [
      | true ↦ Goes ways.Branch
      | false ↦ elim (bytes_eq word (codes "call")) [
        | true ↦ Goes ways.Call
        | false ↦ elim (bytes_eq word (codes "raw")) [
          | true ↦ Raw
          | false ↦ elim (bytes_eq word (codes "alu")) [ true ↦ Alu | false ↦ Other ]
        ]
      ]
    ]
  ]
]

-- no field
abbrev pub named_of : List ℕ → List (List ℕ) → Option ℕ
named_of word [] = cell_in word named_cells
named_of word (field ∷ fields) = None

abbrev pub instruction_by : Mnemonic → List ℕ → List (List ℕ) → Option Operation
instruction_by Lit word operands = alone operands >>= λ field. hex4 field >>= λ n. at_most 0x7FFF n >>= λ value. Some (Fixed (encoded (Literal value)))
instruction_by Raw word operands = alone operands >>= λ field. hex4 field >>= λ cell. Some (Fixed cell)
instruction_by Alu word operands = alu_of operands >>= λ cell. Some (Fixed cell)
instruction_by (Goes way) word operands = alone operands >>= target_of way
instruction_by Other word operands = named_of word operands >>= λ cell. Some (Fixed cell)

-- the instruction of a word and its operands
abbrev pub instruction_of : List (List ℕ) → Option Operation
instruction_of [] = None
instruction_of (word ∷ operands) = instruction_by (mnemonic_of word) word operands
