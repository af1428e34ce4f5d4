-- The image of an assembly text, or its first bad line.
use Rattle.std.specs.Prelude.{ℕ, ◌+◌, ◌-◌, ◌/◌, nat_le, nat_lt, ◌==◌, Bool, true, false, List, [], ◌∷◌, ◌++◌, length, Option, Some, None}
use Rattle.j1_table.specs.Image.{Content}
use Rattle.j1_table.specs.Instruction.{encoded}
use Rattle.j1_assembler.specs.declared.refusal.AsmCause.{AsmCause}
use Rattle.j1_assembler.specs.declared.refusal.AsmCause.TheVariants as causes
use Rattle.j1_assembler.specs.declared.assembler.Section.{Section}
use Rattle.j1_assembler.specs.declared.assembler.Section.TheVariants as sections
use Rattle.j1_assembler.specs.declared.labels.Definition.{Definition}
use Rattle.j1_assembler.specs.declared.rows.Heading.{Heading}
use Rattle.j1_assembler.specs.declared.rows.Heading.TheVariants as headings
use Rattle.j1_assembler.specs.Text.{lines_of, fields_of, is_formed}
use Rattle.j1_assembler.specs.Instruction.{Operation, Fixed, Refers, going}
use Rattle.j1_assembler.specs.Lines.{header_of, heading_of, front_place, behind_place, line_label, line_rest, optional_instruction, data_of}
use Rattle.j1_assembler.specs.Labels.{labels_from, defined}

-- what a line gives, or its fault
pub data LineResult (A : Type 0) : Type 0 where
  Fine : (value : A) → LineResult A
  Faulty : (cause : AsmCause) → LineResult A

infixl 10 ◌>>=◌
abbrev pub ◌>>=◌ : {A B : Type 0} → LineResult A → (A → LineResult B) → LineResult B
(Fine x) >>= f = f x
(Faulty cause) >>= f = Faulty cause

-- x where the test holds, and else the fault
abbrev pub checked : {A : Type 0} → Bool → AsmCause → A → LineResult A
checked true cause x = Fine x
checked false cause x = Faulty cause

-- x where it is there, and else the fault
abbrev pub present : {A : Type 0} → Option A → AsmCause → LineResult A
present (Some x) cause = Fine x
present None cause = Faulty cause

-- what the lines up to a place have given: the section, the data start, the cells and the data bytes
pub record Part : Type 0 where
  pub section : Section
  pub data_start : ℕ
  pub cells : List ℕ
  pub bytes : List ℕ

abbrev pub part_of : Section → ℕ → List ℕ → List ℕ → Part
part_of section data_start cells bytes = record { section = section; data_start = data_start; cells = cells; bytes = bytes }

abbrev pub formed : {A : Type 0} → List ℕ → A → LineResult A
formed line x = checked (is_formed line) causes.Form x

-- no number, or the present one
abbrev pub is_present : Option ℕ → ℕ → Bool
is_present None now = true
is_present (Some place) now = place == now

-- the definition is that of this line
abbrev pub is_at : Option Definition → ℕ → Bool
is_at None number = false
is_at (Some definition) number = definition.line == number

-- no label, or one that is first defined on this line
abbrev pub is_first : (List ℕ → Option Definition) → Option (List ℕ) → ℕ → Bool
is_first find None number = true
is_first find (Some name) number = is_at (find name) number

abbrev pub label_cell : Option Definition → Option ℕ
label_cell None = None
label_cell (Some definition) = Some definition.cell

-- the cell of an instruction
abbrev pub cell_of : (List ℕ → Option Definition) → Operation → LineResult ℕ
cell_of find (Fixed cell) = Fine cell
cell_of find (Refers way name) = present (label_cell (find name)) causes.Label >>= λ target. Fine (encoded (going way target))

abbrev pub with_cell : Part → ℕ → LineResult Part
with_cell part cell = checked (nat_lt (length part.cells) (part.data_start / 2)) causes.Full (record part { cells = part.cells ++ cell ∷ [] })

abbrev pub with_operation : (List ℕ → Option Definition) → Part → Option Operation → LineResult Part
with_operation find part None = Fine part
with_operation find part (Some operation) = cell_of find operation >>= with_cell part

-- a code line with this number
abbrev pub code_line : (List ℕ → Option Definition) → ℕ → Part → List (List ℕ) → LineResult Part
code_line find number part fields =
    present (optional_instruction (line_rest fields)) causes.Form >>= λ operation.
    checked (is_present (front_place fields) (length part.cells)) causes.Address part >>= λ part.
    checked (is_first find (line_label fields) number) causes.Label part >>= λ part.
    with_operation find part operation

abbrev pub with_bytes : Part → List ℕ → LineResult Part
with_bytes part bytes = checked (nat_le (length part.bytes + length bytes) (16384 - part.data_start)) causes.Full (record part { bytes = part.bytes ++ bytes })

-- a data line
abbrev pub data_line : Part → List (List ℕ) → LineResult Part
data_line part fields =
    present (data_of (behind_place fields)) causes.Form >>= λ bytes.
    checked (is_present (front_place fields) (part.data_start + length part.bytes)) causes.Address part >>= λ part.
    with_bytes part bytes

-- a line directly behind the header
abbrev pub opening_line : Part → List ℕ → Option Heading → LineResult Part
opening_line part line (Some headings.Code) = formed line (record part { section = sections.Code })
opening_line part line heading = Faulty causes.Section

-- a line of the section CODE
abbrev pub line_of_code : (List ℕ → Option Definition) → ℕ → Part → List ℕ → Option Heading → LineResult Part
line_of_code find number part line None = formed line part >>= λ part. code_line find number part (fields_of line)
line_of_code find number part line (Some headings.Data) = formed line (record part { section = sections.Data })
line_of_code find number part line heading = Faulty causes.Section

-- a line of the section DATA
abbrev pub line_of_data : Part → List ℕ → Option Heading → LineResult Part
line_of_data part line None = formed line part >>= λ part. data_line part (fields_of line)
line_of_data part line (Some headings.End) = formed line (record part { section = sections.End })
line_of_data part line heading = Faulty causes.Section

-- a line with fields behind the header, by its section
abbrev pub line_by : (List ℕ → Option Definition) → ℕ → Part → List ℕ → Section → LineResult Part
line_by find number part line sections.Opening = opening_line part line (heading_of (fields_of line))
line_by find number part line sections.Code = line_of_code find number part line (heading_of (fields_of line))
line_by find number part line sections.Data = line_of_data part line (heading_of (fields_of line))
line_by find number part line sections.End = Faulty causes.AfterEnd

abbrev pub line_with : (List ℕ → Option Definition) → ℕ → Part → List ℕ → List (List ℕ) → LineResult Part
line_with find number part line [] = formed line part
line_with find number part line (field ∷ fields) = line_by find number part line part.section

-- a line behind the header
abbrev pub line_outcome : (List ℕ → Option Definition) → ℕ → Part → List ℕ → LineResult Part
line_outcome find number part line = line_with find number part line (fields_of line)

-- the image of a text, or its first bad line
pub data Assembly : Type 0 where
  Assembled : (image : Content) → Assembly
  Refused : (line : ℕ) (cause : AsmCause) → Assembly

-- a text is whole behind the line `END`
abbrev pub ended : ℕ → Part → Section → Assembly
ended number part sections.End = Assembled (record { cells = part.cells; bytes = part.bytes; data_start = part.data_start })
ended number part section = Refused number causes.NoEnd

-- the lines behind the header, from this number on
abbrev pub lines_outcome : (List ℕ → Option Definition) → ℕ → Part → List (List ℕ) → Assembly
lines_outcome find number part [] = ended number part part.section
lines_outcome find number part (line ∷ lines) = elim (line_outcome find number part line) [
  | Fine part ↦ lines_outcome find (number + 1) part lines
  | Faulty cause ↦ Refused number cause
]

abbrev pub opened : ℕ → Part
opened start = record { section = sections.Opening; data_start = start; cells = []; bytes = [] }

-- the data start of a header line; a line without fields has none
abbrev pub header_outcome : List ℕ → List (List ℕ) → LineResult (Option ℕ)
header_outcome line [] = formed line None
header_outcome line (field ∷ fields) = present (header_of (field ∷ fields)) causes.Header >>= λ start. formed line (Some start)

-- all lines, from this number on
abbrev pub text_outcome : (List ℕ → Option Definition) → ℕ → List (List ℕ) → Assembly
text_outcome find number [] = Refused number causes.NoEnd
text_outcome find number (line ∷ lines) = elim (header_outcome line (fields_of line)) [
  | Fine start ↦ elim start [ Some start ↦ lines_outcome find (number + 1) (opened start) lines | None ↦ text_outcome find (number + 1) lines ]
  | Faulty cause ↦ Refused number cause
]

-- the image of a text, or its first bad line: a label stands for its first definition
abbrev pub assembled : List ℕ → Assembly
assembled text = text_outcome (defined (labels_from 1 (lines_of text))) 1 (lines_of text)
