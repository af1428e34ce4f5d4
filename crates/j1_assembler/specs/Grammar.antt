-- An assembly text and its image, section by section.
use Rattle.std.specs.Prelude.{ℕ, ◌+◌, ◌-◌, ◌/◌, ◌≤◌, ◌≡◌, ◌↔◌, true, List, [], ◌∷◌, ◌++◌, length, Option, Some, None}
use Rattle.std.specs.List.{list_all}
use Rattle.j1_table.specs.Image.{Content}
use Rattle.j1_assembler.specs.declared.labels.Definition.{Definition}
use Rattle.j1_assembler.specs.declared.rows.Heading.TheVariants as headings
use Rattle.j1_assembler.specs.Text.{lines_of, fields_of, is_formed}
use Rattle.j1_assembler.specs.Instruction.{Operation}
use Rattle.j1_assembler.specs.Lines.{header_of, heading_of, front_place, behind_place, line_label, line_rest, optional_instruction, data_of}
use Rattle.j1_assembler.specs.Labels.{labels_from, defined}
use Rattle.j1_assembler.specs.Assembly.{Fine, is_present, is_first, cell_of, Assembled, assembled}

-- a line with fields, by its number and its fields
pub record Row : Type 0 where
  pub number : ℕ
  pub fields : List (List ℕ)

abbrev pub with_row : ℕ → List (List ℕ) → List Row → List Row
with_row number [] rows = rows
with_row number (field ∷ fields) rows = (record { number = number; fields = field ∷ fields }) ∷ rows

-- the lines with fields, where the first line has this number
abbrev pub rows_from : ℕ → List (List ℕ) → List Row
rows_from number [] = []
rows_from number (line ∷ lines) = with_row number (fields_of line) (rows_from (number + 1) lines)

-- a code row, where so many cells stand before: the number of the next cell or none, a label that is defined there first or none, and
-- an instruction or none
pub record IsCodeRow (find : List ℕ → Option Definition) (count : ℕ) (row : Row) (operation : Option Operation) : Type 0 where
  pub heading : heading_of row.fields ≡ None
  pub place : is_present (front_place row.fields) count ≡ true
  pub label : is_first find (line_label row.fields) row.number ≡ true
  pub instruction : optional_instruction (line_rest row.fields) ≡ Some operation

-- the cell of an operation stands first, and the rows behind it have the cells behind it
pub record FirstCell (find : List ℕ → Option Definition) (operation : Operation) (cells : List ℕ) (behind : List ℕ → Type 0) : Type 0 where
  pub cell : ℕ
  pub more : List ℕ
  pub given : cell_of find operation ≡ Fine cell
  pub split : cells ≡ cell ∷ more
  pub rest : behind more

-- the cells of code rows, where so many cells stand before
abbrev pub CodeRows : (List ℕ → Option Definition) → ℕ → List Row → List ℕ → Type 0
CodeRows find count [] cells = cells ≡ []
CodeRows find count (row ∷ rows) cells =
    (operation : Option Operation) × IsCodeRow find count row operation
    × elim operation [ None ↦ CodeRows find count rows cells | Some operation ↦ FirstCell find operation cells (λ more. CodeRows find (count + 1) rows more) ]

-- the bytes of a data row stand first, and the rows behind it have the bytes behind them
pub record FirstBytes (row : Row) (bytes : List ℕ) (behind : List ℕ → List ℕ → Type 0) : Type 0 where
  pub here : List ℕ
  pub more : List ℕ
  pub given : data_of (behind_place row.fields) ≡ Some here
  pub split : bytes ≡ here ++ more
  pub rest : behind here more

-- the bytes of data rows from an address on
abbrev pub DataRows : ℕ → List Row → List ℕ → Type 0
DataRows address [] bytes = bytes ≡ []
DataRows address (row ∷ rows) bytes =
    (heading_of row.fields ≡ None) × (is_present (front_place row.fields) address ≡ true)
    × FirstBytes row bytes (λ here more. DataRows (address + length here) rows more)

-- the text is formed, and its lines with fields are a header, `CODE`, code rows, `DATA`, data rows and `END`; they have these cells
-- and bytes, for which there is room
pub record Assembles (text : List ℕ) (image : Content) : Type 0 where
  pub header : Row
  pub begins_code : Row
  pub code : List Row
  pub begins_data : Row
  pub bytes : List Row
  pub ends : Row
  pub formed : list_all is_formed (lines_of text) ≡ true
  pub rows : rows_from 1 (lines_of text) ≡ header ∷ begins_code ∷ (code ++ begins_data ∷ (bytes ++ ends ∷ []))
  pub starts : header_of header.fields ≡ Some image.data_start
  pub at_code : heading_of begins_code.fields ≡ Some headings.Code
  pub at_data : heading_of begins_data.fields ≡ Some headings.Data
  pub at_end : heading_of ends.fields ≡ Some headings.End
  pub code_is : CodeRows (defined (labels_from 1 (lines_of text))) 0 code image.cells
  pub data_is : DataRows image.data_start bytes image.bytes
  pub code_fits : length image.cells ≤ image.data_start / 2
  pub data_fits : length image.bytes ≤ 16384 - image.data_start

-- a text assembles to the image that the grammar gives it, and to no other
abbrev pub AssemblesByGrammar : Type 0
AssemblesByGrammar = (text : List ℕ) (image : Content) → (assembled text ≡ Assembled image) ↔ Assembles text image
