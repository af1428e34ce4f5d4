-- The labels of a text.
use Rattle.std.specs.Prelude.{ℕ, ◌+◌, min, Bool, true, false, List, [], ◌∷◌, Option, Some, None}
use Rattle.std.specs.Str.{bytes_eq}
use Rattle.std.specs.Map.{lookup}
use Rattle.std.specs.Borrow.{Bor}
use Rattle.std.specs.BTreeMap.{BTreeMap, get_by}
use Rattle.std.specs.Cmp.Lexicographic.{slice_cmp}
use Rattle.std.specs.Ordering.{nat_cmp}
use Rattle.j1_assembler.specs.declared.labels.Definition.{Definition}
use Rattle.j1_assembler.specs.declared.rows.Heading.{Heading}
use Rattle.j1_assembler.specs.declared.rows.Heading.TheVariants as headings
use Rattle.j1_assembler.specs.Text.{fields_of}
use Rattle.j1_assembler.specs.Lines.{heading_of, line_label, line_rest}

-- the next cell behind a line; no image has so many cells that it is held at the last one of memory
abbrev pub next_cell : ℕ → List (List ℕ) → ℕ
next_cell cell [] = cell
next_cell cell (word ∷ operands) = min (cell + 1) 8191

abbrev pub with_label : Option (List ℕ) → Definition → List (List ℕ × Definition) → List (List ℕ × Definition)
with_label None definition labels = labels
with_label (Some name) definition labels = (name, definition) ∷ labels

abbrev pub is_data : Option Heading → Bool
is_data (Some headings.Data) = true
is_data heading = false

abbrev pub is_code : Option Heading → Bool
is_code (Some headings.Code) = true
is_code heading = false

-- the labels of the lines from this number on, up to a line `DATA`, where so many cells stand before
abbrev pub labels_in : ℕ → ℕ → List (List ℕ) → List (List ℕ × Definition)
labels_in number cell [] = []
labels_in number cell (line ∷ lines) = elim (is_data (heading_of (fields_of line))) [
  | true ↦ []
  | false ↦ with_label (line_label (fields_of line)) (record { line = number; cell = cell }) (labels_in (number + 1) (next_cell cell (line_rest (fields_of line))) lines)
]

-- the labels behind the first line `CODE`
abbrev pub labels_from : ℕ → List (List ℕ) → List (List ℕ × Definition)
labels_from number [] = []
labels_from number (line ∷ lines) = elim (is_code (heading_of (fields_of line))) [ true ↦ labels_in (number + 1) 0 lines | false ↦ labels_from (number + 1) lines ]

-- the first definition of a name
abbrev pub defined : List (List ℕ × Definition) → List ℕ → Option Definition
defined labels name = lookup (bytes_eq name) labels

-- the same in a map of names
abbrev pub found_in : BTreeMap (Bor (List ℕ)) Definition → List ℕ → Option Definition
found_in labels name = get_by (λ k. slice_cmp nat_cmp name k.now) labels

-- the first of two that is there
abbrev pub or_else : Option Definition → Option Definition → Option Definition
or_else None second = second
or_else (Some definition) second = Some definition
