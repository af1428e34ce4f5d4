-- What the lines of a text are.
use Rattle.std.specs.Prelude.{ℕ, ◌%◌, nat_le, ◌==◌, ◌&&◌, not, true, false, List, [], ◌∷◌, length, Option, Some, None, codes}
use Rattle.std.specs.Str.{bytes_eq}
use Rattle.j1_assembler.specs.declared.rows.Heading.{Heading}
use Rattle.j1_assembler.specs.declared.rows.Heading.TheVariants as headings
use Rattle.j1_assembler.specs.Numbers.{◌>>=◌, hex2, hex4, stated_place}
use Rattle.j1_assembler.specs.Names.{label_of}
use Rattle.j1_assembler.specs.Instruction.{Operation, instruction_of, alone}

-- a data start of version 2
abbrev pub stated_start : ℕ → Option ℕ
stated_start start = elim ((start % 2 == 0) && (nat_le 4096 start && (nat_le start 16000 && not (start == 8192)))) [ true ↦ Some start | false ↦ None ]

-- the version of a header, and in version 2 the data start
abbrev pub start_behind : List (List ℕ) → Option ℕ
start_behind [] = None
start_behind (version ∷ []) = elim (bytes_eq version (codes "1")) [ true ↦ Some 8192 | false ↦ None ]
start_behind (version ∷ start ∷ []) = elim (bytes_eq version (codes "2")) [ true ↦ hex4 start >>= stated_start | false ↦ None ]
start_behind (version ∷ start ∷ other ∷ fields) = None

-- the data start of a header
abbrev pub header_of : List (List ℕ) → Option ℕ
header_of [] = None
header_of (letters ∷ fields) = elim (bytes_eq letters (codes "J1")) [ true ↦ start_behind fields | false ↦ None ]

abbrev pub heading_named : List ℕ → Option Heading
heading_named field = elim (bytes_eq field (codes "CODE")) [
  | true ↦ Some headings.Code
  | false ↦ elim (bytes_eq field (codes "DATA")) [
    | true ↦ Some headings.Data
    | false ↦ elim (bytes_eq field (codes "END")) [ true ↦ Some headings.End | false ↦ None ]
  ]
]

-- a line `CODE`, `DATA` or `END`
abbrev pub heading_of : List (List ℕ) → Option Heading
heading_of fields = alone fields >>= heading_named

-- the place in front of a line, if there is one, and the fields behind it
abbrev pub front_place : List (List ℕ) → Option ℕ
front_place [] = None
front_place (field ∷ fields) = stated_place field

abbrev pub behind_place : List (List ℕ) → List (List ℕ)
behind_place [] = []
behind_place (field ∷ fields) = elim (stated_place field) [ Some place ↦ fields | None ↦ field ∷ fields ]

abbrev pub front_label : List (List ℕ) → Option (List ℕ)
front_label [] = None
front_label (field ∷ fields) = label_of field

abbrev pub behind_label : List (List ℕ) → List (List ℕ)
behind_label [] = []
behind_label (field ∷ fields) = elim (label_of field) [ Some name ↦ fields | None ↦ field ∷ fields ]

-- the label that a line defines
abbrev pub line_label : List (List ℕ) → Option (List ℕ)
line_label fields = front_label (behind_place fields)

-- the fields of its instruction
abbrev pub line_rest : List (List ℕ) → List (List ℕ)
line_rest fields = behind_label (behind_place fields)

-- an optional instruction
abbrev pub optional_instruction : List (List ℕ) → Option (Option Operation)
optional_instruction [] = Some None
optional_instruction (word ∷ operands) = instruction_of (word ∷ operands) >>= λ operation. Some (Some operation)

-- data bytes
abbrev pub bytes_of : List (List ℕ) → Option (List ℕ)
bytes_of [] = Some []
bytes_of (field ∷ fields) = hex2 field >>= λ byte. bytes_of fields >>= λ bytes. Some (byte ∷ bytes)

-- 1 to 16 of them
abbrev pub data_of : List (List ℕ) → Option (List ℕ)
data_of fields = elim (nat_le 1 (length fields) && nat_le (length fields) 16) [ true ↦ bytes_of fields | false ↦ None ]
