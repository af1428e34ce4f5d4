-- The listing of an image.
use Rattle.std.specs.Prelude.{ℕ, zero, suc, ◌+◌, ◌/◌, ◌%◌, nat_lt, ◌==◌, Bool, true, false, ℤ, pos, negsuc, List, [], ◌∷◌, ◌++◌, length, take, drop, map, slice_index_or, Option, Some, None, codes}
use Rattle.std.specs.List.{flat_map}
use Rattle.j1_table.specs.Image.{Content}
use Rattle.j1_table.specs.Fields.{op_of, has_bit, return_move_of, data_move_of}
use Rattle.j1_table.specs.declared.instr.Instr.{Instr}
use Rattle.j1_table.specs.declared.instr.Instr.TheVariants.{Literal, Jump, Branch, Call, Alu}
use Rattle.j1_table.specs.Instruction.{decoded}
use Rattle.j1_assembler.specs.Names.{operation_names, named_cells, name_in}

-- digits in upper case
abbrev pub digit : ℕ → ℕ
digit n = elim (nat_lt n 10) [ true ↦ 48 + n | false ↦ 55 + n ]

abbrev pub hex2 : ℕ → List ℕ
hex2 n = digit (n / 16) ∷ digit (n % 16) ∷ []

abbrev pub hex4 : ℕ → List ℕ
hex4 n = hex2 (n / 256) ++ hex2 (n % 256)

-- a cell number or an address
abbrev pub place : ℕ → List ℕ
place n = 64 ∷ hex4 n

-- a field where the test holds
abbrev pub flag : Bool → List ℕ → List (List ℕ)
flag true name = name ∷ []
flag false name = []

-- the move of a stack, if it moves: a letter, a sign and a digit
abbrev pub move_field : ℕ → ℤ → List (List ℕ)
move_field letter (pos (suc zero)) = (letter ∷ codes "+1") ∷ []
move_field letter (negsuc zero) = (letter ∷ codes "-1") ∷ []
move_field letter (negsuc (suc zero)) = (letter ∷ codes "-2") ∷ []
move_field letter move = []

-- what an ALU cell does besides its operation
abbrev pub flag_fields : ℕ → List (List ℕ)
flag_fields word = (flag (has_bit word 7) (codes "T->N") ++ flag (has_bit word 6) (codes "T->R")) ++ (flag (has_bit word 5) (codes "N->[T]") ++ flag (has_bit word 12) (codes "R->PC"))

abbrev pub move_fields : ℕ → List (List ℕ)
move_fields word = move_field 114 (return_move_of word) ++ move_field 100 (data_move_of word)

abbrev pub alu_options : ℕ → List (List ℕ)
alu_options word = flag_fields word ++ move_fields word

-- an ALU cell with bit 4 is told as a number
abbrev pub alu_by : Bool → ℕ → List (List ℕ)
alu_by true word = codes "raw" ∷ hex4 (0x6000 + word) ∷ []
alu_by false word = codes "alu" ∷ slice_index_or operation_names (op_of word) [] ∷ alu_options word

abbrev pub instruction_fields : Instr → List (List ℕ)
instruction_fields (Literal value) = codes "lit" ∷ hex4 value ∷ []
instruction_fields (Jump target) = codes "jump" ∷ hex4 target ∷ []
instruction_fields (Branch target) = codes "branch" ∷ hex4 target ∷ []
instruction_fields (Call target) = codes "call" ∷ hex4 target ∷ []
instruction_fields (Alu word) = alu_by (has_bit word 4) word

-- a comment with the name of a cell, if it has one
abbrev pub comment_of : Option (List ℕ) → List (List ℕ)
comment_of None = []
comment_of (Some name) = codes "\\" ∷ name ∷ []

-- a cell's instruction, and its name
abbrev pub text_fields : ℕ → List (List ℕ)
text_fields cell = instruction_fields (decoded cell) ++ comment_of (name_in cell named_cells)

-- the fields of a code line
abbrev pub code_fields : ℕ → ℕ → List (List ℕ)
code_fields number cell = place number ∷ text_fields cell

abbrev pub code_rows : ℕ → List ℕ → List (List (List ℕ))
code_rows number [] = []
code_rows number (cell ∷ cells) = code_fields number cell ∷ code_rows (number + 1) cells

-- the fields of n data lines of 16 bytes each, the last one the rest
abbrev pub data_rows : ℕ → ℕ → List ℕ → List (List (List ℕ))
data_rows zero address bytes = []
data_rows (suc n) address bytes = (place address ∷ map hex2 (take 16 bytes)) ∷ data_rows n (address + 16) (drop 16 bytes)

abbrev pub header_by : Bool → ℕ → List (List ℕ)
header_by true start = codes "J1" ∷ codes "1" ∷ []
header_by false start = codes "J1" ∷ codes "2" ∷ hex4 start ∷ []

-- version 1 is for the data start 8192 alone
abbrev pub header_fields : ℕ → List (List ℕ)
header_fields start = header_by (start == 8192) start

-- the fields of each line
abbrev pub rows : Content → List (List (List ℕ))
rows image =
    header_fields image.data_start ∷ (codes "CODE" ∷ []) ∷ (code_rows 0 image.cells ++
    ((codes "DATA" ∷ []) ∷ (data_rows ((length image.bytes + 15) / 16) image.data_start image.bytes ++ ((codes "END" ∷ []) ∷ []))))

-- a field behind a space
abbrev pub spaced : List ℕ → List ℕ
spaced field = 32 ∷ field

-- fields with one space between them
abbrev pub line_of : List (List ℕ) → List ℕ
line_of [] = []
line_of (field ∷ fields) = field ++ flat_map spaced fields

abbrev pub line_text : List (List ℕ) → List ℕ
line_text fields = line_of fields ++ 10 ∷ []

-- the lines, each ended by a line feed
abbrev pub listing : Content → List ℕ
listing image = flat_map line_text (rows image)
