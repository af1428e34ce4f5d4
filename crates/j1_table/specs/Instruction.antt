-- Cells and the instructions that they stand for (Bowman's J1 paper, "Instruction encoding").
use Rattle.std.specs.Prelude.{ℕ, ◌+◌, ◌-◌, ◌<◌, ◌≡◌, nat_lt, if◌then◌else◌, ℤ, pos, negsuc}
use Rattle.j1_table.specs.declared.instr.Instr.{Instr}
use Rattle.j1_table.specs.declared.instr.Instr.TheVariants.{Literal, Jump, Branch, Call, Alu}
use Rattle.j1_table.specs.Fields.{data_move_of, return_move_of}

-- the instruction of a cell, by its highest bits
abbrev pub decoded : ℕ → Instr
decoded cell =
    if nat_lt cell 0x2000 then Jump cell
    else if nat_lt cell 0x4000 then Branch (cell - 0x2000)
    else if nat_lt cell 0x6000 then Call (cell - 0x4000)
    else if nat_lt cell 0x8000 then Alu (cell - 0x6000)
    else Literal (cell - 0x8000)

-- the cell of an instruction
abbrev pub encoded : Instr → ℕ
encoded (Literal value) = 0x8000 + value
encoded (Jump target) = target
encoded (Branch target) = 0x2000 + target
encoded (Call target) = 0x4000 + target
encoded (Alu word) = 0x6000 + word

-- the numbers of an instruction fit their bits
abbrev pub IsInstr : Instr → Type 0
IsInstr (Literal value) = value < 0x8000
IsInstr (Jump target) = target < 0x2000
IsInstr (Branch target) = target < 0x2000
IsInstr (Call target) = target < 0x2000
IsInstr (Alu word) = word < 0x2000

-- the move of the data stack and that of the return stack, in cells
abbrev pub moves_of : Instr → ℤ × ℤ
moves_of (Literal value) = (pos 1, pos 0)
moves_of (Jump target) = (pos 0, pos 0)
moves_of (Branch target) = (negsuc 0, pos 0)
moves_of (Call target) = (pos 0, pos 1)
moves_of (Alu word) = (data_move_of word, return_move_of word)

-- each cell is that of its instruction
abbrev pub EncodesBack : Type 0
EncodesBack = (cell : ℕ) → cell < 0x10000 → encoded (decoded cell) ≡ cell

-- each instruction is that of its cell
abbrev pub DecodesBack : Type 0
DecodesBack = (instr : Instr) → IsInstr instr → decoded (encoded instr) ≡ instr

-- the numbers of a cell's instruction fit their bits
abbrev pub DecodesToInstr : Type 0
DecodesToInstr = (cell : ℕ) → cell < 0x10000 → IsInstr (decoded cell)

-- an instruction's cell has 16 bits
abbrev pub EncodesToCell : Type 0
EncodesToCell = (instr : Instr) → IsInstr instr → encoded instr < 0x10000
