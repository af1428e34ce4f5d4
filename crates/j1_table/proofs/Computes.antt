-- Cells from Bowman's J1 paper and Forth kernel, as the definitions decode them.
use Rattle.std.proofs.Common.{◌≡◌, ℕ, ◌+◌, ◌<◌, refl, arith, true, pos, negsuc}
use Rattle.j1_table.specs.declared.instr.Instr.TheVariants.{Literal, Call, Alu}
use Rattle.j1_table.specs.Fields.{op_of, has_bit, data_move_of}
use Rattle.j1_table.specs.Instruction.{decoded, moves_of}

-- add: T+N, d-1
add_cell : decoded 0x6203 ≡ Alu 0x203
add_cell = refl

add_op : op_of 0x203 ≡ 2
add_op = refl

add_moves : moves_of (decoded 0x6203) ≡ (negsuc 0, pos 0)
add_moves = refl

-- return: T, R to PC, r-1
return_moves : moves_of (decoded 0x700C) ≡ (pos 0, negsuc 0)
return_moves = refl

return_bit : has_bit 0x100C 12 ≡ true
return_bit = refl

-- r>: R, T to N, d+1, r-1
from_r : decoded 0x6B8D ≡ Alu 0xB8D
from_r = refl

from_r_op : op_of 0xB8D ≡ 11
from_r_op = refl

from_r_writes : has_bit 0xB8D 7 ≡ true
from_r_writes = refl

from_r_moves : moves_of (decoded 0x6B8D) ≡ (pos 1, negsuc 0)
from_r_moves = refl

-- >r: N, T to R, d-1, r+1
to_r_op : op_of 0x147 ≡ 1
to_r_op = refl

to_r_writes : has_bit 0x147 6 ≡ true
to_r_writes = refl

to_r_moves : moves_of (decoded 0x6147) ≡ (negsuc 0, pos 1)
to_r_moves = refl

-- store: N at [T], d-1
store_bit : has_bit 0x023 5 ≡ true
store_bit = refl

-- a move of -2
two_down : data_move_of 0x102 ≡ negsuc 1
two_down = refl

literal_cell : decoded 0xffff ≡ Literal 0x7fff
literal_cell = refl

-- the same at a variable
call_cell : (t : ℕ) → t < 0x2000 → decoded (0x4000 + t) ≡ Call t
call_cell t h = grind arith

literal_at : (v : ℕ) → v < 0x8000 → decoded (0x8000 + v) ≡ Literal v
literal_at v h = grind arith
