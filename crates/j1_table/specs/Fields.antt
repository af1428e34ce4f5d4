-- The fields of the low 13 bits of an ALU cell (Bowman's J1 paper, "ALU instructions").
use Rattle.std.specs.Prelude.{ℕ, zero, suc, ◌/◌, ◌%◌, ◌^◌, Bool, nat_eq, ℤ, pos, negsuc}

-- bit i of a number is set
abbrev pub has_bit : ℕ → ℕ → Bool
has_bit word i = nat_eq (word / 2 ^ i % 2) 1

-- bits 11 to 8: the operation
abbrev pub op_of : ℕ → ℕ
op_of word = word / 2 ^ 8 % 16

-- the move of a two-bit code: 0, +1, -2, -1
abbrev pub move_of : ℕ → ℤ
move_of zero = pos 0
move_of (suc zero) = pos 1
move_of (suc (suc zero)) = negsuc 1
move_of (suc (suc (suc _))) = negsuc 0

-- bits 3 and 2: the move of the return stack
abbrev pub return_move_of : ℕ → ℤ
return_move_of word = move_of (word / 2 ^ 2 % 4)

-- bits 1 and 0: the move of the data stack
abbrev pub data_move_of : ℕ → ℤ
data_move_of word = move_of (word % 4)
