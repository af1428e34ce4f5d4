-- The operations that compute the new T from cells alone (Bowman's J1 paper, "ALU operation codes").
use Rattle.std.specs.Prelude.{ℕ, ◌-◌, ◌*◌, ◌/◌, ◌%◌, ◌^◌, Bool, if◌then◌else◌, ◌==◌, nat_lt, int_lt, bit_and, bit_or, bit_xor}
use Rattle.cell_math.specs.Cell.{flag, sum_of, signed}

-- N < T, as signed numbers
abbrev pub signed_less : ℕ → ℕ → Bool
signed_less n t = int_lt (signed n) (signed t)

-- the operations that take T and N alone, by their number
abbrev pub on_t_and_n : ℕ → ℕ → ℕ → ℕ
on_t_and_n op t n =
    if op == 2 then sum_of t n
    else if op == 3 then bit_and t n
    else if op == 4 then bit_or t n
    else if op == 5 then bit_xor t n
    else if op == 7 then flag (n == t)
    else if op == 8 then flag (signed_less n t)
    else if op == 9 then n / 2 ^ (t % 16)
    else if op == 13 then n * 2 ^ (t % 16) % 0x10000
    else flag (nat_lt n t)

-- the operations that take T alone
abbrev pub on_t : ℕ → ℕ → ℕ
on_t op t = if op == 6 then 0xffff - t else sum_of t 0xffff
