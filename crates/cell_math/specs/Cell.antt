-- A cell is a number from 0 to 65535. Sums and products are modulo 65536, and the signed view is two's complement
-- (ANS Forth's cells, on a machine of 16 bits).
use Rattle.std.specs.Prelude.{ℕ, ◌+◌, ◌-◌, ◌*◌, ◌/◌, ◌%◌, ℤ, pos, negsuc, nat_lt, Bool, if◌then◌else◌}

abbrev pub sum_of : ℕ → ℕ → ℕ
sum_of x y = (x + y) % 65536

abbrev pub difference_of : ℕ → ℕ → ℕ
difference_of x y = (x + (65536 - y)) % 65536

abbrev pub negated : ℕ → ℕ
negated x = (65536 - x) % 65536

abbrev pub signed : ℕ → ℤ
signed x = if nat_lt x 32768 then pos x else negsuc (65535 - x)

-- the cell of a whole number, modulo 65536
abbrev pub cell_of : ℤ → ℕ
cell_of (pos n) = n % 65536
cell_of (negsuc n) = 65535 - n % 65536

-- a truth value as a cell
abbrev pub flag : Bool → ℕ
flag holds = if holds then 65535 else 0

-- two cells as one number, unsigned and signed, and back
abbrev pub double : ℕ → ℕ → ℕ
double low high = low + 65536 * high

abbrev pub signed_double : ℕ → ℕ → ℤ
signed_double low high = if nat_lt high 32768 then pos (double low high) else negsuc (4294967295 - double low high)

-- the double of a whole number, modulo 2 to the 32nd
abbrev pub double_of : ℤ → ℕ
double_of (pos n) = n % 4294967296
double_of (negsuc n) = 4294967295 - n % 4294967296

abbrev pub low_cell : ℕ → ℕ
low_cell d = d % 65536

abbrev pub high_cell : ℕ → ℕ
high_cell d = d / 65536 % 65536
