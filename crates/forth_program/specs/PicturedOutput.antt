-- Numeric output: digits are held from the end of the hold buffer down.
use Rattle.std.specs.Prelude.{ℕ, zero, suc, ◌+◌, ◌/◌, ◌%◌, nat_lt, nat_le, ◌&&◌, if◌then◌else◌, Bool, true, false}
use Rattle.cell_math.specs.Cell.{difference_of}
use Rattle.forth_program.specs.State.{World, Reply, Gives, Stops, ◌▸◌, Halted}
use Rattle.forth_program.specs.Access.{fetch, store, store_byte, emit, base}
use Rattle.forth_program.specs.ByteWords.{type_out}

-- the hold buffer is empty
abbrev pub open_picture : World → Reply (Unit {0})
open_picture w = store (w.data_start + 2) (w.data_start + 96) w

-- the hold pointer less one must stand in the hold buffer
abbrev pub hold : ℕ → World → Reply (Unit {0})
hold c w = fetch (w.data_start + 2) w ▸ λ h w.
    if nat_le (w.data_start + 16) (difference_of h 1) && nat_le (difference_of h 1) (w.data_start + 95)
    then (store (w.data_start + 2) (difference_of h 1) w ▸ λ _. store_byte (difference_of h 1) c)
    else Stops (Halted 12) w

-- holds a minus sign where the number is negative
abbrev pub hold_sign : Bool → World → Reply (Unit {0})
hold_sign true w = hold 45 w
hold_sign false w = Gives tt w

-- 0 to 9, then A to Z
abbrev pub digit_char : ℕ → ℕ
digit_char d = if nat_lt d 10 then 48 + d else 55 + d

-- the radix is looked at before anything else
abbrev pub radix : World → Reply ℕ
radix w = base w ▸ λ b w. if nat_le 2 b && nat_le b 36 then Gives b w else Stops (Halted 11) w

-- holds the last digit, and gives the quotient
abbrev pub hold_digit : ℕ → World → Reply ℕ
hold_digit ud w = radix w ▸ λ b w. hold (digit_char (ud % b)) w ▸ λ _. Gives (ud / b)

-- holds at most n digits, until nothing is left, and gives what is left
abbrev pub hold_digits : ℕ → ℕ → World → Reply ℕ
hold_digits zero ud w = Gives ud w
hold_digits (suc n) ud w = hold_digit ud w ▸ λ left w. elim left [ zero ↦ Gives zero w | suc m ↦ hold_digits n (suc m) w ]

-- a double has at most 32 digits
abbrev pub hold_all : ℕ → World → Reply ℕ
hold_all ud w = hold_digits 32 ud w

-- the address and the size of what is held
abbrev pub picture : World → Reply (ℕ × ℕ)
picture w = fetch (w.data_start + 2) w ▸ λ a w. Gives (a, difference_of (w.data_start + 96) a) w

-- prints a number of this size, with its sign, and a space
abbrev pub print_number : ℕ → Bool → World → Reply (Unit {0})
print_number size negative w =
    open_picture w ▸ λ _ w. hold_all size w ▸ λ _ w. hold_sign negative w ▸ λ _ w. picture w ▸ λ p w.
    type_out p.1 p.0 w ▸ λ _. emit 32
