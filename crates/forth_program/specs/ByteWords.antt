-- Words that go over bytes one by one.
use Rattle.std.specs.Prelude.{ℕ, zero, suc, ◌+◌, ◌-◌, ◌*◌, ◌%◌, nat_lt, nat_le, ◌==◌, ◌&&◌, if◌then◌else◌, true, false, Option, Some, None, ℤ, pos, negsuc}
use Rattle.cell_math.specs.Cell.{sum_of}
use Rattle.forth_program.specs.State.{World, Reply, Gives, Stops, ◌▸◌}
use Rattle.forth_program.specs.Access.{fetch_byte, store_byte, emit, take_key}

-- prints n bytes from a on
abbrev pub type_out : ℕ → ℕ → World → Reply (Unit {0})
type_out zero a w = Gives tt w
type_out (suc n) a w = fetch_byte a w ▸ λ c w. emit c w ▸ λ _. type_out n (sum_of a 1)

-- prints n spaces
abbrev pub emit_spaces : ℕ → World → Reply (Unit {0})
emit_spaces zero w = Gives tt w
emit_spaces (suc n) w = emit 32 w ▸ λ _. emit_spaces n

-- a count that is not positive is 0
abbrev pub positive : ℤ → ℕ
positive (pos n) = n
positive (negsuc n) = 0

-- stores the byte c at n addresses from a on
abbrev pub fill : ℕ → ℕ → ℕ → World → Reply (Unit {0})
fill zero a c w = Gives tt w
fill (suc n) a c w = store_byte a c w ▸ λ _. fill n (sum_of a 1) c

-- the byte at a to b
abbrev pub copy_byte : ℕ → ℕ → World → Reply (Unit {0})
copy_byte a b w = fetch_byte a w ▸ λ c. store_byte b c

-- copies n bytes from a on to b on, the first byte first
abbrev pub move_up : ℕ → ℕ → ℕ → World → Reply (Unit {0})
move_up zero a b w = Gives tt w
move_up (suc n) a b w = copy_byte a b w ▸ λ _. move_up n (sum_of a 1) (sum_of b 1)

-- from the last byte down
abbrev pub move_down : ℕ → ℕ → ℕ → World → Reply (Unit {0})
move_down zero a b w = Gives tt w
move_down (suc n) a b w = copy_byte (sum_of a n) (sum_of b n) w ▸ λ _. move_down n a b

-- where b is above a, what lies over both is read before it is written
abbrev pub move : ℕ → ℕ → ℕ → World → Reply (Unit {0})
move n a b w = if nat_lt a b then move_down n a b w else move_up n a b w

-- stores up to n bytes of input from a on, until byte 10 is taken, and gives how many were stored after the first `kept`
abbrev pub accept : ℕ → ℕ → ℕ → World → Reply ℕ
accept zero a kept w = Gives kept w
accept (suc n) a kept w = take_key w ▸ λ c w.
    elim (c == 10) [ true ↦ Gives kept w | false ↦ store_byte a c w ▸ λ _. accept n (sum_of a 1) (kept + 1) ]

-- a count that goes on only where a thing does not end the run
abbrev pub begun_by : {A : Type 0} → Reply A → (A → World → ℕ) → ℕ
begun_by (Gives x w) next = next x w
begun_by (Stops end w) next = 0

-- the number of bytes that ACCEPT begins to take
abbrev pub accept_begins : ℕ → ℕ → World → ℕ
accept_begins zero a w = 0
accept_begins (suc n) a w = 1 + begun_by (take_key w) (λ c w.
    elim (c == 10) [ true ↦ 0 | false ↦ begun_by (store_byte a c w) (λ _. accept_begins n (sum_of a 1)) ])

-- ---- reading a number

-- letters in either case stand for 10 and more
abbrev pub letter_value : ℕ → ℕ
letter_value c =
    if nat_le 48 c && nat_le c 57 then c - 48
    else (if nat_le 65 c && nat_le c 90 then c - 55
    else (if nat_le 97 c && nat_le c 122 then c - 87
    else 65536))

-- the digit that a byte is
abbrev pub digit_of : ℕ → ℕ → Option ℕ
digit_of radix c = if nat_lt (letter_value c) radix then Some (letter_value c) else None

-- the double, the address and the count that are left
abbrev pub Rest : Type 0
Rest = ℕ × ℕ × ℕ

-- goes over digits among n bytes from a on, adding them to ud, modulo 2 to the 32nd
abbrev pub number_from : ℕ → ℕ → ℕ → ℕ → World → Reply Rest
number_from radix zero a ud w = Gives (ud, a, zero) w
number_from radix (suc n) a ud w = fetch_byte a w ▸ λ c w.
    elim (digit_of radix c) [ None ↦ Gives (ud, a, suc n) w | Some d ↦ number_from radix n (sum_of a 1) ((ud * radix + d) % 4294967296) w ]

-- the number of bytes that >NUMBER begins to fetch
abbrev pub number_begins : ℕ → ℕ → ℕ → World → ℕ
number_begins radix zero a w = 0
number_begins radix (suc n) a w = 1 + begun_by (fetch_byte a w) (λ c w.
    elim (digit_of radix c) [ None ↦ 0 | Some d ↦ number_begins radix n (sum_of a 1) w ])
