-- Fetches and stores of a running source: data space, the three ports of the console, and what is outside.
use Rattle.std.specs.Prelude.{ℕ, ◌+◌, ◌-◌, ◌*◌, ◌/◌, ◌%◌, ◌==◌, if◌then◌else◌, true, false, List, [], ◌∷◌, ◌++◌, slice_index, slice_set}
use Rattle.cell_math.specs.Cell.{sum_of}
use Rattle.console_ports.specs.declared.ports.Access.{Access as Met}
use Rattle.console_ports.specs.declared.ports.Access.TheVariants as met
use Rattle.console_ports.specs.Ports.{access_at}
use Rattle.forth_program.specs.State.{World, Reply, Gives, Stops, ◌▸◌, Halted, InputEnded, Outside, Stored, Took}

-- the first input byte
abbrev pub taken : List ℕ → World → Reply ℕ
taken [] w = Stops InputEnded w
taken (byte ∷ input) w = Gives byte (record w { input = input; made = Took byte ∷ w.made })

-- what a fetch gives by what it reaches; a cell of memory is found in data space by its place less that of the first.
-- A fetch never meets the two ports for stores: at their addresses it is outside.
abbrev pub fetch_by : World → Met → Reply ℕ
fetch_by w (met.Data place) = Gives (slice_index w.space (place - w.data_start / 2)) w
fetch_by w met.Key = taken w.input w
fetch_by w (met.Outside address) = Stops (Outside address) w
fetch_by w met.Print = Stops (Outside 0x4000) w
fetch_by w met.Halt = Stops (Outside 0x4004) w

-- what a store of x does by what it reaches; a store never meets the port for fetches
abbrev pub store_by : World → ℕ → Met → Reply (Unit {0})
store_by w x (met.Data place) = Gives tt (record w { space = slice_set w.space (place - w.data_start / 2) x; made = Stored (2 * place) x ∷ w.made })
store_by w x met.Print = Gives tt (record w { printed = w.printed ++ x % 256 ∷ []; made = Stored 0x4000 x ∷ w.made })
store_by w x met.Halt = Stops (Halted (x % 256)) w
store_by w x (met.Outside address) = Stops (Outside address) w
store_by w x met.Key = Stops (Outside 0x4002) w

-- the cell at an address
abbrev pub fetch : ℕ → World → Reply ℕ
fetch address w = fetch_by w (access_at w.data_start false address)

-- x to the cell at an address
abbrev pub store : ℕ → ℕ → World → Reply (Unit {0})
store address x w = store_by w x (access_at w.data_start true address)

-- prints the low byte of c
abbrev pub emit : ℕ → World → Reply (Unit {0})
emit c w = store 0x4000 c w

-- takes an input byte
abbrev pub take_key : World → Reply ℕ
take_key w = fetch 0x4002 w

-- ---- bytes: that at an odd address is the high byte of its cell

-- the byte at an address, of its cell
abbrev pub byte_of : ℕ → ℕ → ℕ
byte_of address cell = if address % 2 == 0 then cell % 256 else cell / 256

-- the cell with the low byte of c at that address
abbrev pub with_byte : ℕ → ℕ → ℕ → ℕ
with_byte address cell c = if address % 2 == 0 then cell - cell % 256 + c % 256 else cell % 256 + 256 * (c % 256)

-- fetches the cell once
abbrev pub fetch_byte : ℕ → World → Reply ℕ
fetch_byte address w = fetch address w ▸ λ cell. Gives (byte_of address cell)

-- fetches the cell, then stores it with the low byte of c
abbrev pub store_byte : ℕ → ℕ → World → Reply (Unit {0})
store_byte address c w = fetch address w ▸ λ cell. store address (with_byte address cell c)

-- ---- the fixed cells of data space: BASE first, the hold pointer at 2 and HERE at 4

-- BASE, the radix of numbers
abbrev pub base : World → Reply ℕ
base w = fetch w.data_start w

-- HERE, the address after what data space holds
abbrev pub here : World → Reply ℕ
here w = fetch (w.data_start + 4) w

-- HERE is fetched, and then stored with n more
abbrev pub grow_here : ℕ → World → Reply (Unit {0})
grow_here n w = here w ▸ λ h w. store (w.data_start + 4) (sum_of h n) w
