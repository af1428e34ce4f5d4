-- Fetches and stores of host words. All of them are in data space; an address without bit 0 is that of a cell.
use Rattle.std.specs.Prelude.{ℕ, ◌+◌, ◌-◌, ◌/◌, nat_le, nat_lt, Bool, true, false, ◌&&◌, [], ◌∷◌}
use Rattle.cell_math.specs.Cell.{sum_of}
use Rattle.console_ports.specs.Ports.{even}
use Rattle.forth_program.specs.Access.{byte_of, with_byte}
use Rattle.host_state.specs.declared.refusal.HostRefusal.TheVariants as refusal
use Rattle.host_state.specs.HostCells.{Space, cell_at, with_cell, Host, Reply, Gives, Refuses, ◌▸◌}

-- whether an address is in data space, which goes up to 16383
abbrev pub is_inside : ℕ → ℕ → Bool
is_inside data_start address = nat_le data_start (even address) && nat_lt address 16384

-- the place of a cell in data space
abbrev pub place_of : ℕ → ℕ → ℕ
place_of data_start address = (address - data_start) / 2

abbrev pub cell_in : Space → ℕ → ℕ
cell_in space address = cell_at space.cells (place_of space.data_start address)

abbrev pub with_cell_in : Space → ℕ → ℕ → Space
with_cell_in space address x = record space { cells = with_cell space.cells (place_of space.data_start address) x }

abbrev pub fetch : ℕ → Host → Reply ℕ
fetch address s = elim (is_inside s.space.data_start address) [
  | true ↦ Gives (cell_in s.space address) s
  | false ↦ Refuses refusal.DataFull
]

abbrev pub store : ℕ → ℕ → Host → Reply (Unit {0})
store address x s = elim (is_inside s.space.data_start address) [
  | true ↦ Gives tt (record s { space = with_cell_in s.space address x })
  | false ↦ Refuses refusal.DataFull
]

-- the byte at an odd address is the high byte of its cell
abbrev pub fetch_byte : ℕ → Host → Reply ℕ
fetch_byte address s = fetch address s ▸ λ cell. Gives (byte_of address cell)

abbrev pub store_byte : ℕ → ℕ → Host → Reply (Unit {0})
store_byte address c s = fetch address s ▸ λ cell. store address (with_byte address cell c)

-- ---- the fixed cells: BASE first, the hold pointer at 2 and HERE at 4

abbrev pub base_of : Space → ℕ
base_of space = cell_in space space.data_start

abbrev pub here_of : Space → ℕ
here_of space = cell_in space (space.data_start + 4)

abbrev pub here : Host → Reply ℕ
here s = fetch (s.space.data_start + 4) s

abbrev pub set_here : ℕ → Host → Reply (Unit {0})
set_here address s = store (s.space.data_start + 4) address s

abbrev pub grow_here : ℕ → Host → Reply (Unit {0})
grow_here n s = here s ▸ λ h. set_here (sum_of h n)

-- HERE at the next even address
abbrev pub align : Host → Reply (Unit {0})
align s = here s ▸ λ h. set_here (even (sum_of h 1))

-- a cell at HERE, and HERE past it
abbrev pub comma : ℕ → Host → Reply (Unit {0})
comma x s = here s ▸ λ h s. store h x s ▸ λ _. grow_here 2

-- a byte at HERE, and HERE past it
abbrev pub comma_byte : ℕ → Host → Reply (Unit {0})
comma_byte c s = here s ▸ λ h s. store_byte h c s ▸ λ _. grow_here 1

-- after each token HERE is one of the addresses from the first free byte to the end of data space
abbrev pub is_here_within : Space → Bool
is_here_within space = nat_le (space.data_start + 128) (here_of space) && nat_le (here_of space) 16384

abbrev pub check_here : Host → Reply (Unit {0})
check_here s = elim (is_here_within s.space) [ true ↦ Gives tt s | false ↦ Refuses refusal.DataFull ]

-- what a word leaves, where HERE is then within data space
abbrev pub checked : {A : Type 0} → Reply A → Reply A
checked reply = reply ▸ λ x s. check_here s ▸ λ _. Gives x

-- data space at first: BASE is ten, the hold pointer stands at the end of its buffer and HERE behind the fixed cells
abbrev pub first_space : ℕ → Space
first_space data_start = record { data_start = data_start; cells = 10 ∷ (data_start + 96) ∷ (data_start + 128) ∷ [] }
