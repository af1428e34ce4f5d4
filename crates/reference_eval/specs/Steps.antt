-- How a memory stands, and what changes a world without an access.
use Rattle.std.specs.Prelude.{ℕ, ◌≡◌, ◌+◌, ◌-◌, ◌/◌, ◌%◌, nat_le, Bool, ◌&&◌, [], ◌∷◌, ◌++◌, length}
use Rattle.console_ports.specs.DataSpace.{IsDataStart}
use Rattle.forth_program.specs.State.{World, Stored}
use Rattle.reference_eval.specs.Outside.{MemoryState}

pub record IsMemory (m : MemoryState) : Type 0 where
  pub start : IsDataStart m.data_start
  pub room : length m.space ≡ (0x4000 - m.data_start) / 2

-- whether an address lies in the hold buffer
abbrev pub is_in_hold_buffer : ℕ → ℕ → Bool
is_in_hold_buffer data_start address = nat_le (data_start + 16) address && nat_le address (data_start + 95)

abbrev pub IsSame : World → World → Type 0
IsSame w later = later ≡ w

-- the low byte of a cell is printed
abbrev pub Prints : ℕ → World → World → Type 0
Prints x w later = later ≡ record w { printed = w.printed ++ x % 256 ∷ []; made = Stored 0x4000 x ∷ w.made }
