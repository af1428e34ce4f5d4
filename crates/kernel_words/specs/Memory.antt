-- Data space as cells and bytes by their addresses.
use Rattle.std.specs.Prelude.{◌≡◌, ℕ, zero, suc, ◌-◌, ◌*◌, ◌/◌, ◌≤◌, ◌<◌, ◌==◌, if◌then◌else◌, List, [], ◌∷◌, length, slice_index, slice_set}
use Rattle.forth_program.specs.State.{World, Stored}
use Rattle.forth_program.specs.Access.{byte_of, with_byte}

-- data space lies from 8192 to 16384, and each of its cells has 16 bits
pub record IsDataSpace (w : World) : Type 0 where
  pub start : w.data_start ≡ 8192
  pub room : 4096 ≤ length w.space
  pub cells : (i : ℕ) → slice_index w.space i < 65536

-- the cell and the byte at an address
unfoldable pub data_cell : World → ℕ → ℕ
data_cell w a = slice_index w.space (a / 2 - 4096)

unfoldable pub data_byte : World → ℕ → ℕ
data_byte w a = byte_of a (data_cell w a)

-- n bytes from a on
abbrev pub data_bytes : World → ℕ → ℕ → List ℕ
data_bytes w zero a = []
data_bytes w (suc n) a = data_byte w a ∷ data_bytes w n (suc a)

-- after a store of a cell, and of a byte
unfoldable pub with_data_cell : ℕ → ℕ → World → World
with_data_cell a x w = record w { space = slice_set w.space (a / 2 - 4096) x; made = Stored (2 * (a / 2)) x ∷ w.made }

unfoldable pub with_data_byte : ℕ → ℕ → World → World
with_data_byte a x w = with_data_cell a (with_byte a (data_cell w a) x) w

-- a world that has come from another with no print and no input
pub record KeepsConsole (old new : World) : Type 0 where
  pub space : IsDataSpace new
  pub input : new.input ≡ old.input
  pub printed : new.printed ≡ old.printed

-- how many of the n bytes from a on are c before the first that is not
abbrev pub leading_bytes : World → ℕ → ℕ → ℕ → ℕ
leading_bytes w c zero a = 0
leading_bytes w c (suc n) a = if c == data_byte w a then suc (leading_bytes w c n (suc a)) else 0

-- how many of them come before the first that is c
abbrev pub bytes_before : World → ℕ → ℕ → ℕ → ℕ
bytes_before w c zero a = 0
bytes_before w c (suc n) a = if c == data_byte w a then 0 else suc (bytes_before w c n (suc a))
