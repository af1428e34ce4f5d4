-- Data cells, return entries and worlds whose numbers are cells and bytes.
use Rattle.std.specs.Prelude.{◌≡◌, ℕ, ◌+◌, ◌-◌, ◌/◌, ◌%◌, ◌<◌, ◌≤◌, List, [], ◌∷◌, length, slice_index}
use Rattle.forth_program.specs.State.{Entry, Cell, Loop, World}

abbrev pub AreCells : List ℕ → Type 0
AreCells [] = Unit {0}
AreCells (x ∷ c) = (x < 0x10000) × AreCells c

abbrev pub AreEntries : List Entry → Type 0
AreEntries [] = Unit {0}
AreEntries (Cell value ∷ entries) = (value < 0x10000) × AreEntries entries
AreEntries (Loop limit index ∷ entries) = (limit < 0x10000) × (index < 0x10000) × AreEntries entries

-- data space has the cells from an even address up to 0x4000, with room for the fixed cells and the hold buffer, and the input has bytes
pub record IsWorld (w : World) : Type 0 where
  pub data_start : w.data_start + 128 ≤ 0x4000
  pub aligned : w.data_start % 2 ≡ 0
  pub room : (0x4000 - w.data_start) / 2 ≤ length w.space
  pub space : (i : ℕ) → slice_index w.space i < 0x10000
  pub input : (i : ℕ) → slice_index w.input i < 256
