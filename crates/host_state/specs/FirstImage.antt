-- The data image that a source leaves: its bytes up to the greater of HERE and the place behind the last byte that is not 0.
use Rattle.std.specs.Prelude.{ℕ, ◌+◌, ◌-◌, ◌/◌, ◌%◌, ◌==◌, nat_le, true, false, List, [], ◌∷◌, ◌++◌, length, take, replicate}
use Rattle.host_state.specs.HostCells.{Space}
use Rattle.host_state.specs.HostMemory.{here_of}

-- two bytes for a cell, the low byte first
abbrev pub bytes_of_cells : List ℕ → List ℕ
bytes_of_cells [] = []
bytes_of_cells (cell ∷ cells) = (cell % 256) ∷ (cell / 256 % 256) ∷ bytes_of_cells cells

-- the place behind the last byte that is not 0, where these bytes stand at a place and `used` is so far that place
abbrev pub used_from : ℕ → ℕ → List ℕ → ℕ
used_from place used [] = used
used_from place used (byte ∷ bytes) = elim (byte == 0) [ true ↦ used_from (place + 1) used bytes | false ↦ used_from (place + 1) (place + 1) bytes ]

abbrev pub used_length : List ℕ → ℕ
used_length bytes = used_from 0 0 bytes

abbrev pub greater : ℕ → ℕ → ℕ
greater m n = elim (nat_le m n) [ true ↦ n | false ↦ m ]

-- the first so many bytes; those that are missing are 0
abbrev pub sized : ℕ → List ℕ → List ℕ
sized n bytes = take n bytes ++ replicate (n - length bytes) 0

abbrev pub image_with : ℕ → List ℕ → List ℕ
image_with reserved bytes = sized (greater reserved (used_length bytes)) bytes

abbrev pub image_of : Space → List ℕ
image_of space = image_with (here_of space - space.data_start) (bytes_of_cells space.cells)
