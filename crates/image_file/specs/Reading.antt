-- What the parts of reading find.
use Rattle.std.specs.Prelude.{ℕ, ◌+◌, ◌*◌, ◌/◌, ◌-◌, ◌<◌, ◌≤◌, ◌≡◌, ◌⊎◌, List, [], ◌∷◌, ◌++◌, length, take, slice_index}
use Rattle.console_ports.specs.DataSpace.{IsDataStart}
use Rattle.image_file.specs.File.{pair, front}

-- the bytes begin with the front of this data start, which takes so many bytes
pub record StartsAt (bytes : List ℕ) (start len : ℕ) : Type 0 where
  pub fits : IsDataStart start
  pub stands : take len bytes ≡ front start
  pub takes : len ≡ length (front start)
  pub within : len ≤ length bytes
  pub short : len ≤ 12

-- there is no number in two bytes, or it is too large: the first bad offset
abbrev pub IsBadNumber : List ℕ → ℕ → ℕ → ℕ → Type 0
IsBadNumber bytes offset most bad =
    ((length bytes < offset + 2) × (bad ≡ length bytes))
    ⊎ ((offset + 2 ≤ length bytes) × (most < slice_index bytes offset + 256 * slice_index bytes (offset + 1)) × (bad ≡ offset + 1))

-- the bytes begin with the front and the counts, which take so many bytes
pub record IsHead (bytes : List ℕ) (start cells count len : ℕ) : Type 0 where
  pub fits : IsDataStart start
  pub code : cells ≤ start / 2
  pub space : count ≤ 16384 - start
  pub stands : take len bytes ≡ (front start ++ pair cells) ++ pair count
  pub within : len ≤ length bytes
  pub short : len ≤ 12

-- the cells of bytes, two by two
abbrev pub cells_of : List ℕ → List ℕ
cells_of [] = []
cells_of (low ∷ []) = []
cells_of (low ∷ high ∷ bytes) = (low + 256 * high) ∷ cells_of bytes
