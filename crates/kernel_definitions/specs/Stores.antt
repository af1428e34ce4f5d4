-- Data space behind stores of cells.
use Rattle.std.specs.Prelude.{◌≡◌, ℕ, ◌+◌, ◌*◌, ◌/◌, ◌%◌, ◌≤◌, ◌<◌, List, [], ◌∷◌}
use Rattle.forth_program.specs.State.{World}
use Rattle.kernel_words.specs.Places.{here_cell}
use Rattle.kernel_words.specs.Memory.{IsDataSpace, data_cell, with_data_cell}
use Rattle.kernel_lines.specs.Places.{open_count_cell}
use Rattle.kernel_definitions.specs.Places.{structures}

-- behind these stores, each an address and a cell, the newest first
abbrev pub stored : List (ℕ × ℕ) → World → World
stored [] w = w
stored (store ∷ earlier) w = with_data_cell store.0 store.1 (stored earlier w)

-- a cell is laid at h, which is HERE
abbrev pub laid : ℕ → ℕ → List (ℕ × ℕ)
laid h x = (here_cell, h + 2) ∷ (h, x) ∷ []

-- the address of an entry of the open structures, from 0: its kind, and behind it its place
abbrev pub entry : ℕ → ℕ
entry n = structures + 4 * n

-- a structure is opened where n entries are, and closed where n are left
abbrev pub opened : ℕ → ℕ → ℕ → List (ℕ × ℕ)
opened n kind place = (open_count_cell, n + 1) ∷ (entry n + 2, place) ∷ (entry n, kind) ∷ []

abbrev pub closed : ℕ → List (ℕ × ℕ)
closed n = (open_count_cell, n) ∷ []

-- HERE is h, an even address behind the open structures, and there is room for n bytes
pub record HasRoom (w : World) (h n : ℕ) : Type 0 where
  pub space : IsDataSpace w
  pub here : data_cell w here_cell ≡ h
  pub even : h % 2 ≡ 0
  pub low : 8640 ≤ h
  pub high : h + n ≤ 16384

-- n entries are open, and there is room for one more
pub record MayOpen (w : World) (n : ℕ) : Type 0 where
  pub count : data_cell w open_count_cell ≡ n
  pub few : n < 16

-- the newest of n + 1 entries
pub record IsNewest (w : World) (n kind place : ℕ) : Type 0 where
  pub count : data_cell w open_count_cell ≡ n + 1
  pub few : n < 16
  pub kind_is : data_cell w (entry n) ≡ kind
  pub place_is : data_cell w (entry n + 2) ≡ place

-- the cell x at a place of the code, to which half of an address is added: it stays a cell
pub record IsPatched (w : World) (place x address : ℕ) : Type 0 where
  pub cell : data_cell w place ≡ x
  pub low : 8640 ≤ place
  pub high : place < 16384
  pub fits : x + address / 2 < 65536
