-- Headers: a chain in data space, the newest first. A header has the address of the older one, the address of its code, the length of its
-- name in a byte, a byte that is 1 where the word is immediate and else 0, and the name.
use Rattle.std.specs.Prelude.{◌≡◌, ℕ, ◌+◌, ◌%◌, ◌≤◌, ◌<◌, Bool, if◌then◌else◌, List, [], ◌∷◌}
use Rattle.std.specs.Str.{str_eq_ignore_ascii_case}
use Rattle.forth_program.specs.State.{World}
use Rattle.kernel_words.specs.Places.{line_buffer}
use Rattle.kernel_words.specs.Memory.{data_cell, data_byte, data_bytes}

-- what a header tells
pub record Header : Type 0 where
  pub name : List ℕ
  pub code : ℕ
  pub immediate : Bool

-- the header at h tells this
pub record IsHeader (w : World) (h : ℕ) (header : Header) : Type 0 where
  pub even : h % 2 ≡ 0
  pub low : line_buffer ≤ h
  pub high : h + 6 + data_byte w (h + 4) ≤ 16384
  pub older : data_cell w h < h
  pub code : data_cell w (h + 2) ≡ header.code
  pub some : 1 ≤ data_byte w (h + 4)
  pub few : data_byte w (h + 4) ≤ 31
  pub immediate : data_byte w (h + 5) ≡ (if header.immediate then 1 else 0)
  pub name : data_bytes w (data_byte w (h + 4)) (h + 6) ≡ header.name

-- from h on the chain is this list
abbrev pub Headers : World → ℕ → List Header → Type 0
Headers w h [] = h ≡ 0
Headers w h (header ∷ older) = IsHeader w h header × Headers w (data_cell w h) older

-- what K-FIND leaves above the cells c: the code of the first header with a name, letters without case, and 1 where it is immediate, else -1;
-- or the address of the name and 0
abbrev pub find_answer : List Header → List ℕ → ℕ → List ℕ → List ℕ
find_answer [] name a c = 0 ∷ a ∷ c
find_answer (header ∷ older) name a c =
    if str_eq_ignore_ascii_case header.name name then ((if header.immediate then 1 else 65535) ∷ header.code ∷ c) else find_answer older name a c
