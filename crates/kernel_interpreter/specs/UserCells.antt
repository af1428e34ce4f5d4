-- The user's cells in data space, as the stack that they are, and changes of single cells.
use Rattle.std.specs.Prelude.{◌≡◌, ◌≢◌, ℕ, ◌+◌, ◌*◌, ◌/◌, ◌≤◌, List, [], ◌∷◌, length}
use Rattle.forth_program.specs.State.{World}
use Rattle.kernel_words.specs.Memory.{KeepsConsole, data_cell, data_byte}
use Rattle.kernel_lines.specs.Places.{user_count_cell}

-- these cells stand in memory, the newest first and highest
abbrev pub StandUp : World → List ℕ → Type 0
StandUp w [] = Unit {0}
StandUp w (x ∷ cells) = (data_cell w (user_count_cell + 2 * length (x ∷ cells)) ≡ x) × StandUp w cells

-- the user's cells are these, the newest first
pub record HasUserCells (w : World) (cells : List ℕ) : Type 0 where
  pub count : data_cell w user_count_cell ≡ length cells
  pub stand : StandUp w cells

-- one world has come from another by a change of the cell at an address alone, to x
pub record OneCellChanged (old new : World) (a x : ℕ) : Type 0 where
  pub console : KeepsConsole old new
  pub cell : data_cell new a ≡ x
  pub rest : (b : ℕ) → 8192 ≤ b → b / 2 ≢ a / 2 → data_byte new b ≡ data_byte old b

-- by a change of the number of the user's cells and of the newest of them alone: x has come on top of n cells
pub record CellIsPushed (old new : World) (n x : ℕ) : Type 0 where
  pub console : KeepsConsole old new
  pub count : data_cell new user_count_cell ≡ n + 1
  pub cell : data_cell new (user_count_cell + 2 * (n + 1)) ≡ x
  pub rest : (b : ℕ) → 8192 ≤ b → b / 2 ≢ user_count_cell / 2 → b / 2 ≢ (user_count_cell + 2 * (n + 1)) / 2 →
      data_byte new b ≡ data_byte old b
