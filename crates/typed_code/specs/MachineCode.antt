-- The machine code that the kernel of the interactive Forth has around a typed word, and the cells of the user that it works on.
-- A place is that of a cell in memory, half its address.
use Rattle.std.specs.Prelude.{ℕ, ◌+◌, ◌*◌, ◌%◌, ◌≡◌, List, [], ◌∷◌, length, slice_index, slice_set}

-- the places of USER-CELLS, RETURN-BASE and the routines
abbrev pub user_cells : ℕ
user_cells = 4251

abbrev pub return_base : ℕ
return_base = 4283

abbrev pub drop_return : ℕ
drop_return = 4440

abbrev pub save : ℕ
save = 4442

abbrev pub save_cells : ℕ
save_cells = 4448

abbrev pub load_more : ℕ
load_more = 4460

abbrev pub load : ℕ
load = 4465

abbrev pub run_code : ℕ
run_code = 4475

abbrev pub run_call : ℕ
run_call = 4480

-- the cell of a call, of a branch, and of a literal of an address
abbrev call_of : ℕ → ℕ
call_of place = 0x4000 + place

abbrev branch_to : ℕ → ℕ
branch_to place = 0x2000 + place

abbrev address_of : ℕ → ℕ
address_of place = 0x8000 + 2 * place

-- these cells stand in memory from a place on
abbrev pub HasCells : List ℕ → ℕ → List ℕ → Type 0
HasCells memory place [] = Unit {0}
HasCells memory place (cell ∷ cells) = (slice_index memory place ≡ cell) × HasCells memory (place + 1) cells

-- DROP-RETURN: drop, return
abbrev pub drop_return_code : List ℕ
drop_return_code = 0x6103 ∷ 0x700C ∷ []

-- SAVE: depth 31 and, stored as the number of cells
abbrev pub save_code : List ℕ
save_code = 0x6E81 ∷ 0x801F ∷ 0x6303 ∷ address_of user_cells ∷ 0x6023 ∷ 0x6103 ∷ []

-- SAVE-CELLS: depth 31 and, dup, branch to DROP-RETURN; twice that on from the number the top cell is stored; and so on
abbrev pub save_cells_code : List ℕ
save_cells_code = 0x6E81 ∷ 0x801F ∷ 0x6303 ∷ 0x6081 ∷ branch_to drop_return ∷ 0x8001 ∷ 0x6D03 ∷ address_of user_cells ∷ 0x6203 ∷ 0x6023 ∷ 0x6103 ∷ save_cells ∷ []

-- LOAD-MORE: twice the number on top on from the first cell, fetched
abbrev pub load_more_code : List ℕ
load_more_code = 0x8001 ∷ 0x6D03 ∷ address_of (user_cells + 1) ∷ 0x6203 ∷ 0x6C00 ∷ []

-- LOAD: depth 31 and, dup, compared with the number of cells; branch to LOAD-MORE; drop, return
abbrev pub load_code : List ℕ
load_code = 0x6E81 ∷ 0x801F ∷ 0x6303 ∷ 0x6081 ∷ address_of user_cells ∷ 0x6C00 ∷ 0x6703 ∷ branch_to load_more ∷ 0x6103 ∷ 0x700C ∷ []

-- RUN-CODE: the pointers, stored; call of LOAD. Behind it stands RUN-CALL, the call of the word
abbrev pub run_code_code : List ℕ
run_code_code = 0x6E81 ∷ address_of return_base ∷ 0x6023 ∷ 0x6103 ∷ call_of load ∷ []

-- a whole memory has this code at its places
pub record HasMachineCode (memory : List ℕ) : Type 0 where
  pub size : length memory ≡ 0x2000
  pub drop_return_cells : HasCells memory drop_return drop_return_code
  pub save_cells_first : HasCells memory save save_code
  pub save_cells_more : HasCells memory save_cells save_cells_code
  pub load_more_cells : HasCells memory load_more load_more_code
  pub load_cells : HasCells memory load load_code
  pub run_code_cells : HasCells memory run_code run_code_code
  pub behind_call : HasCells memory (run_call + 1) (save ∷ [])

-- cells stand one behind the other, the oldest, which is the last of the list, first
abbrev pub StandUp : List ℕ → List ℕ → Type 0
StandUp memory [] = Unit {0}
StandUp memory (x ∷ c) = (slice_index memory (user_cells + length (x ∷ c)) ≡ x) × StandUp memory c

-- the user's cells: their number, and behind it the cells from the oldest on
pub record HasUserCells (memory c : List ℕ) : Type 0 where
  pub number : slice_index memory user_cells ≡ length c
  pub cells : StandUp memory c

-- memory behind storing the cells alone, and with their number
abbrev pub with_cells : List ℕ → List ℕ → List ℕ
with_cells [] memory = memory
with_cells (x ∷ c) memory = with_cells c (slice_set memory (user_cells + length (x ∷ c)) x)

abbrev pub saved : List ℕ → List ℕ → List ℕ
saved c memory = with_cells c (slice_set memory user_cells (length c))

-- memory with the pointers kept, where there are so many return cells and no data cell
abbrev pub with_return_base : ℕ → List ℕ → List ℕ
with_return_base returns memory = slice_set memory return_base (returns % 32 * 256)
