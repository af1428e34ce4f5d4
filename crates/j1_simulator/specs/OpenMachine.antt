-- The open machine, which compilers are proved on: cells may be unknown, and stacks have a place for each whole number,
-- so that nothing wraps.
use Rattle.std.specs.Prelude.{ℕ, ℤ, pos, negsuc, ◌+ℤ◌, zero, suc, List, [], ◌∷◌, Option, Some, None, option_map}
use Rattle.j1_simulator.specs.Step.{Storage}
use Rattle.j1_simulator.specs.RoundMachine.{around}

-- the cells at the pointer and below it, the cells above it, each side unknown past its end, and the pointer
pub record Tape : Type 0 where
  pub below : List (Option ℕ)
  pub above : List (Option ℕ)
  pub at : ℤ

abbrev pub top_cell : List (Option ℕ) → Option ℕ
top_cell [] = None
top_cell (cell ∷ cells) = cell

abbrev pub rest : List (Option ℕ) → List (Option ℕ)
rest [] = []
rest (cell ∷ cells) = cells

-- the cells at the places around a pointer that goes up or down
abbrev pub up : Tape → Tape
up tape = record { below = top_cell tape.above ∷ tape.below; above = rest tape.above; at = tape.at }

abbrev pub down : Tape → Tape
down tape = record { below = rest tape.below; above = top_cell tape.below ∷ tape.above; at = tape.at }

abbrev pub down_times : ℕ → Tape → Tape
down_times zero tape = tape
down_times (suc n) tape = down_times n (down tape)

abbrev pub up_times : ℕ → Tape → Tape
up_times zero tape = tape
up_times (suc n) tape = up_times n (up tape)

abbrev pub passed : ℤ → Tape → Tape
passed (pos n) tape = up_times n tape
passed (negsuc n) tape = down_times (suc n) tape

-- the pointer itself goes by the same sum as the signed counter of the stack
abbrev pub tape_moved : ℤ → Tape → Tape
tape_moved move tape = record { below = (passed move tape).below; above = (passed move tape).above; at = tape.at +ℤ move }

abbrev pub tape_put : Option ℕ → Tape → Tape
tape_put cell tape = record { below = cell ∷ rest tape.below; above = tape.above; at = tape.at }

-- what is computed from an unknown cell is unknown
abbrev pub both_known : (ℕ → ℕ → ℕ) → Option ℕ → Option ℕ → Option ℕ
both_known f (Some t) (Some n) = Some (f t n)
both_known f None n = None
both_known f (Some t) None = None

abbrev pub open_storage : Storage (Option ℕ) Tape
open_storage = record { number = λ n. Some n; on_one = option_map; on_two = both_known; known = λ cell. cell; top = λ tape. top_cell tape.below; moved = tape_moved; put = tape_put; place = λ tape. around tape.at }

-- a stack of unknown cells
abbrev pub blank : Tape
blank = record { below = []; above = []; at = pos 0 }
