-- How many turns a DO loop with a known limit and start makes, where it is not left early.
use Rattle.std.specs.Prelude.{◌≡◌, ℕ, zero, suc, Bool, true, false, ◌+◌, ◌-◌, ◌/◌, nat_lt, ◌==◌, if◌then◌else◌, Option, Some, None}
use Rattle.cell_math.specs.Cell.{sum_of, difference_of, signed}
use Rattle.forth_program.specs.Step.{crosses}

-- the distance from the start up to the limit, modulo 65536; it is 65536 where they are equal
abbrev pub distance_up : ℕ → ℕ → ℕ
distance_up limit start = 65536 - difference_of start limit

-- the turns by a step of so many up, and of so many down: the index must pass from limit - 1 to limit, or from limit to limit - 1
abbrev pub turns_up : ℕ → ℕ → ℕ → ℕ
turns_up limit start up = (distance_up limit start + (up - 1)) / up

abbrev pub turns_down : ℕ → ℕ → ℕ → ℕ
turns_down limit start down = difference_of start limit / down + 1

-- the turns by a step, a signed cell; a step of 0 has no number of turns
abbrev pub turns : ℕ → ℕ → ℕ → Option ℕ
turns limit start step =
    if step == 0 then None
    else (if nat_lt step 32768 then Some (turns_up limit start step)
    else (if nat_lt step 65536 then Some (turns_down limit start (65536 - step))
    else None))

-- ---- what these numbers count

-- whether a loop ends at a turn, by the index there
abbrev pub ends_at : ℕ → ℕ → ℕ → Bool
ends_at limit step index = crosses (signed (difference_of index limit)) (signed step)

-- from an index on a loop that is not left early makes exactly so many turns: it ends at the last of them
abbrev pub MakesTurns : ℕ → ℕ → ℕ → ℕ → Type 0
MakesTurns limit step zero index = ⊥
MakesTurns limit step (suc zero) index = ends_at limit step index ≡ true
MakesTurns limit step (suc (suc n)) index = (ends_at limit step index ≡ false) × MakesTurns limit step (suc n) (sum_of index step)

-- a loop makes these turns by LOOP and by a step, and by a step of 0 it ends at no turn
pub record TurnsAreCounted : Type 0 where
  pub by_one : (limit start : ℕ) → MakesTurns limit 1 (distance_up limit start) start
  pub by_step : (limit start step n : ℕ) → turns limit start step ≡ Some n → MakesTurns limit step n start
  pub by_none : (limit index : ℕ) → ends_at limit 0 index ≡ false
