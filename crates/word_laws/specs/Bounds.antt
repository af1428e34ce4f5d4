-- Both counters within bounds before each instruction.
use Rattle.std.specs.Prelude.{ℕ, ◌+◌, ◌≤◌, ◌≡◌, ◌∷◌, pos, Some, None}
use Rattle.j1_simulator.specs.Step.{Stop, effect_at}
use Rattle.j1_simulator.specs.OpenMachine.{open_storage}
use Rattle.j1_simulator.specs.Run.{run}
use Rattle.word_laws.specs.Rings.{OpenConfiguration, BeforeEach, FitsRings, KnownWithin, WritesAbove, writes_return}

-- the data counter stands from low to high and the return counter from return_low to return_high; all known data cells, T among
-- them, are the topmost high, and all known return cells the topmost return_high; and an instruction that moves a pointer up
-- writes the place that it comes to
pub record StaysWithin (low high return_low return_high : ℕ) (w : OpenConfiguration) : Type 0 where
  pub depth : ℕ
  pub return_depth : ℕ
  pub depth_is : w.data_depth ≡ pos depth
  pub return_depth_is : w.return_depth ≡ pos return_depth
  pub at_least : low ≤ depth
  pub at_most : depth ≤ high
  pub return_at_least : return_low ≤ return_depth
  pub return_at_most : return_depth ≤ return_high
  pub known : KnownWithin high (w.core.t ∷ w.core.data_stack.below)
  pub return_known : KnownWithin return_high w.core.return_stack.below
  pub data_writes : w.stop ≡ None → WritesAbove (effect_at w.core).data_move (effect_at w.core).t_to_n
  pub return_writes : w.stop ≡ None → WritesAbove (effect_at w.core).return_move (writes_return (effect_at w.core).return_write)

-- a + b instructions are a and then b more
abbrev pub RunsJoin : Type 0
RunsJoin = (a b data_start : ℕ) (w : OpenConfiguration) → run open_storage data_start (a + b) w ≡ run open_storage data_start b (run open_storage data_start a w)

-- and what stays within bounds in both parts does so in all
abbrev pub BoundsJoin : Type 0
BoundsJoin =
    (low high return_low return_high a b data_start : ℕ) (w : OpenConfiguration) →
    BeforeEach (StaysWithin low high return_low return_high) data_start a w →
    BeforeEach (StaysWithin low high return_low return_high) data_start b (run open_storage data_start a w) →
    BeforeEach (StaysWithin low high return_low return_high) data_start (a + b) w

-- what stays within bounds stays within wider ones
abbrev pub BoundsWiden : Type 0
BoundsWiden =
    (low high return_low return_high low' high' return_low' return_high' n data_start : ℕ) (w : OpenConfiguration) →
    low' ≤ low → high ≤ high' → return_low' ≤ return_low → return_high ≤ return_high' →
    BeforeEach (StaysWithin low high return_low return_high) data_start n w → BeforeEach (StaysWithin low' high' return_low' return_high') data_start n w

-- what stays within 33 data cells, T among them, and 32 return cells uses no place of the rings twice
abbrev pub BoundsFitRings : Type 0
BoundsFitRings =
    (low high return_low return_high n data_start : ℕ) (w : OpenConfiguration) → high ≤ 33 → return_high ≤ 32 →
    BeforeEach (StaysWithin low high return_low return_high) data_start n w → BeforeEach FitsRings data_start n w

-- a machine that has ended stays as it is
abbrev pub EndsStay : Type 0
EndsStay =
    (low high return_low return_high n data_start : ℕ) (w : OpenConfiguration) (stop : Stop) → w.stop ≡ Some stop →
    (run open_storage data_start n w ≡ w) × (StaysWithin low high return_low return_high w → BeforeEach (StaysWithin low high return_low return_high) data_start n w)
