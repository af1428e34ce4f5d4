-- Runs in two parts, wider bounds, and cells that stand in code.
use Rattle.std.proofs.Common.{◌≡◌, ℕ, ◌+◌, ◌<◌, ◌≤◌, List, [], ◌∷◌, ◌++◌, length, refl, sym, ap, ◌∙◌, append_assoc, length-append, arith}
use Rattle.std.specs.Prelude.{slice_index}
use Rattle.std.proofs.Math.Seq.{get_or-append_seam}
use Rattle.j1_simulator.specs.Effect.{following}
use Rattle.word_laws.specs.Rings.{OpenConfiguration, FitsRings}
use Rattle.word_laws.specs.Bounds.{StaysWithin, RunsJoin, BoundsJoin, BoundsWiden, BoundsFitRings, EndsStay}
use Rattle.word_laws.specs.Standing.{StandIn, CellsStand}
use Rattle.word_laws.proofs.Heights.{height_le}
use Rattle.word_laws.proofs.Straight.{run_more, each_joins, each_weaker, each_stays}
use Rattle.word_laws.proofs.BothMachines.{run_stays}
use Rattle.word_laws.proofs.CellRows.{each_widens}

pub runs_join : RunsJoin
runs_join a b data_start w = run_more a b data_start w

pub bounds_join : BoundsJoin
bounds_join low high return_low return_high a b data_start w g h = each_joins (StaysWithin low high return_low return_high) a b data_start w g h

pub bounds_widen : BoundsWiden
bounds_widen low high return_low return_high low' high' return_low' return_high' n data_start w a b c d g =
    each_widens data_start low high return_low return_high low' high' return_low' return_high' n w a b c d g

fits : (low high return_low return_high : ℕ) → high ≤ 33 → return_high ≤ 32 → (w : OpenConfiguration) → StaysWithin low high return_low return_high w → FitsRings w
fits low high return_low return_high le le' w s =
    record {
      data_within = height_le high 33 (w.core.t ∷ w.core.data_stack.below) le s.known;
      return_within = height_le return_high 32 w.core.return_stack.below le' s.return_known;
      data_writes = s.data_writes;
      return_writes = s.return_writes;
    }

pub bounds_fit_rings : BoundsFitRings
bounds_fit_rings low high return_low return_high n data_start w le le' g =
    each_weaker (StaysWithin low high return_low return_high) FitsRings (fits low high return_low return_high le le') n data_start w g

pub ends_stay : EndsStay
ends_stay low high return_low return_high n data_start w stop e = (run_stays n data_start stop w e, λ h. each_stays (StaysWithin low high return_low return_high) data_start n stop w e h)

follows : (place : ℕ) → place < 0x1fff → following place ≡ place + 1
follows place h = omega arith

stand_in : (code before cells after : List ℕ) (place next : ℕ) → code ≡ before ++ (cells ++ after) → place ≡ length before → next ≡ place + length cells → next < 0x2000 → StandIn code place cells next
stand_in code before [] after place next e l n h = omega (arith, n)
stand_in code before (cell ∷ cells) after place next e l n h =
    let f = follows place (omega (arith, n)) in
    let within : length code ≡ length before + (length cells + length after + 1) = ap length e ∙ simp length-append (omega arith) in (
      ap (λ m. slice_index m place) e ∙ ap (λ k. slice_index (before ++ cell ∷ (cells ++ after)) k) l ∙ get_or-append_seam before cell (cells ++ after) 0,
      omega (arith, within, l),
      stand_in code (before ++ cell ∷ []) cells after (following place) next (e ∙ sym (append_assoc before (cell ∷ []) (cells ++ after))) (f ∙ simp length-append (omega (arith, l))) (omega (arith, f, n)) h,
    )

pub cells_stand : CellsStand
cells_stand before cells after h = stand_in (before ++ (cells ++ after)) before cells after (length before) (length before + length cells) refl refl refl h
