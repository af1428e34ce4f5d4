-- When the round machine does what the open machine does: where no place of a ring is used twice.
use Rattle.std.specs.Prelude.{ℕ, zero, suc, ◌+◌, ◌-◌, ◌%◌, ◌<◌, ◌≤◌, ◌≡◌, ◌≢◌, Bool, true, false, List, [], ◌∷◌, length, get_or, slice_index, slice_set, ℤ, pos, negsuc, Option, Some, None}
use Rattle.j1_table.specs.Image.{Content}
use Rattle.j1_simulator.specs.declared.effects.ReturnWrite.{ReturnWrite}
use Rattle.j1_simulator.specs.declared.effects.ReturnWrite.TheVariants.{Nothing, OldTop, ReturnTo}
use Rattle.j1_simulator.specs.Step.{Core, Missing, effect_at}
use Rattle.j1_simulator.specs.OpenMachine.{Tape, tape_moved, open_storage}
use Rattle.j1_simulator.specs.RoundMachine.{RingCells, ring_moved, round_storage, around}
use Rattle.j1_simulator.specs.Run.{Configuration, advanced, begun, open_start, open_run, round_run}

abbrev pub OpenConfiguration : Type 0
OpenConfiguration = Configuration (Option ℕ) Tape

-- a property of the open machine before each of n instructions
abbrev pub BeforeEach : (OpenConfiguration → Type 0) → ℕ → ℕ → OpenConfiguration → Type 0
BeforeEach P data_start zero w = Unit {0}
BeforeEach P data_start (suc n) w = P w × BeforeEach P data_start n (advanced w.stop open_storage data_start w)

-- all known cells are among the first h
abbrev pub KnownWithin : ℕ → List (Option ℕ) → Type 0
KnownWithin zero [] = Unit {0}
KnownWithin zero (cell ∷ cells) = (cell ≡ None) × KnownWithin zero cells
KnownWithin (suc h) [] = Unit {0}
KnownWithin (suc h) (cell ∷ cells) = KnownWithin h cells

-- a pointer that goes up goes by one, to a place that is written
abbrev pub WritesAbove : ℤ → Bool → Type 0
WritesAbove (pos zero) writes = Unit {0}
WritesAbove (pos (suc zero)) writes = writes ≡ true
WritesAbove (pos (suc (suc n))) writes = ⊥
WritesAbove (negsuc zero) writes = Unit {0}
WritesAbove (negsuc (suc zero)) writes = Unit {0}
WritesAbove (negsuc (suc (suc n))) writes = ⊥

abbrev pub writes_return : ReturnWrite → Bool
writes_return Nothing = false
writes_return OldTop = true
writes_return (ReturnTo address) = true

-- no place of a ring is used twice: all that is known stands within 32 places at and below each pointer, and the next
-- instruction reads nothing that was left above
pub record FitsRings (w : OpenConfiguration) : Type 0 where
  pub data_within : KnownWithin 32 w.core.data_stack.below
  pub return_within : KnownWithin 32 w.core.return_stack.below
  pub data_writes : w.stop ≡ None → WritesAbove (effect_at w.core).data_move (effect_at w.core).t_to_n
  pub return_writes : w.stop ≡ None → WritesAbove (effect_at w.core).return_move (writes_return (effect_at w.core).return_write)

-- a cell is unknown, or has this number
abbrev pub CellAgrees : Option ℕ → ℕ → Type 0
CellAgrees None x = Unit {0}
CellAgrees (Some v) x = v ≡ x

-- the ring's place that is j below its pointer
abbrev pub place_below : ℕ → RingCells → ℕ
place_below j ring = (ring.at + 32 - j) % 32

-- the ring has each known cell of the 32 places at and below the pointer; nothing is said of what is above
pub record StackAgrees (tape : Tape) (ring : RingCells) : Type 0 where
  pub at : ring.at ≡ around tape.at
  pub size : length ring.cells ≡ 32
  pub low : ring.at < 32
  pub cells : (j : ℕ) → j < 32 → CellAgrees (get_or tape.below j None) (slice_index ring.cells (place_below j ring))

pub record CoreAgrees (open_core : Core (Option ℕ) Tape) (round_core : Core ℕ RingCells) : Type 0 where
  pub pc : open_core.pc ≡ round_core.pc
  pub t : CellAgrees open_core.t round_core.t
  pub data_stack : StackAgrees open_core.data_stack round_core.data_stack
  pub return_stack : StackAgrees open_core.return_stack round_core.return_stack
  pub memory : open_core.memory ≡ round_core.memory

-- the two machines stand alike: all that the open machine knows is so on the round one, and memory, input, prints,
-- counters and end are equal
pub record Agrees (w : OpenConfiguration) (r : Configuration ℕ RingCells) : Type 0 where
  pub core : CoreAgrees w.core r.core
  pub input : w.input ≡ r.input
  pub printed : w.printed ≡ r.printed
  pub data_depth : w.data_depth ≡ r.data_depth
  pub return_depth : w.return_depth ≡ r.return_depth
  pub stop : w.stop ≡ r.stop

-- where no place is used twice, both machines do the same at one instruction, unless it needs an unknown cell
abbrev pub InstructionDoesTheSame : Type 0
InstructionDoesTheSame =
    (data_start : ℕ) (w : OpenConfiguration) (r : Configuration ℕ RingCells) → Agrees w r → FitsRings w →
    (advanced w.stop open_storage data_start w).stop ≢ Some Missing →
    Agrees (advanced w.stop open_storage data_start w) (advanced r.stop round_storage data_start r)

-- for any image: where no place is used twice before any of n instructions, and no unknown cell is needed, the runs agree
abbrev pub RunsDoTheSame : Type 0
RunsDoTheSame =
    (image : Content) (input : List ℕ) (n : ℕ) → BeforeEach FitsRings image.data_start n (begun (open_start image) input) →
    (open_run image input n).stop ≢ Some Missing → Agrees (open_run image input n) (round_run image input n)

-- a pointer goes down by one, on the ring as on the stack without end
abbrev pub PointersGoDown : Type 0
PointersGoDown =
    (tape : Tape) (ring : RingCells) → StackAgrees tape ring → KnownWithin 32 tape.below → StackAgrees (tape_moved (negsuc 0) tape) (ring_moved (negsuc 0) ring)

-- other cells of a ring, where so many places at the pointer and below it are kept
abbrev pub kept_below : ℕ → RingCells → List ℕ → List ℕ
kept_below zero ring others = others
kept_below (suc j) ring others = slice_set (kept_below j ring others) (place_below j ring) (slice_index ring.cells (place_below j ring))

-- where all that is known stands in the places that are kept, the cells of the others may be any
abbrev pub PlacesAreKept : Type 0
PlacesAreKept =
    (kept : ℕ) (tape : Tape) (ring : RingCells) (above : List (Option ℕ)) (others : List ℕ) → length others ≡ 32 → KnownWithin kept tape.below → StackAgrees tape ring →
    StackAgrees (record tape { above = above }) (record ring { cells = kept_below kept ring others })

-- both counters stand within the places of their stacks, T among those of data
pub record CountersFit (w : OpenConfiguration) : Type 0 where
  pub depth : ℕ
  pub return_depth : ℕ
  pub depth_is : w.data_depth ≡ pos depth
  pub return_depth_is : w.return_depth ≡ pos return_depth
  pub at_most : depth ≤ 33
  pub return_at_most : return_depth ≤ 32

-- counters are not enough: an image whose counters fit at each of n + 1 moments, and which needs no unknown cell, while the machines
-- print otherwise
pub record CountersMislead : Type 0 where
  pub image : Content
  pub n : ℕ
  pub counters : BeforeEach CountersFit image.data_start (suc n) (begun (open_start image) [])
  pub goes_on : (open_run image [] n).stop ≡ None
  pub prints : (open_run image [] n).printed ≢ (round_run image [] n).printed
