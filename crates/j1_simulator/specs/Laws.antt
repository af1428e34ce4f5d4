-- What runs and single instructions keep, in the field's words.
use Rattle.std.specs.Prelude.{ℕ, ◌≡◌, ◌↔◌, ◌≤◌, ◌<◌, ◌+◌, ◌%◌, Bool, ◌&&◌, List, [], ◌++◌, length, drop, Option, Some, None, slice_get, slice_index, slice_set}
use Rattle.j1_table.specs.declared.instr.Instr.TheVariants.{Call, Literal}
use Rattle.j1_table.specs.Image.{Content}
use Rattle.j1_table.specs.Instruction.{decoded}
use Rattle.j1_simulator.specs.declared.ends.Event.{Event}
use Rattle.j1_simulator.specs.declared.ends.Event.TheVariants.{WantsByte}
use Rattle.j1_simulator.specs.Effect.{following}
use Rattle.j1_simulator.specs.Step.{Storage, Stop}
use Rattle.j1_simulator.specs.RoundMachine.{RingCells, round_storage}
use Rattle.j1_simulator.specs.OpenMachine.{Tape, open_storage}
use Rattle.j1_simulator.specs.Run.{Configuration, IsPrefixOf, run, round_run, advance}
use Rattle.j1_simulator.specs.MachineState.{MachineState, Steps, WantsAByte, machine_start}
use Rattle.j1_simulator.specs.Drive.{IsAt, counters_fit, driven, told}

-- what was printed after k instructions begins what was printed after n, and an end is an end for good
pub record OnlyGrows {V S : Type 0} (storage : Storage V S) : Type 0 where
  pub prints : (data_start k n : ℕ) (from : Configuration V S) → k ≤ n → IsPrefixOf (run storage data_start k from).printed (run storage data_start n from).printed
  pub ends : (data_start k n : ℕ) (from : Configuration V S) (stop : Stop) → k ≤ n → (run storage data_start k from).stop ≡ Some stop → run storage data_start n from ≡ run storage data_start k from

-- a drive from the start is the run of the round machine
abbrev pub DriveIsRun : Type 0
DriveIsRun = (image : Content) (input : List ℕ) (n : ℕ) → driven (machine_start image) n input ≡ round_run image input n

-- a machine stands at the start of the run
abbrev pub BeginsAtStart : Type 0
BeginsAtStart = (image : Content) (input : List ℕ) → IsAt (round_run image input 0) (counters_fit (round_run image input 0)) (machine_start image) image.data_start (Some input) (Some []) (Some []) []

-- a step answers WantsByte exactly where the next instruction takes a byte and none was given; the machine is then unchanged
abbrev pub WantsExactly : Type 0
WantsExactly = (machine new : MachineState) (event : Event) → Steps machine.ended event machine new → ((event ≡ WantsByte) ↔ WantsAByte machine) × (event ≡ WantsByte → new ≡ machine)

-- a step of a machine that was given nothing, and does not want a byte, is the next instruction of the run; what its event tells is printed
abbrev pub StepIsInstruction : Type 0
StepIsInstruction =
    (from : Configuration ℕ RingCells) (fits : Bool) (machine new : MachineState) (event : Event) (data_start : ℕ) (left before now : Option (List ℕ)) (buffer : List ℕ) →
    IsAt from fits machine data_start left before now buffer → machine.given ≡ None → Steps machine.ended event machine new → (event ≡ WantsByte → ⊥) →
    IsAt (advance data_start from) (fits && counters_fit (advance data_start from)) new data_start left before now (buffer ++ told event) × (new.given ≡ None)

-- the step after a byte was given takes that byte from the input of the run
abbrev pub GivenStepIsInstruction : Type 0
GivenStepIsInstruction =
    (from : Configuration ℕ RingCells) (fits : Bool) (machine given new : MachineState) (byte : Option ℕ) (event : Event) (data_start : ℕ) (input : List ℕ) (before now : Option (List ℕ)) (buffer : List ℕ) →
    IsAt from fits machine data_start (Some input) before now buffer → WantsAByte machine → given ≡ record machine { given = Some byte } → byte ≡ slice_get input 0 → Steps given.ended event given new →
    IsAt (advance data_start from) (fits && counters_fit (advance data_start from)) new data_start (Some (drop 1 input)) before now (buffer ++ told event) × (new.given ≡ None)

-- 32 cells, and a pointer to one of them
pub record IsRing (ring : RingCells) : Type 0 where
  pub size : length ring.cells ≡ 32
  pub within : ring.at < 32

-- the machine is at the cell after this one (cell 0 after cell 8191), with T, N, R's pointer and memory as before
pub record ComesBack (before after : Configuration ℕ RingCells) : Type 0 where
  pub pc : after.core.pc ≡ following before.core.pc
  pub t : after.core.t ≡ before.core.t
  pub data_stack : after.core.data_stack ≡ before.core.data_stack
  pub return_pointer : after.core.return_stack.at ≡ before.core.return_stack.at
  pub memory : after.core.memory ≡ before.core.memory
  pub printed : after.printed ≡ before.printed

-- a call of a cell that returns
abbrev pub CallThenReturn : Type 0
CallThenReturn =
    (data_start target : ℕ) (from : Configuration ℕ RingCells) → from.stop ≡ None → IsRing from.core.data_stack → IsRing from.core.return_stack →
    decoded (slice_index from.core.memory from.core.pc) ≡ Call target → slice_index from.core.memory target ≡ 0x700C →
    ComesBack from (run round_storage data_start 2 from)

-- T and the data ring are as before, but for the place above the pointer, which holds T too
pub record DropsAgain (before after : Configuration ℕ RingCells) : Type 0 where
  pub t : after.core.t ≡ before.core.t
  pub pointer : after.core.data_stack.at ≡ before.core.data_stack.at
  pub cells : after.core.data_stack.cells ≡ slice_set before.core.data_stack.cells ((before.core.data_stack.at + 1) % 32) before.core.t
  pub return_stack : after.core.return_stack ≡ before.core.return_stack
  pub memory : after.core.memory ≡ before.core.memory

-- a literal and then a drop (N, d-1: cell 6103)
abbrev pub LiteralThenDrop : Type 0
LiteralThenDrop =
    (data_start value : ℕ) (from : Configuration ℕ RingCells) → from.stop ≡ None → IsRing from.core.data_stack → IsRing from.core.return_stack →
    decoded (slice_index from.core.memory from.core.pc) ≡ Literal value → slice_index from.core.memory (following from.core.pc) ≡ 0x6103 →
    DropsAgain from (run round_storage data_start 2 from)

-- on the open machine T and every place below are as before
pub record DropsToBelow (before after : Configuration (Option ℕ) Tape) : Type 0 where
  pub t : after.core.t ≡ before.core.t
  pub below : after.core.data_stack.below ≡ before.core.data_stack.below
  pub return_stack : after.core.return_stack.below ≡ before.core.return_stack.below
  pub memory : after.core.memory ≡ before.core.memory

abbrev pub LiteralThenDropBelow : Type 0
LiteralThenDropBelow =
    (data_start value : ℕ) (from : Configuration (Option ℕ) Tape) → from.stop ≡ None →
    decoded (slice_index from.core.memory from.core.pc) ≡ Literal value → slice_index from.core.memory (following from.core.pc) ≡ 0x6103 →
    DropsToBelow from (run open_storage data_start 2 from)
