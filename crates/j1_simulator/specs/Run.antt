-- Whole runs: n instructions, with the bytes that they take and print.
use Rattle.std.specs.Prelude.{◌≡◌, ℕ, zero, suc, ◌-◌, ◌/◌, ℤ, pos, ◌+ℤ◌, List, [], ◌∷◌, ◌++◌, Option, Some, None}
use Rattle.cell_math.specs.Bytes.{cells_of_bytes, filled}
use Rattle.j1_table.specs.Image.{Content}
use Rattle.j1_simulator.specs.Step.{Storage, Core, Stop, By, Transition, Advances, Takes, Terminates, applied, effect_at}
use Rattle.j1_simulator.specs.declared.effects.Effect.{Effect}
use Rattle.j1_simulator.specs.declared.ends.End.TheVariants as ends
use Rattle.j1_simulator.specs.declared.effects.Output.{Output}
use Rattle.j1_simulator.specs.declared.effects.Output.TheVariants.{Silent, Prints, Halts}
use Rattle.j1_simulator.specs.RoundMachine.{RingCells, round_storage, empty_ring}
use Rattle.j1_simulator.specs.OpenMachine.{Tape, open_storage, blank}

-- a machine, the input bytes left, the bytes printed, the signed depth counters (pushes less pops of each stack since the
-- start, in cells), and the end, where there is one
pub record Configuration (V S : Type 0) : Type 0 where
  pub core : Core V S
  pub input : List ℕ
  pub printed : List ℕ
  pub data_depth : ℤ
  pub return_depth : ℤ
  pub stop : Option Stop

-- the bytes that an output prints
abbrev pub prints_of : Output → List ℕ
prints_of (Prints byte) = byte ∷ []
prints_of Silent = []
prints_of (Halts status) = []

abbrev pub stop_of_output : Output → Option Stop
stop_of_output (Halts status) = Some (By (ends.Halted status))
stop_of_output Silent = None
stop_of_output (Prints byte) = None

-- the bytes printed, after an output
abbrev pub printed_by : Output → List ℕ → List ℕ
printed_by (Prints byte) printed = printed ++ byte ∷ []
printed_by Silent printed = printed
printed_by (Halts status) printed = printed

module _ {V S : Type 0} where
  -- the configuration after an instruction of this effect
  abbrev pub counted_on : Effect → Core V S → List ℕ → List ℕ → Option Stop → Configuration V S → Configuration V S
  counted_on e core input printed stop configuration =
      record {
        core = core;
        input = input;
        printed = printed;
        data_depth = configuration.data_depth +ℤ e.data_move;
        return_depth = configuration.return_depth +ℤ e.return_move;
        stop = stop;
      }

  -- an instruction that takes a byte; where none is left it ends the run and changes nothing else
  abbrev pub taken_on : Effect → (ℕ → Core V S) → List ℕ → Configuration V S → Configuration V S
  taken_on e next [] configuration = record configuration { stop = Some (By ends.InputEnded) }
  taken_on e next (byte ∷ input) configuration = counted_on e (next byte) input configuration.printed None configuration

  abbrev pub with_outcome : Effect → Transition V S → Configuration V S → Configuration V S
  with_outcome e (Terminates stop) configuration = record configuration { stop = Some stop }
  with_outcome e (Takes next) configuration = taken_on e next configuration.input configuration
  with_outcome e (Advances core output) configuration = counted_on e core configuration.input (printed_by output configuration.printed) (stop_of_output output) configuration

  -- an effect, unless the run has ended
  abbrev pub after_effect : Option Stop → Storage V S → ℕ → Effect → Configuration V S → Configuration V S
  after_effect (Some stop) storage data_start e configuration = configuration
  after_effect None storage data_start e configuration = with_outcome e (applied storage data_start e configuration.core) configuration

  -- one instruction, unless the run has ended
  abbrev pub advanced : Option Stop → Storage V S → ℕ → Configuration V S → Configuration V S
  advanced stop storage data_start configuration = after_effect stop storage data_start (effect_at configuration.core) configuration

  -- at most n instructions
  abbrev pub run : Storage V S → ℕ → ℕ → Configuration V S → Configuration V S
  run storage data_start zero configuration = configuration
  run storage data_start (suc n) configuration = run storage data_start n (advanced configuration.stop storage data_start configuration)

-- the memory that an image begins with: code from cell 0 on, bytes from the data start on, and 0 in all the rest
abbrev pub memory_of : Content → List ℕ
memory_of image = filled (image.data_start / 2) image.cells ++ filled (0x2000 - image.data_start / 2) (cells_of_bytes image.bytes)

-- the machines at their start, where the open machine knows no cell of its stacks and not T
abbrev pub round_start : Content → Core ℕ RingCells
round_start image = record { pc = 0; t = 0; data_stack = empty_ring; return_stack = empty_ring; memory = memory_of image }

abbrev pub open_start : Content → Core (Option ℕ) Tape
open_start image = record { pc = 0; t = None; data_stack = blank; return_stack = blank; memory = memory_of image }

abbrev pub begun : {V S : Type 0} → Core V S → List ℕ → Configuration V S
begun core input = record { core = core; input = input; printed = []; data_depth = pos 0; return_depth = pos 0; stop = None }

-- the round machine on an image and an input, after at most n instructions
abbrev pub round_run : Content → List ℕ → ℕ → Configuration ℕ RingCells
round_run image input n = run round_storage image.data_start n (begun (round_start image) input)

-- the open machine on an image and an input, after at most n instructions
abbrev pub open_run : Content → List ℕ → ℕ → Configuration (Option ℕ) Tape
open_run image input n = run open_storage image.data_start n (begun (open_start image) input)

-- an instruction of a run, unless it has ended
abbrev pub advance : ℕ → Configuration ℕ RingCells → Configuration ℕ RingCells
advance data_start configuration = advanced configuration.stop round_storage data_start configuration

-- xs is the beginning of ys
abbrev pub IsPrefixOf : List ℕ → List ℕ → Type 0
IsPrefixOf xs ys = (rest : List ℕ) × (xs ++ rest ≡ ys)
