-- What contracts see of a `Machine`, which is given its input one byte at a time, and what a step does to it.
use Rattle.std.specs.Prelude.{ℕ, ◌≡◌, ℤ, pos, ◌+ℤ◌, List, Option, Some, None, Result, Ok, Err}
use Rattle.std.specs.Int.{saturate_signed, w64}
use Rattle.j1_simulator.specs.declared.ends.End.{End}
use Rattle.j1_simulator.specs.declared.ends.End.TheVariants as ends
use Rattle.j1_simulator.specs.declared.ends.Event.{Event}
use Rattle.j1_simulator.specs.declared.ends.Event.TheVariants.{Went, Printed, WantsByte, Ended}
use Rattle.j1_simulator.specs.declared.effects.Pause.{Pause}
use Rattle.j1_simulator.specs.declared.effects.Pause.TheVariants.{Wants}
use Rattle.j1_simulator.specs.declared.effects.Pause.TheVariants as pauses
use Rattle.j1_simulator.specs.declared.effects.Effect.{Effect}
use Rattle.j1_simulator.specs.declared.effects.Output.{Output}
use Rattle.j1_simulator.specs.declared.effects.Output.TheVariants.{Silent, Prints, Halts}
use Rattle.j1_simulator.specs.Step.{Core, Stop, By, Missing, Transition, Advances, Takes, Terminates, Reach, Reaches, Asks, Faults, step, effect_at}
use Rattle.j1_simulator.specs.RoundMachine.{RingCells, round_storage}
use Rattle.j1_simulator.specs.Run.{round_start}
use Rattle.j1_table.specs.Image.{Content}

-- what the code's step shows
pub data Observation : Type 0 where
  WentOn : Core ℕ RingCells → Output → Observation
  Wanting : Observation
  Stopped : Stop → Observation

abbrev pub observation_of : Result Output Pause → Core ℕ RingCells → Observation
observation_of (Ok output) core = WentOn core output
observation_of (Err Wants) core = Wanting
observation_of (Err (pauses.Stops end)) core = Stopped (By end)

-- what a step shows where the next byte may be known
abbrev pub with_key : Option ℕ → Transition ℕ RingCells → Observation
with_key key (Advances core output) = WentOn core output
with_key key (Terminates stop) = Stopped stop
with_key None (Takes next) = Wanting
with_key (Some byte) (Takes next) = WentOn (next byte) Silent

-- what accesses returned, with the memory after them
abbrev pub reach_of : Result (ℕ × Output) Pause → List ℕ → Reach ℕ
reach_of (Ok reached) memory = Reaches reached.0 memory reached.1
reach_of (Err Wants) memory = Asks
reach_of (Err (pauses.Stops end)) memory = Faults (By end)

-- accesses where the next byte may be known
abbrev pub reached_with : Option ℕ → List ℕ → Reach ℕ → Reach ℕ
reached_with key memory (Reaches cell after output) = Reaches cell after output
reached_with key memory (Faults stop) = Faults stop
reached_with None memory Asks = Asks
reached_with (Some byte) memory Asks = Reaches byte memory Silent

-- the byte that was given
abbrev pub key_of : Option (Option ℕ) → Option ℕ
key_of None = None
key_of (Some key) = key

-- pushes less pops of the data stack and of the return stack
pub record Depths : Type 0 where
  pub data_depth : ℤ
  pub return_depth : ℤ

-- a `Machine`: the round machine, its data start (a byte address), what it was given and has not used (a byte, or that there
-- is none), the held depths, and the end, where there is one
pub record MachineState : Type 0 where
  pub core : Core ℕ RingCells
  pub data_start : ℕ
  pub given : Option (Option ℕ)
  pub depths : Depths
  pub ended : Option End

-- the machine at its start on an image
abbrev pub machine_start : Content → MachineState
machine_start image = record { core = round_start image; data_start = image.data_start; given = None; depths = record { data_depth = pos 0; return_depth = pos 0 }; ended = None }

-- a whole number held at the ends of the signed 64-bit integers
abbrev pub held : ℤ → ℤ
held n = saturate_signed w64 n

-- the depths after an instruction
abbrev pub depths_after : Depths → Effect → Depths
depths_after depths effect =
    record { data_depth = held (depths.data_depth +ℤ effect.data_move); return_depth = held (depths.return_depth +ℤ effect.return_move) }

abbrev pub event_of : Output → Event
event_of Silent = Went
event_of (Prints byte) = Printed byte
event_of (Halts status) = Ended (ends.Halted status)

abbrev pub end_of_output : Output → Option End
end_of_output (Halts status) = Some (ends.Halted status)
end_of_output Silent = None
end_of_output (Prints byte) = None

-- a step that makes its instruction
abbrev pub GoesOn : Core ℕ RingCells → Output → Event → MachineState → MachineState → Type 0
GoesOn core output event old new =
    (event ≡ event_of output) × (new ≡ record {
      core = core;
      data_start = old.data_start;
      given = None;
      depths = depths_after old.depths (effect_at old.core);
      ended = end_of_output output;
    })

-- a step that ends the run and changes nothing else
abbrev pub EndsBy : End → Event → MachineState → MachineState → Type 0
EndsBy end event old new = (event ≡ Ended end) × (new ≡ record old { given = None; ended = Some end })

-- a step of a machine that has not ended, by what it was given and by the step of the round machine
abbrev pub AnswersStep : Option (Option ℕ) → Transition ℕ RingCells → Event → MachineState → MachineState → Type 0
AnswersStep given (Advances core output) event old new = GoesOn core output event old new
AnswersStep given (Terminates (By end)) event old new = EndsBy end event old new
AnswersStep given (Terminates Missing) event old new = ⊥
AnswersStep None (Takes next) event old new = (event ≡ WantsByte) × (new ≡ old)
AnswersStep (Some None) (Takes next) event old new = EndsBy ends.InputEnded event old new
AnswersStep (Some (Some byte)) (Takes next) event old new = GoesOn (next byte) Silent event old new

-- a step of a machine; one that has ended answers its end again
abbrev pub Steps : Option End → Event → MachineState → MachineState → Type 0
Steps (Some end) event old new = (event ≡ Ended end) × (new ≡ old)
Steps None event old new = AnswersStep old.given (step round_storage old.data_start old.core) event old new

abbrev pub IsTaking : Transition ℕ RingCells → Type 0
IsTaking (Takes next) = Unit {0}
IsTaking (Advances core output) = ⊥
IsTaking (Terminates stop) = ⊥

-- the next instruction takes a byte, and none was given
pub record WantsAByte (state : MachineState) : Type 0 where
  pub running : state.ended ≡ None
  pub not_given : state.given ≡ None
  pub taking : IsTaking (step round_storage state.data_start state.core)

-- what was given is for the next instruction: without it the machine wants a byte
abbrev pub GivenIsDue : MachineState → Type 0
GivenIsDue state = (key : Option ℕ) → state.given ≡ Some key → WantsAByte (record state { given = None })
