-- What becomes of a machine, its console and out in one instruction that is traced.
use Rattle.std.specs.Prelude.{ℕ, ◌≡◌, ◌⊎◌, ◌+◌, ◌≤◌, ◌&&◌, Bool, List, [], ◌∷◌, ◌++◌, take, Option, Some, None, Result, Ok, Err}
use Rattle.std.specs.Io.KnownBytes.{Keeps, Appends, Consumes, IsAtEnd}
use Rattle.outside_io.specs.Bytes.{AppendsFront}
use Rattle.j1_simulator.specs.declared.ends.End.{End}
use Rattle.j1_simulator.specs.declared.ends.End.TheVariants.{InputEnded}
use Rattle.j1_simulator.specs.declared.ends.Event.{Event}
use Rattle.j1_simulator.specs.declared.ends.Event.TheVariants.{Went, Printed, WantsByte, Ended}
use Rattle.j1_simulator.specs.Step.{step}
use Rattle.j1_simulator.specs.RoundMachine.{RingCells, round_storage}
use Rattle.j1_simulator.specs.MachineState.{MachineState, WantsAByte}
use Rattle.j1_simulator.specs.Run.{Configuration, advance}
use Rattle.j1_simulator.specs.Drive.{IsAt, counters_fit}
use Rattle.instruction_trace.specs.declared.traces.TraceError.{TraceError}
use Rattle.instruction_trace.specs.declared.traces.TraceError.TheVariants.{Read, Write, OutOfMemory}
use Rattle.instruction_trace.specs.TraceText.{print_line, take_line}
use Rattle.instruction_trace.specs.Trace.{line_at, outcome_text}

-- what an instruction took: nothing, where it did not ask, the byte that it was given, or nothing, where none was left
abbrev pub bytes_of : Option (Option ℕ) → List ℕ
bytes_of (Some (Some byte)) = byte ∷ []
bytes_of (Some None) = []
bytes_of None = []

-- the line of its byte
abbrev pub told_text : Event → Option (Option ℕ) → List ℕ
told_text event (Some (Some byte)) = take_line byte
told_text event (Some None) = []
told_text (Printed byte) None = print_line byte
told_text Went None = []
told_text WantsByte None = []
told_text (Ended end) None = []

-- how often it asked
abbrev pub asked : Option (Option ℕ) → ℕ
asked None = 0
asked (Some byte) = 1

-- a machine made the next instruction of its run, whatever follows the byte that it took; nothing does where it was told that none is left
pub record Makes (old new : MachineState) (event : Event) (taken : Option (Option ℕ)) : Type 0 where
  pub moves : (from : Configuration ℕ RingCells) (fits : Bool) (data_start : ℕ) (rest : List ℕ) → (taken ≡ Some None → rest ≡ []) →
      IsAt from fits old data_start (Some (bytes_of taken ++ rest)) None None [] →
      IsAt (advance data_start from) (fits && counters_fit (advance data_start from)) new data_start (Some rest) None None []
  pub told : (rest : List ℕ) → (taken ≡ Some None → rest ≡ []) →
      outcome_text (step round_storage old.data_start old.core) (bytes_of taken ++ rest) ≡ told_text event taken
  pub given : new.given ≡ None
  pub vain : taken ≡ Some None → new.ended ≡ Some InputEnded

-- it was made, with its byte off the console, and out has its line and that of its byte, or a beginning of them
pub record IsMade (number : ℕ) (old new : MachineState) (left after : Option (List ℕ)) (calls_before calls_after : ℕ)
    (IsOut : List ℕ → List ℕ → Type 0) : Type 0 where
  pub event : Event
  pub taken : Option (Option ℕ)
  pub makes : Makes old new event taken
  pub took : Consumes left after (bytes_of taken)
  pub at_end : taken ≡ Some None → IsAtEnd after
  pub calls : calls_after ≤ calls_before + asked taken
  pub wrote : IsOut (line_at number old.data_start old.core) (told_text event taken)

abbrev pub IsShown : Option (List ℕ) → Option (List ℕ) → List ℕ → List ℕ → Type 0
IsShown before now line outcome = Appends before now (line ++ outcome)

abbrev pub IsShownFront : Option (List ℕ) → Option (List ℕ) → List ℕ → List ℕ → Type 0
IsShownFront before now line outcome = (n : ℕ) × Appends before now (line ++ take n outcome)

-- the line of an instruction was written; or out failed, or memory was wanting for the line
abbrev pub IsShownBy : Result (Unit {0}) TraceError → ℕ → MachineState → Option (List ℕ) → Option (List ℕ) → Type 0
IsShownBy (Ok done) number machine before now = Appends before now (line_at number machine.data_start machine.core)
IsShownBy (Err Write) number machine before now = AppendsFront before now (line_at number machine.data_start machine.core)
IsShownBy (Err OutOfMemory) number machine before now = now ≡ before
IsShownBy (Err Read) number machine before now = ⊥

-- the console could not be read: it kept its bytes, out has the line, and a byte is due
pub record IsUnread (number : ℕ) (old : MachineState) (left after before now : Option (List ℕ))
    (calls_before calls_after : ℕ) : Type 0 where
  pub kept : Keeps left after
  pub line : Appends before now (line_at number old.data_start old.core)
  pub wants : WantsAByte old
  pub calls : calls_after ≤ calls_before + 1

-- an instruction was traced; or the console or out failed, or memory was wanting for its line
abbrev pub TurnEnds : ℕ → Result (Option End) TraceError → MachineState → MachineState →
    Option (List ℕ) → Option (List ℕ) → Option (List ℕ) → Option (List ℕ) → ℕ → ℕ → Type 0
TurnEnds number (Ok end) old new left after before now calls_before calls_after =
    IsMade number old new left after calls_before calls_after (IsShown before now) × (end ≡ new.ended)
TurnEnds number (Err OutOfMemory) old new left after before now calls_before calls_after =
    (after ≡ left) × (now ≡ before) × (calls_after ≡ calls_before)
TurnEnds number (Err Read) old new left after before now calls_before calls_after =
    IsUnread number old left after before now calls_before calls_after
TurnEnds number (Err Write) old new left after before now calls_before calls_after =
    ((after ≡ left) × (calls_after ≡ calls_before) × AppendsFront before now (line_at number old.data_start old.core))
    ⊎ IsMade number old new left after calls_before calls_after (IsShownFront before now)
