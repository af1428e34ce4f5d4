-- What one turn of a drive does: one instruction, with the question for its byte.
use Rattle.std.specs.Prelude.{ℕ, ◌≡◌, ◌⊎◌, ◌+◌, ◌<◌, ◌≤◌, Bool, ◌&&◌, List, [], ◌++◌, length, drop, Option, Some, None, IfSome, slice_get, Result, Ok, Err}
use Rattle.j1_simulator.specs.declared.ends.End.{End}
use Rattle.j1_simulator.specs.declared.ends.End.TheVariants.{InputEnded}
use Rattle.j1_simulator.specs.declared.ends.DriveError.{DriveError}
use Rattle.j1_simulator.specs.declared.ends.DriveError.TheVariants.{Read, Write}
use Rattle.j1_simulator.specs.RoundMachine.{RingCells}
use Rattle.j1_simulator.specs.MachineState.{MachineState, WantsAByte}
use Rattle.j1_simulator.specs.Run.{Configuration, advance}
use Rattle.j1_simulator.specs.Drive.{StandsWritten, IsAt, counters_fit}

-- what is left of an input that is told, after an instruction that takes no byte, or that takes this one (or is told that there is none)
abbrev pub LeftAfter : Option (Option ℕ) → Option (List ℕ) → Option (List ℕ) → Type 0
LeftAfter None left after = IfSome left (λ input. after ≡ Some input)
LeftAfter (Some byte) left after = IfSome left (λ input. (byte ≡ slice_get input 0) × (after ≡ Some (drop 1 input)))

-- the byte that an instruction takes is the one that was given, or else the console's
abbrev pub ComesFrom : Option (Option ℕ) → Option (Option ℕ) → Option (List ℕ) → Option (List ℕ) → Type 0
ComesFrom None taken left after = LeftAfter taken left after
ComesFrom (Some byte) taken left after = (taken ≡ Some byte) × (after ≡ left)

-- a byte was taken, or it was told that there is none, only where the machine wanted one; the run ends where there is none
pub record IsTaken (old new : MachineState) (taken : Option (Option ℕ)) (left after : Option (List ℕ)) : Type 0 where
  pub from : ComesFrom old.given taken left after
  pub wanted : (byte : Option ℕ) → taken ≡ Some byte → WantsAByte (record old { given = None })
  pub none_left : taken ≡ Some None → new.ended ≡ Some InputEnded

-- no bytes wait where a byte was given by hand, and none where the run ended for want of input
pub record MayWait (machine : MachineState) (buffer : List ℕ) : Type 0 where
  pub by_hand : (machine.given ≡ None) ⊎ (buffer ≡ [])
  pub ended : machine.ended ≡ Some InputEnded → buffer ≡ []

-- after an instruction that took no byte, what it printed waits behind what waited
pub record Adds (from to : Configuration ℕ RingCells) (buffer waiting : List ℕ) : Type 0 where
  pub untaken : to.input ≡ from.input
  pub printed : List ℕ
  pub prints : to.printed ≡ from.printed ++ printed
  pub waits : waiting ≡ buffer ++ printed

-- after an instruction nothing waits, since all was written out, or it adds to what waited
abbrev pub Follows : MachineState → Configuration ℕ RingCells → Configuration ℕ RingCells → List ℕ → List ℕ → Type 0
Follows new from to buffer waiting = ((waiting ≡ []) ⊎ Adds from to buffer waiting) × MayWait new waiting

-- an instruction adds to what waited, so that 512 bytes wait
pub record Fills (new : MachineState) (from to : Configuration ℕ RingCells) (buffer : List ℕ) : Type 0 where
  pub waiting : List ℕ
  pub adds : Adds from to buffer waiting
  pub full : length waiting ≡ 512
  pub goes_on : new.ended ≡ Some InputEnded → ⊥

-- out was called at most once for each byte that no longer waits
abbrev pub WritesFew : Configuration ℕ RingCells → Configuration ℕ RingCells → List ℕ → List ℕ → ℕ → ℕ → Type 0
WritesFew from to buffer waiting writes_before writes_after =
    writes_after + length waiting + length from.printed ≤ writes_before + length buffer + length to.printed

-- a turn from this moment, which took such a byte, has come to the next one, or broke off: before it made its instruction, when it
-- took none, or after it, when 512 bytes waited
abbrev pub TurnEnds : Result (Option End) DriveError → Option (Option ℕ) → MachineState → List ℕ → Configuration ℕ RingCells → Bool → MachineState → ℕ → Option (List ℕ) → Option (List ℕ) → Option (List ℕ) → List ℕ → ℕ → ℕ → Type 0
TurnEnds (Ok end) taken old buffer configuration fits new data_start left before now waiting writes_before writes_after =
    IsAt (advance data_start configuration) (fits && counters_fit (advance data_start configuration)) new data_start left before now waiting
    × (MayWait old buffer → Follows new configuration (advance data_start configuration) buffer waiting)
    × WritesFew configuration (advance data_start configuration) buffer waiting writes_before writes_after
TurnEnds (Err Read) taken old buffer configuration fits new data_start left before now waiting writes_before writes_after =
    IsAt configuration fits new data_start left before now [] × WritesFew configuration configuration buffer [] writes_before writes_after
TurnEnds (Err Write) taken old buffer configuration fits new data_start left before now waiting writes_before writes_after =
    ((taken ≡ None) × WantsAByte new × StandsWritten configuration fits new data_start left before now
    × (0 < length buffer) × WritesFew configuration configuration buffer [] writes_before writes_after)
    ⊎ (Fills new configuration (advance data_start configuration) buffer
    × StandsWritten (advance data_start configuration) (fits && counters_fit (advance data_start configuration)) new data_start left before now
    × WritesFew configuration (advance data_start configuration) buffer [] writes_before writes_after)

-- how often a turn asks the console: once where a read fails, or where it takes a byte that was not given by hand
abbrev pub asks : Result (Option End) DriveError → Option (Option ℕ) → Option (Option ℕ) → ℕ
asks (Err Read) given taken = 1
asks result None (Some byte) = 1
asks result given taken = 0

-- a turn takes at most one byte, and makes its instruction from whatever moment the machine stands at
pub record Turns (result : Result (Option End) DriveError) (old new : MachineState) (left after now later : Option (List ℕ)) (buffer waiting : List ℕ) (calls_before calls_after writes_before writes_after : ℕ) : Type 0 where
  pub taken : Option (Option ℕ)
  pub takes : IsTaken old new taken left after
  pub calls : calls_after ≤ calls_before + asks result old.given taken
  pub ends :
      (configuration : Configuration ℕ RingCells) (fits : Bool) (data_start : ℕ) (before input rest : Option (List ℕ)) → LeftAfter taken input rest →
      IsAt configuration fits old data_start input before now buffer → TurnEnds result taken old buffer configuration fits new data_start rest before later waiting writes_before writes_after
