-- An image is driven on the console and out.
use Rattle.std.specs.Prelude.{◌≡◌, ◌+◌, ◌≤◌, ◌⊎◌, ℕ, List, [], length, Option, Some, option_map, Result, Ok, Err, ⊤}
use Rattle.std.specs.Io.KnownBytes.{Appends, Consumes}
use Rattle.outside_io.specs.Causes.{Rose}
use Rattle.j1_table.specs.Image.{Content}
use Rattle.j1_simulator.specs.declared.ends.End.{End}
use Rattle.j1_simulator.specs.declared.ends.End.TheVariants as ends
use Rattle.j1_simulator.specs.declared.ends.Finish.{Finish}
use Rattle.j1_simulator.specs.declared.ends.Finish.TheVariants as finish
use Rattle.j1_simulator.specs.declared.ends.DriveError.{DriveError}
use Rattle.j1_simulator.specs.declared.ends.DriveError.TheVariants as drive
use Rattle.j1_simulator.specs.Step.{Stop, By, step}
use Rattle.j1_simulator.specs.RoundMachine.{round_storage}
use Rattle.j1_simulator.specs.MachineState.{IsTaking}
use Rattle.j1_simulator.specs.Run.{round_run}
use Rattle.j1_simulator.specs.Drive.{HoldsFront, LacksLast}
use Rattle.j1_workbench.specs.declared.status.Status.{Status}
use Rattle.j1_workbench.specs.declared.status.Status.TheVariants.{Done, StepsUsed, InputEnded, Outside, Halted, ReadFault, WriteFault}
use Rattle.j1_workbench.specs.Statuses.{status_of}
use Rattle.j1_workbench.specs.Surroundings.{Stream}

-- the answers of a run that no fault broke off
abbrev pub IsRunAnswer : Status → Type 0
IsRunAnswer Done = ⊤
IsRunAnswer StepsUsed = ⊤
IsRunAnswer InputEnded = ⊤
IsRunAnswer (Outside address) = ⊤
IsRunAnswer (Halted status) = ⊤
IsRunAnswer status = ⊥

-- a run of so many instructions on this input: the status of its end, the input left, and what it printed behind what out held
pub record RanAs (image : Content) (input : List ℕ) (steps : ℕ) (status : Status) (left before now : Option (List ℕ)) : Type 0 where
  pub end : Option End
  pub end_is : option_map By end ≡ (round_run image input steps).stop
  pub status_is : status ≡ status_of end
  pub left_is : left ≡ Some (round_run image input steps).input
  pub printed : Appends before now (round_run image input steps).printed

-- a run that broke off after so many instructions, where a write was due and out could not be written: the input left, and a beginning
-- of the prints, which lacks at most the last 512 bytes
pub record NotWritten (image : Content) (input : List ℕ) (steps made : ℕ) (left before now : Option (List ℕ)) : Type 0 where
  pub within : made ≤ steps
  pub left_is : left ≡ Some (round_run image input made).input
  pub front : HoldsFront before now (round_run image input made).printed
  pub lacks : LacksLast steps made (λ k. round_run image input k) image.data_start before now

-- where the console could not be read after so many instructions: all the prints, and a byte was due
pub record NotRead (image : Content) (input : List ℕ) (steps made : ℕ) (left before now : Option (List ℕ)) : Type 0 where
  pub within : made ≤ steps
  pub left_is : left ≡ Some (round_run image input made).input
  pub printed : Appends before now (round_run image input made).printed
  pub due : IsTaking (step round_storage image.data_start (round_run image input made).core)

-- what a drive of an image leaves after so many instructions, with the answer that it gives, where the console tells its input.
-- All were made where no fault broke the run off
abbrev pub DriveLeaves : Content → List ℕ → ℕ → ℕ → Status → Option (List ℕ) → Option (List ℕ) → Option (List ℕ) → Type 0
DriveLeaves image input steps made ReadFault left before now = NotRead image input steps made left before now
DriveLeaves image input steps made WriteFault left before now = NotWritten image input steps made left before now
DriveLeaves image input steps made status left before now = IsRunAnswer status × (made ≡ steps) × RanAs image input steps status left before now

-- a question to the console that no byte answered: it failed, or the input had ended
abbrev pub in_vain : Status → Option Stop → ℕ
in_vain ReadFault stop = 1
in_vain status (Some (By ends.InputEnded)) = 1
in_vain status stop = 0

-- the console gave some bytes: the drive leaves what it leaves on a console that has just these, and asked at most once for each, and
-- once in vain. Out was called at most once for each byte that was printed
pub record Gave (image : Content) (steps : ℕ) (console_before console_after out_before out_after : Stream) (status : Status) : Type 0 where
  pub bytes : List ℕ
  pub took : Consumes console_before.bytes console_after.bytes bytes
  pub made : ℕ
  pub leaves : DriveLeaves image bytes steps made status (Some []) out_before.bytes out_after.bytes
  pub calls : console_after.calls ≤ console_before.calls + length bytes + in_vain status (round_run image bytes made).stop
  pub writes : out_after.calls ≤ out_before.calls + length (round_run image bytes made).printed

-- an image was driven for so many instructions: each fault has its cause, and without one the answer is that of a run. The console was
-- asked at most once for each instruction
pub record Drives (image : Content) (steps : ℕ) (console_before console_after out_before out_after : Stream) (status : Status) : Type 0 where
  pub answered : (status ≡ ReadFault) ⊎ (status ≡ WriteFault) ⊎ IsRunAnswer status
  pub leaves : (input : List ℕ) → console_before.bytes ≡ Some input → (made : ℕ) × DriveLeaves image input steps made status console_after.bytes out_before.bytes out_after.bytes
  pub gave : Gave image steps console_before console_after out_before out_after status
  pub calls : console_after.calls ≤ console_before.calls + steps
  pub read_fault : status ≡ ReadFault → Rose console_before.faults console_after.faults
  pub write_fault : status ≡ WriteFault → Rose out_before.faults out_after.faults
  pub console_faults : console_before.faults ≤ console_after.faults
  pub out_faults : out_before.faults ≤ out_after.faults

-- the status of a drive
abbrev pub status_after : Result Finish DriveError → Status
status_after (Ok (finish.Ended end)) = status_of (Some end)
status_after (Ok finish.StepsUsed) = StepsUsed
status_after (Err drive.Read) = ReadFault
status_after (Err drive.Write) = WriteFault
