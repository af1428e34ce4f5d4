-- `forth`: the image of the interactive Forth's kernel is driven on the console and out.
use Rattle.std.specs.Prelude.{◌≡◌, ◌⊎◌, ℕ, Option, None, Some, Result, Ok, Err}
use Rattle.j1_simulator.specs.declared.ends.Finish.{Finish}
use Rattle.j1_simulator.specs.declared.ends.Finish.TheVariants.{Ended, StepsUsed}
use Rattle.target_forth.specs.declared.sessions.SessionError.{SessionError}
use Rattle.target_forth.specs.declared.sessions.SessionError.TheVariants as session
use Rattle.target_forth.specs.Kernel.{kernel}
use Rattle.j1_workbench.specs.declared.status.Status.{Status}
use Rattle.j1_workbench.specs.declared.status.Status.TheVariants.{Done, StepsUsed as OutOfSteps, InputEnded, ReadFault, WriteFault, OutOfMemory}
use Rattle.j1_workbench.specs.Statuses.{status_of}
use Rattle.j1_workbench.specs.Surroundings.{Surroundings, IsQuiet}
use Rattle.j1_workbench.specs.Driving.{Drives, IsRunAnswer}

-- how many instructions a session may make, where the words give a number and where they give none
unfoldable pub session_steps : Option ℕ → ℕ
session_steps None = 1000000000
session_steps (Some steps) = steps

-- the end of the input is the end of a session, which is done
abbrev pub ended_status : Status → Status
ended_status InputEnded = Done
ended_status status = status

abbrev pub session_status : Result Finish SessionError → Status
session_status (Ok (Ended end)) = ended_status (status_of (Some end))
session_status (Ok StepsUsed) = OutOfSteps
session_status (Err session.Read) = ReadFault
session_status (Err session.Write) = WriteFault
session_status (Err session.OutOfMemory) = OutOfMemory

abbrev pub IsSessionAnswer : Status → Type 0
IsSessionAnswer InputEnded = ⊥
IsSessionAnswer status = IsRunAnswer status

-- the kernel was driven, with this status at its end
pub record RunsKernel (steps : ℕ) (before after : Surroundings) (status : Status) : Type 0 where
  pub driven : Status
  pub drives : Drives kernel steps before.console after.console before.out after.out driven
  pub answer : status ≡ ended_status driven

-- the folder is left alone, and so are console and out where memory was wanting
unfoldable pub Serves : ℕ → Surroundings → Surroundings → Status → Type 0
Serves steps before after status =
    (after.folder ≡ before.folder)
    × (((status ≡ OutOfMemory) × IsQuiet before after) ⊎ RunsKernel steps before after status)
