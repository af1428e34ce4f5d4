-- `trace IMG`: the image in a file is run on the console, and out gains the trace of the run.
use Rattle.std.specs.Prelude.{◌≡◌, ◌⊎◌, ◌+◌, ◌≤◌, ℕ, List, Option, None, Some, Result, Ok, Err}
use Rattle.outside_io.specs.Causes.{Rose}
use Rattle.j1_table.specs.Image.{Content}
use Rattle.j1_simulator.specs.declared.ends.Finish.{Finish}
use Rattle.j1_simulator.specs.declared.ends.Finish.TheVariants.{Ended, StepsUsed}
use Rattle.instruction_trace.specs.declared.traces.TraceError.{TraceError}
use Rattle.instruction_trace.specs.declared.traces.TraceError.TheVariants.{Read, Write, OutOfMemory}
use Rattle.instruction_trace.specs.Leaves.{IsTraceOf}
use Rattle.j1_workbench.specs.declared.status.Status.{Status}
use Rattle.j1_workbench.specs.declared.status.Status.TheVariants as status
use Rattle.j1_workbench.specs.Statuses.{status_of}
use Rattle.j1_workbench.specs.Surroundings.{Surroundings, IsOnlyRead, IsQuiet}
use Rattle.j1_workbench.specs.Images.{IsRefusedImage, IsImageFile}

-- how many instructions a trace may make, where the words give a number and where they give none
unfoldable pub trace_steps : Option ℕ → ℕ
trace_steps None = 1000
trace_steps (Some steps) = steps

-- the status of a trace: that of its run
abbrev pub traced_status : Result Finish TraceError → Status
traced_status (Ok (Ended end)) = status_of (Some end)
traced_status (Ok StepsUsed) = status.StepsUsed
traced_status (Err Read) = status.ReadFault
traced_status (Err Write) = status.WriteFault
traced_status (Err OutOfMemory) = status.OutOfMemory

-- the image was run for so many instructions and traced, each fault has its cause, and the console was asked at most once for each
-- instruction
pub record TracesImage (file : List ℕ) (steps : ℕ) (before after : Surroundings) (status : Status) : Type 0 where
  pub image : Content
  pub is_in : IsImageFile file before.folder image
  pub result : Result Finish TraceError
  pub status_is : status ≡ traced_status result
  pub trace : IsTraceOf image steps result before.console.bytes after.console.bytes before.out.bytes after.out.bytes
      before.console.calls after.console.calls
  pub calls : after.console.calls ≤ before.console.calls + steps
  pub read_fault : result ≡ Err Read → Rose before.console.faults after.console.faults
  pub write_fault : result ≡ Err Write → Rose before.out.faults after.out.faults
  pub console_faults : before.console.faults ≤ after.console.faults
  pub out_faults : before.out.faults ≤ after.out.faults

-- `trace`: a refused file leaves console and out alone
unfoldable pub Traces : List ℕ → ℕ → Surroundings → Surroundings → Status → Type 0
Traces file steps before after status =
    IsOnlyRead 1 before.folder after.folder
    × ((IsRefusedImage file before.folder after.folder status × IsQuiet before after) ⊎ TracesImage file steps before after status)
