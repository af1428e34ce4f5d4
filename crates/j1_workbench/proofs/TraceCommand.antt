-- What the relation of `trace` says, part by part.
use Rattle.std.proofs.Common.{◌≡◌, inl, inr, ℕ, ◌+◌, ◌≤◌, List}
use Rattle.std.specs.Prelude.{Result, Err}
use Rattle.outside_io.specs.Causes.{Rose}
use Rattle.j1_table.specs.Image.{Content}
use Rattle.j1_simulator.specs.declared.ends.Finish.{Finish}
use Rattle.instruction_trace.specs.declared.traces.TraceError.{TraceError}
use Rattle.instruction_trace.specs.declared.traces.TraceError.TheVariants.{Read, Write}
use Rattle.instruction_trace.specs.Leaves.{IsTraceOf}
use Rattle.j1_workbench.specs.declared.status.Status.{Status}
use Rattle.j1_workbench.specs.Surroundings.{Surroundings, IsOnlyRead}
use Rattle.j1_workbench.specs.Images.{IsRefusedImage, IsImageFile}
use Rattle.j1_workbench.specs.Tracing.{traced_status, Traces}

pub trace_refused : (file : List ℕ) (steps : ℕ) (before after : Surroundings) (status : Status) →
    IsOnlyRead 1 before.folder after.folder → IsRefusedImage file before.folder after.folder status → after.console ≡ before.console → after.out ≡ before.out → Traces file steps before after status
unfolding Traces
trace_refused file steps before after status read refused console out = (read, inl (refused, (console, out)))

pub trace_made : (file : List ℕ) (steps : ℕ) (before after : Surroundings) (status : Status) (image : Content) (result : Result Finish TraceError) →
    IsOnlyRead 1 before.folder after.folder → IsImageFile file before.folder image → status ≡ traced_status result →
    IsTraceOf image steps result before.console.bytes after.console.bytes before.out.bytes after.out.bytes before.console.calls after.console.calls →
    after.console.calls ≤ before.console.calls + steps → (result ≡ Err Read → Rose before.console.faults after.console.faults) → (result ≡ Err Write → Rose before.out.faults after.out.faults) →
    before.console.faults ≤ after.console.faults → before.out.faults ≤ after.out.faults → Traces file steps before after status
unfolding Traces
trace_made file steps before after status image result read is told trace calls read_cause write_cause console out = (
  read,
  inr (record {
    image = image;
    is_in = is;
    result = result;
    status_is = told;
    trace = trace;
    calls = calls;
    read_fault = read_cause;
    write_fault = write_cause;
    console_faults = console;
    out_faults = out;
  }),
)
