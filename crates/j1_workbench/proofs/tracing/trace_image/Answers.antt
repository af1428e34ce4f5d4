use Rattle.j1_workbench.proofs.TraceCommand.{trace_made}
use Rattle.j1_workbench.proofs.tracing.trace_image.Goals as goal

pub returns : goal.returns
returns g c =
    trace_made c.args.file.now c.args.steps _ _ c.traced_status.result c.in-Ok.image c.trace.result c.image_in.ensures.read c.in-Ok.ensures.found c.traced_status.ensures c.trace.ensures.trace
    c.trace.ensures.calls c.trace.ensures.read_cause c.trace.ensures.write_cause c.trace.ensures.console_faults c.trace.ensures.out_faults
