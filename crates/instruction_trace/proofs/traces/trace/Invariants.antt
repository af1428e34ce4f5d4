use Rattle.std.proofs.Common.{◌≤◌}
use Rattle.instruction_trace.proofs.Tracing.{IsTraced}
use Rattle.instruction_trace.proofs.traces.trace.Given as goal

abbrev pub invariant-loop-made : goal.invariant-loop-made
invariant-loop-made g l = record {
  traced : IsTraced l.image l.made l.machine (g.C.Source.left l.fn.console) (g.C.Source.left l.console) (g.O.Sink.held l.fn.out) (g.O.Sink.held l.out) (g.C.Source.calls l.fn.console) (g.C.Source.calls l.console);
  console_faults : g.C.Source.faults l.fn.console ≤ g.C.Source.faults l.console;
  out_faults : g.O.Sink.faults l.fn.out ≤ g.O.Sink.faults l.out;
}
