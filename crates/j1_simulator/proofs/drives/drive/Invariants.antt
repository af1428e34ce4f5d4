use Rattle.std.proofs.Common.{◌≡◌, ◌+◌, ◌≤◌, ◌<◌, length}
use Rattle.std.specs.Prelude.{Some, None}
use Rattle.j1_simulator.specs.Drive.{KeepsEnd}
use Rattle.j1_simulator.proofs.DriveSteps.{Underway}
use Rattle.j1_simulator.proofs.drives.drive.Given as goal

abbrev pub invariant-loop-made : goal.invariant-loop-made
invariant-loop-made g l =
    record {
      room : length l.buffer < 512;
      console_faults : g.C.Source.faults l.initial.console ≤ g.C.Source.faults l.console;
      out_faults : g.O.Sink.faults l.initial.out ≤ g.O.Sink.faults l.out;
      calls : g.C.Source.calls l.console ≤ g.C.Source.calls l.initial.console + l._made;
      over : KeepsEnd l.initial.machine l.machine;
      within : l._made ≤ l.n;
      quiet : l.initial.machine.given ≡ Some None → l.console ≡ l.initial.console;
      at : Underway l.initial.machine (g.C.Source.left l.initial.console) l._made l.machine (g.C.Source.left l.console) (g.O.Sink.held l.initial.out)
          (g.O.Sink.held l.out) l.buffer (g.C.Source.calls l.initial.console) (g.C.Source.calls l.console)
          (g.O.Sink.calls l.initial.out) (g.O.Sink.calls l.out);
    }
