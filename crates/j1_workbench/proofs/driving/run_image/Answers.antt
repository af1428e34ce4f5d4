use Rattle.j1_workbench.specs.Surroundings.{stream}
use Rattle.j1_workbench.proofs.Drives.{drives}
use Rattle.j1_workbench.proofs.driving.run_image.Goals as goal

pub returns : goal.returns
returns g c =
    drives c.runs_only_grow.ensures.round c.args.image.now c.args.steps c.in_ok-machine.machine c.drive.new.machine c.drive.result _
    (stream (g.C.Source.left c.args.console.now) (g.C.Source.calls c.args.console.now) (g.C.Source.faults c.args.console.now))
    (stream (g.C.Source.left c.drive.new.console) (g.C.Source.calls c.drive.new.console) (g.C.Source.faults c.drive.new.console))
    (stream (g.O.Sink.held c.args.out.now) (g.O.Sink.calls c.args.out.now) (g.O.Sink.faults c.args.out.now)) (stream (g.O.Sink.held c.drive.new.out) (g.O.Sink.calls c.drive.new.out) (g.O.Sink.faults c.drive.new.out))
    c.in_ok-machine.ensures c.drive.ensures.run c.drive.ensures.read c.drive.ensures.write c.drive.ensures.at_most c.drive.ensures.calls c.drive.ensures.finish c.drive.ensures.wants c.status_after.ensures
    c.drive.ensures.read_cause c.drive.ensures.write_cause c.drive.ensures.console_faults c.drive.ensures.out_faults
