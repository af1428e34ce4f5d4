use Rattle.j1_workbench.specs.Surroundings.{stream}
use Rattle.j1_workbench.proofs.Sessions.{served}
use Rattle.j1_workbench.proofs.serving.serve.Goals as goal

pub returns : goal.returns
returns g c = λ folder.
    served c.runs_only_grow.ensures.round c.args.steps folder
    (stream (g.C.Source.left c.args.console.now) (g.C.Source.calls c.args.console.now) (g.C.Source.faults c.args.console.now))
    (stream (g.C.Source.left c.session.new.console) (g.C.Source.calls c.session.new.console) (g.C.Source.faults c.session.new.console))
    (stream (g.O.Sink.held c.args.out.now) (g.O.Sink.calls c.args.out.now) (g.O.Sink.faults c.args.out.now))
    (stream (g.O.Sink.held c.session.new.out) (g.O.Sink.calls c.session.new.out) (g.O.Sink.faults c.session.new.out))
    c.session.result c.session_status.result c.session.ensures c.session_status.ensures
