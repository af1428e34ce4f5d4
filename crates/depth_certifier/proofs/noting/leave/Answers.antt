use Rattle.depth_certifier.specs.Walk.{leaving}
use Rattle.depth_certifier.specs.Views.{shapes_of}
use Rattle.depth_certifier.proofs.Notes.{leaving_free, noted_too, count_kept}
use Rattle.depth_certifier.proofs.noting.leave.Goals as goal

pub returns-clause-step : goal.returns-clause-step
returns-clause-step c = noted_too (leaving (shapes_of c.args.top)) (leaving_free (shapes_of c.args.top)) c.args.facts.finding c.args.notes.now c.leave.result c.args.walker.now c.leave.new.self c.leave.ensures

pub returns-clause-count : goal.returns-clause-count
returns-clause-count c = count_kept (leaving (shapes_of c.args.top)) (leaving_free (shapes_of c.args.top)) c.leave.result c.args.walker.now c.leave.new.self c.leave.ensures
