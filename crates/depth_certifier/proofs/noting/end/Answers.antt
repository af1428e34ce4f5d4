use Rattle.depth_certifier.specs.Walk.{ends}
use Rattle.depth_certifier.specs.Views.{limits_of}
use Rattle.depth_certifier.proofs.Notes.{ends_free, noted_too, count_kept}
use Rattle.depth_certifier.proofs.noting.end.Goals as goal

pub returns-clause-step : goal.returns-clause-step
returns-clause-step c = noted_too (ends (limits_of c.args.facts.bounds)) (ends_free (limits_of c.args.facts.bounds)) c.args.facts.finding c.args.notes.now c.end.result c.args.walker.now c.end.new.self c.end.ensures

pub returns-clause-count : goal.returns-clause-count
returns-clause-count c = count_kept (ends (limits_of c.args.facts.bounds)) (ends_free (limits_of c.args.facts.bounds)) c.end.result c.args.walker.now c.end.new.self c.end.ensures
