use Rattle.depth_certifier.specs.Walk.{decides}
use Rattle.depth_certifier.specs.Views.{limits_of}
use Rattle.depth_certifier.proofs.Notes.{decides_free, noted_too, count_kept}
use Rattle.depth_certifier.proofs.noting.decide.Goals as goal

pub returns-clause-step : goal.returns-clause-step
returns-clause-step c = noted_too (decides (limits_of c.args.facts.bounds)) (decides_free (limits_of c.args.facts.bounds)) c.args.facts.finding c.args.notes.now c.decide.result c.args.walker.now c.decide.new.self c.decide.ensures

pub returns-clause-count : goal.returns-clause-count
returns-clause-count c = count_kept (decides (limits_of c.args.facts.bounds)) (decides_free (limits_of c.args.facts.bounds)) c.decide.result c.args.walker.now c.decide.new.self c.decide.ensures
