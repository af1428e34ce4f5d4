use Rattle.depth_certifier.specs.Walk.{joins}
use Rattle.depth_certifier.specs.Views.{place_of_reach}
use Rattle.depth_certifier.proofs.Notes.{joins_free, noted_too, count_kept}
use Rattle.depth_certifier.proofs.noting.join.Goals as goal

pub returns-clause-step : goal.returns-clause-step
returns-clause-step c = noted_too (joins (place_of_reach c.args.other)) (joins_free (place_of_reach c.args.other)) c.args.facts.finding c.args.notes.now c.join.result c.args.walker.now c.join.new.self c.join.ensures

pub returns-clause-count : goal.returns-clause-count
returns-clause-count c = count_kept (joins (place_of_reach c.args.other)) (joins_free (place_of_reach c.args.other)) c.join.result c.args.walker.now c.join.new.self c.join.ensures
