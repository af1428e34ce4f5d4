use Rattle.depth_certifier.specs.Walk.{returns_to}
use Rattle.depth_certifier.specs.Views.{place_of_reach}
use Rattle.depth_certifier.proofs.Notes.{returns_free, noted_too, count_kept}
use Rattle.depth_certifier.proofs.noting.go_back.Goals as goal

pub returns-clause-step : goal.returns-clause-step
returns-clause-step c = noted_too (returns_to (place_of_reach c.args.head)) (returns_free (place_of_reach c.args.head)) c.args.facts.finding c.args.notes.now c.go_back.result c.args.walker.now c.go_back.new.self c.go_back.ensures

pub returns-clause-count : goal.returns-clause-count
returns-clause-count c = count_kept (returns_to (place_of_reach c.args.head)) (returns_free (place_of_reach c.args.head)) c.go_back.result c.args.walker.now c.go_back.new.self c.go_back.ensures
