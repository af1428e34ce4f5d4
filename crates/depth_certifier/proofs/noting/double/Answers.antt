use Rattle.depth_certifier.specs.Walk.{double_at}
use Rattle.depth_certifier.specs.Views.{limits_of}
use Rattle.depth_certifier.proofs.Notes.{double_free, noted_too, count_kept}
use Rattle.depth_certifier.proofs.noting.double.Goals as goal

pub returns-clause-step : goal.returns-clause-step
returns-clause-step c =
    noted_too (λ w. double_at (limits_of c.args.facts.bounds) w.place w) (double_free (limits_of c.args.facts.bounds)) c.args.facts.finding c.args.notes.now
    c.double.result c.args.walker.now c.double.new.self c.double.ensures

pub returns-clause-count : goal.returns-clause-count
returns-clause-count c = count_kept (λ w. double_at (limits_of c.args.facts.bounds) w.place w) (double_free (limits_of c.args.facts.bounds)) c.double.result c.args.walker.now c.double.new.self c.double.ensures
