use Rattle.depth_certifier.specs.Walk.{takes}
use Rattle.depth_certifier.specs.Views.{effect_of_demand, change_of, limits_of}
use Rattle.depth_certifier.proofs.Notes.{takes_free, noted_too, count_kept}
use Rattle.depth_certifier.proofs.noting.take.Goals as goal

pub returns-clause-step : goal.returns-clause-step
returns-clause-step c =
    noted_too (takes (limits_of c.args.facts.bounds) (effect_of_demand c.args.x) (change_of c.args.change))
    (takes_free (limits_of c.args.facts.bounds) (effect_of_demand c.args.x) (change_of c.args.change)) c.args.facts.finding c.args.notes.now c.take.result
    c.args.walker.now c.take.new.self c.take.ensures

pub returns-clause-count : goal.returns-clause-count
returns-clause-count c =
    count_kept (takes (limits_of c.args.facts.bounds) (effect_of_demand c.args.x) (change_of c.args.change))
    (takes_free (limits_of c.args.facts.bounds) (effect_of_demand c.args.x) (change_of c.args.change)) c.take.result c.args.walker.now c.take.new.self
    c.take.ensures
