use Rattle.depth_certifier.specs.Views.{place_of_reach, limits_of}
use Rattle.depth_certifier.proofs.Rest.{close_walked}
use Rattle.depth_certifier.proofs.closing.close_loop.Goals as goal

pub returns-clause-step : goal.returns-clause-step
returns-clause-step c =
    close_walked (limits_of c.args.facts.bounds) c.args.turn (place_of_reach c.args.head) (place_of_reach c.args.outer) c.drop_loop.result c.table_demand.result
    _ _ _ _ c.table_demand.ensures c.in_ok-take.ensures.step c.in_ok-go_back.ensures.step c.drop_loop.ensures.step
