use Rattle.std.proofs.Common.{◌≡◌, [], ◌∷◌, ◌++◌, rules}
use Rattle.step_certifier.proofs.CountedCosts.{longer, table_grows}
use Rattle.step_certifier.proofs.bounding.costs.Goals as goal

pub loop-d-preserved : goal.loop-d-preserved
loop-d-preserved c =
    let grown : c.push.new.self.items ≡ c.loop-d.costs.items ++ c.items_cost-cost.result ∷ [] = search rules in
    record {
      size = longer c.loop-d.costs.items c.push.new.self.items c.items_cost-cost.result c.loop-d.d grown c.loop-d.invariant.size;
      table = table_grows c.args.program.now.bodies c.loop-d.d _ c.loop-d.costs.items c.push.new.self.items c.items_cost-cost.result _ (search rules) c.body.ensures grown (search rules) c.loop-d.invariant.table;
    }
