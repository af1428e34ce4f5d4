use Rattle.std.proofs.Common.{rules}
use Rattle.step_certifier.proofs.CountedCosts.{word_capped}
use Rattle.step_certifier.proofs.costs.word_cost.Goals as goal

pub returns : goal.returns
returns c = word_capped c.sum.result _ c.product.result _ (search rules) (search rules)
