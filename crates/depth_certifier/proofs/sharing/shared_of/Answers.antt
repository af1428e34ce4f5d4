use Rattle.std.proofs.Common.{arith}
use Rattle.depth_certifier.specs.Settling.{effects_alone}
use Rattle.depth_certifier.proofs.Made.{one_joined}
use Rattle.depth_certifier.proofs.sharing.shared_of.Goals as goal

pub loop-done-preserved : goal.loop-done-preserved
loop-done-preserved c =
    one_joined (effects_alone c.args.effects.now) c.args.tokens.now c.loop-done.done _ c.token_effect.result c.loop-done.shared c.joined-shared.result (omega arith) c.token_effect.ensures c.joined-shared.ensures c.loop-done.invariant
