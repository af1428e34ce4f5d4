use Rattle.std.proofs.Common.{arith}
use Rattle.depth_certifier.proofs.Bodies.{one_holds, one_fails, other_count}
use Rattle.depth_certifier.proofs.validity.bodies_hold.Goals as goal

pub returns-then-effects-def_count : goal.returns-then-effects-def_count
returns-then-effects-def_count c =
    other_count c.args.program.now c.args.certificate.now c.effects-effects.result.now c.effects-effects.ensures (λ same. omega (arith, same, c.def_count.ensures.value))

pub returns-in-None : goal.returns-in-None
returns-in-None c =
    one_fails c.args.program.now c.args.certificate.now c.loop-d.d c.loop-d.count _ _ _ _ _ _ c.bounds_of.ensures c.effects-effects.ensures c.shared-shared.ensures c.heads-heads.ensures c.body.ensures c.definition-effect.ensures
    (omega (arith, c.def_count-d-end.ensures.value)) (omega (arith, c.def_count.ensures.value, c.def_count-d-end.ensures.value)) c.loop-d.invariant c.in-None.ensures

pub loop-d-preserved : goal.loop-d-preserved
loop-d-preserved c =
    one_holds c.args.program.now c.args.certificate.now c.loop-d.d c.loop-d.count _ _ _ _ _ _ c.bounds_of.ensures c.effects-effects.ensures c.shared-shared.ensures c.heads-heads.ensures c.body.ensures c.definition-effect.ensures
    (omega (arith, c.def_count-d-end.ensures.value)) (omega (arith, c.def_count.ensures.value, c.def_count-d-end.ensures.value)) c.loop-d.invariant c.in-Some.more c.in-Some.ensures
