use Rattle.std.proofs.Common.{◌≡◌, ◌∙◌, replicate, ap, rules}
use Rattle.depth_certifier.proofs.Settled.{made_bottoms}
use Rattle.depth_certifier.proofs.settling.least_effects.Goals as goal

pub returns : goal.returns
returns c =
    let made : c.in_ok-effects.effects.items ≡ replicate c.def_count.result c.bottom.result = search rules in
    made ∙ ap (replicate c.def_count.result) c.bottom.ensures ∙ made_bottoms c.args.program.now.bodies c.def_count.result c.def_count.ensures.value
