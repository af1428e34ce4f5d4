use Rattle.std.proofs.Common.{◌≡◌, sym, ◌∙◌, rules, arith}
use Rattle.std.specs.Prelude.{negsuc, pos}
use Rattle.std.specs.Int.{int_min, int_max}
use Rattle.std.proofs.lemmas.Int.{ints, to_z-of_z}
use mir.Syntax.{w16}
use mir.Val.{SFits}
use Rattle.depth_certifier.proofs.Tests.{min_within, max_within, min_max}
use Rattle.depth_certifier.proofs.joining.wider.Goals as goal

pub invariant_of-result : goal.invariant_of-result
invariant_of-result c =
    let a = min_within c.args.change.low c.args.spot.low (negsuc 999) c.args.change.least (omega (arith, ints)) in
    let b = max_within c.args.change.high c.args.spot.high (pos 1000) c.args.change.most (omega (arith, ints)) in
    let o = min_max c.args.change.low c.args.change.high c.args.spot.low c.args.spot.high c.args.change.order in
    let e : c.least_of-low.result ≡ int_min c.args.change.low c.args.spot.low = grind (arith, to_z-of_z, c.least_of-low.ensures) in
    let f : c.greatest_of-high.result ≡ int_max c.args.change.high c.args.spot.high = grind (arith, to_z-of_z, c.greatest_of-high.ensures) in
    let g : SFits w16 c.least_of-low.result = search rules in
    let h : SFits w16 c.greatest_of-high.result = search rules in
    let low = sym (to_z-of_z w16 c.least_of-low.result g) in
    let high = sym (to_z-of_z w16 c.greatest_of-high.result h) in
    let p = sym e ∙ low in
    let q = sym f ∙ high in
    record { least = omega (arith, ints, a, p); order = omega (arith, ints, o, p, q); most = omega (arith, ints, b, q) }
