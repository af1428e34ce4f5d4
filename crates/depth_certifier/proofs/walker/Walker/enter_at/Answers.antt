use Rattle.std.proofs.Common.{◌∙◌, ◌&&◌, rules}
use Rattle.std.specs.Prelude.{int_le}
use Rattle.std.proofs.lemmas.Int.{to_z-of_z}
use mir.Syntax.{w16}
use mir.Val.{to_z, of_z, SFits}
use Rattle.depth_certifier.proofs.Heads.{entered, inside_test}
use Rattle.depth_certifier.proofs.walker.Walker.enter_at.Goals as goal

pub returns : goal.returns
returns c =
    let a : SFits w16 c.args.low = search rules in
    let b : SFits w16 c.args.high = search rules in
    let low = to_z-of_z w16 c.args.low a in
    let high = to_z-of_z w16 c.args.high b in
    let inside = inside_test c.args.low c.args.spot.low c.args.spot.high c.args.high (to_z w16 (of_z w16 c.args.low)) (to_z w16 (of_z w16 c.args.high)) c.lies_inside.result low high c.lies_inside.ensures c.if-not-lies_inside.false in
    entered c.args.self.now c.args.spot c.widened.result c.args.low c.args.high (int_le c.args.low c.args.spot.low && int_le c.args.spot.high c.args.high)
    inside (c.widened.ensures.low ∙ low) (c.widened.ensures.high ∙ high) c.widened.ensures.entries
