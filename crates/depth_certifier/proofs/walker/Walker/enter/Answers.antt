use Rattle.std.proofs.Common.{◌∙◌, arith, rules}
use Rattle.std.specs.Prelude.{slice_index_or}
use Rattle.std.proofs.lemmas.Int.{to_z-of_z}
use mir.Syntax.{w8, w16}
use mir.Val.{to_z, of_z, SFits}
use Rattle.depth_certifier.specs.Certificate.{no_interval}
use Rattle.depth_certifier.proofs.Heads.{enters_at, low_fits, high_fits, same_step}
use Rattle.depth_certifier.proofs.walker.Walker.enter.Goals as goal

pub returns-in-At : goal.returns-in-At
returns-in-At c =
    let head = slice_index_or c.args.heads.now c.args.self.now.count no_interval in
    let keeps = c.requires c.args.self.now.count in
    let a : SFits w16 c.wide.result = search rules in
    let b : SFits w16 c.wide-in-At.result = search rules in
    let low = to_z-of_z w16 c.wide.result a ∙ c.wide.ensures ∙ to_z-of_z w8 head.0 (low_fits head keeps) in
    let high = to_z-of_z w16 c.wide-in-At.result b ∙ c.wide-in-At.ensures ∙ to_z-of_z w8 head.1 (high_fits head keeps) in
    enters_at c.enter_at.result c.args.heads.now c.args.self.now c.enter_at.new.self c.in-At.spot (omega (arith, c.if-self-heads.false)) c.in-At.is
    (same_step c.enter_at.result (to_z w16 (of_z w16 c.wide.result)) (to_z w16 (of_z w16 c.wide-in-At.result)) head c.args.self.now c.enter_at.new.self c.in-At.spot low high c.enter_at.ensures)
