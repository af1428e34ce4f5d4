use Rattle.std.proofs.Common.{◌≡◌, false, sym, ap, ◌∙◌, rules}
use Rattle.std.specs.List.{list_all}
use Rattle.depth_certifier.specs.Checking.{is_ordered}
use Rattle.depth_certifier.proofs.Bodies.{unordered}
use Rattle.depth_certifier.proofs.validity.holds.Goals as goal

pub returns-then-not-are_ordered : goal.returns-then-not-are_ordered
returns-then-not-are_ordered c =
    let some : list_all (λ e. is_ordered e.exit) c.args.certificate.now.effects ≡ false = sym (ap (list_all (λ e. is_ordered e.exit)) c.effects.ensures) ∙ (search rules) in
    unordered c.args.program.now c.args.certificate.now some
