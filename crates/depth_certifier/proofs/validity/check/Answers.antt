use Rattle.std.proofs.Common.{sym, ◌∙◌}
use Rattle.depth_certifier.proofs.validity.check.Goals as goal

pub returns : goal.returns
returns c =
    let exact = c.checks_are_exact.ensures c.args.program.now c.args.certificate.now c.tokens_are_proper.ensures in
    (λ passed. exact.0 (sym c.holds.ensures ∙ passed), λ valid. c.holds.ensures ∙ exact.1 valid)
