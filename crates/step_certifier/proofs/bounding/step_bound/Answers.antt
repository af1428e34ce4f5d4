use Rattle.std.proofs.Common.{◌≡◌, Some, rules, sym, subst}
use Rattle.j1_table.specs.Image.{Content}
use Rattle.library_laws.specs.Bodies.{whole_library}
use Rattle.step_certifier.specs.Bound.{Bounded, step_bound}
use Rattle.step_certifier.specs.Law.{EndsOnChip}
use Rattle.step_certifier.proofs.BoundAnswers.{steps_of}
use Rattle.step_certifier.proofs.bounding.step_bound.Goals as goal

pub returns-clause-ends : goal.returns-clause-ends
returns-clause-ends c =
    let bounded : step_bound c.args.program.now ≡ Bounded c.in-Some-steps_for.steps =
    steps_of c.args.program.now c.in_ok-costs.costs.items c.main-main.result.0 c.cost_of.result (Some c.in-Some-steps_for.steps) (search rules) c.in_ok-costs.ensures.items c.main-main.ensures.value (search rules)
    c.in-Some-steps_for.ensures in
    subst (λ (i : Content). EndsOnChip i c.in-Some-steps_for.steps) (sym c.requires.laid_out)
    (c.bounded_images_end.ensures whole_library c.args.program.now c.args.certificate.now c.in-Some-steps_for.steps c.library_means.ensures.form c.library_means.ensures.means
    c.requires.built c.requires.bytes c.requires.without_go c.requires.certified bounded)
