use Rattle.std.proofs.Common.{refl, ap, ◌∙◌}
use Rattle.step_certifier.specs.declared.bound.BoundCause.TheVariants.{BeginLoop, OpenBounds, Recursion, Execute, TooLarge}
use Rattle.j1_workbench.specs.Notes.{unbounded, named}
use Rattle.j1_workbench.proofs.SinkContents.{definition_noted}
use Rattle.j1_workbench.proofs.notes.write_unbounded.Goals as goal

pub returns-in-BeginLoop-clause-bytes : goal.returns-in-BeginLoop-clause-bytes
returns-in-BeginLoop-clause-bytes g c =
    definition_noted _ _ c.write_line.result (named c.args.name.now) c.as_bytes.result.now (unbounded BeginLoop) (unbounded c.args.cause) _ (ap unbounded c.in-BeginLoop.is) (c.as_bytes.ensures.value
    ∙ c.named.ensures) refl c.write_line.ensures.bytes

pub returns-in-OpenBounds-clause-bytes : goal.returns-in-OpenBounds-clause-bytes
returns-in-OpenBounds-clause-bytes g c =
    definition_noted _ _ c.write_line-in-OpenBounds.result (named c.args.name.now) c.as_bytes-in-OpenBounds.result.now (unbounded OpenBounds) (unbounded c.args.cause) _ (ap unbounded c.in-OpenBounds.is)
    (c.as_bytes-in-OpenBounds.ensures.value ∙ c.named-in-OpenBounds.ensures) refl c.write_line-in-OpenBounds.ensures.bytes

pub returns-in-Recursion-clause-bytes : goal.returns-in-Recursion-clause-bytes
returns-in-Recursion-clause-bytes g c =
    definition_noted _ _ c.write_line-in-Recursion.result (named c.args.name.now) c.as_bytes-in-Recursion.result.now (unbounded Recursion) (unbounded c.args.cause) _ (ap unbounded c.in-Recursion.is)
    (c.as_bytes-in-Recursion.ensures.value ∙ c.named-in-Recursion.ensures) refl c.write_line-in-Recursion.ensures.bytes

pub returns-in-Execute-clause-bytes : goal.returns-in-Execute-clause-bytes
returns-in-Execute-clause-bytes g c =
    definition_noted _ _ c.write_line-in-Execute.result (named c.args.name.now) c.as_bytes-in-Execute.result.now (unbounded Execute) (unbounded c.args.cause) _ (ap unbounded c.in-Execute.is) (c.as_bytes-in-Execute.ensures.value
    ∙ c.named-in-Execute.ensures) refl c.write_line-in-Execute.ensures.bytes

pub returns-in-TooLarge-clause-bytes : goal.returns-in-TooLarge-clause-bytes
returns-in-TooLarge-clause-bytes g c =
    definition_noted _ _ c.write_line-in-TooLarge.result (named c.args.name.now) c.as_bytes-in-TooLarge.result.now (unbounded TooLarge) (unbounded c.args.cause) _ (ap unbounded c.in-TooLarge.is) (c.as_bytes-in-TooLarge.ensures.value
    ∙ c.named-in-TooLarge.ensures) refl c.write_line-in-TooLarge.ensures.bytes
