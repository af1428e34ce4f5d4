use Rattle.std.proofs.Common.{refl, ap, ◌∙◌}
use Rattle.depth_certifier.specs.declared.effect.CertCause.TheVariants.{Data, Return, Shape}
use Rattle.j1_workbench.specs.Notes.{uncertified, named}
use Rattle.j1_workbench.proofs.SinkContents.{definition_noted}
use Rattle.j1_workbench.proofs.notes.write_uncertified.Goals as goal

pub returns-in-Data-clause-bytes : goal.returns-in-Data-clause-bytes
returns-in-Data-clause-bytes g c =
    definition_noted _ _ c.write_line.result (named c.args.name.now) c.as_bytes.result.now (uncertified Data) (uncertified c.args.cause) _ (ap uncertified c.in-Data.is) (c.as_bytes.ensures.value
    ∙ c.named.ensures) refl c.write_line.ensures.bytes

pub returns-in-Return-clause-bytes : goal.returns-in-Return-clause-bytes
returns-in-Return-clause-bytes g c =
    definition_noted _ _ c.write_line-in-Return.result (named c.args.name.now) c.as_bytes-in-Return.result.now (uncertified Return) (uncertified c.args.cause) _ (ap uncertified c.in-Return.is) (c.as_bytes-in-Return.ensures.value
    ∙ c.named-in-Return.ensures) refl c.write_line-in-Return.ensures.bytes

pub returns-in-Shape-clause-bytes : goal.returns-in-Shape-clause-bytes
returns-in-Shape-clause-bytes g c =
    definition_noted _ _ c.write_line-in-Shape.result (named c.args.name.now) c.as_bytes-in-Shape.result.now (uncertified Shape) (uncertified c.args.cause) _ (ap uncertified c.in-Shape.is) (c.as_bytes-in-Shape.ensures.value
    ∙ c.named-in-Shape.ensures) refl c.write_line-in-Shape.ensures.bytes
