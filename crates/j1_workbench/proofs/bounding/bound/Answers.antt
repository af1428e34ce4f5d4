use Rattle.std.proofs.Common.{Err, refl, ◌∙◌, subst}
use Rattle.step_certifier.specs.declared.bound.BoundError.{BoundError}
use Rattle.step_certifier.specs.Bound.{Answers}
use Rattle.j1_workbench.proofs.Commands.{has_bytes, bound_written, bound_none}
use Rattle.j1_workbench.proofs.FilesRead.{definition_named}
use Rattle.j1_workbench.proofs.bounding.bound.Goals as goal

pub step_bound-requires-clause-bytes : goal.step_bound-requires-clause-bytes
step_bound-requires-clause-bytes g c = has_bytes c.programs_are_sources.ensures.each c.in-Ok.ensures.found.0 c.in-Ok.found.0 c.in-Ok.found.1 c.in-Ok.ensures.found.2

pub returns-in-Ok-step_bound : goal.returns-in-Ok-step_bound
returns-in-Ok-step_bound g c = λ console.
    bound_written c.args.source.now _ _ c.write_number.result c.answered-in-Ok-step_bound.result c.in-Ok.found.0 c.in-Ok.found.1 c.in-Ok-linked_image.image c.in-Ok-step_bound.bound.steps
    c.answered-in-Ok-step_bound.ensures c.certified_source.ensures.read c.in-Ok.ensures.found refl c.in-Ok-linked_image.ensures c.in-Ok-step_bound.ensures.answer c.in-Ok-step_bound.ensures.ends c.write_number.ensures

pub returns-in-Err-Refused : goal.returns-in-Err-Refused
returns-in-Err-Refused g c = λ console.
    bound_none c.args.source.now _ _ _ c.in-Ok.found.0 c.in-Ok.found.1 c.in-Err-Refused.id c.in-Err-Refused.cause c.certified_source.ensures.read c.in-Ok.ensures.found refl refl
    (subst (λ (e : BoundError). Answers c.in-Ok.found.0 (Err e)) c.in-Err-Refused.field-0-is c.in-Err-Refused.ensures.answer)
    (definition_named c.new.result c.name.result.now c.new.ensures c.name.ensures.form ∙ c.name.ensures.value)
