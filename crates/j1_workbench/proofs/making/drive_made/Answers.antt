use Rattle.std.proofs.Common.{refl, ap, sym, ◌∙◌}
use Rattle.j1_workbench.specs.Surroundings.{stream}
use Rattle.j1_workbench.specs.Summary.{summary}
use Rattle.j1_workbench.proofs.Makes.{make_ran}
use Rattle.j1_workbench.proofs.making.drive_made.Goals as goal

pub returns-in-Ok-run_image : goal.returns-in-Ok-run_image
returns-in-Ok-run_image g c = λ files console.
    make_ran c.args.seed c.args.count c.args.steps c.in-Ok.text.items c.as_slice.result.now c.in-Ok-summary.lines.items c.as_slice-in-Ok-run_image.result.now _ _
    c.in-Ok-compiled_text.compiled.0 c.in-Ok-compiled_text.compiled.1 c.in-Ok-run_image.ran c.sum_up.result c.run_image.new.console.calls
    (stream (g.O.Sink.held c.run_image.new.out) (g.O.Sink.calls c.run_image.new.out) (g.O.Sink.faults c.run_image.new.out)) c.answered-in-Ok-run_image.result
    c.answered-in-Ok-run_image.ensures c.in-Ok.ensures c.as_slice.ensures.value c.in-Ok-compiled_text.ensures
    (c.in-Ok-summary.ensures ∙ ap (summary c.in-Ok-compiled_text.compiled.0) (c.as_slice-2.ensures.value ∙ sym c.as_slice.ensures.value)) c.as_slice-in-Ok-run_image.ensures.value
    c.in-Ok-run_image.ensures c.sum_up.ensures refl refl
