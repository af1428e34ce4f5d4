use Rattle.j1_workbench.proofs.Commands.{run_driven}
use Rattle.j1_workbench.proofs.running.run.Goals as goal

pub returns-in-Ok-run_image : goal.returns-in-Ok-run_image
returns-in-Ok-run_image g c =
    run_driven c.args.source.now c.args.steps _ _ c.in-Ok-run_image.status c.answered.result c.in-Ok.image
    c.answered.ensures c.compiled_source.ensures.read c.in-Ok.ensures.found c.in-Ok-run_image.ensures
