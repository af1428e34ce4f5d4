use Rattle.std.proofs.Common.{refl, ◌∙◌}
use Rattle.j1_workbench.specs.Surroundings.{folder}
use Rattle.j1_workbench.proofs.FileCommands.{build_put}
use Rattle.j1_workbench.proofs.building.build.Goals as goal

pub returns-in-Ok-write_image : goal.returns-in-Ok-write_image
returns-in-Ok-write_image g c = λ console out.
    build_put c.args.source.now c.args.file.now c.as_slice.result.now _ _
    (folder (g.F.Folder.files c.compiled_source.new.files) (g.F.Folder.calls c.compiled_source.new.files) (g.F.Folder.read_faults c.compiled_source.new.files)
    (g.F.Folder.write_faults c.compiled_source.new.files) (g.F.Folder.absences c.compiled_source.new.files))
    c.in-Ok.image c.write_file.result c.answered.result c.answered.ensures c.compiled_source.ensures.read c.in-Ok.ensures.found c.in-Ok-write_image.ensures.image
    (c.as_slice.ensures.value ∙ c.in-Ok-write_image.ensures.bytes) c.write_file.ensures refl refl
