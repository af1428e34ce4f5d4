use Rattle.std.proofs.Common.{refl, ◌∙◌}
use Rattle.j1_workbench.specs.Surroundings.{folder}
use Rattle.j1_workbench.proofs.FileCommands.{assemble_put}
use Rattle.j1_workbench.proofs.assembling.assemble_file.Goals as goal

pub returns-in-Ok-write_image : goal.returns-in-Ok-write_image
returns-in-Ok-write_image g c = λ console out.
    assemble_put c.args.listing.now c.args.file.now c.as_slice-in-Ok-write_image.result.now c.in-Ok.text.items c.as_slice.result.now _ _
    (folder (g.F.Folder.files c.read_file.new.files) (g.F.Folder.calls c.read_file.new.files) (g.F.Folder.read_faults c.read_file.new.files) (g.F.Folder.write_faults c.read_file.new.files) (g.F.Folder.absences c.read_file.new.files))
    c.in-Ok-assemble.image c.write_file.result c.read_file.ensures.read c.in-Ok.ensures.found c.as_slice.ensures.value c.in-Ok-assemble.ensures.image c.in-Ok-write_image.ensures.image
    (c.as_slice-in-Ok-write_image.ensures.value ∙ c.in-Ok-write_image.ensures.bytes) c.write_file.ensures refl refl
