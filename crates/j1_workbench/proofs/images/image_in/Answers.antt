use Rattle.j1_workbench.specs.Surroundings.{folder}
use Rattle.j1_workbench.proofs.FileCommands.{image_bad}
use Rattle.j1_workbench.proofs.images.image_in.Goals as goal

pub returns-in-Err-Refused-clause-found : goal.returns-in-Err-Refused-clause-found
returns-in-Err-Refused-clause-found g c =
    image_bad c.args.file.now c.in-Ok.content.items c.as_slice.result.now
    (folder (g.F.Folder.files c.args.files.now) (g.F.Folder.calls c.args.files.now) (g.F.Folder.read_faults c.args.files.now) (g.F.Folder.write_faults c.args.files.now) (g.F.Folder.absences c.args.files.now))
    (folder (g.F.Folder.files c.read_file.new.files) (g.F.Folder.calls c.read_file.new.files) (g.F.Folder.read_faults c.read_file.new.files) (g.F.Folder.write_faults c.read_file.new.files) (g.F.Folder.absences c.read_file.new.files))
    c.in-Err-Refused.offset c.in-Ok.ensures.found c.as_slice.ensures.value (rw c.in-Err-Refused.field-0-is at c.in-Err-Refused.ensures.refused)
