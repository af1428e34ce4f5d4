use Rattle.std.proofs.Common.{refl, ◌∙◌}
use Rattle.j1_workbench.specs.Surroundings.{folder}
use Rattle.j1_workbench.proofs.WritingFiles.{memory_put}
use Rattle.j1_workbench.proofs.writing_memory.write_memory.Goals as goal

pub returns-in-Ok-memory_text : goal.returns-in-Ok-memory_text
returns-in-Ok-memory_text g c = λ console out.
    memory_put c.args.name.now c.args.file.now c.as_slice.result.now _ _
    (folder (g.F.Folder.files c.image_in.new.files) (g.F.Folder.calls c.image_in.new.files) (g.F.Folder.read_faults c.image_in.new.files) (g.F.Folder.write_faults c.image_in.new.files) (g.F.Folder.absences c.image_in.new.files))
    c.in-Ok.image c.write_file.result c.memory_texts_tell.ensures c.image_in.ensures.read c.in-Ok.ensures.found (c.as_slice.ensures.value ∙ c.in-Ok-memory_text.ensures)
    c.write_file.ensures refl refl
