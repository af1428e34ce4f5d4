use Rattle.std.proofs.Common.{◌≡◌, ◌⊎◌, sym, subst}
use Rattle.j1_workbench.specs.declared.status.Status.TheVariants.{OutOfMemory}
use Rattle.j1_workbench.specs.Files.{IsRead}
use Rattle.j1_workbench.specs.Sources.{HasCertificate, IsCertifiedSource, IsRefusedText, IsRefusedSource}
use Rattle.j1_workbench.specs.Notes.{named}
use Rattle.j1_workbench.specs.Surroundings.{folder}
use Rattle.j1_workbench.proofs.FilesRead.{refused_read, on_either}
use Rattle.j1_workbench.proofs.source.certified_source.Goals as goal

pub returns-in-Ok-clause-found : goal.returns-in-Ok-clause-found
returns-in-Ok-clause-found g c =
    let before = folder (g.F.Folder.files c.args.files.now) (g.F.Folder.calls c.args.files.now) (g.F.Folder.read_faults c.args.files.now) (g.F.Folder.write_faults c.args.files.now) (g.F.Folder.absences c.args.files.now) in
    let after =
    folder (g.F.Folder.files c.read_file.new.files) (g.F.Folder.calls c.read_file.new.files) (g.F.Folder.read_faults c.read_file.new.files)
    (g.F.Folder.write_faults c.read_file.new.files) (g.F.Folder.absences c.read_file.new.files) in
    let read = subst (IsRead 65536 c.args.source.now before) (sym c.as_slice.ensures.value) c.in-Ok.ensures.found in
    on_either
    (λ found. HasCertificate c.as_slice.result.now found.0 found.1) (λ found. IsCertifiedSource c.args.source.now before found.0 found.1)
    (λ answer. (answer.status ≡ OutOfMemory) ⊎ IsRefusedText c.as_slice.result.now answer.status (named answer.name)) (λ answer. IsRefusedSource c.args.source.now before after answer.status (named answer.name))
    c.certified_text.result
    (λ found is. (c.as_slice.result.now, read.holds, is))
    (λ answer is. refused_read c.args.source.now c.as_slice.result.now before after answer.status (named answer.name) read is)
    c.certified_text.ensures
