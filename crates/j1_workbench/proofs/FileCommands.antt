-- What the relations of the commands on image files and listings say, part by part.
use Rattle.std.proofs.Common.{◌≡◌, inl, inr, ℕ, List, [], sym, ap, subst, ◌∙◌, arith}
use Rattle.std.specs.Prelude.{Option, Some, None, if◌then◌else◌}
use Rattle.std.specs.Str.{bytes_eq}
use Rattle.outside_io.specs.Causes.{Rose}
use Rattle.outside_io.specs.Files.{Files, KeepsFiles, SetsFile, KeepsOthers}
use Rattle.j1_table.specs.Image.{Content}
use Rattle.image_file.specs.File.{IsImage, image_bytes, FirstBad}
use Rattle.j1_assembler.specs.declared.refusal.AsmCause.{AsmCause}
use Rattle.j1_assembler.specs.Grammar.{Assembles}
use Rattle.j1_assembler.specs.FirstBad.{IsFirstBad}
use Rattle.decompiler.specs.Listing.{listing}
use Rattle.decompiler.specs.Laws.{AssemblesOnlyTo}
use Rattle.j1_workbench.specs.declared.status.Status.{Status}
use Rattle.j1_workbench.specs.declared.status.Status.TheVariants.{OutOfMemory, BadImage, BadListing}
use Rattle.j1_workbench.specs.declared.answer.Answer.{Answer}
use Rattle.j1_workbench.specs.Notes.{named}
use Rattle.j1_workbench.specs.Surroundings.{FolderState, Surroundings, IsOnlyRead}
use Rattle.j1_workbench.specs.Files.{IsRead, IsUnread, IsWritten, IsPut}
use Rattle.j1_workbench.specs.Sources.{IsRefusedSource}
use Rattle.j1_workbench.specs.Compiling.{CompilesSource}
use Rattle.j1_workbench.specs.Driving.{Drives}
use Rattle.j1_workbench.specs.Certifying.{Writes}
use Rattle.j1_workbench.specs.Building.{Builds}
use Rattle.j1_workbench.specs.Images.{IsRefusedImage, IsImageFile}
use Rattle.j1_workbench.specs.Executing.{Executes}
use Rattle.j1_workbench.specs.ListingImage.{Lists}
use Rattle.j1_workbench.specs.Assembling.{AssemblesFile}

-- ---- a read and then a write

kept_twice : (a b c : Option Files) → KeepsFiles a b → KeepsFiles b c → KeepsFiles a c
kept_twice None b c h g = tt
kept_twice (Some f) None c h g = absurd h
kept_twice (Some f) (Some m) None h g = absurd g
kept_twice (Some f) (Some m) (Some a) h g = λ other. g other ∙ h other

set_after : (a b c : Option Files) (name content : List ℕ) → KeepsFiles a b → SetsFile b c name content → SetsFile a c name content
set_after None b c name content h g = tt
set_after (Some f) None c name content h g = absurd h
set_after (Some f) (Some m) None name content h g = absurd g
set_after (Some f) (Some m) (Some a) name content h g = λ other. g other ∙ ap (λ found. if bytes_eq name other then Some content else found) (h other)

others_after : (a b c : Option Files) (name : List ℕ) → KeepsFiles a b → KeepsOthers b c name → KeepsOthers a c name
others_after None b c name h g = tt
others_after (Some f) None c name h g = absurd h
others_after (Some f) (Some m) None name h g = absurd g
others_after (Some f) (Some m) (Some a) name h g = λ other. elim (g other) [ inl same ↦ inl same | inr kept ↦ inr (kept ∙ h other) ]

read_twice : (before middle after : FolderState) → IsOnlyRead 1 before middle → IsOnlyRead 1 middle after → IsOnlyRead 2 before after
read_twice before middle after first second = record {
  files = kept_twice before.files middle.files after.files first.files second.files;
  calls = omega (arith, first.calls, second.calls);
  read_faults = omega (arith, first.read_faults, second.read_faults);
  write_faults = second.write_faults ∙ first.write_faults;
  absences = omega (arith, first.absences, second.absences);
}

written_after : (name content : List ℕ) (before middle after : FolderState) (status : Status) → IsOnlyRead 1 before middle → IsWritten 1 name content middle after status → IsWritten 2 name content before after status
written_after name content before middle after status read wrote = record {
  written = elim wrote.written [
    | inl done ↦ inl (done.0, set_after before.files middle.files after.files name content read.files done.1)
    | inr failed ↦ inr (failed.0, subst (λ n. Rose n after.write_faults) read.write_faults failed.1)
  ];
  others = others_after before.files middle.files after.files name read.files wrote.others;
  calls = omega (arith, read.calls, wrote.calls);
  read_faults = omega (arith, read.read_faults, wrote.read_faults);
  write_faults = omega (arith, read.write_faults, wrote.write_faults);
  absences = omega (arith, read.absences, wrote.absences);
}

pub put_after : (name content : List ℕ) (before middle after : FolderState) (status : Status) → IsOnlyRead 1 before middle → IsPut 1 name content middle after status → IsPut 2 name content before after status
put_after name content before middle after status read (inl wrote) = inl (written_after name content before middle after status read wrote)
put_after name content before middle after status read (inr wanting) = inr (wanting.0, read_twice before middle after read wanting.1)

-- ---- build

pub build_refused : (source file : List ℕ) (before after : Surroundings) (status : Status) (name : List ℕ) →
    IsOnlyRead 1 before.folder after.folder → IsRefusedSource source before.folder after.folder status name → after.console ≡ before.console → after.out ≡ before.out → Builds source file before after status name
unfolding Builds
build_refused source file before after status name read refused console out = ((console, out), inl (read, refused))

pub build_without_memory : (source file : List ℕ) (before after : Surroundings) (name : List ℕ) →
    IsOnlyRead 1 before.folder after.folder → after.console ≡ before.console → after.out ≡ before.out → Builds source file before after OutOfMemory name
unfolding Builds
build_without_memory source file before after name read console out = ((console, out), inl (read, tt))

build_put_by : (source file content : List ℕ) (before after : Surroundings) (middle : FolderState) (image : Content) (status : Status) (name : List ℕ) →
    IsOnlyRead 1 before.folder middle → CompilesSource source before.folder image → IsImage image → content ≡ image_bytes image → IsPut 1 file content middle after.folder status →
    after.console ≡ before.console → after.out ≡ before.out → Builds source file before after status name
unfolding Builds
build_put_by source file content before after middle image status name read compiles fits same put console out = (
  (console, out),
  inr (record {
    image = image;
    compiles = compiles;
    fits = fits;
    written = subst (λ c. IsPut 2 file c before.folder after.folder status) same (put_after file content before.folder middle after.folder status read put);
  }),
)

pub build_put : (source file content : List ℕ) (before after : Surroundings) (middle : FolderState) (image : Content) (status : Status) (answer : Answer) →
    answer ≡ record { status = status; name = None } → IsOnlyRead 1 before.folder middle → CompilesSource source before.folder image → IsImage image → content ≡ image_bytes image → IsPut 1 file content middle after.folder status →
    after.console ≡ before.console → after.out ≡ before.out → Builds source file before after answer.status (named answer.name)
build_put source file content before after middle image status answer is read compiles fits same put console out =
    subst (λ a. Builds source file before after a.status (named a.name)) (sym is) (build_put_by source file content before after middle image status [] read compiles fits same put console out)

-- ---- image files

pub image_unread : (file : List ℕ) (before after : FolderState) (status : Status) → IsUnread 32768 file before after status → IsRefusedImage file before after status
image_unread file before after status unread = inl unread

pub image_bad : (file content bytes : List ℕ) (before after : FolderState) (offset : ℕ) → IsRead 32768 file before content → bytes ≡ content → FirstBad bytes offset → IsRefusedImage file before after (BadImage offset)
image_bad file content bytes before after offset read same bad = inr (content, read, subst (λ b. FirstBad b offset) same bad)

pub image_read : (file content bytes : List ℕ) (before : FolderState) (image : Content) → IsRead 32768 file before content → bytes ≡ content → IsImage image → bytes ≡ image_bytes image → IsImageFile file before image
image_read file content bytes before image read same fits is = record { content = content; read = read; fits = fits; is = sym same ∙ is }

-- ---- exec

pub execute_refused : (file : List ℕ) (steps : ℕ) (before after : Surroundings) (status : Status) →
    IsOnlyRead 1 before.folder after.folder → IsRefusedImage file before.folder after.folder status → after.console ≡ before.console → after.out ≡ before.out → Executes file steps before after status
unfolding Executes
execute_refused file steps before after status read refused console out = (read, inl (refused, (console, out)))

pub execute_without_memory : (file : List ℕ) (steps : ℕ) (before after : Surroundings) →
    IsOnlyRead 1 before.folder after.folder → after.console ≡ before.console → after.out ≡ before.out → Executes file steps before after OutOfMemory
unfolding Executes
execute_without_memory file steps before after read console out = (read, inl (inl tt, (console, out)))

pub execute_driven : (file : List ℕ) (steps : ℕ) (before after : Surroundings) (status : Status) (image : Content) →
    IsOnlyRead 1 before.folder after.folder → IsImageFile file before.folder image → Drives image steps before.console after.console before.out after.out status → Executes file steps before after status
unfolding Executes
execute_driven file steps before after status image read is drives = (read, inr (record { image = image; is_in = is; drives = drives }))

-- ---- list

pub list_refused : (file : List ℕ) (before after : Surroundings) (status : Status) →
    IsOnlyRead 1 before.folder after.folder → IsRefusedImage file before.folder after.folder status → after.console ≡ before.console → after.out ≡ before.out → Lists file before after status
unfolding Lists
list_refused file before after status read refused console out = (read, console, inl (refused, out))

pub list_without_memory : (file : List ℕ) (before after : Surroundings) →
    IsOnlyRead 1 before.folder after.folder → after.console ≡ before.console → after.out ≡ before.out → Lists file before after OutOfMemory
unfolding Lists
list_without_memory file before after read console out = (read, console, inl (inl tt, out))

pub list_written : (file text : List ℕ) (before after : Surroundings) (status : Status) (image : Content) →
    IsOnlyRead 1 before.folder after.folder → IsImageFile file before.folder image → AssemblesOnlyTo (listing image) image → after.console ≡ before.console → text ≡ listing image →
    Writes before.out after.out text status → Lists file before after status
unfolding Lists
list_written file text before after status image read is lists console same writes = (
  read,
  console,
  inr (record { image = image; is_in = is; writes = subst (λ t. Writes before.out after.out t status) same writes; lists = lists }),
)

-- ---- asm

pub assemble_unread : (text file : List ℕ) (before after : Surroundings) (status : Status) →
    IsOnlyRead 1 before.folder after.folder → IsUnread 524288 text before.folder after.folder status → after.console ≡ before.console → after.out ≡ before.out → AssemblesFile text file before after status
unfolding AssemblesFile
assemble_unread text file before after status read unread console out = ((console, out), inl (read, inl unread))

pub assemble_bad : (name file content bytes : List ℕ) (before after : Surroundings) (line : ℕ) (cause : AsmCause) →
    IsOnlyRead 1 before.folder after.folder → IsRead 524288 name before.folder content → bytes ≡ content → IsFirstBad bytes line cause →
    after.console ≡ before.console → after.out ≡ before.out → AssemblesFile name file before after (BadListing line)
unfolding AssemblesFile
assemble_bad name file content bytes before after line cause read is same bad console out =
    ((console, out), inl (read, inr (content, is, (cause, subst (λ b. IsFirstBad b line cause) same bad))))

pub assemble_without_memory : (name file : List ℕ) (before after : Surroundings) →
    IsOnlyRead 1 before.folder after.folder → after.console ≡ before.console → after.out ≡ before.out → AssemblesFile name file before after OutOfMemory
unfolding AssemblesFile
assemble_without_memory name file before after read console out = ((console, out), inl (read, inl tt))

pub assemble_put : (name file content text bytes : List ℕ) (before after : Surroundings) (middle : FolderState) (image : Content) (status : Status) →
    IsOnlyRead 1 before.folder middle → IsRead 524288 name before.folder text → bytes ≡ text → Assembles bytes image → IsImage image → content ≡ image_bytes image → IsPut 1 file content middle after.folder status →
    after.console ≡ before.console → after.out ≡ before.out → AssemblesFile name file before after status
unfolding AssemblesFile
assemble_put name file content text bytes before after middle image status read is same assembles fits laid put console out = (
  (console, out),
  inr (record {
    text = text;
    read = is;
    image = image;
    assembles = subst (λ b. Assembles b image) same assembles;
    fits = fits;
    written = subst (λ c. IsPut 2 file c before.folder after.folder status) laid (put_after file content before.folder middle after.folder status read put);
  }),
)
