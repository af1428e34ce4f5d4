-- `asm LST IMG`: the file of the image that an assembly text stands for is written.
use Rattle.std.specs.Prelude.{◌⊎◌, ℕ, List}
use Rattle.j1_table.specs.Image.{Content}
use Rattle.image_file.specs.File.{IsImage, image_bytes}
use Rattle.j1_assembler.specs.declared.refusal.AsmCause.{AsmCause}
use Rattle.j1_assembler.specs.Grammar.{Assembles}
use Rattle.j1_assembler.specs.FirstBad.{IsFirstBad}
use Rattle.j1_workbench.specs.declared.status.Status.{Status}
use Rattle.j1_workbench.specs.declared.status.Status.TheVariants.{BadListing}
use Rattle.j1_workbench.specs.Surroundings.{FolderState, Surroundings, IsOnlyRead, IsQuiet}
use Rattle.j1_workbench.specs.Files.{IsRead, IsRefusedFile, IsPut}

-- a text is no assembly text: this is its first bad line
abbrev pub IsBadListing : List ℕ → Status → Type 0
IsBadListing text (BadListing line) = (cause : AsmCause) × IsFirstBad text line cause
IsBadListing text status = ⊥

-- an assembly text has at most 524,288 bytes
abbrev pub IsRefusedListing : List ℕ → FolderState → FolderState → Status → Type 0
IsRefusedListing listing before after status = IsRefusedFile 524288 IsBadListing listing before after status

pub record WritesAssembled (listing file : List ℕ) (before after : FolderState) (status : Status) : Type 0 where
  pub text : List ℕ
  pub read : IsRead 524288 listing before text
  pub image : Content
  pub assembles : Assembles text image
  pub fits : IsImage image
  pub written : IsPut 2 file (image_bytes image) before after status

-- `asm`: console and out are left alone, and a refused text leaves every file as it was
unfoldable pub AssemblesFile : List ℕ → List ℕ → Surroundings → Surroundings → Status → Type 0
AssemblesFile listing file before after status =
    IsQuiet before after
    × ((IsOnlyRead 1 before.folder after.folder × IsRefusedListing listing before.folder after.folder status) ⊎ WritesAssembled listing file before.folder after.folder status)
