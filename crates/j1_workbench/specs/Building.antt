-- `build SRC IMG`: the file of the image of a source is written.
use Rattle.std.specs.Prelude.{◌⊎◌, ℕ, List}
use Rattle.j1_table.specs.Image.{Content}
use Rattle.image_file.specs.File.{IsImage, image_bytes}
use Rattle.j1_workbench.specs.declared.status.Status.{Status}
use Rattle.j1_workbench.specs.Surroundings.{FolderState, Surroundings, IsOnlyRead, IsQuiet}
use Rattle.j1_workbench.specs.Sources.{IsRefusedSource}
use Rattle.j1_workbench.specs.Files.{IsPut}
use Rattle.j1_workbench.specs.Compiling.{CompilesSource}

pub record WritesImage (source file : List ℕ) (before after : FolderState) (status : Status) : Type 0 where
  pub image : Content
  pub compiles : CompilesSource source before image
  pub fits : IsImage image
  pub written : IsPut 2 file (image_bytes image) before after status

-- `build`: console and out are left alone, and a refused source leaves every file as it was
unfoldable pub Builds : List ℕ → List ℕ → Surroundings → Surroundings → Status → List ℕ → Type 0
Builds source file before after status name =
    IsQuiet before after
    × ((IsOnlyRead 1 before.folder after.folder × IsRefusedSource source before.folder after.folder status name) ⊎ WritesImage source file before.folder after.folder status)
