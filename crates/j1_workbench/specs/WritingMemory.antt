-- `hex IMG OUT`: the memory that the image in a file begins with is written to a file as a text.
use Rattle.std.specs.Prelude.{◌⊎◌, ℕ, List}
use Rattle.j1_table.specs.Image.{Content}
use Rattle.memory_text.specs.MemoryText.{memory_text}
use Rattle.memory_text.specs.Laws.{TellsItsMemory}
use Rattle.j1_workbench.specs.declared.status.Status.{Status}
use Rattle.j1_workbench.specs.Surroundings.{FolderState, Surroundings, IsOnlyRead, IsQuiet}
use Rattle.j1_workbench.specs.Files.{IsPut}
use Rattle.j1_workbench.specs.Images.{IsRefusedImage, IsImageFile}

pub record WritesMemoryText (name file : List ℕ) (before after : FolderState) (status : Status) : Type 0 where
  pub image : Content
  pub is_in : IsImageFile name before image
  pub written : IsPut 2 file (memory_text image) before after status
  -- line i is cell i of the memory, and no other memory has this text
  pub tells : TellsItsMemory image

-- `hex`: console and out are left alone, and a refused file leaves every file as it was
unfoldable pub WritesMemory : List ℕ → List ℕ → Surroundings → Surroundings → Status → Type 0
WritesMemory name file before after status =
    IsQuiet before after
    × ((IsOnlyRead 1 before.folder after.folder × IsRefusedImage name before.folder after.folder status)
    ⊎ WritesMemoryText name file before.folder after.folder status)
