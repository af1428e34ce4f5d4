-- `exec IMG`: the image in a file is driven on the console and out.
use Rattle.std.specs.Prelude.{◌⊎◌, ℕ, List}
use Rattle.j1_table.specs.Image.{Content}
use Rattle.j1_workbench.specs.declared.status.Status.{Status}
use Rattle.j1_workbench.specs.Surroundings.{Surroundings, IsOnlyRead, IsQuiet}
use Rattle.j1_workbench.specs.Images.{IsRefusedImage, IsImageFile}
use Rattle.j1_workbench.specs.Driving.{Drives}

pub record RunsImage (file : List ℕ) (steps : ℕ) (before after : Surroundings) (status : Status) : Type 0 where
  pub image : Content
  pub is_in : IsImageFile file before.folder image
  pub drives : Drives image steps before.console after.console before.out after.out status

-- `exec`: a refused file leaves console and out alone
unfoldable pub Executes : List ℕ → ℕ → Surroundings → Surroundings → Status → Type 0
Executes file steps before after status =
    IsOnlyRead 1 before.folder after.folder
    × ((IsRefusedImage file before.folder after.folder status × IsQuiet before after) ⊎ RunsImage file steps before after status)
