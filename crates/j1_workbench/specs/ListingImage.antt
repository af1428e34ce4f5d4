-- `list IMG`: the listing of the image in a file is written to out.
use Rattle.std.specs.Prelude.{◌≡◌, ◌⊎◌, ℕ, List}
use Rattle.j1_table.specs.Image.{Content}
use Rattle.decompiler.specs.Listing.{listing}
use Rattle.decompiler.specs.Laws.{AssemblesOnlyTo}
use Rattle.j1_workbench.specs.declared.status.Status.{Status}
use Rattle.j1_workbench.specs.Surroundings.{Surroundings, IsOnlyRead}
use Rattle.j1_workbench.specs.Images.{IsRefusedImage, IsImageFile}
use Rattle.j1_workbench.specs.Certifying.{Writes}

pub record WritesListing (file : List ℕ) (before after : Surroundings) (status : Status) : Type 0 where
  pub image : Content
  pub is_in : IsImageFile file before.folder image
  pub writes : Writes before.out after.out (listing image) status
  -- the listing assembles to the image, and to no other
  pub lists : AssemblesOnlyTo (listing image) image

-- `list`: a refused file leaves out alone; the console is never asked
unfoldable pub Lists : List ℕ → Surroundings → Surroundings → Status → Type 0
Lists file before after status =
    IsOnlyRead 1 before.folder after.folder × (after.console ≡ before.console)
    × ((IsRefusedImage file before.folder after.folder status × (after.out ≡ before.out)) ⊎ WritesListing file before after status)
