-- Image files that commands read.
use Rattle.std.specs.Prelude.{◌≡◌, ℕ, List}
use Rattle.j1_table.specs.Image.{Content}
use Rattle.image_file.specs.File.{IsImage, image_bytes, FirstBad}
use Rattle.j1_workbench.specs.declared.status.Status.{Status}
use Rattle.j1_workbench.specs.declared.status.Status.TheVariants.{BadImage}
use Rattle.j1_workbench.specs.Surroundings.{FolderState}
use Rattle.j1_workbench.specs.Files.{IsRead, IsRefusedFile}

-- bytes are no image file: this is their first bad offset
abbrev pub IsBadImage : List ℕ → Status → Type 0
IsBadImage content (BadImage offset) = FirstBad content offset
IsBadImage content status = ⊥

-- an image file has at most 32,768 bytes
abbrev pub IsRefusedImage : List ℕ → FolderState → FolderState → Status → Type 0
IsRefusedImage file before after status = IsRefusedFile 32768 IsBadImage file before after status

-- the file is that of this image
pub record IsImageFile (file : List ℕ) (before : FolderState) (image : Content) : Type 0 where
  pub content : List ℕ
  pub read : IsRead 32768 file before content
  pub fits : IsImage image
  pub is : content ≡ image_bytes image
