-- What the relations of `hex` and `kernel` say, part by part.
use Rattle.std.proofs.Common.{◌≡◌, inl, inr, ℕ, List, refl, subst}
use Rattle.outside_io.specs.Causes.{Rose}
use Rattle.j1_table.specs.Image.{Content}
use Rattle.image_file.specs.File.{IsImage, IsFile, image_bytes}
use Rattle.image_file.specs.Laws.{FilesAreImages}
use Rattle.memory_text.specs.MemoryText.{memory_text}
use Rattle.memory_text.specs.Laws.{EachTellsItsMemory}
use Rattle.target_forth.specs.Kernel.{kernel}
use Rattle.j1_workbench.specs.declared.status.Status.{Status}
use Rattle.j1_workbench.specs.declared.status.Status.TheVariants.{Done, OutOfMemory}
use Rattle.j1_workbench.specs.Surroundings.{FolderState, Surroundings, IsOnlyRead}
use Rattle.j1_workbench.specs.Files.{IsPut}
use Rattle.j1_workbench.specs.Images.{IsRefusedImage, IsImageFile}
use Rattle.j1_workbench.specs.WritingMemory.{WritesMemory}
use Rattle.j1_workbench.specs.WritingKernel.{WritesKernel}
use Rattle.j1_workbench.proofs.FileCommands.{put_after}

-- ---- hex

pub memory_refused : (name file : List ℕ) (before after : Surroundings) (status : Status) →
    IsOnlyRead 1 before.folder after.folder → IsRefusedImage name before.folder after.folder status → after.console ≡ before.console → after.out ≡ before.out →
    WritesMemory name file before after status
unfolding WritesMemory
memory_refused name file before after status read refused console out = ((console, out), inl (read, refused))

pub memory_without_memory : (name file : List ℕ) (before after : Surroundings) →
    IsOnlyRead 1 before.folder after.folder → after.console ≡ before.console → after.out ≡ before.out → WritesMemory name file before after OutOfMemory
unfolding WritesMemory
memory_without_memory name file before after read console out = ((console, out), inl (read, inl tt))

pub memory_put : (name file content : List ℕ) (before after : Surroundings) (middle : FolderState) (image : Content) (status : Status) →
    EachTellsItsMemory → IsOnlyRead 1 before.folder middle → IsImageFile name before.folder image → content ≡ memory_text image →
    IsPut 1 file content middle after.folder status → after.console ≡ before.console → after.out ≡ before.out → WritesMemory name file before after status
unfolding WritesMemory
memory_put name file content before after middle image status tells read is same put console out = (
  (console, out),
  inr (record {
    image = image;
    is_in = is;
    written = subst (λ c. IsPut 2 file c before.folder after.folder status) same (put_after file content before.folder middle after.folder status read put);
    tells = tells image is.fits.room;
  }),
)

-- ---- kernel

pub kernel_fits : (image : Content) → image ≡ kernel → IsImage image → IsImage kernel
kernel_fits image same fits = subst IsImage same fits

pub kernel_without_memory : (file : List ℕ) (before after : Surroundings) →
    after.folder ≡ before.folder → after.console ≡ before.console → after.out ≡ before.out → WritesKernel file before after OutOfMemory
unfolding WritesKernel
kernel_without_memory file before after folder console out = ((console, out), inl (refl, folder))

pub kernel_put : (file content : List ℕ) (before after : Surroundings) (status : Status) →
    IsImage kernel → content ≡ image_bytes kernel → IsPut 1 file content before.folder after.folder status → after.console ≡ before.console → after.out ≡ before.out →
    WritesKernel file before after status
unfolding WritesKernel
kernel_put file content before after status fits same put console out =
    ((console, out), inr (fits, subst (λ c. IsPut 1 file c before.folder after.folder status) same put))
