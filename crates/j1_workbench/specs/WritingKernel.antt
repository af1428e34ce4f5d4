-- `kernel IMG`: the file of the image of the interactive Forth is written.
use Rattle.std.specs.Prelude.{◌≡◌, ◌⊎◌, ℕ, List}
use Rattle.image_file.specs.File.{IsImage, image_bytes}
use Rattle.target_forth.specs.Kernel.{kernel}
use Rattle.j1_workbench.specs.declared.status.Status.{Status}
use Rattle.j1_workbench.specs.declared.status.Status.TheVariants.{OutOfMemory}
use Rattle.j1_workbench.specs.Surroundings.{Surroundings, IsQuiet}
use Rattle.j1_workbench.specs.Files.{IsPut}

-- `kernel`: console and out are left alone, and no file is read
unfoldable pub WritesKernel : List ℕ → Surroundings → Surroundings → Status → Type 0
WritesKernel file before after status =
    IsQuiet before after
    × (((status ≡ OutOfMemory) × (after.folder ≡ before.folder))
    ⊎ (IsImage kernel × IsPut 1 file (image_bytes kernel) before.folder after.folder status))
