-- `run SRC`: the image of a source is driven on the console and out.
use Rattle.std.specs.Prelude.{◌⊎◌, ℕ, List}
use Rattle.j1_table.specs.Image.{Content}
use Rattle.j1_workbench.specs.declared.status.Status.{Status}
use Rattle.j1_workbench.specs.Surroundings.{Surroundings, IsOnlyRead, IsQuiet}
use Rattle.j1_workbench.specs.Sources.{IsRefusedSource}
use Rattle.j1_workbench.specs.Compiling.{CompilesSource}
use Rattle.j1_workbench.specs.Driving.{Drives}

-- `run`: a refused source leaves console and out alone; the image of every other is driven, and does on the chip what its source means
pub record RunsProgram (source : List ℕ) (steps : ℕ) (before after : Surroundings) (status : Status) : Type 0 where
  pub image : Content
  pub compiles : CompilesSource source before.folder image
  pub drives : Drives image steps before.console after.console before.out after.out status

unfoldable pub Runs : List ℕ → ℕ → Surroundings → Surroundings → Status → List ℕ → Type 0
Runs source steps before after status name =
    IsOnlyRead 1 before.folder after.folder
    × ((IsRefusedSource source before.folder after.folder status name × IsQuiet before after) ⊎ RunsProgram source steps before after status)
