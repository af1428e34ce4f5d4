-- Marks of the definitions that MAIN reaches, as the code keeps them.
use Rattle.std.specs.Prelude.{◌≡◌, ℕ, ◌<◌, Bool, false, List, length, slice_index_or}
use Rattle.forth_program.specs.Program.{SourceProgram}
use Rattle.step_certifier.specs.Refusal.{reaches}

pub record AreReached (p : SourceProgram) (marks : List Bool) : Type 0 where
  pub size : length marks ≡ length p.bodies
  pub each : (d : ℕ) → d < length p.bodies → slice_index_or marks d false ≡ reaches p.main_body 0 p.bodies d
