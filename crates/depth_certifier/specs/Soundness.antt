-- What a valid certificate says of every run.
use Rattle.std.specs.Prelude.{◌≡◌, ℕ, ◌+◌, ◌≤◌, max, false, List, length, Option, Some, None, ℤ}
use Rattle.forth_program.specs.Program.{SourceProgram}
use Rattle.forth_program.specs.State.{State, Goes}
use Rattle.forth_program.specs.Step.{first_work}
use Rattle.forth_program.specs.Run.{lacks}
use Rattle.forth_program.specs.Returns.{Return, run_back}
use Rattle.forth_program.specs.Heights.{StacksFit, IsSafe, return_height, peak_of, back_of, execute_back, DepthFits}
use Rattle.depth_certifier.specs.declared.effect.Effect.{Effect}
use Rattle.depth_certifier.specs.Place.{from_zero}
use Rattle.depth_certifier.specs.Effects.{effect_of}
use Rattle.depth_certifier.specs.Certificate.{Cert, known_of, IsValid}

-- the effect of MAIN
abbrev pub main_effect : SourceProgram → Cert → Effect
main_effect p z = effect_of (known_of z) p.main_body

-- the cells at the end of MAIN, with the two that its halt takes
abbrev pub end_height : Option (ℤ × ℤ) → ℕ
end_height None = 0
end_height (Some exit) = from_zero exit.1 + 2

-- the most data cells and return cells that a run takes; MAIN has a return address
abbrev pub most_cells : SourceProgram → Cert → ℕ
most_cells p z = max (main_effect p z).peak (end_height (main_effect p z).exit)

abbrev pub most_return_cells : SourceProgram → Cert → ℕ
most_return_cells p z = (main_effect p z).back + 1

-- a run never lacks cells or return entries, DEPTH counts at most 31 cells, and each step takes at most so many cells of both stacks
pub record RunsWithin (p : SourceProgram) (high return_high : ℕ) (input : List ℕ) : Type 0 where
  pub goes_well : (k : ℕ) → IsSafe p input k
  pub stacks_fit : (k : ℕ) → StacksFit p input high return_high k

-- so it is of every run of a program with a valid certificate: the chip has 33 data cells and 32 return cells
abbrev pub CertifiedRunsFit : Type 0
CertifiedRunsFit =
    (p : SourceProgram) (z : Cert) → IsValid p z → (most_cells p z ≤ 33) × (most_return_cells p z ≤ 32) × ((input : List ℕ) → RunsWithin p (most_cells p z) (most_return_cells p z) input)

-- the same of a run that comes back behind each GO
pub record RunsBackWithin (p : SourceProgram) (high return_high : ℕ) (backs : List Return) (input : List ℕ) : Type 0 where
  pub lacks_nothing : (k : ℕ) → lacks (run_back p backs input k) ≡ false
  pub depths_fit : (k : ℕ) (s : State) → run_back p backs input k ≡ Goes s → DepthFits (first_work s.work) s.cells
  pub stacks_fit : (k : ℕ) (s : State) → run_back p backs input k ≡ Goes s →
      (length s.cells + peak_of s.callers (first_work s.work) ≤ high) × (return_height s + back_of (first_work s.work) ≤ return_high) × (return_height s + execute_back p (first_work s.work) s.cells ≤ return_high)

-- so it is too, whatever the code that GO calls has made of data space and of the input
abbrev pub CertifiedRunsFitBehindGo : Type 0
CertifiedRunsFitBehindGo =
    (p : SourceProgram) (z : Cert) (backs : List Return) (input : List ℕ) → IsValid p z → RunsBackWithin p (most_cells p z) (most_return_cells p z) backs input
