-- What a step bound says of runs.
use Rattle.std.specs.Prelude.{◌≡◌, ℕ, ◌≤◌, ◌<◌, true, List, length, Some}
use Rattle.j1_table.specs.Image.{Content}
use Rattle.j1_simulator.specs.Step.{Stop}
use Rattle.j1_simulator.specs.Run.{round_run}
use Rattle.forth_program.specs.Tree.{Nodes}
use Rattle.forth_program.specs.State.{End, World, Ends}
use Rattle.forth_program.specs.Program.{SourceProgram}
use Rattle.forth_program.specs.Form.{has_no_go}
use Rattle.forth_program.specs.Run.{source_run}
use Rattle.forth_program.specs.Price.{price}
use Rattle.depth_certifier.specs.Certificate.{Cert, IsValid}
use Rattle.code_layout.specs.Layout.{laid_out}
use Rattle.code_layout.specs.Built.{IsBuilt}
use Rattle.code_layout.specs.Library.{IsLibrary, LibraryMeans}
use Rattle.code_layout.specs.Agreement.{AreBytes}
use Rattle.step_certifier.specs.Bound.{Bounded, step_bound}

-- a run ends at a price of at most so much
pub record EndsWithin (p : SourceProgram) (input : List ℕ) (most : ℕ) : Type 0 where
  pub count : ℕ
  pub end : End
  pub world : World
  pub ends : source_run p input count ≡ Ends end world
  pub price : price p input count ≤ most

-- so does every run of a program with a valid certificate and a bound
abbrev pub BoundedProgramsEnd : Type 0
BoundedProgramsEnd = (p : SourceProgram) (z : Cert) (most : ℕ) (input : List ℕ) → p.main_body < length p.bodies → IsValid p z → step_bound p ≡ Bounded most → EndsWithin p input most

-- on the chip the run of an image ends within so many instructions, on every input of bytes
abbrev pub EndsOnChip : Content → ℕ → Type 0
EndsOnChip image most = (input : List ℕ) → AreBytes input → (stop : Stop) × ((round_run image input most).stop ≡ Some stop)

-- so does that of a built program without GO, with a valid certificate and a bound, with any library that means its words
abbrev pub BoundedImagesEnd : Type 0
BoundedImagesEnd =
    (library : List Nodes) (p : SourceProgram) (z : Cert) (most : ℕ) → IsLibrary library → LibraryMeans library → IsBuilt library p → AreBytes p.first_space → has_no_go p ≡ true → IsValid p z →
    step_bound p ≡ Bounded most → EndsOnChip (laid_out library p) most
