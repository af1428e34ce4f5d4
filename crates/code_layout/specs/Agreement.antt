-- What the image of a program does on the open machine, and what its source means.
use Rattle.std.specs.Prelude.{◌≡◌, ◌≢◌, ℕ, ◌+◌, ◌*◌, ◌/◌, ◌<◌, ◌≤◌, false, List, ◌++◌, Option, Some, None}
use Rattle.std.specs.List.{All}
use Rattle.cell_math.specs.Bytes.{filled}
use Rattle.j1_simulator.specs.Step.{Stop, Missing}
use Rattle.j1_simulator.specs.Run.{begun, open_start, open_run, IsPrefixOf}
use Rattle.forth_program.specs.State.{End, Outcome, Goes, Ends}
use Rattle.forth_program.specs.Program.{SourceProgram}
use Rattle.forth_program.specs.Run.{source_run, world_of, end_of, leaves}
use Rattle.forth_program.specs.Price.{price}
use Rattle.word_laws.specs.Rings.{OpenConfiguration, BeforeEach}
use Rattle.word_laws.specs.Bounds.{StaysWithin}
use Rattle.word_laws.specs.Standing.{machine_end}
use Rattle.forth_program.specs.Tree.{Nodes}
use Rattle.code_layout.specs.Layout.{laid_out}
use Rattle.code_layout.specs.Built.{IsBuilt}
use Rattle.code_layout.specs.Library.{IsLibrary, LibraryMeans}
use Rattle.forth_program.specs.Heights.{StacksFit, IsSafe}

abbrev pub AreBytes : List ℕ → Type 0
AreBytes bytes = All (λ byte. byte < 256) bytes

-- the cells of memory before data space
abbrev pub code_of : List Nodes → SourceProgram → List ℕ
code_of library p = filled (p.data_start / 2) (laid_out library p).cells

-- the machine's end for where a source is
abbrev pub stop_of_outcome : Outcome → Option Stop
stop_of_outcome (Goes s) = None
stop_of_outcome (Ends end world) = machine_end end

-- the machine has the end, the data space, the input left and the prints of a source
pub record Shows (code : List ℕ) (w : OpenConfiguration) (o : Outcome) : Type 0 where
  pub stop_is : w.stop ≡ stop_of_outcome o
  pub memory : w.core.memory ≡ code ++ (world_of o).space
  pub input : w.input ≡ (world_of o).input
  pub printed : w.printed ≡ (world_of o).printed

-- so many word steps do at least what n instructions do
abbrev pub word_steps : SourceProgram → ℕ → ℕ
word_steps p n = (n + 1) * (p.source_tokens + 4)

-- the image does at least what k word steps do
pub record ForwardSimulation (library : List Nodes) (p : SourceProgram) (input : List ℕ) (k : ℕ) : Type 0 where
  -- in as many instructions as they may cost, or fewer, it comes to show the same
  pub count : ℕ
  pub within_price : count ≤ price p input k
  pub shows : Shows (code_of library p) (open_run (laid_out library p) input count) (source_run p input k)
  -- up to there it needs no unknown cell
  pub never_missing : (n : ℕ) → n ≤ count → (open_run (laid_out library p) input n).stop ≢ Some Missing
  -- these are more than n instructions, if the steps are enough for n and have not ended
  pub far_enough : (n : ℕ) → word_steps p n ≤ k → end_of (source_run p input k) ≡ None → n < count
  -- before each of them, and at the end of the run, both stacks have no more cells than the steps take
  pub stacks_before : (high return_high : ℕ) → StacksFit p input high return_high k → BeforeEach (StaysWithin 0 high 0 return_high) p.data_start count (begun (open_start (laid_out library p)) input)
  pub stacks_at_end : (high return_high : ℕ) (end : End) → StacksFit p input high return_high k → end_of (source_run p input k) ≡ Some end → StaysWithin 0 high 0 return_high (open_run (laid_out library p) input count)

abbrev pub ImagesSimulateForward : Type 0
ImagesSimulateForward =
    (library : List Nodes) (p : SourceProgram) (input : List ℕ) (k : ℕ) → IsLibrary library → LibraryMeans library → IsBuilt library p →
    AreBytes p.first_space → AreBytes input → IsSafe p input k → leaves (source_run p input k) ≡ false → ForwardSimulation library p input k

-- what n instructions print is a beginning of what those word steps print, and where they have ended the source has ended alike
pub record BackwardSimulation (library : List Nodes) (p : SourceProgram) (input : List ℕ) (n : ℕ) : Type 0 where
  pub prints : IsPrefixOf (open_run (laid_out library p) input n).printed (world_of (source_run p input (word_steps p n))).printed
  pub ends : (stop : Stop) → (open_run (laid_out library p) input n).stop ≡ Some stop → (end : End) × (end_of (source_run p input (word_steps p n)) ≡ Some end) × (machine_end end ≡ Some stop)

abbrev pub ImagesSimulateBackward : Type 0
ImagesSimulateBackward =
    (library : List Nodes) (p : SourceProgram) (input : List ℕ) (n : ℕ) → IsLibrary library → LibraryMeans library → IsBuilt library p →
    AreBytes p.first_space → AreBytes input → IsSafe p input (word_steps p n) → leaves (source_run p input (word_steps p n)) ≡ false → BackwardSimulation library p input n

-- both hold of every built program, with every library that means its words, as long as GO has not led the run out of the source
pub record ImagesAgree : Type 0 where
  pub forward : ImagesSimulateForward
  pub backward : ImagesSimulateBackward
