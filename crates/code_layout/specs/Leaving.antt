-- Where GO leads the open machine: to the code at an address, which is not the source's.
use Rattle.std.specs.Prelude.{◌≡◌, ℕ, suc, ◌/◌, ◌%◌, ◌≤◌, List, ◌∷◌}
use Rattle.j1_simulator.specs.Run.{begun, open_start, open_run}
use Rattle.word_table.specs.declared.word.Word.TheVariants.{Go}
use Rattle.forth_program.specs.Tree.{Nodes}
use Rattle.forth_program.specs.State.{Work, World, State, Goes}
use Rattle.forth_program.specs.Program.{SourceProgram}
use Rattle.forth_program.specs.Step.{IsWord, first_work}
use Rattle.forth_program.specs.Run.{source_run}
use Rattle.forth_program.specs.Price.{price}
use Rattle.forth_program.specs.Heights.{StacksFit, IsSafe}
use Rattle.word_laws.specs.Rings.{BeforeEach}
use Rattle.word_laws.specs.Bounds.{StaysWithin}
use Rattle.word_laws.specs.Standing.{standing_at_depths, MachinePlace}
use Rattle.code_layout.specs.Layout.{laid_out}
use Rattle.code_layout.specs.Built.{IsBuilt}
use Rattle.code_layout.specs.Library.{IsLibrary, LibraryMeans}
use Rattle.code_layout.specs.Agreement.{AreBytes, code_of}

-- the machine has come to an address, with these data cells and the data space, the input left and the prints of a world. A return
-- from there leads back into the image, by the top of the return stack
pub record IsLedOut (library : List Nodes) (p : SourceProgram) (input : List ℕ) (k address : ℕ) (cells : List ℕ) (world : World) : Type 0 where
  -- in no more instructions than k word steps and that of GO may cost
  pub count : ℕ
  pub within_price : count ≤ price p input (suc k)
  pub place : MachinePlace
  pub stands : open_run (laid_out library p) input count ≡ standing_at_depths place cells world
  pub code_is : place.code ≡ code_of library p
  pub pc_is : place.pc ≡ address / 2 % 0x2000
  -- before each of them both stacks have no more cells than the steps take
  pub stacks_before : (high return_high : ℕ) → StacksFit p input high return_high (suc k) → BeforeEach (StaysWithin 0 high 0 return_high) p.data_start count (begun (open_start (laid_out library p)) input)

-- so it is where the step after k word steps is one of GO, with an address and these data cells below it
abbrev pub ImagesAreLedOut : Type 0
ImagesAreLedOut =
    (library : List Nodes) (p : SourceProgram) (input : List ℕ) (k address : ℕ) (cells : List ℕ) (s : State) (after : List Work) →
    IsLibrary library → LibraryMeans library → IsBuilt library p → AreBytes p.first_space → AreBytes input → IsSafe p input k →
    source_run p input k ≡ Goes s → first_work s.work ≡ IsWord Go after → s.cells ≡ address ∷ cells → IsLedOut library p input k address cells s.world
