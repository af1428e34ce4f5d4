-- What holds of the images with the whole library, as long as GO has not led a run out of its source.
use Rattle.std.specs.Prelude.{◌≡◌, ℕ, true, false, List}
use Rattle.forth_program.specs.Program.{SourceProgram}
use Rattle.library_laws.specs.Bodies.{whole_library}
use Rattle.control_flow.specs.SourceLaw.{IsSource}
use Rattle.code_layout.specs.Layout.{laid_out}
use Rattle.code_layout.specs.Built.{IsBuilt}
use Rattle.forth_program.specs.Form.{calls_go_back}
use Rattle.forth_program.specs.Run.{source_run, leaves}
use Rattle.forth_program.specs.Heights.{StacksFit, IsSafe}
use Rattle.code_layout.specs.Agreement.{AreBytes, ForwardSimulation, BackwardSimulation, word_steps}
use Rattle.code_layout.specs.Chip.{AgreesOnChip}
use Rattle.code_layout.specs.LastCalls.{LastCalls, all_begin_well}

-- the program of a text can be laid out with the whole library
abbrev pub SourcesAreBuilt : Type 0
SourcesAreBuilt = (p : SourceProgram) → IsSource p → IsBuilt whole_library p

pub record LinkedImagesAgree : Type 0 where
  pub forward : (p : SourceProgram) (input : List ℕ) (k : ℕ) → IsBuilt whole_library p → AreBytes p.first_space → AreBytes input → IsSafe p input k →
      leaves (source_run p input k) ≡ false → ForwardSimulation whole_library p input k
  pub backward : (p : SourceProgram) (input : List ℕ) (n : ℕ) → IsBuilt whole_library p → AreBytes p.first_space → AreBytes input → IsSafe p input (word_steps p n) →
      leaves (source_run p input (word_steps p n)) ≡ false → BackwardSimulation whole_library p input n
  pub on_chip : (p : SourceProgram) (input : List ℕ) → IsBuilt whole_library p → AreBytes p.first_space → AreBytes input → ((k : ℕ) → IsSafe p input k) → ((k : ℕ) → leaves (source_run p input k) ≡ false) →
      ((k : ℕ) → StacksFit p input 33 32 k) → AgreesOnChip whole_library p input
  pub last_calls : (p : SourceProgram) → IsBuilt whole_library p → calls_go_back 0 p.bodies ≡ true → all_begin_well p ≡ true → LastCalls (laid_out whole_library p).cells
