-- What the run of an image on the chip, whose stacks are rings, has to do with the meaning of its source.
use Rattle.std.specs.Prelude.{◌≡◌, ℕ, ◌/◌, ◌≤◌, false, ℤ, pos, List, drop, Some}
use Rattle.j1_simulator.specs.Step.{Stop}
use Rattle.j1_simulator.specs.Run.{round_run, open_run, IsPrefixOf}
use Rattle.forth_program.specs.State.{End}
use Rattle.forth_program.specs.Program.{SourceProgram}
use Rattle.forth_program.specs.Run.{source_run, world_of, end_of, leaves}
use Rattle.forth_program.specs.Price.{price}
use Rattle.word_laws.specs.Rings.{Agrees}
use Rattle.word_laws.specs.Standing.{machine_end}
use Rattle.forth_program.specs.Tree.{Nodes}
use Rattle.code_layout.specs.Layout.{laid_out}
use Rattle.code_layout.specs.Built.{IsBuilt}
use Rattle.code_layout.specs.Library.{IsLibrary, LibraryMeans}
use Rattle.forth_program.specs.Heights.{StacksFit, IsSafe}
use Rattle.code_layout.specs.Agreement.{AreBytes, word_steps}

-- a counter stands between 0 and a limit
abbrev pub DepthStaysWithin : ℕ → ℤ → Type 0
DepthStaysWithin limit depth = (height : ℕ) × (depth ≡ pos height) × (height ≤ limit)

-- the image prints what the source means, both ways and within stated steps, ends alike, and wraps no stack
pub record AgreesOnChip (library : List Nodes) (p : SourceProgram) (input : List ℕ) : Type 0 where
  -- what n instructions print is a beginning of what the source prints in word_steps p n word steps, and their end is its end
  pub prints_no_more : (n : ℕ) → IsPrefixOf (round_run (laid_out library p) input n).printed (world_of (source_run p input (word_steps p n))).printed
  pub ends_no_sooner : (n : ℕ) (stop : Stop) → (round_run (laid_out library p) input n).stop ≡ Some stop → (end : End) × (end_of (source_run p input (word_steps p n)) ≡ Some end) × (machine_end end ≡ Some stop)
  -- what k word steps print is a beginning of what the image prints in as many instructions as their price, and their end is its end
  pub prints_no_less : (k : ℕ) → IsPrefixOf (world_of (source_run p input k)).printed (round_run (laid_out library p) input (price p input k)).printed
  pub ends_no_later : (k : ℕ) (end : End) → end_of (source_run p input k) ≡ Some end → (stop : Stop) × ((round_run (laid_out library p) input (price p input k)).stop ≡ Some stop) × (machine_end end ≡ Some stop)
  -- where both have ended, the prints, the input left and data space are equal
  pub ends_alike : (n k : ℕ) (stop : Stop) (end : End) → (round_run (laid_out library p) input n).stop ≡ Some stop → end_of (source_run p input k) ≡ Some end →
      ((round_run (laid_out library p) input n).printed ≡ (world_of (source_run p input k)).printed)
      × ((round_run (laid_out library p) input n).input ≡ (world_of (source_run p input k)).input)
      × (drop (p.data_start / 2) (round_run (laid_out library p) input n).core.memory ≡ (world_of (source_run p input k)).space)
  -- the places of the live cells hold what those of the open machine hold
  pub rings_agree : (n : ℕ) → Agrees (open_run (laid_out library p) input n) (round_run (laid_out library p) input n)
  -- the data stack holds at most 33 cells and the return stack at most 32, before and after each instruction
  pub data_stack_holds : (n : ℕ) → DepthStaysWithin 33 (round_run (laid_out library p) input n).data_depth
  pub return_stack_holds : (n : ℕ) → DepthStaysWithin 32 (round_run (laid_out library p) input n).return_depth
  -- and no more than the steps take
  pub stacks_hold : (high return_high : ℕ) → ((k : ℕ) → StacksFit p input high return_high k) → (n : ℕ) →
      DepthStaysWithin high (round_run (laid_out library p) input n).data_depth × DepthStaysWithin return_high (round_run (laid_out library p) input n).return_depth

-- so it is of every built program that never lacks cells or return entries, whose run GO never leads out of the source, and whose steps never take more cells than the chip has
abbrev pub ChipsAgree : Type 0
ChipsAgree =
    (library : List Nodes) (p : SourceProgram) (input : List ℕ) → IsLibrary library → LibraryMeans library → IsBuilt library p → AreBytes p.first_space →
    AreBytes input → ((k : ℕ) → IsSafe p input k) → ((k : ℕ) → leaves (source_run p input k) ≡ false) → ((k : ℕ) → StacksFit p input 33 32 k) → AgreesOnChip library p input
