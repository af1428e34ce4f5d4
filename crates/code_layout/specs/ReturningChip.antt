-- Runs of the chip, whose stacks are rings, on an image with GO that go on: what comes back has kept the places of the live cells.
use Rattle.std.specs.Prelude.{◌≡◌, ℕ, zero, suc, ◌-◌, ◌/◌, ◌%◌, false, ℤ, pos, negsuc, ◌+ℤ◌, List, ◌++◌, length, map, drop, Some}
use Rattle.std.specs.List.{All}
use Rattle.j1_simulator.specs.Step.{Stop}
use Rattle.j1_simulator.specs.RoundMachine.{RingCells, ring_moved, ring_top, round_storage}
use Rattle.j1_simulator.specs.Run.{Configuration, begun, round_start, IsPrefixOf}
use Rattle.forth_program.specs.Tree.{Nodes}
use Rattle.forth_program.specs.State.{End}
use Rattle.forth_program.specs.Program.{SourceProgram}
use Rattle.forth_program.specs.Form.{has_no_go}
use Rattle.forth_program.specs.Run.{world_of, end_of}
use Rattle.forth_program.specs.Returns.{Return, IsReturn, run_back, price_back}
use Rattle.word_laws.specs.Rings.{Agrees, kept_below}
use Rattle.word_laws.specs.Standing.{machine_end}
use Rattle.code_layout.specs.Layout.{laid_out}
use Rattle.code_layout.specs.Built.{IsBuilt}
use Rattle.code_layout.specs.Library.{IsLibrary, LibraryMeans}
use Rattle.code_layout.specs.Agreement.{AreBytes, code_of, word_steps}
use Rattle.code_layout.specs.Chip.{DepthStaysWithin}
use Rattle.code_layout.specs.Returning.{MachineReturn, backs_of, run_returning, last_of_go, returning_run, IsSafeReturning, StacksFitReturning}

abbrev pub RoundConfiguration : Type 0
RoundConfiguration = Configuration ℕ RingCells

-- what comes back on the chip, T where no data cell is left, and cells of both rings, which may be any in the places beyond the live cells
pub record RoundReturn : Type 0 where
  pub back : Return
  pub t : ℕ
  pub data_cells : List ℕ
  pub return_cells : List ℕ

pub record AreRings (r : RoundReturn) : Type 0 where
  pub data_size : length r.data_cells ≡ 32
  pub return_size : length r.return_cells ≡ 32

-- the returns that the source sees
abbrev pub round_backs : List RoundReturn → List Return
round_backs rounds = map (λ r. r.back) rounds

-- the cells that a counter counts
abbrev pub counted : ℤ → ℕ
counted (pos n) = n
counted (negsuc n) = 0

-- T is one of the live cells, where there are any
abbrev pub top_back : ℕ → ℕ → ℕ → ℕ
top_back zero other t = other
top_back (suc n) other t = t

abbrev pub ring_back : ℕ → List ℕ → RingCells → RingCells
ring_back kept others ring = record ring { cells = kept_below kept ring others }

-- a return to the code before data space: the place on top of the return ring is taken; T and the places of the other live cells are
-- kept, and data space, the input and the prints are as they came back
abbrev pub round_back : List ℕ → RoundReturn → RoundConfiguration → RoundConfiguration
round_back code r w =
    record {
      core = record {
        pc = ring_top w.core.return_stack / 2 % 0x2000;
        t = top_back (counted w.data_depth) r.t w.core.t;
        data_stack = ring_back (counted w.data_depth - 1) r.data_cells w.core.data_stack;
        return_stack = ring_back (counted w.return_depth - 1) r.return_cells (ring_moved (negsuc 0) w.core.return_stack);
        memory = code ++ r.back.space;
      };
      input = r.back.input;
      printed = w.printed ++ r.back.printed;
      data_depth = w.data_depth;
      return_depth = w.return_depth +ℤ negsuc 0;
      stop = w.stop;
    }

-- the run of an image on the chip
unfoldable pub round_returning_run : List Nodes → SourceProgram → List RoundReturn → List ℕ → ℕ → RoundConfiguration
round_returning_run library p rounds input n =
    run_returning round_storage (round_back (code_of library p)) (last_of_go library p) p.data_start rounds n (begun (round_start (laid_out library p)) input)

-- behind each GO that comes back too, the image prints what the source means, both ways and within stated steps, ends alike, and wraps no stack
pub record AgreesReturningOnChip (library : List Nodes) (p : SourceProgram) (rounds : List RoundReturn) (input : List ℕ) : Type 0 where
  -- what n instructions print is a beginning of what the source prints in word_steps p n word steps, and their end is its end
  pub prints_no_more : (n : ℕ) → IsPrefixOf (round_returning_run library p rounds input n).printed (world_of (run_back p (round_backs rounds) input (word_steps p n))).printed
  pub ends_no_sooner : (n : ℕ) (stop : Stop) → (round_returning_run library p rounds input n).stop ≡ Some stop →
      (end : End) × (end_of (run_back p (round_backs rounds) input (word_steps p n)) ≡ Some end) × (machine_end end ≡ Some stop)
  -- what k word steps print is a beginning of what the image prints in as many instructions as their price; if they end the run with an
  -- end of the machine, it ends so
  pub prints_no_less : (k : ℕ) → IsPrefixOf (world_of (run_back p (round_backs rounds) input k)).printed (round_returning_run library p rounds input (price_back p (round_backs rounds) input k)).printed
  pub ends_no_later : (k : ℕ) (end : End) (stop : Stop) → end_of (run_back p (round_backs rounds) input k) ≡ Some end → machine_end end ≡ Some stop →
      (round_returning_run library p rounds input (price_back p (round_backs rounds) input k)).stop ≡ Some stop
  -- where both have ended, the prints, the input left and data space are equal
  pub ends_alike : (n k : ℕ) (stop : Stop) (end : End) → (round_returning_run library p rounds input n).stop ≡ Some stop → end_of (run_back p (round_backs rounds) input k) ≡ Some end → machine_end end ≡ Some stop →
      ((round_returning_run library p rounds input n).printed ≡ (world_of (run_back p (round_backs rounds) input k)).printed)
      × ((round_returning_run library p rounds input n).input ≡ (world_of (run_back p (round_backs rounds) input k)).input)
      × (drop (p.data_start / 2) (round_returning_run library p rounds input n).core.memory ≡ (world_of (run_back p (round_backs rounds) input k)).space)
  -- the places of the live cells hold what those of the open machine hold, whatever comes back there beyond its pointers
  pub rings_agree : (returns : List MachineReturn) → backs_of returns ≡ round_backs rounds → (n : ℕ) → Agrees (returning_run library p returns input n) (round_returning_run library p rounds input n)
  -- the data stack holds at most 33 cells and the return stack at most 32, before and after each instruction, and no more than the word steps take
  pub data_stack_holds : (n : ℕ) → DepthStaysWithin 33 (round_returning_run library p rounds input n).data_depth
  pub return_stack_holds : (n : ℕ) → DepthStaysWithin 32 (round_returning_run library p rounds input n).return_depth
  pub stacks_hold : (high return_high : ℕ) → ((k : ℕ) → StacksFitReturning p (round_backs rounds) input high return_high k) → (n : ℕ) →
      DepthStaysWithin high (round_returning_run library p rounds input n).data_depth × DepthStaysWithin return_high (round_returning_run library p rounds input n).return_depth

-- so it is of every built program with GO that never lacks cells or return entries, and whose word steps never take more cells than the chip has
abbrev pub ChipsReturn : Type 0
ChipsReturn =
    (library : List Nodes) (p : SourceProgram) (rounds : List RoundReturn) (input : List ℕ) → IsLibrary library → LibraryMeans library → IsBuilt library p →
    has_no_go p ≡ false → AreBytes p.first_space → AreBytes input → All (IsReturn p) (round_backs rounds) → All AreRings rounds →
    ((k : ℕ) → IsSafeReturning p (round_backs rounds) input k) → ((k : ℕ) → StacksFitReturning p (round_backs rounds) input 33 32 k) → AgreesReturningOnChip library p rounds input
