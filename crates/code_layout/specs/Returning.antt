-- Runs of the open machine on an image with GO that go on: the code that a GO has called comes back behind it.
use Rattle.std.specs.Prelude.{◌≡◌, ℕ, zero, suc, ◌+◌, ◌/◌, ◌%◌, ◌==◌, ◌<◌, ◌≤◌, ◌&&◌, Bool, true, false, if◌then◌else◌, pos, negsuc, ◌+ℤ◌, List, [], ◌∷◌, ◌++◌, length, map, Option, Some, None}
use Rattle.std.specs.List.{All}
use Rattle.j1_simulator.specs.Step.{Stop, Storage}
use Rattle.j1_simulator.specs.OpenMachine.{top_cell, tape_moved, open_storage}
use Rattle.j1_simulator.specs.Run.{Configuration, advanced, begun, open_start, IsPrefixOf}
use Rattle.forth_program.specs.Tree.{Nodes}
use Rattle.forth_program.specs.State.{State, End, Goes}
use Rattle.forth_program.specs.Program.{SourceProgram}
use Rattle.forth_program.specs.Form.{has_no_go}
use Rattle.forth_program.specs.Step.{first_work}
use Rattle.forth_program.specs.Run.{world_of, end_of, lacks}
use Rattle.forth_program.specs.Heights.{DepthFits, return_height, peak_of, back_of, execute_back}
use Rattle.forth_program.specs.Returns.{Return, IsReturn, run_back, price_back}
use Rattle.word_laws.specs.Rings.{OpenConfiguration, KnownWithin}
use Rattle.word_laws.specs.Bounds.{StaysWithin}
use Rattle.word_laws.specs.Standing.{machine_end}
use Rattle.code_layout.specs.Layout.{leaving_place, laid_out}
use Rattle.code_layout.specs.Built.{IsBuilt}
use Rattle.code_layout.specs.Library.{IsLibrary, LibraryMeans}
use Rattle.code_layout.specs.Agreement.{AreBytes, code_of, Shows, word_steps}

-- what comes back, and what is left above both pointers, which may be anything
pub record MachineReturn : Type 0 where
  pub back : Return
  pub data_above : List (Option ℕ)
  pub return_above : List (Option ℕ)

-- the returns that the source sees
abbrev pub backs_of : List MachineReturn → List Return
backs_of returns = map (λ r. r.back) returns

-- the program counter that a return address gives
abbrev pub place_back : Option ℕ → ℕ
place_back None = 0
place_back (Some address) = address / 2 % 0x2000

-- a return to the code before data space: the place on top of the return stack is taken, and data space, the input and the prints
-- are as they came back
abbrev pub machine_back : List ℕ → MachineReturn → OpenConfiguration → OpenConfiguration
machine_back code r w =
    record {
      core = record {
        pc = place_back (top_cell w.core.return_stack.below);
        t = w.core.t;
        data_stack = record { below = w.core.data_stack.below; above = r.data_above; at = w.core.data_stack.at };
        return_stack = tape_moved (negsuc 0) (record { below = w.core.return_stack.below; above = r.return_above; at = w.core.return_stack.at });
        memory = code ++ r.back.space;
      };
      input = r.back.input;
      printed = w.printed ++ r.back.printed;
      data_depth = w.data_depth;
      return_depth = w.return_depth +ℤ negsuc 0;
      stop = w.stop;
    }

-- a machine goes on with the next return, and stays where there is none
abbrev pub goes_back : {R M : Type 0} → (R → M → M) → List R → M → (List R → M → M) → M
goes_back comes_back [] w next = w
goes_back comes_back (r ∷ returns) w next = next returns (comes_back r w)

abbrev pub is_running : Option Stop → Bool
is_running None = true
is_running (Some stop) = false

-- it stands at the last cell of GO's code, which goes on at the address
abbrev pub is_leaving : {V S : Type 0} → ℕ → Configuration V S → Bool
is_leaving last w = is_running w.stop && (w.core.pc == last)

-- n instructions of a machine, where the j-th GO comes back with the j-th of these returns
unfoldable pub run_returning : {V S R : Type 0} → Storage V S → (R → Configuration V S → Configuration V S) → ℕ → ℕ → List R → ℕ → Configuration V S → Configuration V S
run_returning storage comes_back last data_start returns zero w = w
run_returning storage comes_back last data_start returns (suc n) w =
    if is_leaving last w then goes_back comes_back returns (advanced w.stop storage data_start w) (λ others v. run_returning storage comes_back last data_start others n v)
    else run_returning storage comes_back last data_start returns n (advanced w.stop storage data_start w)

-- the place of the last cell of GO's code
abbrev pub last_of_go : List Nodes → SourceProgram → ℕ
last_of_go library p = suc (leaving_place library p)

-- the run of an image on the open machine
unfoldable pub returning_run : List Nodes → SourceProgram → List MachineReturn → List ℕ → ℕ → OpenConfiguration
returning_run library p returns input n =
    run_returning open_storage (machine_back (code_of library p)) (last_of_go library p) p.data_start returns n (begun (open_start (laid_out library p)) input)

-- where GO has led it out: the counters are within these limits, count all known cells, T among those of data, and a return address is on top
pub record LeftWithin (high return_high : ℕ) (w : OpenConfiguration) : Type 0 where
  pub depth : ℕ
  pub return_depth : ℕ
  pub address : ℕ
  pub depth_is : w.data_depth ≡ pos depth
  pub return_depth_is : w.return_depth ≡ pos return_depth
  pub at_most : depth ≤ high
  pub return_at_most : return_depth ≤ return_high
  pub known : KnownWithin depth (w.core.t ∷ w.core.data_stack.below)
  pub return_known : KnownWithin return_depth w.core.return_stack.below
  pub address_is : top_cell w.core.return_stack.below ≡ Some address

-- what holds of what comes back, where something does
abbrev pub HoldsBack : List ℕ → List MachineReturn → OpenConfiguration → (List MachineReturn → OpenConfiguration → Type 0) → Type 0
HoldsBack code [] w Later = Unit {0}
HoldsBack code (r ∷ returns) w Later = Later returns (machine_back code r w)

abbrev pub WhichHolds : Bool → Type 0 → Type 0 → Type 0
WhichHolds true A B = A
WhichHolds false A B = B

-- both stacks keep to these limits before each of n instructions, and where GO leads out
unfoldable pub StaysReturning : ℕ → ℕ → List ℕ → ℕ → ℕ → List MachineReturn → ℕ → OpenConfiguration → Type 0
StaysReturning high return_high code last data_start returns zero w = Unit {0}
StaysReturning high return_high code last data_start returns (suc n) w =
    StaysWithin 0 high 0 return_high w
    × WhichHolds (is_leaving last w)
    (LeftWithin high return_high (advanced w.stop open_storage data_start w)
    × HoldsBack code returns (advanced w.stop open_storage data_start w) (λ others v. StaysReturning high return_high code last data_start others n v))
    (StaysReturning high return_high code last data_start returns n (advanced w.stop open_storage data_start w))

-- within k word steps with these returns a run lacks no cells and finds its return entries, and DEPTH counts at most 31 cells
pub record IsSafeReturning (p : SourceProgram) (backs : List Return) (input : List ℕ) (k : ℕ) : Type 0 where
  pub lacks_nothing : lacks (run_back p backs input k) ≡ false
  pub depth_fits : (j : ℕ) (s : State) → j < k → run_back p backs input j ≡ Goes s → DepthFits (first_work s.work) s.cells

-- each of the first k word steps takes at most so many data and return cells
abbrev pub StacksFitReturning : SourceProgram → List Return → List ℕ → ℕ → ℕ → ℕ → Type 0
StacksFitReturning p backs input high return_high k =
    (j : ℕ) (s : State) → j < k → run_back p backs input j ≡ Goes s →
    (length s.cells + peak_of s.callers (first_work s.work) ≤ high) × (return_height s + back_of (first_work s.work) ≤ return_high) × (return_height s + execute_back p (first_work s.work) s.cells ≤ return_high)

-- the image does at least what k word steps do
pub record ForwardReturning (library : List Nodes) (p : SourceProgram) (returns : List MachineReturn) (input : List ℕ) (k : ℕ) : Type 0 where
  -- in as many instructions as they may cost, or fewer, it comes to show the same
  pub count : ℕ
  pub within_price : count ≤ price_back p (backs_of returns) input k
  pub shows : Shows (code_of library p) (returning_run library p returns input count) (run_back p (backs_of returns) input k)
  -- these are more than n instructions, if the steps are enough for n and have not ended
  pub far_enough : (n : ℕ) → word_steps p n ≤ k → end_of (run_back p (backs_of returns) input k) ≡ None → n < count

-- what n instructions print is a beginning of what those word steps print, and where they have ended the source has ended alike
pub record BackwardReturning (library : List Nodes) (p : SourceProgram) (returns : List MachineReturn) (input : List ℕ) (n : ℕ) : Type 0 where
  pub prints : IsPrefixOf (returning_run library p returns input n).printed (world_of (run_back p (backs_of returns) input (word_steps p n))).printed
  pub ends : (stop : Stop) → (returning_run library p returns input n).stop ≡ Some stop →
      (end : End) × (end_of (run_back p (backs_of returns) input (word_steps p n)) ≡ Some end) × (machine_end end ≡ Some stop)

-- before each of n instructions and behind the last, and where GO leads out, both stacks have no more cells than the word steps take
abbrev pub StacksReturning : List Nodes → SourceProgram → List MachineReturn → List ℕ → ℕ → Type 0
StacksReturning library p returns input n =
    (high return_high : ℕ) → StacksFitReturning p (backs_of returns) input high return_high (word_steps p n) →
    StaysReturning high return_high (code_of library p) (last_of_go library p) p.data_start returns (suc n) (begun (open_start (laid_out library p)) input)

-- all this holds of every built program with GO, and of all returns
pub record ImagesReturn : Type 0 where
  pub forward : (library : List Nodes) (p : SourceProgram) (returns : List MachineReturn) (input : List ℕ) (k : ℕ) → IsLibrary library → LibraryMeans library → IsBuilt library p →
      has_no_go p ≡ false → AreBytes p.first_space → AreBytes input → All (IsReturn p) (backs_of returns) → IsSafeReturning p (backs_of returns) input k → ForwardReturning library p returns input k
  pub backward : (library : List Nodes) (p : SourceProgram) (returns : List MachineReturn) (input : List ℕ) (n : ℕ) → IsLibrary library → LibraryMeans library → IsBuilt library p →
      has_no_go p ≡ false → AreBytes p.first_space → AreBytes input → All (IsReturn p) (backs_of returns) → IsSafeReturning p (backs_of returns) input (word_steps p n) → BackwardReturning library p returns input n
  pub stacks : (library : List Nodes) (p : SourceProgram) (returns : List MachineReturn) (input : List ℕ) (n : ℕ) → IsLibrary library → LibraryMeans library → IsBuilt library p →
      has_no_go p ≡ false → AreBytes p.first_space → AreBytes input → All (IsReturn p) (backs_of returns) → IsSafeReturning p (backs_of returns) input (word_steps p n) → StacksReturning library p returns input n
