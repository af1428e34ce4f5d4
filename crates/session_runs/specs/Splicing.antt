-- The run of an image is the run that goes on behind each GO, with the instructions of the called code put in there.
use Rattle.std.specs.Prelude.{◌≡◌, ℕ, zero, suc, ◌+◌, ◌≤◌, Bool, true, false, List, [], ◌∷◌, map}
use Rattle.j1_simulator.specs.Step.{Storage}
use Rattle.j1_simulator.specs.OpenMachine.{open_storage}
use Rattle.j1_simulator.specs.RoundMachine.{round_storage}
use Rattle.j1_simulator.specs.Run.{Configuration, advanced, run, begun, round_start, open_start, round_run, open_run}
use Rattle.forth_program.specs.Tree.{Nodes}
use Rattle.forth_program.specs.Program.{SourceProgram}
use Rattle.code_layout.specs.Layout.{laid_out}
use Rattle.code_layout.specs.Agreement.{code_of}
use Rattle.code_layout.specs.Returning.{MachineReturn, machine_back, is_leaving, last_of_go, returning_run}
use Rattle.code_layout.specs.ReturningChip.{RoundReturn, round_back, round_returning_run}

-- the code that a GO calls: what comes back, and in how many instructions
pub record CalledCode (R : Type 0) : Type 0 where
  pub returned : R
  pub count : ℕ

module _ {V S R : Type 0} (storage : Storage V S) (comes_back : R → Configuration V S → Configuration V S) (last data_start : ℕ) where
  -- an instruction
  abbrev pub instruction : Configuration V S → Configuration V S
  instruction w = advanced w.stop storage data_start w

  -- where GO leads out, the called code comes back as it says, and later calls too
  abbrev pub ComesBackFirst : List (CalledCode R) → Configuration V S → (List (CalledCode R) → Configuration V S → Type 0) → Type 0
  ComesBackFirst [] w Later = Unit {0}
  ComesBackFirst (call ∷ calls) w Later =
      (run storage data_start call.count w ≡ comes_back call.returned w) × Later calls (comes_back call.returned w)

  abbrev pub Which : Bool → Type 0 → Type 0 → Type 0
  Which true A B = A
  Which false A B = B

  -- along n instructions of the run that goes on
  unfoldable pub CallsComeBack : List (CalledCode R) → ℕ → Configuration V S → Type 0
  CallsComeBack calls zero w = Unit {0}
  CallsComeBack calls (suc n) w =
      Which (is_leaving last w)
      (ComesBackFirst calls (instruction w) (λ others v. CallsComeBack others n v)) (CallsComeBack calls n (instruction w))

  abbrev pub first_count : List (CalledCode R) → Configuration V S → (List (CalledCode R) → Configuration V S → ℕ) → ℕ
  first_count [] w later = 0
  first_count (call ∷ calls) w later = call.count + later calls (comes_back call.returned w)

  -- their number with those of the called code
  unfoldable pub with_calls : List (CalledCode R) → ℕ → Configuration V S → ℕ
  with_calls calls zero w = 0
  with_calls calls (suc n) w = suc (elim (is_leaving last w) as (λ b. ℕ) [
    | true ↦ first_count calls (instruction w) (λ others v. with_calls others n v)
    | false ↦ with_calls calls n (instruction w)
  ])

  -- the run that goes on has used up these returns, and GO has led it out once more, to u, within n instructions
  abbrev pub LedOutFirst : List R → Configuration V S → Configuration V S → (List R → Configuration V S → Type 0) → Type 0
  LedOutFirst [] w u Later = w ≡ u
  LedOutFirst (r ∷ returns) w u Later = Later returns (comes_back r w)

  unfoldable pub IsLedOutTo : List R → ℕ → Configuration V S → Configuration V S → Type 0
  IsLedOutTo returns zero w u = ⊥
  IsLedOutTo returns (suc n) w u =
      Which (is_leaving last w)
      (LedOutFirst returns (instruction w) u (λ others v. IsLedOutTo others n v u)) (IsLedOutTo returns n (instruction w) u)

-- the instructions of calls
abbrev pub total_count : {R : Type 0} → List (CalledCode R) → ℕ
total_count [] = 0
total_count (call ∷ calls) = call.count + total_count calls

-- so many instructions do not go beyond the first call, if there is one
abbrev pub IsInside : {R : Type 0} → List (CalledCode R) → ℕ → Type 0
IsInside [] m = Unit {0}
IsInside (call ∷ calls) m = m ≤ call.count

-- what the calls give back
abbrev pub returns_of : {R : Type 0} → List (CalledCode R) → List R
returns_of calls = map (λ call. call.returned) calls

-- so the chip's run of an image is its run that goes on behind each GO with the called code put in, as long as that comes back
abbrev pub ChipRunsAreSpliced : Type 0
ChipRunsAreSpliced =
    (library : List Nodes) (p : SourceProgram) (calls : List (CalledCode RoundReturn)) (input : List ℕ) (n : ℕ) →
    CallsComeBack round_storage (round_back (code_of library p)) (last_of_go library p) p.data_start calls n
    (begun (round_start (laid_out library p)) input) →
    round_run (laid_out library p) input (with_calls round_storage (round_back (code_of library p))
    (last_of_go library p) p.data_start calls n (begun (round_start (laid_out library p)) input))
    ≡ round_returning_run library p (returns_of calls) input n

-- and the open machine's
abbrev pub OpenRunsAreSpliced : Type 0
OpenRunsAreSpliced =
    (library : List Nodes) (p : SourceProgram) (calls : List (CalledCode MachineReturn)) (input : List ℕ) (n : ℕ) →
    CallsComeBack open_storage (machine_back (code_of library p)) (last_of_go library p) p.data_start calls n
    (begun (open_start (laid_out library p)) input) →
    open_run (laid_out library p) input (with_calls open_storage (machine_back (code_of library p))
    (last_of_go library p) p.data_start calls n (begun (open_start (laid_out library p)) input))
    ≡ returning_run library p (returns_of calls) input n
