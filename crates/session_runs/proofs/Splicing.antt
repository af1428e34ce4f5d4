-- Runs with the instructions of called code put in.
use Rattle.std.proofs.Common.{◌≡◌, ℕ, zero, suc, ◌+◌, Bool, true, false, if◌then◌else◌, List, [], ◌∷◌, refl, ap, ◌∙◌, arith}
use Rattle.j1_simulator.specs.Step.{Storage}
use Rattle.j1_simulator.specs.OpenMachine.{open_storage}
use Rattle.j1_simulator.specs.RoundMachine.{round_storage}
use Rattle.j1_simulator.specs.Run.{Configuration, advanced, run, begun, round_start, open_start}
use Rattle.code_layout.specs.Layout.{laid_out}
use Rattle.code_layout.specs.Agreement.{code_of}
use Rattle.code_layout.specs.Returning.{machine_back, goes_back, is_leaving, run_returning, last_of_go, returning_run}
use Rattle.code_layout.specs.ReturningChip.{round_back, round_returning_run}
use Rattle.session_runs.specs.Splicing.{CalledCode, ComesBackFirst, Which, CallsComeBack, first_count, with_calls, returns_of}
use Rattle.session_runs.specs.Splicing.{ChipRunsAreSpliced, OpenRunsAreSpliced}

-- a + b instructions are a and then b more
pub run_more : {V S : Type 0} (storage : Storage V S) (data_start a b : ℕ) (w : Configuration V S) →
    run storage data_start (a + b) w ≡ run storage data_start b (run storage data_start a w)
run_more storage data_start zero b w = ap (λ k. run storage data_start k w) (zero_sum b)
  where
    zero_sum : (b : ℕ) → zero + b ≡ b
    zero_sum b = omega arith
run_more storage data_start (suc a) b w = ap (λ k. run storage data_start k w) (suc_sum a b)
    ∙ run_more storage data_start a b (advanced w.stop storage data_start w)
  where
    suc_sum : (a b : ℕ) → suc a + b ≡ suc (a + b)
    suc_sum a b = omega arith

module _ {V S R : Type 0} (storage : Storage V S) (comes_back : R → Configuration V S → Configuration V S) (last data_start : ℕ) where
  -- with the rest of a run of n instructions known
  first_call : (calls : List (CalledCode R)) (n : ℕ) (u : Configuration V S) (later : List (CalledCode R) → Configuration V S → ℕ)
      (rest : List R → Configuration V S → Configuration V S) (Later : List (CalledCode R) → Configuration V S → Type 0) →
      ((others : List (CalledCode R)) (v : Configuration V S) → Later others v →
      run storage data_start (later others v) v ≡ rest (returns_of others) v) →
      ComesBackFirst storage comes_back last data_start calls u Later →
      run storage data_start (first_count storage comes_back last data_start calls u later) u
      ≡ goes_back comes_back (returns_of calls) u rest
  first_call [] n u later rest Later each h = refl
  first_call (call ∷ calls) n u later rest Later each h =
      run_more storage data_start call.count (later calls (comes_back call.returned u)) u
      ∙ ap (λ v. run storage data_start (later calls (comes_back call.returned u)) v) h.0
      ∙ each calls (comes_back call.returned u) h.1

  by_leaving : (b : Bool) (calls : List (CalledCode R)) (n : ℕ) (u : Configuration V S)
      (later : List (CalledCode R) → Configuration V S → ℕ) (rest : List R → Configuration V S → Configuration V S)
      (Later : List (CalledCode R) → Configuration V S → Type 0) →
      ((others : List (CalledCode R)) (v : Configuration V S) → Later others v →
      run storage data_start (later others v) v ≡ rest (returns_of others) v) →
      Which storage comes_back last data_start b (ComesBackFirst storage comes_back last data_start calls u Later) (Later calls u) →
      run storage data_start
      (elim b as (λ c. ℕ) [ true ↦ first_count storage comes_back last data_start calls u later | false ↦ later calls u ]) u
      ≡ (if b then goes_back comes_back (returns_of calls) u rest else rest (returns_of calls) u)
  by_leaving true calls n u later rest Later each h = first_call calls n u later rest Later each h
  by_leaving false calls n u later rest Later each h = each calls u h

  pub spliced : (n : ℕ) (calls : List (CalledCode R)) (w : Configuration V S) → CallsComeBack storage comes_back last data_start calls n w →
      run storage data_start (with_calls storage comes_back last data_start calls n w) w
      ≡ run_returning storage comes_back last data_start (returns_of calls) n w
  unfolding with_calls CallsComeBack run_returning
  spliced zero calls w h = refl
  spliced (suc n) calls w h =
      by_leaving (is_leaving last w) calls n (advanced w.stop storage data_start w)
      (λ others v. with_calls storage comes_back last data_start others n v)
      (λ others v. run_returning storage comes_back last data_start others n v)
      (λ others v. CallsComeBack storage comes_back last data_start others n v)
      (λ others v k. spliced n others v k) h

pub chips_spliced : ChipRunsAreSpliced
unfolding round_returning_run
chips_spliced library p calls input n h = spliced round_storage (round_back (code_of library p)) (last_of_go library p) p.data_start n calls
    (begun (round_start (laid_out library p)) input) h

pub open_spliced : OpenRunsAreSpliced
unfolding returning_run
open_spliced library p calls input n h = spliced open_storage (machine_back (code_of library p)) (last_of_go library p) p.data_start n calls
    (begun (open_start (laid_out library p)) input) h
