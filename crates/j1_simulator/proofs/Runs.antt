-- Runs, one instruction after another.
use Rattle.std.proofs.Common.{◌≡◌, ℕ, zero, suc, ◌+◌, ◌-◌, ◌≤◌, List, refl, subst, arith}
use Rattle.j1_simulator.specs.RoundMachine.{RingCells, round_storage}
use Rattle.j1_simulator.specs.Run.{Configuration, run, advance}
use Rattle.j1_simulator.specs.MachineState.{MachineState}
use Rattle.j1_simulator.specs.Drive.{driven_fits}
use Rattle.j1_simulator.proofs.HeldDepths.{both_hold}
use Rattle.std.specs.Prelude.{IsTrue}

pub run_suc : (k data_start : ℕ) (configuration : Configuration ℕ RingCells) → run round_storage data_start (suc k) configuration ≡ advance data_start (run round_storage data_start k configuration)
run_suc zero data_start configuration = refl
run_suc (suc k) data_start configuration = run_suc k data_start (advance data_start configuration)

-- counters that fit for longer did so before
fits_up : (machine : MachineState) (k d : ℕ) (input : List ℕ) → IsTrue (driven_fits machine (d + k) input) → IsTrue (driven_fits machine k input)
fits_up machine k zero input f = let e : 0 + k ≡ k = omega arith in subst (λ n. IsTrue (driven_fits machine n input)) e f
fits_up machine k (suc d) input f =
    let e : suc d + k ≡ suc (d + k) = omega arith in
    let f' : IsTrue (driven_fits machine (suc (d + k)) input) = subst (λ n. IsTrue (driven_fits machine n input)) e f in
    fits_up machine k d input (both_hold (driven_fits machine (d + k) input) _ f').0

pub fits_before : (machine : MachineState) (k n : ℕ) (input : List ℕ) → k ≤ n → IsTrue (driven_fits machine n input) → IsTrue (driven_fits machine k input)
fits_before machine k n input le f =
    let e : n ≡ (n - k) + k = omega arith in
    fits_up machine k (n - k) input (subst (λ m. IsTrue (driven_fits machine m input)) e f)
