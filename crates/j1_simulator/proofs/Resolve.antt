-- A step whose byte is known.
use Rattle.std.proofs.Common.{◌≡◌, ℕ, Bool, true, false, List, Option, Some, None, refl, sym, ap, ◌∙◌}
use Rattle.j1_simulator.specs.declared.effects.Output.TheVariants.{Silent}
use Rattle.j1_simulator.specs.declared.effects.Effect.{Effect}
use Rattle.j1_simulator.specs.declared.effects.Output.{Output}
use Rattle.j1_simulator.specs.Step.{Core, Missing, Reach, Reaches, Asks, Faults, Advances, Takes, Terminates, if_known, next_pc, moved_on, goes_on, accesses, applied, effect_at, step}
use Rattle.j1_simulator.specs.RoundMachine.{RingCells, round_storage, ring_top}
use Rattle.j1_simulator.specs.MachineState.{WentOn, reached_with, with_key}
use Rattle.j1_simulator.specs.PortAccess.{step_given}

-- where the next place is known
going : (e : Effect) (core : Core ℕ RingCells) (cell : ℕ) (memory : List ℕ) (output : Output) (pc : ℕ) →
    next_pc round_storage e.next core.pc core.t (ring_top core.return_stack) ≡ Some pc →
    goes_on round_storage e core (Reaches cell memory output) ≡ Advances (moved_on round_storage e core pc cell memory) output
going e core cell memory output pc n = ap (λ o. if_known o (Terminates Missing) (λ p. Advances (moved_on round_storage e core p cell memory) output)) n

asking : (e : Effect) (core : Core ℕ RingCells) (pc : ℕ) → next_pc round_storage e.next core.pc core.t (ring_top core.return_stack) ≡ Some pc →
    goes_on round_storage e core Asks ≡ Takes (λ byte. moved_on round_storage e core pc byte core.memory)
asking e core pc n = ap (λ o. if_known o (Terminates Missing) (λ p. Takes (λ byte. moved_on round_storage e core p byte core.memory))) n

pub goes_resolved : (key : Option ℕ) (e : Effect) (core : Core ℕ RingCells) (reach : Reach ℕ) (cell : ℕ) (memory : List ℕ) (output : Output) (pc : ℕ) →
    Reaches cell memory output ≡ reached_with key core.memory reach → next_pc round_storage e.next core.pc core.t (ring_top core.return_stack) ≡ Some pc →
    with_key key (goes_on round_storage e core reach) ≡ WentOn (moved_on round_storage e core pc cell memory) output
goes_resolved key e core (Reaches c m d) cell memory output pc r n = ap (with_key key) (going e core c m d pc n) ∙ cc
goes_resolved key e core (Faults stop) cell memory output pc r n = cc
goes_resolved None e core Asks cell memory output pc r n = cc
goes_resolved (Some byte) e core Asks cell memory output pc r n = ap (with_key (Some byte)) (asking e core pc n) ∙ cc

-- the step of a machine whose N, R, accesses and next place are known
pub step_done : (key : Option ℕ) (data_start : ℕ) (e : Effect) (core old new : Core ℕ RingCells) (n r cell pc : ℕ) (memory : List ℕ) (output : Output) →
    core ≡ old → e ≡ effect_at old → n ≡ ring_top core.data_stack → r ≡ ring_top core.return_stack →
    Reaches cell memory output ≡ reached_with key core.memory (accesses round_storage data_start e.fetches e.stores core.memory core.t n) →
    next_pc round_storage e.next core.pc core.t r ≡ Some pc → new ≡ moved_on round_storage e core pc cell memory →
    WentOn new output ≡ with_key key (step round_storage data_start old)
step_done key data_start e core old new n r cell pc memory output same known top back reached next moved =
    let reached' : Reaches cell memory output ≡ reached_with key core.memory (accesses round_storage data_start e.fetches e.stores core.memory core.t (ring_top core.data_stack)) = cc in
    let next' : next_pc round_storage e.next core.pc core.t (ring_top core.return_stack) ≡ Some pc = cc in
    ap (λ after. WentOn after output) moved
    ∙ sym (goes_resolved key e core _ cell memory output pc reached' next')
    ∙ ap (λ effect. with_key key (applied round_storage data_start effect core)) known
    ∙ ap (λ at. with_key key (applied round_storage data_start (effect_at old) at)) same

-- an instruction that makes no access reaches nothing
pub quiet : (key : Option ℕ) (data_start : ℕ) (f s : Bool) (memory : List ℕ) (t n : ℕ) → f ≡ false → s ≡ false → Reaches t memory Silent ≡ reached_with key memory (accesses round_storage data_start f s memory t n)
quiet key data_start false false memory t n ef es = refl
quiet key data_start true s memory t n ef es = cc
quiet key data_start false true memory t n ef es = cc

-- the step of a machine whose fetch gives a cell, where its next place is known
pub given_done : (e : Effect) (core old new : Core ℕ RingCells) (r cell pc : ℕ) → core ≡ old → e ≡ effect_at old → r ≡ ring_top core.return_stack →
    next_pc round_storage e.next core.pc core.t r ≡ Some pc → new ≡ moved_on round_storage e core pc cell core.memory →
    Advances new Silent ≡ step_given cell old
given_done e core old new r cell pc same known back next moved =
    let next' : next_pc round_storage e.next core.pc core.t (ring_top core.return_stack) ≡ Some pc = cc in
    ap (λ after. Advances after Silent) moved
    ∙ sym (going e core cell core.memory Silent pc next')
    ∙ ap (λ effect. goes_on round_storage effect core (Reaches cell core.memory Silent)) known
    ∙ ap (λ at. goes_on round_storage (effect_at old) at (Reaches cell at.memory Silent)) same
