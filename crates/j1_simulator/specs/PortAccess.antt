-- The accesses of a machine's next instruction, and that instruction where its one access is made outside the machine.
use Rattle.std.specs.Prelude.{ℕ, ◌≤◌, if◌then◌else◌, Option, Some, None}
use Rattle.console_ports.specs.Ports.{even}
use Rattle.j1_simulator.specs.declared.accesses.Accesses.{Accesses}
use Rattle.j1_simulator.specs.declared.effects.Effect.{Effect}
use Rattle.j1_simulator.specs.declared.effects.Output.TheVariants.{Silent}
use Rattle.j1_simulator.specs.declared.ends.End.{End}
use Rattle.j1_simulator.specs.Step.{Core, Transition, Reaches, goes_on, effect_at}
use Rattle.j1_simulator.specs.RoundMachine.{RingCells, round_storage, ring_top}
use Rattle.j1_simulator.specs.MachineState.{MachineState}

-- the address of the fetch of an instruction, where it makes one and the machine has not ended
abbrev pub fetch_address : Option End → Effect → Core ℕ RingCells → Option ℕ
fetch_address (Some end) effect core = None
fetch_address None effect core = if effect.fetches then Some (even core.t) else None

-- the address and the cell of its store
abbrev pub store_made : Option End → Effect → Core ℕ RingCells → Option (ℕ × ℕ)
store_made (Some end) effect core = None
store_made None effect core = if effect.stores then Some (even core.t, ring_top core.data_stack) else None

-- the accesses of the next instruction
abbrev pub next_accesses : MachineState → Accesses
next_accesses machine =
    record { fetch = fetch_address machine.ended (effect_at machine.core) machine.core; store = store_made machine.ended (effect_at machine.core) machine.core }

-- the addresses of 16 ports between machines, which are outside for each of them alone
abbrev pub IsLinkPort : ℕ → Type 0
IsLinkPort address = (16416 ≤ address) × (address ≤ 16446)

-- one access, which is at such a port
abbrev pub OneAtPort : Option ℕ → Option (ℕ × ℕ) → Type 0
OneAtPort (Some address) None = IsLinkPort address
OneAtPort None (Some stored) = IsLinkPort stored.0
OneAtPort None None = ⊥
OneAtPort (Some address) (Some stored) = ⊥

-- the next instruction, where a fetch gives this cell and no memory changes
abbrev pub step_given : ℕ → Core ℕ RingCells → Transition ℕ RingCells
step_given cell core = goes_on round_storage (effect_at core) core (Reaches cell core.memory Silent)
