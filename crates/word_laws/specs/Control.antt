-- Calls, returns, jumps and branches from where the open machine stands as a source does.
use Rattle.std.specs.Prelude.{ℕ, suc, ◌*◌, ◌/◌, ◌%◌, ◌<◌, ◌+◌, ◌≡◌, List, [], ◌∷◌, length, slice_index, Some}
use Rattle.j1_table.specs.declared.instr.Instr.{Instr}
use Rattle.j1_table.specs.declared.instr.Instr.TheVariants.{Jump, Branch, Call}
use Rattle.j1_table.specs.Instruction.{decoded}
use Rattle.forth_program.specs.State.{World, State, Halted, Ends}
use Rattle.j1_simulator.specs.Effect.{following}
use Rattle.j1_simulator.specs.OpenMachine.{top_cell, rest, open_storage}
use Rattle.j1_simulator.specs.Run.{run}
use Rattle.word_laws.specs.Rings.{OpenConfiguration, BeforeEach}
use Rattle.word_laws.specs.Bounds.{StaysWithin}
use Rattle.word_laws.specs.Standing.{data_places, return_places, standing_at_depths, standing_as, HasCome, StandIn, MachinePlace}

-- this instruction stands in code at pc
abbrev pub HoldsInstruction : List ℕ → ℕ → Instr → Type 0
HoldsInstruction code pc instruction = (decoded (slice_index code pc) ≡ instruction) × (pc < length code)

-- one instruction leads from one configuration to another, with so many data and return cells before it
pub record LeadsTo (data_start depth return_depth : ℕ) (from to : OpenConfiguration) : Type 0 where
  pub makes : run open_storage data_start 1 from ≡ to
  pub bounds : BeforeEach (StaysWithin depth depth return_depth return_depth) data_start 1 from

abbrev pub JumpLeads : Type 0
JumpLeads =
    (data_start target : ℕ) (m : MachinePlace) (c : List ℕ) (w : World) → HoldsInstruction m.code m.pc (Jump target) →
    LeadsTo data_start (length c) (length m.returns) (standing_at_depths m c w) (standing_at_depths (record m { pc = target }) c w)

-- a call puts the address after it on the return places
abbrev pub CallLeads : Type 0
CallLeads =
    (data_start target : ℕ) (m : MachinePlace) (c : List ℕ) (w : World) → HoldsInstruction m.code m.pc (Call target) →
    LeadsTo data_start (length c) (length m.returns) (standing_at_depths m c w)
    (standing_at_depths (record m { pc = target; returns = Some (2 * following m.pc) ∷ m.returns; return_above = rest m.return_above }) c w)

-- a return (cell 700C) takes it
abbrev pub ReturnLeads : Type 0
ReturnLeads =
    (data_start address : ℕ) (m : MachinePlace) (c : List ℕ) (w : World) → HoldsInstruction m.code m.pc (decoded 0x700C) →
    LeadsTo data_start (length c) (suc (length m.returns)) (standing_at_depths (record m { returns = Some address ∷ m.returns }) c w)
    (standing_at_depths (record m { pc = address / 2 % 0x2000; return_above = Some address ∷ m.return_above }) c w)

-- a branch takes the top cell, and is taken at 0
abbrev pub BranchLeads : Type 0
BranchLeads =
    (data_start target : ℕ) (m : MachinePlace) (c : List ℕ) (w : World) → HoldsInstruction m.code m.pc (Branch target) →
    LeadsTo data_start (suc (length c)) (length m.returns) (standing_at_depths m (0 ∷ c) w)
    (standing_at_depths (record m { pc = target; data_above = top_cell (data_places c) ∷ m.data_above }) c w)

abbrev pub BranchPasses : Type 0
BranchPasses =
    (data_start target n : ℕ) (m : MachinePlace) (c : List ℕ) (w : World) → HoldsInstruction m.code m.pc (Branch target) →
    LeadsTo data_start (suc (length c)) (length m.returns) (standing_at_depths m (suc n ∷ c) w)
    (standing_at_depths (record m { pc = following m.pc; data_above = top_cell (data_places c) ∷ m.data_above }) c w)

-- the cells that end a run with status 0: a literal 0 is stored at the halt port, and changes nothing else but the counters
abbrev pub halt_cells : List ℕ
halt_cells = 0x8000 ∷ 0xC004 ∷ 0x6023 ∷ []

-- they end it in three instructions, before and after each of which the data counter is at most two more
abbrev pub HaltEnds : Type 0
HaltEnds =
    (m : MachinePlace) (next : ℕ) (s : State) → length m.code ≡ s.world.data_start / 2 → StandIn m.code m.pc halt_cells next →
    HasCome m.code next m.returns (run open_storage s.world.data_start 3 (standing_as s m)) (Ends (Halted 0) s.world)
    × BeforeEach
    (StaysWithin (length s.cells) (length s.cells + 2) (length (return_places s.entries m.returns)) (length (return_places s.entries m.returns)))
    s.world.data_start 3 (standing_as s m)
    × StaysWithin (length s.cells) (length s.cells + 2) (length (return_places s.entries m.returns)) (length (return_places s.entries m.returns))
    (run open_storage s.world.data_start 3 (standing_as s m))
