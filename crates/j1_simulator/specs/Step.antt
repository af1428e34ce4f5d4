-- One step of a machine over any cells and any stacks (Bowman's J1 paper).
--
-- The order inside one step: T, N and R are read; the fetch is made, and then the store; both stack pointers move;
-- what goes into a stack is written at its new pointer; the program counter is set. A step that ends the run changes nothing,
-- but for a store to the halt port, whose instruction is made whole.
use Rattle.std.specs.Prelude.{ℕ, ◌+◌, ◌*◌, ◌/◌, ◌%◌, Bool, true, false, if◌then◌else◌, ◌==◌, ℤ, List, Option, Some, None, slice_index, slice_set}
use Rattle.j1_table.specs.Instruction.{decoded}
use Rattle.j1_simulator.specs.Operations.{on_t, on_t_and_n}
use Rattle.j1_simulator.specs.Effect.{effect, following}
use Rattle.j1_simulator.specs.declared.effects.NewTop.{NewTop}
use Rattle.j1_simulator.specs.declared.effects.NewTop.TheVariants.{Number, Operation}
use Rattle.j1_simulator.specs.declared.effects.ReturnWrite.{ReturnWrite}
use Rattle.j1_simulator.specs.declared.effects.ReturnWrite.TheVariants.{Nothing, OldTop, ReturnTo}
use Rattle.j1_simulator.specs.declared.effects.Next.{Next}
use Rattle.j1_simulator.specs.declared.effects.Next.TheVariants.{Following, Target, IfZero, Returning}
use Rattle.j1_simulator.specs.declared.effects.Effect.{Effect}
use Rattle.j1_simulator.specs.declared.ends.End.{End}
use Rattle.j1_simulator.specs.declared.ends.End.TheVariants as ends
use Rattle.j1_simulator.specs.declared.effects.Output.{Output}
use Rattle.j1_simulator.specs.declared.effects.Output.TheVariants.{Silent, Prints, Halts}
use Rattle.console_ports.specs.Ports.{access_at, even}
use Rattle.console_ports.specs.declared.ports.Access.{Access}
use Rattle.console_ports.specs.declared.ports.Access.TheVariants.{Data, Print, Key, Halt, Outside}

-- the operations on cells V and on stacks S over which the step is written
pub record Storage (V S : Type 0) : Type 0 where
  pub number : ℕ → V
  pub on_one : (ℕ → ℕ) → V → V
  pub on_two : (ℕ → ℕ → ℕ) → V → V → V
  -- the number in a cell, where it has one
  pub known : V → Option ℕ
  -- the cell at the pointer
  pub top : S → V
  pub moved : ℤ → S → S
  -- writes the cell at the pointer
  pub put : V → S → S
  -- the pointer modulo 32
  pub place : S → ℕ

-- the program counter (a cell of memory, below 8192), T, the stacks below T and of returns, and the 8192 cells of memory
pub record Core (V S : Type 0) : Type 0 where
  pub pc : ℕ
  pub t : V
  pub data_stack : S
  pub return_stack : S
  pub memory : List ℕ

-- how a run ends: as the program tells, or where an unknown cell is needed
pub data Stop : Type 0 where
  By : End → Stop
  Missing : Stop

-- what the accesses of an instruction give: the cell fetched, the memory after them and what goes out;
-- or that the cell is the next byte of the input; or that they end the run
pub data Reach (V : Type 0) : Type 0 where
  Reaches : V → List ℕ → Output → Reach V
  Asks : Reach V
  Faults : Stop → Reach V

-- what a step gives: the machine after it, the machine for each byte that it may take, or an end
pub data Transition (V S : Type 0) : Type 0 where
  Advances : Core V S → Output → Transition V S
  Takes : (ℕ → Core V S) → Transition V S
  Terminates : Stop → Transition V S

abbrev pub if_known : {A : Type 0} → Option ℕ → A → (ℕ → A) → A
if_known None missing go = missing
if_known (Some n) missing go = go n

-- the effect of the cell at pc
abbrev pub effect_at : {V S : Type 0} → Core V S → Effect
effect_at core = effect core.pc (decoded (slice_index core.memory core.pc))

module _ {V S : Type 0} (storage : Storage V S) where
  -- a fetch
  abbrev pub fetched : List ℕ → Access → Reach V
  fetched memory (Data i) = Reaches (storage.number (slice_index memory i)) memory Silent
  fetched memory Key = Asks
  fetched memory (Outside address) = Faults (By (ends.Outside address))
  fetched memory Print = Faults Missing
  fetched memory Halt = Faults Missing

  -- a store of a number
  abbrev pub stored : V → ℕ → List ℕ → Access → Reach V
  stored cell value memory (Data i) = Reaches cell (slice_set memory i value) Silent
  stored cell value memory Print = Reaches cell memory (Prints (value % 256))
  stored cell value memory Halt = Reaches cell memory (Halts (value % 256))
  stored cell value memory (Outside address) = Faults (By (ends.Outside address))
  stored cell value memory Key = Faults Missing

  -- a fetch and a store at one address
  abbrev pub exchanged : ℕ → ℕ → List ℕ → Access → Reach V
  exchanged address value memory (Data i) = Reaches (storage.number (slice_index memory i)) (slice_set memory i value) Silent
  exchanged address value memory Print = Faults (By (ends.Outside (even address)))
  exchanged address value memory Halt = Faults (By (ends.Outside (even address)))
  exchanged address value memory (Outside other) = Faults (By (ends.Outside other))
  exchanged address value memory Key = Faults Missing

  -- the accesses at T, where data space begins at data_start
  abbrev pub accesses : ℕ → Bool → Bool → List ℕ → V → V → Reach V
  accesses data_start false false memory t n = Reaches t memory Silent
  accesses data_start true false memory t n =
      if_known (storage.known t) (Faults Missing) (λ address. fetched memory (access_at data_start false address))
  accesses data_start false true memory t n =
      if_known (storage.known t) (Faults Missing) (λ address.
      if_known (storage.known n) (Faults Missing) (λ value. stored t value memory (access_at data_start true address)))
  accesses data_start true true memory t n =
      if_known (storage.known t) (Faults Missing) (λ address.
      if_known (storage.known n) (Faults Missing) (λ value. exchanged address value memory (access_at data_start true address)))

  -- the new T of an operation, from T, N, R, the cell fetched and the depth:
  -- 0 T, 1 N, 2 T+N, 3 T and N, 4 T or N, 5 T xor N, 6 not T, 7 N=T, 8 N<T signed, 9 N rshift T, 10 T-1, 11 R, 12 [T], 13 N lshift T, 14 depth, 15 N<T unsigned
  abbrev pub operated : ℕ → V → V → V → V → ℕ → V
  operated op t n r cell depth =
      if op == 0 then t
      else if op == 1 then n
      else if op == 6 then storage.on_one (on_t 6) t
      else if op == 10 then storage.on_one (on_t 10) t
      else if op == 11 then r
      else if op == 12 then cell
      else if op == 14 then storage.number depth
      else storage.on_two (on_t_and_n op) t n

  abbrev pub new_top_of : NewTop → V → V → V → V → ℕ → V
  new_top_of (Number value) t n r cell depth = storage.number value
  new_top_of (Operation op) t n r cell depth = operated op t n r cell depth

  -- the place of the next instruction, where it is known
  abbrev pub next_pc : Next → ℕ → V → V → Option ℕ
  next_pc Following pc t r = Some (following pc)
  next_pc (Target target) pc t r = Some target
  next_pc (IfZero target) pc t r = if_known (storage.known t) None (λ test. Some (if test == 0 then target else following pc))
  next_pc Returning pc t r = if_known (storage.known r) None (λ address. Some (address / 2 % 0x2000))

  -- the data stack: its pointer moves, and then the old T may be written there
  abbrev pub data_after : Bool → ℤ → V → S → S
  data_after true move t stack = storage.put t (storage.moved move stack)
  data_after false move t stack = storage.moved move stack

  -- the return stack: its pointer moves, and then something may be written there
  abbrev pub return_after : ReturnWrite → ℤ → V → S → S
  return_after Nothing move t stack = storage.moved move stack
  return_after OldTop move t stack = storage.put t (storage.moved move stack)
  return_after (ReturnTo address) move t stack = storage.put (storage.number address) (storage.moved move stack)

  -- the return pointer times 256 and the data pointer, each modulo 32
  abbrev pub depth_of : Core V S → ℕ
  depth_of core = storage.place core.return_stack * 256 + storage.place core.data_stack

  -- the machine after its accesses, which goes on at pc
  abbrev pub moved_on : Effect → Core V S → ℕ → V → List ℕ → Core V S
  moved_on e core pc cell memory =
      record {
        pc = pc;
        t = new_top_of e.new_top core.t (storage.top core.data_stack) (storage.top core.return_stack) cell (depth_of core);
        data_stack = data_after e.t_to_n e.data_move core.t core.data_stack;
        return_stack = return_after e.return_write e.return_move core.t core.return_stack;
        memory = memory;
      }

  -- a machine after its accesses, where the next place is known
  abbrev pub goes_on : Effect → Core V S → Reach V → Transition V S
  goes_on e core (Faults stop) = Terminates stop
  goes_on e core (Reaches cell memory output) =
      if_known (next_pc e.next core.pc core.t (storage.top core.return_stack)) (Terminates Missing) (λ pc. Advances (moved_on e core pc cell memory) output)
  goes_on e core Asks =
      if_known (next_pc e.next core.pc core.t (storage.top core.return_stack)) (Terminates Missing) (λ pc. Takes (λ byte. moved_on e core pc (storage.number byte) core.memory))

  -- an effect on a machine
  abbrev pub applied : ℕ → Effect → Core V S → Transition V S
  applied data_start e core =
      goes_on e core (accesses data_start e.fetches e.stores core.memory core.t (storage.top core.data_stack))

  -- one instruction
  abbrev pub step : ℕ → Core V S → Transition V S
  step data_start core = applied data_start (effect_at core) core
