-- What the next instruction of a machine finds in registers, stacks and data space.
use Rattle.std.specs.Prelude.{ℕ, false, List, Option, Some, None, slice_index}
use Rattle.console_ports.specs.Ports.{access_at}
use Rattle.console_ports.specs.declared.ports.Access.{Access}
use Rattle.console_ports.specs.declared.ports.Access.TheVariants.{Data, Print, Key, Halt, Outside}
use Rattle.j1_simulator.specs.declared.registers.Registers.{Registers}
use Rattle.j1_simulator.specs.Step.{Core}
use Rattle.j1_simulator.specs.RoundMachine.{RingCells, ring_top}

abbrev pub registers_of : Core ℕ RingCells → Registers
registers_of core =
    record {
      place = core.pc;
      cell = slice_index core.memory core.pc;
      t = core.t;
      n = ring_top core.data_stack;
      r = ring_top core.return_stack;
      data_pointer = core.data_stack.at;
      return_pointer = core.return_stack.at;
    }

-- the cell that an access reaches in data space
abbrev pub cell_reached : List ℕ → Access → Option ℕ
cell_reached memory (Data i) = Some (slice_index memory i)
cell_reached memory Print = None
cell_reached memory Key = None
cell_reached memory Halt = None
cell_reached memory (Outside address) = None

-- the cell at the address T, where that is in data space
abbrev pub data_cell : ℕ → Core ℕ RingCells → Option ℕ
data_cell data_start core = cell_reached core.memory (access_at data_start false core.t)
