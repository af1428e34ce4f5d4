-- The array of machines: what a core does next, and whole schedules.
use Rattle.std.specs.Prelude.{ℕ, ◌-◌, ◌/◌, Bool, true, false, not, ◌&&◌, ◌==◌, nat_le, nat_lt, pos, List, [], length, get_or, map, replicate, Option, Some, None}
use Rattle.console_ports.specs.Ports.{even}
use Rattle.j1_table.specs.Image.{Content}
use Rattle.j1_simulator.specs.declared.ends.End.{End}
use Rattle.j1_simulator.specs.declared.ends.End.TheVariants as ends
use Rattle.j1_simulator.specs.declared.effects.Output.{Output}
use Rattle.j1_simulator.specs.declared.effects.Output.TheVariants.{Silent, Prints, Halts}
use Rattle.j1_simulator.specs.Step.{Core, By, Missing, Transition, Advances, Takes, Terminates, step, effect_at}
use Rattle.j1_simulator.specs.RoundMachine.{RingCells, round_storage}
use Rattle.j1_simulator.specs.MachineState.{MachineState, depths_after, end_of_output, machine_start}
use Rattle.j1_simulator.specs.PortAccess.{next_accesses, step_given}
use Rattle.core_array.specs.declared.events.CoreEvent.{CoreEvent}
use Rattle.core_array.specs.declared.events.CoreEvent.TheVariants.{Went, Printed, Ended}
use Rattle.core_array.specs.declared.links.Link.{Link}
use Rattle.core_array.specs.Network.{Action, Alone, Sends, Receives, Network, after_schedule, after_entry, action_at, action_event}

-- what stands for a core that there is not: a machine that has ended
abbrev pub no_core : MachineState
no_core =
    record {
      core = record { pc = 0; t = 0; data_stack = record { cells = []; at = 0 }; return_stack = record { cells = []; at = 0 }; memory = [] };
      data_start = 0;
      given = None;
      depths = record { data_depth = pos 0; return_depth = pos 0 };
      ended = Some ends.InputEnded;
    }

-- what stands for a link that there is not
abbrev pub no_link : Link
no_link = record { from = 16; to = 16 }

abbrev pub link_at : List Link → ℕ → Link
link_at links i = get_or links i no_link

-- the link whose port is at an address
abbrev pub link_of : ℕ → ℕ
link_of address = (even address - 16416) / 2

-- an address is the port of a link
abbrev pub is_port : List Link → ℕ → Bool
is_port links address = nat_le 16416 (even address) && nat_lt (link_of address) (length links)

-- core k may send, or may receive, at an address
abbrev pub may_send : List Link → ℕ → ℕ → Bool
may_send links k address = is_port links address && (link_at links (link_of address)).from == k

abbrev pub may_receive : List Link → ℕ → ℕ → Bool
may_receive links k address = is_port links address && (link_at links (link_of address)).to == k

-- a machine whose instruction was made
abbrev pub after_instruction : Core ℕ RingCells → Output → MachineState → MachineState
after_instruction core output machine = record machine { core = core; given = None; depths = depths_after machine.depths (effect_at machine.core); ended = end_of_output output }

-- a machine whose run has ended, with nothing else changed
abbrev pub with_end : End → MachineState → MachineState
with_end end machine = record machine { given = None; ended = Some end }

abbrev pub output_event : Output → CoreEvent
output_event Silent = Went
output_event (Prints byte) = Printed byte
output_event (Halts status) = Ended (ends.Halted status)

-- an instruction of a machine on its own; its input has no byte but one that was given
abbrev pub own_transition : Option (Option ℕ) → MachineState → Transition ℕ RingCells → Action MachineState
own_transition given machine (Advances core output) = Alone (after_instruction core output machine) (output_event output)
own_transition given machine (Terminates (By end)) = Alone (with_end end machine) (Ended end)
own_transition given machine (Terminates Missing) = Alone machine Went
own_transition None machine (Takes next) = Alone (with_end ends.InputEnded machine) (Ended ends.InputEnded)
own_transition (Some None) machine (Takes next) = Alone (with_end ends.InputEnded machine) (Ended ends.InputEnded)
own_transition (Some (Some byte)) machine (Takes next) = Alone (after_instruction (next byte) Silent machine) Went

-- a step of a machine on its own; one that has ended answers its end again
abbrev pub own_step : Option End → MachineState → Action MachineState
own_step (Some end) machine = Alone machine (Ended end)
own_step None machine = own_transition machine.given machine (step round_storage machine.data_start machine.core)

-- the machine after its next instruction, where a fetch gives this cell and a store changes no memory
abbrev pub after_given : MachineState → Transition ℕ RingCells → MachineState
after_given machine (Advances core output) = after_instruction core output machine
after_given machine (Takes next) = machine
after_given machine (Terminates (By end)) = with_end end machine
after_given machine (Terminates Missing) = machine

abbrev pub given_cell : ℕ → MachineState → MachineState
given_cell cell machine = after_given machine (step_given cell machine.core)

abbrev pub sends_where : Bool → ℕ → ℕ → MachineState → Action MachineState
sends_where true i cell machine = Sends i cell (given_cell 0 machine)
sends_where false i cell machine = own_step machine.ended machine

abbrev pub receives_where : Bool → ℕ → MachineState → Action MachineState
receives_where true i machine = Receives i (λ cell. given_cell cell machine)
receives_where false i machine = own_step machine.ended machine

-- what core k does, by the accesses of its next instruction
abbrev pub by_accesses : List Link → ℕ → MachineState → Option ℕ → Option (ℕ × ℕ) → Action MachineState
by_accesses links k machine None (Some stored) = sends_where (may_send links k stored.0) (link_of stored.0) stored.1 machine
by_accesses links k machine (Some address) None = receives_where (may_receive links k address) (link_of address) machine
by_accesses links k machine None None = own_step machine.ended machine
by_accesses links k machine (Some address) (Some stored) = own_step machine.ended machine

abbrev pub core_action : List Link → ℕ → MachineState → Action MachineState
core_action links k machine = by_accesses links k machine (next_accesses machine).fetch (next_accesses machine).store

-- the cores at their start, with nothing printed or sent
abbrev pub cores_start : List Content → List Link → Network MachineState
cores_start images links =
    record { cores = map machine_start images; printed = replicate (length images) []; mailboxes = replicate (length links) []; histories = replicate (length links) [] }

-- one entry of a schedule with what it answers, and a whole schedule
abbrev pub core_stepped : List Link → ℕ → Network MachineState → Network MachineState
core_stepped links k net = after_entry no_core (core_action links) k net

abbrev pub core_event : List Link → ℕ → Network MachineState → CoreEvent
core_event links k net = action_event (action_at no_core (core_action links) k net) net

abbrev pub cores_run : List Link → List ℕ → Network MachineState → Network MachineState
cores_run links schedule net = after_schedule no_core (core_action links) schedule net

-- the array of these images and links after a schedule
abbrev pub cores_after : List Content → List Link → List ℕ → Network MachineState
cores_after images links schedule = cores_run links schedule (cores_start images links)

-- a link has an end that is no core, or the same core at both ends
abbrev pub is_bad_link : ℕ → Link → Bool
is_bad_link cores link = not (nat_lt link.from cores && nat_lt link.to cores && not (link.from == link.to))
