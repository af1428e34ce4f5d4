-- The trace of a run: an entry for each of its instructions.
use Rattle.std.specs.Prelude.{ℕ, zero, suc, List, [], ◌∷◌, ◌++◌, Option, Some, None}
use Rattle.j1_table.specs.Image.{Content}
use Rattle.j1_simulator.specs.declared.accesses.Accesses.{Accesses}
use Rattle.j1_simulator.specs.declared.effects.Output.TheVariants.{Silent, Prints, Halts}
use Rattle.j1_simulator.specs.Step.{Core, Stop, Transition, Advances, Takes, Terminates, step, effect_at}
use Rattle.j1_simulator.specs.RoundMachine.{RingCells, round_storage}
use Rattle.j1_simulator.specs.PortAccess.{fetch_address, store_made}
use Rattle.j1_simulator.specs.RegisterView.{registers_of, data_cell}
use Rattle.j1_simulator.specs.Run.{Configuration, round_run}
use Rattle.instruction_trace.specs.TraceText.{instruction_line, print_line, take_line}

-- the accesses of the next instruction of a run that has not ended
abbrev pub accesses_of : Core ℕ RingCells → Accesses
accesses_of core = record { fetch = fetch_address None (effect_at core) core; store = store_made None (effect_at core) core }

-- its line, with this number
unfoldable pub line_at : ℕ → ℕ → Core ℕ RingCells → List ℕ
line_at number data_start core = instruction_line number (registers_of core) (accesses_of core) (data_cell data_start core)

-- the line of the byte that an instruction prints or takes from this input
abbrev pub outcome_text : Transition ℕ RingCells → List ℕ → List ℕ
outcome_text (Advances core (Prints byte)) input = print_line byte
outcome_text (Advances core Silent) input = []
outcome_text (Advances core (Halts status)) input = []
outcome_text (Takes next) (byte ∷ input) = take_line byte
outcome_text (Takes next) [] = []
outcome_text (Terminates stop) input = []

-- the entry of the next instruction: its line, and that of its byte. A run that has ended has none
abbrev pub entry : Option Stop → ℕ → ℕ → Configuration ℕ RingCells → List ℕ
entry (Some stop) number data_start from = []
entry None number data_start from = line_at number data_start from.core ++ outcome_text (step round_storage data_start from.core) from.input

-- the trace of n instructions on an image and an input: entry k tells the machine that the run has come to after k - 1 of them
unfoldable pub traced : Content → List ℕ → ℕ → List ℕ
traced image input zero = []
traced image input (suc n) = traced image input n ++ entry (round_run image input n).stop (suc n) image.data_start (round_run image input n)
