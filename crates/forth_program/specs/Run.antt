-- Runs of at most k word steps.
use Rattle.std.specs.Prelude.{ℕ, zero, suc, ◌-◌, ◌/◌, Bool, true, false, List, [], Option, Some, None}
use Rattle.cell_math.specs.Bytes.{cells_of_bytes, filled}
use Rattle.forth_program.specs.State.{World, State, End, Underflow, Unbalanced, Left, Outcome, Goes, Ends}
use Rattle.forth_program.specs.Program.{SourceProgram, body_of}
use Rattle.forth_program.specs.Step.{before, step}

-- what goes on goes on with `next`, and an end stays
abbrev pub and_then : Outcome → (State → Outcome) → Outcome
and_then (Goes s) next = next s
and_then (Ends end world) next = Ends end world

-- at most k word steps
unfoldable pub steps : SourceProgram → ℕ → State → Outcome
steps p zero s = Goes s
steps p (suc k) s = and_then (step p s) (steps p k)

-- data space as the source leaves it, and then zeros up to address 0x4000
abbrev pub first_world : SourceProgram → List ℕ → World
first_world p input = record {
  data_start = p.data_start;
  space = filled ((0x4000 - p.data_start) / 2) (cells_of_bytes p.first_space);
  input = input;
  printed = [];
  made = [];
}

-- MAIN's frame alone, with no data cells
abbrev pub first_state : SourceProgram → List ℕ → State
first_state p input = record { work = before (body_of p p.main_body) []; entries = []; callers = []; cells = []; world = first_world p input }

-- the run of a program on these input bytes
unfoldable pub source_run : SourceProgram → List ℕ → ℕ → Outcome
source_run p input k = steps p k (first_state p input)

-- the world that was come to
abbrev pub world_of : Outcome → World
world_of (Goes s) = s.world
world_of (Ends end world) = world

-- the end, where there is one
abbrev pub end_of : Outcome → Option End
end_of (Goes s) = None
end_of (Ends end world) = Some end

-- a run that GO has led out of the source
abbrev pub leaves : Outcome → Bool
leaves (Goes s) = false
leaves (Ends (Left address) world) = true
leaves (Ends end world) = false

-- a run that has ended because too few cells or other entries were found
abbrev pub lacks : Outcome → Bool
lacks (Goes s) = false
lacks (Ends Underflow world) = true
lacks (Ends Unbalanced world) = true
lacks (Ends end world) = false
