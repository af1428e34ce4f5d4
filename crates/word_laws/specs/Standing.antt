-- The open machine that stands where a source stands: its data cells, its return entries and its world.
use Rattle.std.specs.Prelude.{ℕ, ◌+◌, ◌<◌, ◌≡◌, List, [], ◌∷◌, ◌++◌, length, slice_index, ℤ, pos, Option, Some, None}
use Rattle.cell_math.specs.Cell.{difference_of}
use Rattle.j1_simulator.specs.declared.ends.End.TheVariants as chip
use Rattle.j1_simulator.specs.Effect.{following}
use Rattle.j1_simulator.specs.Step.{Stop, By}
use Rattle.j1_simulator.specs.OpenMachine.{top_cell, rest}
use Rattle.forth_program.specs.State.{Entry, Cell, Loop, World, State, End, Halted, InputEnded, Outside, Underflow, Unbalanced, Left, Outcome, Goes, Ends}
use Rattle.word_laws.specs.Rings.{OpenConfiguration}

-- T and the places below it: the data cells, with the top first, and one unknown place below the last of them
abbrev pub data_places : List ℕ → List (Option ℕ)
data_places [] = None ∷ []
data_places (x ∷ c) = Some x ∷ data_places c

-- the places of return entries, the newest first, over those of what is below: a loop takes two places, its limit and
-- above it index minus limit
abbrev pub return_places : List Entry → List (Option ℕ) → List (Option ℕ)
return_places [] below = below
return_places (Cell value ∷ entries) below = Some value ∷ return_places entries below
return_places (Loop limit index ∷ entries) below = Some (difference_of index limit) ∷ Some limit ∷ return_places entries below

-- where the open machine stands: the code before data space, the program counter, the places of the return stack, and what was left above
-- both pointers
pub record MachinePlace : Type 0 where
  pub code : List ℕ
  pub pc : ℕ
  pub returns : List (Option ℕ)
  pub data_above : List (Option ℕ)
  pub return_above : List (Option ℕ)

-- the same by its parts
abbrev pub machine_at : List ℕ → ℕ → List (Option ℕ) → List (Option ℕ) → List (Option ℕ) → MachinePlace
machine_at code pc returns data_above return_above =
    record { code = code; pc = pc; returns = returns; data_above = data_above; return_above = return_above }

-- the open machine that stands there, with these data cells, the counters, which are the pointers too, and the data space of a world
abbrev pub standing : MachinePlace → List ℕ → ℤ → ℤ → World → OpenConfiguration
standing m c data_depth return_depth world =
    record {
      core = record {
        pc = m.pc;
        t = top_cell (data_places c);
        data_stack = record { below = rest (data_places c); above = m.data_above; at = data_depth };
        return_stack = record { below = m.returns; above = m.return_above; at = return_depth };
        memory = m.code ++ world.space;
      };
      input = world.input;
      printed = world.printed;
      data_depth = data_depth;
      return_depth = return_depth;
      stop = None;
    }

-- the same, where each counter is the number of the cells of its stack
abbrev pub standing_at_depths : MachinePlace → List ℕ → World → OpenConfiguration
standing_at_depths m c world = standing m c (pos (length c)) (pos (length m.returns)) world

-- the open machine that stands as a source, whose entries are over the return places. Of the source's world it has data space, the
-- input left and the prints; the accesses that the world remembers are no part of it
abbrev pub standing_as : State → MachinePlace → OpenConfiguration
standing_as s m = standing_at_depths (record m { returns = return_places s.entries m.returns }) s.cells s.world

-- the machine's end for an end of a source; it has none for a lack of cells or of return entries, nor where GO leads out of the source
abbrev pub machine_end : End → Option Stop
machine_end (Halted status) = Some (By (chip.Halted status))
machine_end InputEnded = Some (By chip.InputEnded)
machine_end (Outside address) = Some (By (chip.Outside address))
machine_end Underflow = None
machine_end Unbalanced = None
machine_end (Left address) = None

-- a machine that has ended so, with the data space, the input and the prints of a world
pub record EndedIn (w : OpenConfiguration) (code : List ℕ) (stop : Stop) (world : World) : Type 0 where
  pub stop_is : w.stop ≡ Some stop
  pub memory : w.core.memory ≡ code ++ world.space
  pub input : w.input ≡ world.input
  pub printed : w.printed ≡ world.printed

-- the machine has come to what a word step leads to: it stands at this place as the state that is left, or has ended as the run
abbrev pub HasCome : List ℕ → ℕ → List (Option ℕ) → OpenConfiguration → Outcome → Type 0
HasCome code next base w (Goes s) = (data_above : List (Option ℕ)) × (return_above : List (Option ℕ)) × (w ≡ standing_as s (machine_at code next base data_above return_above))
HasCome code next base w (Ends end world) = (stop : Stop) × (machine_end end ≡ Some stop) × EndedIn w code stop world

-- these cells stand in code one after the other: from the place pc up to the place next
abbrev pub StandIn : List ℕ → ℕ → List ℕ → ℕ → Type 0
StandIn code pc [] next = pc ≡ next
StandIn code pc (cell ∷ cells) next = (slice_index code pc ≡ cell) × (pc < length code) × StandIn code (following pc) cells next

-- cells that follow others at the beginning of code stand there, up to the place after the last of them
abbrev pub CellsStand : Type 0
CellsStand =
    (before cells after : List ℕ) → length before + length cells < 0x2000 →
    StandIn (before ++ (cells ++ after)) (length before) cells (length before + length cells)
