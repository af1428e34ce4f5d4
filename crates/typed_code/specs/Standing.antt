-- The open machine at a place of its memory, where code and data space are one list, and what so many instructions lead to.
use Rattle.std.specs.Prelude.{ℕ, ◌/◌, ◌%◌, ◌≡◌, List, [], ◌∷◌, ◌++◌, Option, Some}
use Rattle.forth_program.specs.State.{World}
use Rattle.j1_simulator.specs.OpenMachine.{open_storage}
use Rattle.j1_simulator.specs.Run.{run}
use Rattle.word_laws.specs.Rings.{OpenConfiguration, BeforeEach}
use Rattle.word_laws.specs.Bounds.{StaysWithin}
use Rattle.word_laws.specs.Standing.{standing_at_depths, machine_at}

-- the places of the return stack, the newest first, the input left, and the prints
pub record Surroundings : Type 0 where
  pub returns : List (Option ℕ)
  pub input : List ℕ
  pub printed : List ℕ

-- a world whose data space is all of memory
abbrev pub world_in : List ℕ → Surroundings → World
world_in memory s = record { data_start = 0x2000; space = memory; input = s.input; printed = s.printed; made = [] }

-- the open machine at a place of memory, with these data cells and these places left above both pointers
abbrev pub stands_at : ℕ → List ℕ → List ℕ → Surroundings → List (Option ℕ) → List (Option ℕ) → OpenConfiguration
stands_at place c memory s data_above return_above = standing_at_depths (machine_at [] place s.returns data_above return_above) c (world_in memory s)

-- the same surroundings with a return address on top, and with other input and prints
abbrev pub called_from : ℕ → Surroundings → Surroundings
called_from address s = record s { returns = Some address ∷ s.returns }

abbrev pub place_of : ℕ → ℕ
place_of address = address / 2 % 0x2000

-- so many instructions lead to a place with these data cells and this memory, whatever stands above the pointers then; the return cells
-- that were taken last stand right above. Before each instruction both stacks are within high and return_high
pub record Comes (count high return_high : ℕ) (from : OpenConfiguration) (place : ℕ) (c memory : List ℕ) (s : Surroundings) (taken : List (Option ℕ)) : Type 0 where
  pub data_above : List (Option ℕ)
  pub return_above : List (Option ℕ)
  pub makes : run open_storage 0x2000 count from ≡ stands_at place c memory s data_above (taken ++ return_above)
  pub bounds : BeforeEach (StaysWithin 0 high 0 return_high) 0x2000 count from

-- so it comes from a place, whatever stands above the pointers
abbrev pub Leads : ℕ → ℕ → ℕ → ℕ → List ℕ → List ℕ → Surroundings → ℕ → List ℕ → List ℕ → Surroundings → List (Option ℕ) → Type 0
Leads count high return_high from c memory s to d memory' s' taken =
    (data_above return_above : List (Option ℕ)) → Comes count high return_high (stands_at from c memory s data_above return_above) to d memory' s' taken
