-- The cells of a number do what it means.
use Rattle.std.specs.Prelude.{ℕ, ◌+◌, ◌-◌, ◌/◌, ◌<◌, ◌≡◌, nat_lt, if◌then◌else◌, List, [], ◌∷◌, length}
use Rattle.forth_program.specs.State.{Work, State}
use Rattle.forth_program.specs.Program.{SourceProgram}
use Rattle.forth_program.specs.Step.{IsLiteral, act}
use Rattle.j1_simulator.specs.OpenMachine.{open_storage}
use Rattle.j1_simulator.specs.Run.{run}
use Rattle.word_laws.specs.Rings.{BeforeEach}
use Rattle.word_laws.specs.Bounds.{StaysWithin}
use Rattle.word_laws.specs.Standing.{return_places, standing_as, HasCome, StandIn, MachinePlace}

-- a number below 0x8000 is a literal; a greater one is its complement, which is then inverted
abbrev pub number_cells : ℕ → List ℕ
number_cells value = if nat_lt value 0x8000 then (0x8000 + value) ∷ [] else (0x8000 + (0xffff - value)) ∷ 0x6600 ∷ []

-- a number's cells stand in code, from pc to next
pub record NumberStands (value : ℕ) (code : List ℕ) (pc next : ℕ) (s : State) : Type 0 where
  pub is_cell : value < 0x10000
  pub code_size : length code ≡ s.world.data_start / 2
  pub in_code : StandIn code pc (number_cells value) next

-- in as many instructions as it has cells, a number's code puts it on the data cells
abbrev pub NumbersDoTheirMeaning : Type 0
NumbersDoTheirMeaning =
    (p : SourceProgram) (after : List Work) (value : ℕ) (m : MachinePlace) (next : ℕ) (s : State) → NumberStands value m.code m.pc next s →
    HasCome m.code next m.returns (run open_storage s.world.data_start (length (number_cells value)) (standing_as s m)) (act p (IsLiteral value after) s)

-- before each of these instructions the data counter is as before or one more, and the return counter as before
abbrev pub NumbersKeepTheirBounds : Type 0
NumbersKeepTheirBounds =
    (value : ℕ) (m : MachinePlace) (next : ℕ) (s : State) → NumberStands value m.code m.pc next s →
    BeforeEach
    (StaysWithin (length s.cells) (length s.cells + 1) (length (return_places s.entries m.returns)) (length (return_places s.entries m.returns)))
    s.world.data_start (length (number_cells value)) (standing_as s m)
