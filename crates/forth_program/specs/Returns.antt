-- Runs of a program with GO that go on: the code that a GO has called comes back behind it, and what it has changed meanwhile is told from outside.
use Rattle.std.specs.Prelude.{◌≡◌, ℕ, zero, suc, ◌-◌, ◌/◌, ◌+◌, ◌<◌, List, [], ◌∷◌, ◌++◌, length}
use Rattle.std.specs.List.{All}
use Rattle.forth_program.specs.Program.{SourceProgram}
use Rattle.forth_program.specs.State.{World, State, End, Left, Outcome, Goes, Ends}
use Rattle.forth_program.specs.Step.{First, IsWord, first_work, step}
use Rattle.forth_program.specs.Run.{first_state}
use Rattle.forth_program.specs.Price.{step_price}
use Rattle.forth_program.specs.Cells.{AreCells}

-- what the code that GO called has made of data space and of the input, and what it has printed
pub record Return : Type 0 where
  pub space : List ℕ
  pub input : List ℕ
  pub printed : List ℕ

-- data space has its size, and holds cells, and the input bytes
pub record IsReturn (p : SourceProgram) (back : Return) : Type 0 where
  pub size : length back.space ≡ (0x4000 - p.data_start) / 2
  pub cells : AreCells back.space
  pub bytes : All (λ byte. byte < 256) back.input

abbrev pub world_back : Return → World → World
world_back back world = record world { space = back.space; input = back.input; printed = world.printed ++ back.printed }

-- behind a GO: its address is taken off the data cells, and its item off the work
abbrev pub behind_go : First → List ℕ → State → State
behind_go (IsWord word after) (address ∷ c) s = record s { work = after; cells = c }
behind_go first c s = s

abbrev pub state_back : Return → State → State
state_back back s = record (behind_go (first_work s.work) s.cells s) { world = world_back back s.world }

-- where GO has left, the run goes on with the first return, if there is one
abbrev pub come_back : List Return → State → Outcome → (List Return → State → Outcome) → Outcome
come_back backs s (Goes t) next = next backs t
come_back (back ∷ backs) s (Ends (Left address) world) next = next backs (state_back back s)
come_back backs s (Ends end world) next = Ends end world

-- at most k word steps, where the j-th GO comes back with the j-th of these returns. Where there is none it ends the run
unfoldable pub steps_back : SourceProgram → List Return → ℕ → State → Outcome
steps_back p backs zero s = Goes s
steps_back p backs (suc k) s = come_back backs s (step p s) (λ rest t. steps_back p rest k t)

-- what is spent on the way, a step of GO at its price
abbrev pub spent_back_after : List Return → State → ℕ → Outcome → (List Return → State → ℕ) → ℕ
spent_back_after backs s total (Goes t) next = next backs t
spent_back_after (back ∷ backs) s total (Ends (Left address) world) next = next backs (state_back back s)
spent_back_after backs s total (Ends end world) next = total

unfoldable pub spent_back : SourceProgram → List Return → ℕ → ℕ → State → ℕ
spent_back p backs total zero s = total
spent_back p backs total (suc k) s = spent_back_after backs s (total + step_price s) (step p s) (λ rest t. spent_back p rest (total + step_price s) k t)

-- the run of a program with these returns, and its price with the start
unfoldable pub run_back : SourceProgram → List Return → List ℕ → ℕ → Outcome
run_back p backs input k = steps_back p backs k (first_state p input)

unfoldable pub price_back : SourceProgram → List Return → List ℕ → ℕ → ℕ
price_back p backs input k = spent_back p backs 8 k (first_state p input)
