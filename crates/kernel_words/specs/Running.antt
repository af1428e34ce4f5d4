-- What a law of a definition says of its run.
use Rattle.std.specs.Prelude.{◌≡◌, ℕ, ◌≤◌, List, [], ◌∷◌}
use Rattle.forth_program.specs.Tree.{Nodes}
use Rattle.forth_program.specs.State.{Entry, World, Frame, Work, State, Goes}
use Rattle.forth_program.specs.Program.{SourceProgram}
use Rattle.forth_program.specs.Step.{before}
use Rattle.forth_program.specs.Run.{steps}
use Rattle.forth_program.specs.Price.{spent}

-- a run comes from a state to another within so many word steps and so high a price
pub record Comes (p : SourceProgram) (most highest : ℕ) (s t : State) : Type 0 where
  pub count : ℕ
  pub run : steps p count s ≡ Goes t
  pub few : count ≤ most
  pub paid : spent p 0 count s ≤ highest

-- a definition with these items returns: from any frame that called it, with these cells in this world, its body ends with those
-- cells in that world, and the frame goes on. The step that ends the body is counted and paid
abbrev pub Returns : SourceProgram → Nodes → ℕ → ℕ → List ℕ → World → List ℕ → World → Type 0
Returns p body most highest c w c' w' =
    (work : List Work) (entries : List Entry) (callers : List Frame) →
    Comes p most highest
    (record { work = before body []; entries = []; callers = record { work = work; entries = entries } ∷ callers; cells = c; world = w })
    (record { work = work; entries = entries; callers = callers; cells = c'; world = w' })
