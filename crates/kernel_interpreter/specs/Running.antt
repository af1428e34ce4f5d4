-- What a law says of a run that GO leads out of the program, and that goes on behind it.
use Rattle.std.specs.Prelude.{◌≡◌, ℕ, ◌+◌, ◌≤◌, List, [], ◌∷◌, ◌++◌}
use Rattle.forth_program.specs.Tree.{Nodes}
use Rattle.forth_program.specs.State.{Entry, World, Frame, Work, State, Left, Ends}
use Rattle.forth_program.specs.Program.{SourceProgram}
use Rattle.forth_program.specs.Step.{before}
use Rattle.forth_program.specs.Run.{steps}
use Rattle.forth_program.specs.Price.{spent}
use Rattle.forth_program.specs.Returns.{Return, steps_back, spent_back}

-- a run comes from a state to the step of a GO that leaves to an address, in a world, within so many word steps and so high a price
pub record ComesOut (p : SourceProgram) (most highest : ℕ) (s : State) (address : ℕ) (w : World) : Type 0 where
  pub count : ℕ
  pub run : steps p count s ≡ Ends (Left address) w
  pub few : count ≤ most
  pub paid : spent p 0 count s ≤ highest

-- a run whose GOs come back with these returns, one after the other, comes from a state to another: whatever returns come later, and
-- however far it goes, it goes on from there with those
pub record ComesBack (p : SourceProgram) (backs : List Return) (most highest : ℕ) (s t : State) : Type 0 where
  pub count : ℕ
  pub paid : ℕ
  pub run : (later : List Return) (k : ℕ) → steps_back p (backs ++ later) (count + k) s ≡ steps_back p later k t
  pub price : (later : List Return) (total k : ℕ) → spent_back p (backs ++ later) total (count + k) s
      ≡ spent_back p later (total + paid) k t
  pub few : count ≤ most
  pub cheap : paid ≤ highest

-- a definition with these items leaves by GO, from any frame that called it
abbrev pub LeavesBy : SourceProgram → Nodes → ℕ → ℕ → List ℕ → World → ℕ → World → Type 0
LeavesBy p body most highest c w address w' =
    (work : List Work) (entries : List Entry) (callers : List Frame) →
    ComesOut p most highest (record {
      work = before body [];
      entries = [];
      callers = record { work = work; entries = entries } ∷ callers;
      cells = c;
      world = w;
    }) address w'

-- a definition with these items returns where its GOs come back with these returns: from any frame that called it, with these cells in this
-- world, its body ends with those cells in that world, and the frame goes on
abbrev pub ReturnsBack : SourceProgram → List Return → Nodes → ℕ → ℕ → List ℕ → World → List ℕ → World → Type 0
ReturnsBack p backs body most highest c w c' w' =
    (work : List Work) (entries : List Entry) (callers : List Frame) →
    ComesBack p backs most highest
    (record { work = before body []; entries = []; callers = record { work = work; entries = entries } ∷ callers; cells = c; world = w })
    (record { work = work; entries = entries; callers = callers; cells = c'; world = w' })
