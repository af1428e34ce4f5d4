-- What holds of all runs.
use Rattle.std.specs.Prelude.{◌≡◌, ℕ, ◌+◌, Bool, true, false, List, ◌∷◌, ◌++◌, length}
use Rattle.word_table.specs.declared.word.Word.TheVariants.{Go}
use Rattle.std.specs.List.{list_all}
use Rattle.forth_program.specs.State.{Access, Work, World, State, End, Left, Ends}
use Rattle.forth_program.specs.Program.{SourceProgram}
use Rattle.forth_program.specs.Step.{IsWord, first_work, step}
use Rattle.forth_program.specs.Run.{and_then, steps, source_run, world_of, leaves}
use Rattle.forth_program.specs.Form.{has_no_go, may_be_token}
use Rattle.forth_program.specs.Price.{spent}

-- a + b steps are a steps and then b more
abbrev pub StepsCompose : Type 0
StepsCompose = (p : SourceProgram) (a b : ℕ) (s : State) → steps p (a + b) s ≡ and_then (steps p a s) (steps p b)

-- an end stays
abbrev pub EndStays : Type 0
EndStays = (p : SourceProgram) (a b : ℕ) (s : State) (end : End) (world : World) → steps p a s ≡ Ends end world → steps p (a + b) s ≡ Ends end world

-- what was spent before a run adds to what the run spends
abbrev pub SpentAdds : Type 0
SpentAdds = (p : SourceProgram) (before total k : ℕ) (s : State) → spent p (before + total) k s ≡ before + spent p total k s

-- a world that a run may come to from another: more is printed, input is taken from the front, accesses are added, and
-- data space keeps its place and its size
pub record IsLater (old new : World) : Type 0 where
  pub prints : (more : List ℕ) × (new.printed ≡ old.printed ++ more)
  pub takes : (taken : List ℕ) × (old.input ≡ taken ++ new.input)
  pub makes : (more : List Access) × (new.made ≡ more ++ old.made)
  pub same_start : new.data_start ≡ old.data_start
  pub same_room : length new.space ≡ length old.space

-- every run comes to a later world
abbrev pub WorldsGrow : Type 0
WorldsGrow = (p : SourceProgram) (k : ℕ) (s : State) → IsLater s.world (world_of (steps p k s))

-- a run of a program without GO is never led out of the source
abbrev pub ProgramsStay : Type 0
ProgramsStay = (p : SourceProgram) (input : List ℕ) (k : ℕ) → has_no_go p ≡ true → list_all may_be_token p.tokens ≡ true → leaves (source_run p input k) ≡ false

-- a step of GO, with an address
pub record IsGoStep (s : State) (address : ℕ) (world : World) : Type 0 where
  pub after : List Work
  pub cells : List ℕ
  pub first : first_work s.work ≡ IsWord Go after
  pub address_is : s.cells ≡ address ∷ cells
  pub world_is : world ≡ s.world

-- no other step leads out of the source
abbrev pub OnlyGoLeaves : Type 0
OnlyGoLeaves = (p : SourceProgram) (s : State) (address : ℕ) (world : World) → step p s ≡ Ends (Left address) world → IsGoStep s address world
