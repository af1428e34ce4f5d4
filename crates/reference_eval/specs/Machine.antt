-- The state of a source run that a machine stands for, and what its parts answer by a step.
use Rattle.std.specs.Prelude.{ℕ, ◌≡◌, ◌≤◌, ◌⊎◌, map, Result, Ok, Err, ⊤}
use Rattle.forth_program.specs.State as run
use Rattle.forth_program.specs.State.{World, State, Outcome, Goes, Ends}
use Rattle.forth_program.specs.Program.{SourceProgram}
use Rattle.forth_program.specs.Run.{steps, world_of}
use Rattle.reference_eval.specs.declared.machine.Entry.{Entry}
use Rattle.reference_eval.specs.declared.machine.Entry.TheVariants as entry
use Rattle.reference_eval.specs.declared.machine.Frame.{Frame}
use Rattle.reference_eval.specs.declared.machine.Machine.{Machine}
use Rattle.reference_eval.specs.declared.ends.Stop.{Stop}
use Rattle.reference_eval.specs.declared.ends.Stop.TheVariants as stop
use Rattle.reference_eval.specs.declared.ends.Halt.TheVariants as halt
use Rattle.reference_eval.specs.declared.ends.End.TheVariants as end
use Rattle.reference_eval.specs.Ends.{end_of}
use Rattle.reference_eval.specs.Work.{works}
use Rattle.reference_eval.specs.Outside.{Scene, Leads}
use Rattle.reference_eval.specs.Answers.{Answer, Gave, Ended, ReadFailed, WriteFailed, LacksMemory, reach_of, stopped}

abbrev pub entry_of : Entry → run.Entry
entry_of (entry.Cell x) = run.Cell x
entry_of (entry.Loop limit index) = run.Loop limit index

abbrev pub frame_of : Frame → run.Frame
frame_of f = record { work = works f.tasks; entries = map entry_of f.entries }

abbrev pub state_of : Machine → World → State
state_of m w = record {
  work = works m.tasks;
  entries = map entry_of m.entries;
  callers = map frame_of m.callers;
  cells = m.cells;
  world = w;
}

-- what touches no world goes to this state, or ends; where memory was wanting nothing is said of it
abbrev pub ActsStopped : Stop → Outcome → World → Type 0
ActsStopped (stop.Halt (halt.Ended end.InputEnded)) outcome w = ⊥
ActsStopped (stop.Halt (halt.Ended end)) outcome w = outcome ≡ Ends (end_of end) w
ActsStopped (stop.Halt halt.Read) outcome w = ⊥
ActsStopped (stop.Halt halt.Write) outcome w = ⊥
ActsStopped stop.Underflow outcome w = outcome ≡ Ends run.Underflow w
ActsStopped stop.Unbalanced outcome w = outcome ≡ Ends run.Unbalanced w
ActsStopped (stop.Left address) outcome w = outcome ≡ Ends (run.Left address) w
ActsStopped stop.OutOfMemory outcome w = ⊤

abbrev pub Acts : {U : Type 0} → Result U Stop → Outcome → State → Type 0
Acts (Ok done) outcome s = outcome ≡ Goes s
Acts (Err stop) outcome s = ActsStopped stop outcome s.world

-- what a step leads to: the state there, or an end; where memory was wanting, the world of the step or the one before it
abbrev pub StepsTo : {A : Type 0} → Answer A → Outcome → State → World → World → Type 0
StepsTo (Gave done) outcome s w later = outcome ≡ Goes s
StepsTo (Ended end) outcome s w later = outcome ≡ Ends end later
StepsTo ReadFailed outcome s w later = outcome ≡ Ends run.InputEnded later
StepsTo WriteFailed outcome s w later = outcome ≡ Ends run.InputEnded later
StepsTo LacksMemory outcome s w later = (later ≡ w) ⊎ (world_of outcome ≡ later)

abbrev pub answer_of_step : {U : Type 0} → Result U Stop → Answer U
answer_of_step (Ok done) = Gave done
answer_of_step (Err s) = stopped s

-- a step of a machine, by the step that is meant
pub record Makes {U : Type 0} (meant : State → Outcome) (result : Result U Stop) (m n : Machine) (old new : Scene) : Type 0 where
  pub leads : Leads (λ w later. StepsTo (answer_of_step result) (meant (state_of m w)) (state_of n later) w later) (reach_of (answer_of_step result)) old new

-- what at most so many steps lead to; where they broke off, the world after some of them
abbrev pub RunsTo : {A : Type 0} → Answer A → SourceProgram → ℕ → State → State → World → Type 0
RunsTo (Gave done) p k s t later = steps p k s ≡ Goes t
RunsTo (Ended end) p k s t later = steps p k s ≡ Ends end later
RunsTo ReadFailed p k s t later = steps p k s ≡ Ends run.InputEnded later
RunsTo WriteFailed p k s t later = (made : ℕ) × (made ≤ k) × (world_of (steps p made s) ≡ later)
RunsTo LacksMemory p k s t later = (made : ℕ) × (made ≤ k) × (world_of (steps p made s) ≡ later)

-- at most so many steps of a machine, by those that are meant
pub record Runs {U : Type 0} (p : SourceProgram) (k : ℕ) (result : Result U Stop) (m n : Machine) (old new : Scene) : Type 0 where
  pub leads : Leads (λ w later. RunsTo (answer_of_step result) p k (state_of m w) (state_of n later) later) (reach_of (answer_of_step result)) old new
