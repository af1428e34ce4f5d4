-- What the evaluator's parts answer, by the replies of a source run.
use Rattle.std.specs.Prelude.{ℕ, ◌≡◌, List, [], ◌∷◌, Result, Ok, Err, ⊤}
use Rattle.reference_eval.specs.declared.ends.End.TheVariants as end
use Rattle.forth_program.specs.State.{World, Reply, Gives, Stops}
use Rattle.forth_program.specs.State as run
use Rattle.reference_eval.specs.declared.ends.Halt.{Halt}
use Rattle.reference_eval.specs.declared.ends.Halt.TheVariants as halt
use Rattle.reference_eval.specs.declared.ends.Stop.{Stop}
use Rattle.reference_eval.specs.declared.ends.Stop.TheVariants as stop
use Rattle.reference_eval.specs.Ends.{end_of}
use Rattle.reference_eval.specs.Outside.{Scene, Leads, Reach, Whole, Dry, NotRead, NotWritten}

pub data Answer (A : Type 0) : Type 0 where
  Gave : (value : A) → Answer A
  Ended : (end : run.End) → Answer A
  ReadFailed : Answer A
  WriteFailed : Answer A
  -- memory was wanting; the world is the one that the whole would have led to
  LacksMemory : Answer A

abbrev pub reach_of_end : run.End → Reach
reach_of_end run.InputEnded = Dry
reach_of_end end = Whole

abbrev pub reach_of : {A : Type 0} → Answer A → Reach
reach_of (Gave x) = Whole
reach_of (Ended end) = reach_of_end end
reach_of ReadFailed = NotRead
reach_of WriteFailed = NotWritten
reach_of LacksMemory = Whole

-- the world after a reply
abbrev pub after : {A : Type 0} → Reply A → World
after (Gives x w) = w
after (Stops end w) = w

-- where no byte came, the reply on the bytes taken is the end of the input
abbrev pub Reaches : {A : Type 0} → Answer A → Reply A → World → Type 0
Reaches (Gave x) reply later = reply ≡ Gives x later
Reaches (Ended end) reply later = reply ≡ Stops end later
Reaches ReadFailed reply later = reply ≡ Stops run.InputEnded later
Reaches WriteFailed reply later = reply ≡ Stops run.InputEnded later
Reaches LacksMemory reply later = after reply ≡ later

-- it does what is meant
pub record Does {A : Type 0} (meaning : World → Reply A) (answer : Answer A) (old new : Scene) : Type 0 where
  pub leads : Leads (λ w later. Reaches answer (meaning w) later) (reach_of answer) old new

-- of an access
abbrev pub halted : {A : Type 0} → Halt → Answer A
halted (halt.Ended end) = Ended (end_of end)
halted halt.Read = ReadFailed
halted halt.Write = WriteFailed

abbrev pub answer_of : {A : Type 0} → Result A Halt → Answer A
answer_of (Ok x) = Gave x
answer_of (Err h) = halted h

-- of a word, which leaves these cells
abbrev pub stopped : {A : Type 0} → Stop → Answer A
stopped (stop.Halt h) = halted h
stopped stop.Underflow = Ended run.Underflow
stopped stop.Unbalanced = Ended run.Unbalanced
stopped (stop.Left address) = Ended (run.Left address)
stopped stop.OutOfMemory = LacksMemory

abbrev pub cells_answer : {U : Type 0} → Result U Stop → List ℕ → Answer (List ℕ)
cells_answer (Ok done) cells = Gave cells
cells_answer (Err s) cells = stopped s

-- cells with new ones on them, the last of these on top
abbrev pub put_on : List ℕ → List ℕ → List ℕ
put_on [] cells = cells
put_on (x ∷ new) cells = put_on new (x ∷ cells)

-- of a word that touches no world: it leaves these cells, or ends the run without asking for input
abbrev pub LeavesStopped : Stop → Reply (List ℕ) → World → Type 0
LeavesStopped (stop.Halt (halt.Ended end.InputEnded)) reply w = ⊥
LeavesStopped (stop.Halt (halt.Ended end)) reply w = reply ≡ Stops (end_of end) w
LeavesStopped (stop.Halt halt.Read) reply w = ⊥
LeavesStopped (stop.Halt halt.Write) reply w = ⊥
LeavesStopped stop.Underflow reply w = reply ≡ Stops run.Underflow w
LeavesStopped stop.Unbalanced reply w = reply ≡ Stops run.Unbalanced w
LeavesStopped (stop.Left address) reply w = reply ≡ Stops (run.Left address) w
LeavesStopped stop.OutOfMemory reply w = ⊤

abbrev pub Leaves : {U : Type 0} → Result U Stop → List ℕ → Reply (List ℕ) → World → Type 0
Leaves (Ok done) cells reply w = reply ≡ Gives cells w
Leaves (Err s) cells reply w = LeavesStopped s reply w
