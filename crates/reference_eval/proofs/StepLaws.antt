-- Word steps of a machine, by what its parts answer.
use Rattle.std.proofs.Common.{◌≡◌, ◌≢◌, ℕ, zero, suc, List, [], ◌∷◌, Bool, true, false, refl, sym, ap, subst, ◌∙◌, inl, inr, rules}
use Rattle.std.specs.Prelude.{Result, Ok, Err, IsTrue}
use Rattle.word_table.specs.declared.word.Word.{Word}
use Rattle.forth_program.specs.State.{World, State, Outcome, Reply, Gives, Stops, Goes, Ends, Frame, Entry, ◌▸◌}
use Rattle.forth_program.specs.State as run
use Rattle.forth_program.specs.Tree.{Nodes, Arms}
use Rattle.forth_program.specs.ItemTrees.{node_of}
use Rattle.forth_program.specs.declared.item.Item.{Item}
use Rattle.forth_program.specs.declared.item.Item as items
use Rattle.forth_program.specs.Meaning.{meaning}
use Rattle.forth_program.specs.Program.{SourceProgram}
use Rattle.forth_program.specs.Run.{world_of}
use Rattle.forth_program.specs.ByteWords.{type_out}
use Rattle.forth_program.specs.declared.item.TextKind.TheVariants as kinds
use Rattle.forth_program.specs.Step.{First, act, first_work, step, word_step, text_step, on_cells, called, BodyEnd, IsLiteral, IsWord, IsCall, IsChild, IsText}
use Rattle.forth_program.specs.Step.{IsIf, IsTrueEnd, IsUntil, IsWhile, IsRepeat, IsAgain, IsDo, IsQDo, IsTurn, IsOf, IsEndOf, IsEndCase, IsLeave, IsExit}
use Rattle.forth_program.specs.Step.{unwound, on_flag, loop_begins, loop_may_begin, turn, turned, of_chooses, case_ends, leave}
use Rattle.reference_eval.specs.declared.shapes.Shape.{Shape}
use Rattle.reference_eval.specs.declared.shapes.Shape.TheVariants as shapes
use Rattle.reference_eval.specs.declared.work.Task.{Task}
use Rattle.reference_eval.specs.declared.work.First.{First as Found}
use Rattle.reference_eval.specs.declared.work.First.TheVariants as founds
use Rattle.reference_eval.specs.declared.machine.Machine.{Machine}
use Rattle.reference_eval.specs.declared.ends.Stop.{Stop}
use Rattle.reference_eval.specs.declared.ends.Stop.TheVariants as stop
use Rattle.reference_eval.specs.declared.ends.Halt.TheVariants as halt
use Rattle.reference_eval.specs.declared.ends.End.TheVariants as end
use Rattle.reference_eval.specs.Shapes.{shape_of, is_quiet}
use Rattle.reference_eval.specs.Work.{works, first_of, is_mark, is_open, is_open_node, is_structure}
use Rattle.reference_eval.specs.Ends.{end_of}
use Rattle.reference_eval.specs.Outside.{Scene, Whole}
use Rattle.reference_eval.specs.Answers.{Does, cells_answer, reach_of, reach_of_end, after}
use Rattle.reference_eval.specs.Machine.{state_of, Acts, StepsTo, Makes, answer_of_step}
use Rattle.reference_eval.proofs.SceneSteps.{stays, leads_as}
use Rattle.reference_eval.proofs.WordSteps.{plain_word}

-- a step that touches no world
pub acts_make : {U : Type 0} (meant : State → Outcome) (r : Result U Stop) (m n : Machine) (s : Scene) → ((w : World) → Acts r (meant (state_of m w)) (state_of n w)) → Makes meant r m n s s
acts_make meant (Ok done) m n s a = record { leads = stays _ s (λ before w h. a w) }
acts_make meant (Err (stop.Halt (halt.Ended (end.Halted x)))) m n s a = record { leads = stays _ s (λ before w h. a w) }
acts_make meant (Err (stop.Halt (halt.Ended end.InputEnded))) m n s a = absurd (a (record { data_start = 0; space = []; input = []; printed = []; made = [] }))
acts_make meant (Err (stop.Halt (halt.Ended (end.Outside x)))) m n s a = record { leads = stays _ s (λ before w h. a w) }
acts_make meant (Err (stop.Halt halt.Read)) m n s a = absurd (a (record { data_start = 0; space = []; input = []; printed = []; made = [] }))
acts_make meant (Err (stop.Halt halt.Write)) m n s a = absurd (a (record { data_start = 0; space = []; input = []; printed = []; made = [] }))
acts_make meant (Err stop.Underflow) m n s a = record { leads = stays _ s (λ before w h. a w) }
acts_make meant (Err stop.Unbalanced) m n s a = record { leads = stays _ s (λ before w h. a w) }
acts_make meant (Err (stop.Left address)) m n s a = record { leads = stays _ s (λ before w h. a w) }
acts_make meant (Err stop.OutOfMemory) m n s a = record { leads = stays _ s (λ before w h. inl refl) }

-- the same, where it knows where data space begins
pub acts_make_at : {U : Type 0} (meant : State → Outcome) (r : Result U Stop) (m n : Machine) (s : Scene) (start : ℕ) → start ≡ s.memory.data_start → ((w : World) → w.data_start ≡ start → Acts r
    (meant (state_of m w)) (state_of n w)) → Makes meant r m n s s
acts_make_at meant (Ok done) m n s d e a = record { leads = stays _ s (λ before w h. a w (h.start ∙ sym e)) }
acts_make_at meant (Err (stop.Halt (halt.Ended (end.Halted x)))) m n s d e a = record { leads = stays _ s (λ before w h. a w (h.start ∙ sym e)) }
acts_make_at meant (Err (stop.Halt (halt.Ended end.InputEnded))) m n s d e a = absurd (a (record { data_start = d; space = []; input = []; printed = []; made = [] }) refl)
acts_make_at meant (Err (stop.Halt (halt.Ended (end.Outside x)))) m n s d e a = record { leads = stays _ s (λ before w h. a w (h.start ∙ sym e)) }
acts_make_at meant (Err (stop.Halt halt.Read)) m n s d e a = absurd (a (record { data_start = d; space = []; input = []; printed = []; made = [] }) refl)
acts_make_at meant (Err (stop.Halt halt.Write)) m n s d e a = absurd (a (record { data_start = d; space = []; input = []; printed = []; made = [] }) refl)
acts_make_at meant (Err stop.Underflow) m n s d e a = record { leads = stays _ s (λ before w h. a w (h.start ∙ sym e)) }
acts_make_at meant (Err stop.Unbalanced) m n s d e a = record { leads = stays _ s (λ before w h. a w (h.start ∙ sym e)) }
acts_make_at meant (Err (stop.Left address)) m n s d e a = record { leads = stays _ s (λ before w h. a w (h.start ∙ sym e)) }
acts_make_at meant (Err stop.OutOfMemory) m n s d e a = record { leads = stays _ s (λ before w h. inl refl) }

-- what leaves cells and a world makes such a step
lacking : (reply : Reply (List ℕ)) (s : State) (later : World) → after reply ≡ later → world_of (on_cells reply s) ≡ later
lacking (Gives c w) s later e = e
lacking (Stops end w) s later e = e

pub does_make : {U : Type 0} (reply : World → Reply (List ℕ)) (r : Result U Stop) (cells : List ℕ) (m : Machine) (s t : Scene) → Does reply (cells_answer r cells) s t → Makes (λ x. on_cells
    (reply x.world) x) r m (record m { cells = cells }) s t
does_make reply (Ok done) cells m s t d = record { leads = leads_as _ _ Whole s t (λ before w later h r. ap (λ r. on_cells r (state_of m w)) r) d.leads }
does_make reply (Err (stop.Halt (halt.Ended e))) cells m s t d = record { leads = leads_as _ _ (reach_of_end (end_of e)) s t (λ before w later h r. ap (λ r. on_cells r (state_of m w)) r) d.leads }
does_make reply (Err (stop.Halt halt.Read)) cells m s t d = record { leads = leads_as _ _ _ s t (λ before w later h r. ap (λ r. on_cells r (state_of m w)) r) d.leads }
does_make reply (Err (stop.Halt halt.Write)) cells m s t d = record { leads = leads_as _ _ _ s t (λ before w later h r. ap (λ r. on_cells r (state_of m w)) r) d.leads }
does_make reply (Err stop.Underflow) cells m s t d = record { leads = leads_as _ _ Whole s t (λ before w later h r. ap (λ r. on_cells r (state_of m w)) r) d.leads }
does_make reply (Err stop.Unbalanced) cells m s t d = record { leads = leads_as _ _ Whole s t (λ before w later h r. ap (λ r. on_cells r (state_of m w)) r) d.leads }
does_make reply (Err (stop.Left address)) cells m s t d = record { leads = leads_as _ _ Whole s t (λ before w later h r. ap (λ r. on_cells r (state_of m w)) r) d.leads }
does_make reply (Err stop.OutOfMemory) cells m s t d = record { leads = leads_as _ _ Whole s t (λ before w later h r. inr (lacking (reply w) (state_of m w) later r)) d.leads }

-- a step meant otherwise
pub makes_as : {U : Type 0} (meant other : State → Outcome) (r : Result U Stop) (m m' n : Machine) (s t : Scene) → ((w : World) → meant (state_of m' w) ≡ other (state_of m w)) → Makes meant r m' n s t → Makes other r m n s t
makes_as meant other r m m' n s t same k = record { leads = leads_as _ _ (reach_of (answer_of_step r)) s t (λ before w later h x. subst (λ o. StepsTo (answer_of_step r) o (state_of n later) w later) (same w) x) k.leads }

-- a word that is not on return entries
pub word_makes : {U : Type 0} (p : SourceProgram) (word : Word) (r : Result U Stop) (cells : List ℕ) (m : Machine) (s t : Scene) → shape_of word ≢ shapes.Frame → Does (meaning word m.cells)
    (cells_answer r cells) s t → Makes (λ x. word_step p word x.cells x.entries x) r m (record m { cells = cells }) s t
word_makes p word r cells m s t h d = makes_as (λ x. on_cells (meaning word m.cells x.world) x) _ r m m _ s t (λ w. sym (plain_word p word m.cells (state_of m w).entries (state_of m w) h)) (does_make (meaning word m.cells) r cells m s t d)

-- ---- what comes first has its work behind it

same_left : (es : List Entry) (cs : List Frame) (work : List run.Work) (s : State) → unwound es cs (record s { work = work }) ≡ unwound es cs s
same_left [] [] work s = refl
same_left [] (c ∷ cs) work s = refl
same_left (e ∷ es) cs work s = refl

same_flag : (c : List ℕ) (a b work : List run.Work) (s : State) → on_flag c a b (record s { work = work }) ≡ on_flag c a b s
same_flag [] a b work s = refl
same_flag (zero ∷ c) a b work s = refl
same_flag (suc n ∷ c) a b work s = refl

same_begins : (c : List ℕ) (body : _) (plus : Bool) (a work : List run.Work) (s : State) → loop_begins body plus a c (record s { work = work }) ≡ loop_begins body plus a c s
same_begins [] body plus a work s = refl
same_begins (x ∷ []) body plus a work s = refl
same_begins (x ∷ y ∷ c) body plus a work s = refl

same_may_begin : (c : List ℕ) (body : Nodes) (plus : Bool) (a work : List run.Work) (s : State) → loop_may_begin body plus a c (record s { work = work }) ≡ loop_may_begin body plus a c s
same_may_begin [] body plus a work s = refl
same_may_begin (x ∷ []) body plus a work s = refl
same_may_begin (x ∷ y ∷ c) body plus a work s = refl

same_turned : (es : List Entry) (by : ℕ) (body : Nodes) (plus : Bool) (a work : List run.Work) (s : State) → turned by body plus a es (record s { work = work }) ≡ turned by body plus a es s
same_turned [] by body plus a work s = refl
same_turned (run.Cell x ∷ es) by body plus a work s = refl
same_turned (run.Loop l i ∷ es) by body plus a work s = refl

same_turn : (plus : Bool) (c : List ℕ) (body : Nodes) (a work : List run.Work) (s : State) → turn body plus a c (record s { work = work }) ≡ turn body plus a c s
same_turn false c body a work s = same_turned s.entries 1 body false a work s
same_turn true [] body a work s = refl
same_turn true (x ∷ c) body a work s = same_turned s.entries x body true a work (record s { cells = c })

same_of : (c : List ℕ) (body : Nodes) (others : Arms) (rest : Nodes) (a work : List run.Work) (s : State) → of_chooses body others rest a c (record s { work = work }) ≡ of_chooses body others rest a c s
same_of [] body others rest a work s = refl
same_of (x ∷ []) body others rest a work s = refl
same_of (x ∷ y ∷ c) body others rest a work s = refl

same_ends : (c : List ℕ) (a work : List run.Work) (s : State) → case_ends a c (record s { work = work }) ≡ case_ends a c s
same_ends [] a work s = refl
same_ends (x ∷ c) a work s = refl

same_leave : (es : List Entry) (a work : List run.Work) (s : State) → leave a es (record s { work = work }) ≡ leave a es s
same_leave [] a work s = refl
same_leave (run.Cell x ∷ es) a work s = refl
same_leave (run.Loop l i ∷ es) a work s = refl

same_act : (p : SourceProgram) (f : First) (work : List run.Work) (s : State) → act p f (record s { work = work }) ≡ act p f s
same_act p BodyEnd work s = same_left s.entries s.callers work s
same_act p IsExit work s = same_left s.entries s.callers work s
same_act p (IsLiteral value a) work s = refl
same_act p (IsWord word a) work s = refl
same_act p (IsCall definition a) work s = refl
same_act p (IsChild definition address a) work s = refl
same_act p (IsText kind address size a) work s = refl
same_act p (IsIf x y a) work s = same_flag s.cells _ _ work s
same_act p (IsTrueEnd a) work s = refl
same_act p (IsUntil body a) work s = same_flag s.cells _ _ work s
same_act p (IsWhile test body a) work s = same_flag s.cells _ _ work s
same_act p (IsRepeat test body a) work s = refl
same_act p (IsAgain body a) work s = refl
same_act p (IsDo body plus a) work s = same_begins s.cells body plus a work s
same_act p (IsQDo body plus a) work s = same_may_begin s.cells body plus a work s
same_act p (IsTurn body plus a) work s = same_turn plus s.cells body a work s
same_act p (IsOf body others rest a) work s = same_of s.cells body others rest a work s
same_act p (IsEndOf a) work s = refl
same_act p (IsEndCase a) work s = same_ends s.cells a work s
same_act p (IsLeave a) work s = same_leave s.entries a work s

-- what stands first makes the step
acts_first : (p : SourceProgram) (s : State) (f : First) (work : List run.Work) → first_work s.work ≡ f → act p f (record s { work = work }) ≡ step p s
unfolding step
acts_first p s f work e = same_act p f work s ∙ ap (λ f. act p f s) (sym e)

pub first_makes : {U : Type 0} (p : SourceProgram) (m : Machine) (tasks : List Task) (n : Machine) (found : Found) (r : Result U Stop) (s t : Scene) → first_work (works m.tasks) ≡ first_of found
    (works tasks) → Makes (λ x. act p (first_of found x.work) x) r (record m { tasks = tasks }) n s t → Makes (step p) r m n s t
first_makes p m tasks n found r s t e k = makes_as _ (step p) r m (record m { tasks = tasks }) n s t (λ w. acts_first p (state_of m w) (first_of found (works tasks)) (works tasks) e) k

-- memory was wanting before it
pub nothing_makes : {U : Type 0} (meant : State → Outcome) (r : Result U Stop) (m n : Machine) (s : Scene) → r ≡ Err stop.OutOfMemory → Makes meant r m n s s
nothing_makes meant r m n s e = subst (λ r. Makes meant r m n s s) (sym e) (acts_make meant (Err stop.OutOfMemory) m n s (λ w. tt))

-- an item that is no BEGIN, no CASE, no word and no text
pub is_other : (item : Item) → IsTrue (is_open_node (node_of item)) → ((word : Word) → item ≡ items.Word word → ⊥) → ((kind : _) (address size : ℕ) → item ≡ items.Text kind address size → ⊥) → IsTrue (is_structure (node_of item))
is_other (items.Word word) o w t = absurd (w word refl)
is_other (items.Text kind address size) o w t = absurd (t kind address size refl)
is_other (items.Literal value) o w t = o
is_other (items.Call id) o w t = o
is_other (items.Child id address) o w t = o
is_other (items.If' n first m second) o w t = o
is_other (items.Until' n body) o w t = o
is_other (items.While' n test m body) o w t = o
is_other (items.Again' n body) o w t = o
is_other (items.Do' n body plus) o w t = o
is_other (items.QDo' n body plus) o w t = o
is_other (items.Case' arms m rest) o w t = o
is_other items.Leave o w t = o
is_other items.Exit o w t = o

-- a quiet shape
pub is_quiet_shape : (s : Shape) → s ≢ shapes.Frame → s ≢ shapes.TakesNone → s ≢ shapes.TakesOne → s ≢ shapes.TakesTwo → s ≢ shapes.TakesThree → s ≢ shapes.TakesFour → IsTrue (is_quiet s)
is_quiet_shape shapes.Frame f a b c d e = absurd (f refl)
is_quiet_shape shapes.TakesNone f a b c d e = absurd (a refl)
is_quiet_shape shapes.TakesOne f a b c d e = absurd (b refl)
is_quiet_shape shapes.TakesTwo f a b c d e = absurd (c refl)
is_quiet_shape shapes.TakesThree f a b c d e = absurd (d refl)
is_quiet_shape shapes.TakesFour f a b c d e = absurd (e refl)
is_quiet_shape s f a b c d e = search rules

-- ABORT" with a true flag
stops_same : (r : Reply (Unit {0})) (s : State) (cells : List ℕ) → on_cells (r ▸ λ _. Stops (run.Halted 2)) (record s { cells = cells }) ≡ on_cells (r ▸ λ _. Stops (run.Halted 2)) s
stops_same (Gives x w) s cells = refl
stops_same (Stops end w) s cells = refl

pub aborts : {U : Type 0} (address size flag : ℕ) (r : Result U Stop) (m : Machine) (popped : List ℕ) (s t : Scene) → m.cells ≡ flag ∷ popped → flag ≢ 0 → Does {A = List ℕ}
    (λ w. type_out size address w ▸ λ _. Stops (run.Halted 2)) (cells_answer r popped) s t →
    Makes (λ x. text_step kinds.Abort address size x.cells x) r m (record m { cells = popped }) s t
aborts address size zero r m popped s t e n d = absurd (n refl)
aborts address size (suc flag) r m popped s t e n d =
    makes_as (λ x. on_cells (type_out size address x.world ▸ λ _. Stops (run.Halted 2)) x) _ r m (record m { cells = popped }) _ s t
    (λ w. stops_same (type_out size address w) (state_of m w) popped ∙ ap (λ cs. text_step kinds.Abort address size cs (state_of m w)) (sym e))
    (does_make (λ w. type_out size address w ▸ λ _. Stops (run.Halted 2)) r popped (record m { cells = popped }) s t d)

-- ." with its text
pub prints_text : {U : Type 0} (address size : ℕ) (r : Result U Stop) (m : Machine) (cells : List ℕ) (s t : Scene) → m.cells ≡ cells → Does {A = List ℕ} (λ w. type_out size address w ▸ λ _. Gives cells) (cells_answer r cells) s t →
    Makes (λ x. text_step kinds.Print address size x.cells x) r m (record m { cells = cells }) s t
prints_text address size r m cells s t e d =
    makes_as (λ x. on_cells (type_out size address x.world ▸ λ _. Gives cells) x) _ r m m _ s t
    (λ w. ap (λ cs. text_step kinds.Print address size cs (state_of m w)) (sym e))
    (does_make (λ w. type_out size address w ▸ λ _. Gives cells) r cells m s t d)

-- what is no item and no token is a mark
pub is_mark_first : (f : Found) → ((item : _) → f ≡ founds.Item item → ⊥) → ((token : _) → f ≡ founds.Token token → ⊥) → IsTrue (is_mark f)
is_mark_first (founds.Item item) i t = absurd (i item refl)
is_mark_first (founds.Token token) i t = absurd (t token refl)
is_mark_first f i t = search rules

pub is_open_item : (f : Found) (item : _) → f ≡ founds.Item item → IsTrue (is_open f) → IsTrue (is_open_node (node_of item.now))
is_open_item f item e h = subst (λ f. IsTrue (is_open f)) e h

-- a child puts its address, and calls
pub makes_called : {U : Type 0} (p : SourceProgram) (definition address : ℕ) (r : Result U Stop) (m : Machine) (cells : List ℕ) (n : Machine) (s : Scene) → cells ≡ address ∷ m.cells → ((w : World) →
    Acts r (Goes (called p definition (state_of (record m { cells = cells }) w))) (state_of n w)) →
    Makes (λ x. Goes (called p definition (record x { cells = address ∷ x.cells }))) r m n s s
makes_called p definition address r m cells n s e a = acts_make _ r m n s (λ w.
    subst (λ cs. Acts r (Goes (called p definition (record (state_of m w) { cells = cs }))) (state_of n w)) e (a w))
