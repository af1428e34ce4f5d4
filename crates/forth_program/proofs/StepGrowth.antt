-- What a word step, and so a run, does to the world.
use Rattle.std.proofs.Common.{ℕ, zero, suc, Bool, true, false, if◌then◌else◌, Option, Some, None, List, [], ◌∷◌}
use Rattle.std.specs.Prelude.{◌==◌}
use Rattle.cell_math.specs.Cell.{difference_of, signed}
use Rattle.word_table.specs.declared.word.Word.{Word}
use Rattle.word_table.specs.declared.word.Word.TheVariants.{ToR, RFrom, RFetch, Index, OuterIndex, Unloop, Execute}
use Rattle.forth_program.specs.declared.item.TextKind.{TextKind}
use Rattle.forth_program.specs.declared.item.TextKind.TheVariants as text
use Rattle.forth_program.specs.Tree.{Node, Nodes, Arms}
use Rattle.forth_program.specs.State.{Entry, Cell, Loop, Work, Frame, World, State, Reply, Gives, Stops, ◌▸◌, Halted, Outcome, Goes, Ends}
use Rattle.forth_program.specs.Program.{SourceProgram, token_of}
use Rattle.forth_program.specs.ByteWords.{type_out}
use Rattle.forth_program.specs.Meaning.{meaning}
use Rattle.forth_program.specs.Step.{First, BodyEnd, IsLiteral, IsWord, IsCall, IsChild, IsText, IsIf, IsTrueEnd, IsUntil, IsWhile, IsRepeat, IsAgain, IsDo}
use Rattle.forth_program.specs.Step.{IsQDo, IsTurn, IsOf, IsEndOf, IsEndCase, IsLeave, IsExit, first_work, on_cells, with_token, word_step, text_step, unwound}
use Rattle.forth_program.specs.Step.{on_flag, loop_begins, loop_may_begin, of_chooses, case_ends, crosses, turned, turn, leave, act, step}
use Rattle.forth_program.specs.Run.{and_then, steps, world_of}
use Rattle.forth_program.specs.RunLaws.{IsLater}
use Rattle.forth_program.proofs.WordGrowth.{same, later_later, after, bind, type_later, meaning_later}

cells_later : (r : Reply (List ℕ)) (s : State) → IsLater s.world (after r) → IsLater s.world (world_of (on_cells r s))
cells_later (Gives c w) s h = h
cells_later (Stops end w) s h = h

token_later : (o : Option Node) (s : State) → IsLater s.world (world_of (with_token o s))
token_later None s = same s.world
token_later (Some node) s = same s.world

word_later : (p : SourceProgram) (word : Word) (c : List ℕ) (entries : List Entry) (s : State) → IsLater s.world (world_of (word_step p word c entries s))
word_later p ToR [] entries s = same s.world
word_later p ToR (x ∷ c) entries s = same s.world
word_later p RFrom c [] s = same s.world
word_later p RFrom c (Cell x ∷ entries) s = same s.world
word_later p RFrom c (Loop limit index ∷ entries) s = same s.world
word_later p RFetch c [] s = same s.world
word_later p RFetch c (Cell x ∷ entries) s = same s.world
word_later p RFetch c (Loop limit index ∷ entries) s = same s.world
word_later p Index c [] s = same s.world
word_later p Index c (Cell x ∷ entries) s = same s.world
word_later p Index c (Loop limit index ∷ entries) s = same s.world
word_later p OuterIndex c [] s = same s.world
word_later p OuterIndex c (Cell x ∷ entries) s = same s.world
word_later p OuterIndex c (Loop limit index ∷ []) s = same s.world
word_later p OuterIndex c (Loop limit index ∷ Cell x ∷ entries) s = same s.world
word_later p OuterIndex c (Loop limit index ∷ Loop limit' index' ∷ entries) s = same s.world
word_later p Unloop c [] s = same s.world
word_later p Unloop c (Cell x ∷ entries) s = same s.world
word_later p Unloop c (Loop limit index ∷ entries) s = same s.world
word_later p Execute [] entries s = same s.world
word_later p Execute (t ∷ c) entries s = token_later (token_of p t) (record s { cells = c })
word_later p word c entries s = cells_later (meaning word c s.world) s (meaning_later word c s.world)

text_later : (kind : TextKind) (address size : ℕ) (c : List ℕ) (s : State) → IsLater s.world (world_of (text_step kind address size c s))
text_later text.Address address size c s = same s.world
text_later text.Print address size c s =
    cells_later (type_out size address s.world ▸ λ _. Gives c) s (bind s.world (type_out size address s.world) _ (type_later size address s.world) (λ _ w. same w))
text_later text.Abort address size [] s = same s.world
text_later text.Abort address size (zero ∷ c) s = same s.world
text_later text.Abort address size (suc n ∷ c) s =
    cells_later (type_out size address s.world ▸ λ _. Stops (Halted 2)) s (bind s.world (type_out size address s.world) _ (type_later size address s.world) (λ _ w. same w))

left_later : (entries : List Entry) (callers : List Frame) (s : State) → IsLater s.world (world_of (unwound entries callers s))
left_later (entry ∷ entries) callers s = same s.world
left_later [] [] s = same s.world
left_later [] (frame ∷ callers) s = same s.world

flag_later : (c : List ℕ) (at_zero other : List Work) (s : State) → IsLater s.world (world_of (on_flag c at_zero other s))
flag_later [] at_zero other s = same s.world
flag_later (zero ∷ c) at_zero other s = same s.world
flag_later (suc n ∷ c) at_zero other s = same s.world

begins_later : (body : Nodes) (plus : Bool) (work : List Work) (c : List ℕ) (s : State) → IsLater s.world (world_of (loop_begins body plus work c s))
begins_later body plus work [] s = same s.world
begins_later body plus work (x ∷ []) s = same s.world
begins_later body plus work (x ∷ y ∷ c) s = same s.world

either_later : (w : World) (b : Bool) (x y : State) → IsLater w x.world → IsLater w y.world → IsLater w (world_of (if b then Goes x else Goes y))
either_later w true x y h k = h
either_later w false x y h k = k

may_begin_later : (body : Nodes) (plus : Bool) (work : List Work) (c : List ℕ) (s : State) → IsLater s.world (world_of (loop_may_begin body plus work c s))
may_begin_later body plus work [] s = same s.world
may_begin_later body plus work (x ∷ []) s = same s.world
may_begin_later body plus work (x ∷ y ∷ c) s = either_later s.world (y == x) _ _ (same s.world) (same s.world)

chooses_later : (body : Nodes) (others : Arms) (rest : Nodes) (work : List Work) (c : List ℕ) (s : State) → IsLater s.world (world_of (of_chooses body others rest work c s))
chooses_later body others rest work [] s = same s.world
chooses_later body others rest work (x ∷ []) s = same s.world
chooses_later body others rest work (x ∷ y ∷ c) s = either_later s.world (x == y) _ _ (same s.world) (same s.world)

case_later : (work : List Work) (c : List ℕ) (s : State) → IsLater s.world (world_of (case_ends work c s))
case_later work [] s = same s.world
case_later work (x ∷ c) s = same s.world

turned_later : (n : ℕ) (body : Nodes) (plus : Bool) (work : List Work) (entries : List Entry) (s : State) → IsLater s.world (world_of (turned n body plus work entries s))
turned_later n body plus work [] s = same s.world
turned_later n body plus work (Cell x ∷ entries) s = same s.world
turned_later n body plus work (Loop limit index ∷ entries) s =
    either_later s.world (crosses (signed (difference_of index limit)) (signed n)) _ _ (same s.world) (same s.world)

turn_later : (body : Nodes) (plus : Bool) (work : List Work) (c : List ℕ) (s : State) → IsLater s.world (world_of (turn body plus work c s))
turn_later body false work c s = turned_later 1 body false work s.entries s
turn_later body true work [] s = same s.world
turn_later body true work (n ∷ c) s = turned_later n body true work s.entries (record s { cells = c })

leave_later : (work : List Work) (entries : List Entry) (s : State) → IsLater s.world (world_of (leave work entries s))
leave_later work [] s = same s.world
leave_later work (Cell x ∷ entries) s = same s.world
leave_later work (Loop limit index ∷ entries) s = same s.world

act_later : (p : SourceProgram) (f : First) (s : State) → IsLater s.world (world_of (act p f s))
act_later p BodyEnd s = left_later s.entries s.callers s
act_later p IsExit s = left_later s.entries s.callers s
act_later p (IsLiteral value work) s = same s.world
act_later p (IsWord word work) s = word_later p word s.cells s.entries (record s { work = work })
act_later p (IsCall definition work) s = same s.world
act_later p (IsChild definition address work) s = same s.world
act_later p (IsText kind address size work) s = text_later kind address size s.cells (record s { work = work })
act_later p (IsIf one other work) s = flag_later s.cells _ _ s
act_later p (IsTrueEnd work) s = same s.world
act_later p (IsUntil body work) s = flag_later s.cells _ _ s
act_later p (IsWhile test body work) s = flag_later s.cells _ _ s
act_later p (IsRepeat test body work) s = same s.world
act_later p (IsAgain body work) s = same s.world
act_later p (IsDo body plus work) s = begins_later body plus work s.cells s
act_later p (IsQDo body plus work) s = may_begin_later body plus work s.cells s
act_later p (IsTurn body plus work) s = turn_later body plus work s.cells s
act_later p (IsOf body others rest work) s = chooses_later body others rest work s.cells s
act_later p (IsEndOf work) s = same s.world
act_later p (IsEndCase work) s = case_later work s.cells s
act_later p (IsLeave work) s = leave_later work s.entries s

step_later : (p : SourceProgram) (s : State) → IsLater s.world (world_of (step p s))
unfolding step
step_later p s = act_later p (first_work s.work) s

then_later : (w : World) (o : Outcome) (next : State → Outcome) → IsLater w (world_of o) → ((s : State) → IsLater s.world (world_of (next s))) → IsLater w (world_of (and_then o next))
then_later w (Goes s) next h each = later_later w s.world (world_of (next s)) h (each s)
then_later w (Ends end world) next h each = h

pub steps_later : (p : SourceProgram) (k : ℕ) (s : State) → IsLater s.world (world_of (steps p k s))
unfolding steps
steps_later p zero s = same s.world
steps_later p (suc k) s = then_later s.world (step p s) (steps p k) (step_later p s) (steps_later p k)
