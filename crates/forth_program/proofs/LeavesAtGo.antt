-- No step but one of GO leads a run out of the source.
use Rattle.std.proofs.Common.{◌≡◌, ℕ, zero, suc, Bool, true, false, if◌then◌else◌, Option, Some, None, List, [], ◌∷◌, refl, sym, ap, ◌∙◌, subst}
use Rattle.std.specs.Prelude.{◌==◌}
use Rattle.cell_math.specs.Cell.{difference_of, signed}
use Rattle.word_table.specs.declared.word.Word.{Word}
use Rattle.word_table.specs.declared.word.Word.TheVariants.{ToR, RFrom, RFetch, Index, OuterIndex, Unloop, Execute, Go}
use Rattle.forth_program.specs.declared.item.TextKind.{TextKind}
use Rattle.forth_program.specs.declared.item.TextKind.TheVariants as text
use Rattle.forth_program.specs.Tree.{Node, Nodes, Arms, Plain}
use Rattle.forth_program.specs.State.{Entry, Cell, Loop, Work, Todo, Frame, World, State, Reply, Gives, Stops, ◌▸◌, End, Halted, Left, Outcome, Goes, Ends}
use Rattle.forth_program.specs.Program.{SourceProgram, token_of}
use Rattle.forth_program.specs.Form.{is_not_go}
use Rattle.forth_program.specs.ByteWords.{type_out}
use Rattle.forth_program.specs.Meaning.{meaning}
use Rattle.forth_program.specs.Step.{First, BodyEnd, IsLiteral, IsWord, IsCall, IsChild, IsText, IsIf, IsTrueEnd, IsUntil, IsWhile, IsRepeat, IsAgain, IsDo}
use Rattle.forth_program.specs.Step.{IsQDo, IsTurn, IsOf, IsEndOf, IsEndCase, IsLeave, IsExit, first_work}
use Rattle.forth_program.specs.Step.{on_cells, with_token, word_step, text_step, unwound, on_flag, loop_begins, loop_may_begin, of_chooses, case_ends}
use Rattle.forth_program.specs.Step.{crosses, turned, turn, leave, act, step}
use Rattle.forth_program.specs.Run.{leaves}
use Rattle.forth_program.specs.RunLaws.{IsGoStep, OnlyGoLeaves}
use Rattle.forth_program.proofs.WordStays.{Stays, bind, type_stays, meaning_stays}

abbrev Remains : Outcome → Type 0
Remains o = leaves o ≡ false

cells_remain : (r : Reply (List ℕ)) (s : State) → Stays r → Remains (on_cells r s)
cells_remain (Gives c w) s h = refl
cells_remain (Stops (Left address) w) s h = absurd (let f : false ≡ true = h in cc)
cells_remain (Stops end w) s h = refl

token_remains : (o : Option Node) (s : State) → Remains (with_token o s)
token_remains None s = refl
token_remains (Some node) s = refl

either_remains : (b : Bool) (x y : Outcome) → Remains x → Remains y → Remains (if b then x else y)
either_remains true x y h k = h
either_remains false x y h k = k

text_remains : (kind : TextKind) (address size : ℕ) (c : List ℕ) (s : State) → Remains (text_step kind address size c s)
text_remains text.Address address size c s = refl
text_remains text.Print address size c s =
    cells_remain (type_out size address s.world ▸ λ _. Gives c) s (bind (type_out size address s.world) (λ _. Gives c) (type_stays size address s.world) (λ _ w. refl))
text_remains text.Abort address size [] s = refl
text_remains text.Abort address size (zero ∷ c) s = refl
text_remains text.Abort address size (suc n ∷ c) s =
    cells_remain (type_out size address s.world ▸ λ _. Stops (Halted 2)) s
    (bind (type_out size address s.world) (λ _. Stops (Halted 2)) (type_stays size address s.world) (λ _ w. refl))

end_remains : (entries : List Entry) (callers : List Frame) (s : State) → Remains (unwound entries callers s)
end_remains (entry ∷ entries) callers s = refl
end_remains [] [] s = refl
end_remains [] (frame ∷ callers) s = refl

flag_remains : (c : List ℕ) (at_zero other : List Work) (s : State) → Remains (on_flag c at_zero other s)
flag_remains [] at_zero other s = refl
flag_remains (zero ∷ c) at_zero other s = refl
flag_remains (suc n ∷ c) at_zero other s = refl

begins_remain : (body : Nodes) (plus : Bool) (work : List Work) (c : List ℕ) (s : State) → Remains (loop_begins body plus work c s)
begins_remain body plus work [] s = refl
begins_remain body plus work (x ∷ []) s = refl
begins_remain body plus work (x ∷ y ∷ c) s = refl

may_begin_remains : (body : Nodes) (plus : Bool) (work : List Work) (c : List ℕ) (s : State) → Remains (loop_may_begin body plus work c s)
may_begin_remains body plus work [] s = refl
may_begin_remains body plus work (x ∷ []) s = refl
may_begin_remains body plus work (x ∷ y ∷ c) s = either_remains (y == x) _ _ refl refl

chooses_remain : (body : Nodes) (others : Arms) (rest : Nodes) (work : List Work) (c : List ℕ) (s : State) → Remains (of_chooses body others rest work c s)
chooses_remain body others rest work [] s = refl
chooses_remain body others rest work (x ∷ []) s = refl
chooses_remain body others rest work (x ∷ y ∷ c) s = either_remains (x == y) _ _ refl refl

case_end_remains : (work : List Work) (c : List ℕ) (s : State) → Remains (case_ends work c s)
case_end_remains work [] s = refl
case_end_remains work (x ∷ c) s = refl

turned_remains : (n : ℕ) (body : Nodes) (plus : Bool) (work : List Work) (entries : List Entry) (s : State) → Remains (turned n body plus work entries s)
turned_remains n body plus work [] s = refl
turned_remains n body plus work (Cell x ∷ entries) s = refl
turned_remains n body plus work (Loop limit index ∷ entries) s = either_remains (crosses (signed (difference_of index limit)) (signed n)) _ _ refl refl

turn_remains : (body : Nodes) (plus : Bool) (work : List Work) (c : List ℕ) (s : State) → Remains (turn body plus work c s)
turn_remains body false work c s = turned_remains 1 body false work s.entries s
turn_remains body true work [] s = refl
turn_remains body true work (n ∷ c) s = turned_remains n body true work s.entries (record s { cells = c })

leave_remains : (work : List Work) (entries : List Entry) (s : State) → Remains (leave work entries s)
leave_remains work [] s = refl
leave_remains work (Cell x ∷ entries) s = refl
leave_remains work (Loop limit index ∷ entries) s = refl

word_remains : (p : SourceProgram) (word : Word) (c : List ℕ) (entries : List Entry) (s : State) → is_not_go (Plain word) ≡ true → Remains (word_step p word c entries s)
word_remains p ToR [] entries s h = refl
word_remains p ToR (x ∷ c) entries s h = refl
word_remains p RFrom c [] s h = refl
word_remains p RFrom c (Cell x ∷ entries) s h = refl
word_remains p RFrom c (Loop limit index ∷ entries) s h = refl
word_remains p RFetch c [] s h = refl
word_remains p RFetch c (Cell x ∷ entries) s h = refl
word_remains p RFetch c (Loop limit index ∷ entries) s h = refl
word_remains p Index c [] s h = refl
word_remains p Index c (Cell x ∷ entries) s h = refl
word_remains p Index c (Loop limit index ∷ entries) s h = refl
word_remains p OuterIndex c [] s h = refl
word_remains p OuterIndex c (Cell x ∷ entries) s h = refl
word_remains p OuterIndex c (Loop limit index ∷ []) s h = refl
word_remains p OuterIndex c (Loop limit index ∷ Cell x ∷ entries) s h = refl
word_remains p OuterIndex c (Loop limit index ∷ Loop limit' index' ∷ entries) s h = refl
word_remains p Unloop c [] s h = refl
word_remains p Unloop c (Cell x ∷ entries) s h = refl
word_remains p Unloop c (Loop limit index ∷ entries) s h = refl
word_remains p Execute [] entries s h = refl
word_remains p Execute (t ∷ c) entries s h = token_remains (token_of p t) (record s { cells = c })
word_remains p word c entries s h = cells_remain (meaning word c s.world) s (meaning_stays word c s.world h)

-- what another first work leads to stays in the source
other_remains : (p : SourceProgram) (f : First) (s : State) → ((word : Word) (after : List Work) → f ≡ IsWord word after → is_not_go (Plain word) ≡ true) → Remains (act p f s)
other_remains p BodyEnd s other = end_remains s.entries s.callers s
other_remains p IsExit s other = end_remains s.entries s.callers s
other_remains p (IsLiteral value work) s other = refl
other_remains p (IsWord word work) s other = word_remains p word s.cells s.entries (record s { work = work }) (other word work refl)
other_remains p (IsCall definition work) s other = refl
other_remains p (IsChild definition address work) s other = refl
other_remains p (IsText kind address size work) s other = text_remains kind address size s.cells (record s { work = work })
other_remains p (IsIf first second work) s other = flag_remains s.cells _ _ s
other_remains p (IsTrueEnd work) s other = refl
other_remains p (IsUntil body work) s other = flag_remains s.cells _ _ s
other_remains p (IsWhile test body work) s other = flag_remains s.cells _ _ s
other_remains p (IsRepeat test body work) s other = refl
other_remains p (IsAgain body work) s other = refl
other_remains p (IsDo body plus work) s other = begins_remain body plus work s.cells s
other_remains p (IsQDo body plus work) s other = may_begin_remains body plus work s.cells s
other_remains p (IsTurn body plus work) s other = turn_remains body plus work s.cells s
other_remains p (IsOf body others rest work) s other = chooses_remain body others rest work s.cells s
other_remains p (IsEndOf work) s other = refl
other_remains p (IsEndCase work) s other = case_end_remains work s.cells s
other_remains p (IsLeave work) s other = leave_remains work s.entries s

-- a first work is one of GO, or not
data FirstIs (f : First) : Type 0 where
  ItGoes : (after : List Work) → f ≡ IsWord Go after → FirstIs f
  ItStays : ((word : Word) (after : List Work) → f ≡ IsWord word after → is_not_go (Plain word) ≡ true) → FirstIs f

word_is : (word : Word) (work : List Work) → FirstIs (IsWord word work)
word_is Go work = ItGoes work refl
word_is word work = ItStays (λ word' after e. let same : word ≡ word' = cc in subst (λ x. is_not_go (Plain x) ≡ true) same refl)

first_is : (f : First) → FirstIs f
first_is (IsWord word work) = word_is word work
first_is f = ItStays (λ word after e. cc)

go_cells : (s : State) (address : ℕ) (world : World) (work : List Work) (c : List ℕ) (p : SourceProgram) → s.cells ≡ c → first_work s.work ≡ IsWord Go work →
    word_step p Go c s.entries (record s { work = work }) ≡ Ends (Left address) world → IsGoStep s address world
go_cells s address world work [] p has first e = absurd (cc)
go_cells s address world work (a ∷ c) p has first e =
    let same : a ≡ address = cc in
    let world_is : world ≡ s.world = cc in
    record { after = work; cells = c; first = first; address_is = has ∙ ap (λ x. x ∷ c) same; world_is = world_is }

by_first : (p : SourceProgram) (s : State) (address : ℕ) (world : World) → FirstIs (first_work s.work) → act p (first_work s.work) s ≡ Ends (Left address) world → IsGoStep s address world
by_first p s address world (ItGoes after first) e =
    go_cells s address world after s.cells p refl first (sym (ap (λ f. act p f s) first) ∙ e)
by_first p s address world (ItStays other) e = let f : true ≡ false = sym (ap leaves e) ∙ other_remains p (first_work s.work) s other in absurd (cc)

pub only_go_leaves : OnlyGoLeaves
unfolding step
only_go_leaves p s address world e = by_first p s address world (first_is (first_work s.work)) e
