-- A run of a program without GO is never led out of the source: no work of any frame has GO.
use Rattle.std.proofs.Common.{◌≡◌, ℕ, zero, suc, ◌&&◌, Bool, true, false, if◌then◌else◌, Option, Some, None, List, [], ◌∷◌, refl}
use Rattle.std.specs.Prelude.{◌==◌, slice_get, slice_index_or}
use Rattle.std.specs.List.{list_all}
use Rattle.std.proofs.lemmas.Bool.{and_from, and_parts}
use Rattle.cell_math.specs.Cell.{difference_of, signed}
use Rattle.word_table.specs.declared.word.Word.{Word}
use Rattle.word_table.specs.declared.word.Word.TheVariants.{ToR, RFrom, RFetch, Index, OuterIndex, Unloop, Execute, Go}
use Rattle.forth_program.specs.declared.item.TextKind.{TextKind}
use Rattle.forth_program.specs.declared.item.TextKind.TheVariants as text
use Rattle.forth_program.specs.Tree.{Node, Nodes, Arms, Literal, Plain, Call, Child, Text, If, Until, While, Again, Do, QDo, Case, Leave, Exit, Empty, Then, NoArm, Arm}
use Rattle.forth_program.specs.State.{Entry, Cell, Loop, Work, Todo, TrueEnd, UntilTest, WhileTest, Repeat, BeginAgain, Turn, OfTest, EndOf, EndCase, Frame}
use Rattle.forth_program.specs.State.{World, State, Reply, Gives, Stops, ◌▸◌, End, Halted, Left, Outcome, Goes, Ends}
use Rattle.forth_program.specs.Program.{SourceProgram, body_of, token_of}
use Rattle.forth_program.specs.Form.{everywhere, inside, in_arms, may_be_token, is_not_go, has_no_go}
use Rattle.forth_program.specs.ByteWords.{type_out}
use Rattle.forth_program.specs.Meaning.{meaning}
use Rattle.forth_program.specs.Step.{First, BodyEnd, IsLiteral, IsWord, IsCall, IsChild, IsText, IsIf, IsTrueEnd, IsUntil, IsWhile, IsRepeat, IsAgain, IsDo}
use Rattle.forth_program.specs.Step.{IsQDo, IsTurn, IsOf, IsEndOf, IsEndCase, IsLeave, IsExit, before, first_in, first_among, first_of_case, first_work}
use Rattle.forth_program.specs.Step.{on_cells, with_token, word_step, text_step, called, unwound, on_flag, closed_by, loop_begins, loop_may_begin, of_chooses, case_ends}
use Rattle.forth_program.specs.Step.{crosses, turned, turn, after_loop, leave, act, step}
use Rattle.forth_program.specs.Run.{and_then, steps, first_state, source_run, leaves}
use Rattle.forth_program.specs.RunLaws.{ProgramsStay}
use Rattle.forth_program.proofs.WordStays.{Stays, bind, type_stays, meaning_stays}

-- ---- what has no GO: items, work, frames

abbrev Free : Nodes → Type 0
Free body = everywhere is_not_go body ≡ true

abbrev FreeNode : Node → Type 0
FreeNode node = (is_not_go node && inside is_not_go node) ≡ true

abbrev FreeArms : Arms → Type 0
FreeArms arms = in_arms is_not_go arms ≡ true

abbrev FreeMark : Work → Type 0
FreeMark (Todo node) = FreeNode node
FreeMark TrueEnd = Unit {0}
FreeMark (UntilTest body) = Free body
FreeMark (WhileTest test body) = Free test × Free body
FreeMark (Repeat test body) = Free test × Free body
FreeMark (BeginAgain body) = Free body
FreeMark (Turn body plus) = Free body
FreeMark (OfTest body others rest) = Free body × FreeArms others × Free rest
FreeMark EndOf = Unit {0}
FreeMark EndCase = Unit {0}

abbrev FreeWork : List Work → Type 0
FreeWork [] = Unit {0}
FreeWork (mark ∷ work) = FreeMark mark × FreeWork work

abbrev FreeFrames : List Frame → Type 0
FreeFrames [] = Unit {0}
FreeFrames (frame ∷ frames) = FreeWork frame.work × FreeFrames frames

abbrev FreeState : State → Type 0
FreeState s = FreeWork s.work × FreeFrames s.callers

-- what is first, and what follows it
abbrev FreeFirst : First → Type 0
FreeFirst BodyEnd = Unit {0}
FreeFirst (IsLiteral value after) = FreeWork after
FreeFirst (IsWord word after) = (is_not_go (Plain word) ≡ true) × FreeWork after
FreeFirst (IsCall definition after) = FreeWork after
FreeFirst (IsChild definition address after) = FreeWork after
FreeFirst (IsText kind address size after) = FreeWork after
FreeFirst (IsIf first second after) = Free first × Free second × FreeWork after
FreeFirst (IsTrueEnd after) = FreeWork after
FreeFirst (IsUntil body after) = Free body × FreeWork after
FreeFirst (IsWhile test body after) = Free test × Free body × FreeWork after
FreeFirst (IsRepeat test body after) = Free test × Free body × FreeWork after
FreeFirst (IsAgain body after) = Free body × FreeWork after
FreeFirst (IsDo body plus after) = Free body × FreeWork after
FreeFirst (IsQDo body plus after) = Free body × FreeWork after
FreeFirst (IsTurn body plus after) = Free body × FreeWork after
FreeFirst (IsOf body others rest after) = Free body × FreeArms others × Free rest × FreeWork after
FreeFirst (IsEndOf after) = FreeWork after
FreeFirst (IsEndCase after) = FreeWork after
FreeFirst (IsLeave after) = FreeWork after
FreeFirst IsExit = Unit {0}

-- a step goes on without GO, or ends otherwise than by it
abbrev FreeOutcome : Outcome → Type 0
FreeOutcome (Goes s) = FreeState s
FreeOutcome (Ends (Left address) w) = ⊥
FreeOutcome (Ends end w) = Unit {0}

-- ---- the first of the work

free_before : (body : Nodes) (work : List Work) → Free body → FreeWork work → FreeWork (before body work)
free_before Empty work h k = k
free_before (Then node rest) work h k =
    let parts = and_parts (is_not_go node && inside is_not_go node) (everywhere is_not_go rest) h in
    (parts.0, free_before rest work parts.1 k)

free_after : (work : List Work) → FreeWork work → FreeWork (after_loop work)
free_after [] h = h
free_after (Turn body plus ∷ work) h = h.1
free_after (mark ∷ work) h = free_after work h.1

mutual
  free_in : (node : Node) (work : List Work) → FreeNode node → FreeWork work → FreeFirst (first_in node work)
  free_in (Literal value) work h k = k
  free_in (Plain word) work h k = ((and_parts (is_not_go (Plain word)) true h).0, k)
  free_in (Call definition) work h k = k
  free_in (Child definition address) work h k = k
  free_in (Text kind address size) work h k = k
  free_in (If first second) work h k = let both = and_parts (everywhere is_not_go first) (everywhere is_not_go second) h in (both.0, both.1, k)
  free_in (Until body) work h k = free_among body (IsUntil body work) (UntilTest body ∷ work) h (h, k) (h, k)
  free_in (While test body) work h k =
      let both = and_parts (everywhere is_not_go test) (everywhere is_not_go body) h in
      free_among test (IsWhile test body work) (WhileTest test body ∷ work) both.0 (both.0, both.1, k) ((both.0, both.1), k)
  free_in (Again body) work h k = free_among body (IsAgain body work) (BeginAgain body ∷ work) h (h, k) (h, k)
  free_in (Do body plus) work h k = (h, k)
  free_in (QDo body plus) work h k = (h, k)
  free_in (Case arms rest) work h k =
      let both = and_parts (in_arms is_not_go arms) (everywhere is_not_go rest) h in
      free_case arms rest (first_among rest (IsEndCase work) (EndCase ∷ work)) work both.0 both.1 (free_among rest (IsEndCase work) (EndCase ∷ work) both.1 k (tt, k)) k
  free_in Leave work h k = k
  free_in Exit work h k = tt

  free_among : (body : Nodes) (else_first : First) (work : List Work) → Free body → FreeFirst else_first → FreeWork work → FreeFirst (first_among body else_first work)
  free_among Empty else_first work h e k = e
  free_among (Then node rest) else_first work h e k =
      let parts = and_parts (is_not_go node && inside is_not_go node) (everywhere is_not_go rest) h in
      free_in node (before rest work) parts.0 (free_before rest work parts.1 k)

  free_case : (arms : Arms) (rest : Nodes) (else_first : First) (work : List Work) → FreeArms arms → Free rest → FreeFirst else_first → FreeWork work →
      FreeFirst (first_of_case arms rest else_first work)
  free_case NoArm rest else_first work h r e k = e
  free_case (Arm tests body others) rest else_first work h r e k =
      let parts = and_parts (everywhere is_not_go tests && everywhere is_not_go body) (in_arms is_not_go others) h in
      let front = and_parts (everywhere is_not_go tests) (everywhere is_not_go body) parts.0 in
      free_among tests (IsOf body others rest work) (OfTest body others rest ∷ work) front.0 (front.1, parts.1, r, k) ((front.1, parts.1, r), k)

free_first : (work : List Work) → FreeWork work → FreeFirst (first_work work)
free_first [] h = tt
free_first (Todo node ∷ work) h = free_in node work h.0 h.1
free_first (TrueEnd ∷ work) h = h.1
free_first (UntilTest body ∷ work) h = h
free_first (WhileTest test body ∷ work) h = (h.0.0, h.0.1, h.1)
free_first (Repeat test body ∷ work) h = (h.0.0, h.0.1, h.1)
free_first (BeginAgain body ∷ work) h = h
free_first (Turn body plus ∷ work) h = h
free_first (OfTest body others rest ∷ work) h = (h.0.0, h.0.1, h.0.2, h.1)
free_first (EndOf ∷ work) h = h.1
free_first (EndCase ∷ work) h = h.1

-- ---- bodies and tokens

free_body : (bodies : List Nodes) (definition : ℕ) → list_all (everywhere is_not_go) bodies ≡ true → Free (slice_index_or bodies definition Empty)
free_body [] definition h = refl
free_body (body ∷ bodies) zero h = (and_parts (everywhere is_not_go body) (list_all (everywhere is_not_go) bodies) h).0
free_body (body ∷ bodies) (suc definition) h = free_body bodies definition (and_parts (everywhere is_not_go body) (list_all (everywhere is_not_go) bodies) h).1

free_token : (node : Node) → may_be_token node ≡ true → FreeNode node
free_token (Literal value) h = refl
free_token (Call definition) h = refl
free_token (Child definition address) h = refl
free_token (Plain Go) h = h
free_token (Plain word) h = refl
free_token (If first second) h = absurd cc
free_token (Until body) h = absurd cc
free_token (While test body) h = absurd cc
free_token (Again body) h = absurd cc
free_token (Do body plus) h = absurd cc
free_token (QDo body plus) h = absurd cc
free_token (Case arms rest) h = absurd cc
free_token node h = refl

abbrev FreeToken : Option Node → Type 0
FreeToken None = Unit {0}
FreeToken (Some node) = FreeNode node

free_get : (tokens : List Node) (place : ℕ) → list_all may_be_token tokens ≡ true → FreeToken (slice_get tokens place)
free_get [] place h = tt
free_get (node ∷ nodes) zero h = free_token node (and_parts (may_be_token node) (list_all may_be_token nodes) h).0
free_get (node ∷ nodes) (suc place) h = free_get nodes place (and_parts (may_be_token node) (list_all may_be_token nodes) h).1

-- ---- a step

free_cells : (r : Reply (List ℕ)) (s : State) → Stays r → FreeState s → FreeOutcome (on_cells r s)
free_cells (Gives c w) s h k = k
free_cells (Stops (Left address) w) s h k = absurd cc
free_cells (Stops end w) s h k = tt

free_with : (o : Option Node) (s : State) → FreeToken o → FreeState s → FreeOutcome (with_token o s)
free_with None s h k = tt
free_with (Some node) s h k = ((h, k.0), k.1)

free_text : (kind : TextKind) (address size : ℕ) (c : List ℕ) (s : State) → FreeState s → FreeOutcome (text_step kind address size c s)
free_text text.Address address size c s k = k
free_text text.Print address size c s k =
    free_cells (type_out size address s.world ▸ λ _. Gives c) s (bind (type_out size address s.world) (λ _. Gives c) (type_stays size address s.world) (λ _ w. refl)) k
free_text text.Abort address size [] s k = tt
free_text text.Abort address size (zero ∷ c) s k = k
free_text text.Abort address size (suc n ∷ c) s k =
    free_cells (type_out size address s.world ▸ λ _. Stops (Halted 2)) s
    (bind (type_out size address s.world) (λ _. Stops (Halted 2)) (type_stays size address s.world) (λ _ w. refl)) k

free_end : (entries : List Entry) (callers : List Frame) (s : State) → FreeFrames callers → FreeOutcome (unwound entries callers s)
free_end (entry ∷ entries) callers s k = tt
free_end [] [] s k = tt
free_end [] (frame ∷ callers) s k = k

free_flag : (c : List ℕ) (at_zero other : List Work) (s : State) → FreeWork at_zero → FreeWork other → FreeFrames s.callers → FreeOutcome (on_flag c at_zero other s)
free_flag [] at_zero other s h h' k = tt
free_flag (zero ∷ c) at_zero other s h h' k = (h, k)
free_flag (suc n ∷ c) at_zero other s h h' k = (h', k)

free_closed : (body : Nodes) (work : List Work) → FreeWork work → FreeWork (closed_by body work)
free_closed Empty work h = h
free_closed (Then node rest) work h = (tt, h)

free_either : (b : Bool) (x y : State) → FreeState x → FreeState y → FreeOutcome (if b then Goes x else Goes y)
free_either true x y h k = h
free_either false x y h k = k

free_begins : (body : Nodes) (plus : Bool) (work : List Work) (c : List ℕ) (s : State) → Free body → FreeWork work → FreeFrames s.callers → FreeOutcome (loop_begins body plus work c s)
free_begins body plus work [] s b h k = tt
free_begins body plus work (x ∷ []) s b h k = tt
free_begins body plus work (x ∷ y ∷ c) s b h k = (free_before body (Turn body plus ∷ work) b (b, h), k)

free_may_begin : (body : Nodes) (plus : Bool) (work : List Work) (c : List ℕ) (s : State) → Free body → FreeWork work → FreeFrames s.callers →
    FreeOutcome (loop_may_begin body plus work c s)
free_may_begin body plus work [] s b h k = tt
free_may_begin body plus work (x ∷ []) s b h k = tt
free_may_begin body plus work (x ∷ y ∷ c) s b h k = free_either (y == x) _ _ (h, k) (free_before body (Turn body plus ∷ work) b (b, h), k)

free_chooses : (body : Nodes) (others : Arms) (rest : Nodes) (work : List Work) (c : List ℕ) (s : State) → Free body → FreeArms others → Free rest → FreeWork work → FreeFrames s.callers →
    FreeOutcome (of_chooses body others rest work c s)
free_chooses body others rest work [] s b o r h k = tt
free_chooses body others rest work (x ∷ []) s b o r h k = tt
free_chooses body others rest work (x ∷ y ∷ c) s b o r h k =
    free_either (x == y) _ _ (free_before body (EndOf ∷ work) b (tt, h), k) ((and_from (in_arms is_not_go others) (everywhere is_not_go rest) o r, h), k)

free_case_end : (work : List Work) (c : List ℕ) (s : State) → FreeWork work → FreeFrames s.callers → FreeOutcome (case_ends work c s)
free_case_end work [] s h k = tt
free_case_end work (x ∷ c) s h k = (h, k)

free_turned : (n : ℕ) (body : Nodes) (plus : Bool) (work : List Work) (entries : List Entry) (s : State) → Free body → FreeWork work → FreeFrames s.callers →
    FreeOutcome (turned n body plus work entries s)
free_turned n body plus work [] s b h k = tt
free_turned n body plus work (Cell x ∷ entries) s b h k = tt
free_turned n body plus work (Loop limit index ∷ entries) s b h k =
    free_either (crosses (signed (difference_of index limit)) (signed n)) _ _ (h, k) (free_before body (Turn body plus ∷ work) b (b, h), k)

free_turn : (body : Nodes) (plus : Bool) (work : List Work) (c : List ℕ) (s : State) → Free body → FreeWork work → FreeFrames s.callers → FreeOutcome (turn body plus work c s)
free_turn body false work c s b h k = free_turned 1 body false work s.entries s b h k
free_turn body true work [] s b h k = tt
free_turn body true work (n ∷ c) s b h k = free_turned n body true work s.entries (record s { cells = c }) b h k

free_leave : (work : List Work) (entries : List Entry) (s : State) → FreeWork work → FreeFrames s.callers → FreeOutcome (leave work entries s)
free_leave work [] s h k = tt
free_leave work (Cell x ∷ entries) s h k = tt
free_leave work (Loop limit index ∷ entries) s h k = (free_after work h, k)

module _ (p : SourceProgram) (no_go : has_no_go p ≡ true) (tokens : list_all may_be_token p.tokens ≡ true) where
  free_of : (definition : ℕ) → Free (body_of p definition)
  free_of definition = free_body p.bodies definition no_go

  free_found : (token : ℕ) → FreeToken (token_of p token)
  free_found zero = tt
  free_found (suc token) = free_get p.tokens token tokens

  free_word : (word : Word) (c : List ℕ) (entries : List Entry) (s : State) → is_not_go (Plain word) ≡ true → FreeState s → FreeOutcome (word_step p word c entries s)
  free_word ToR [] entries s h k = tt
  free_word ToR (x ∷ c) entries s h k = k
  free_word RFrom c [] s h k = tt
  free_word RFrom c (Cell x ∷ entries) s h k = k
  free_word RFrom c (Loop limit index ∷ entries) s h k = tt
  free_word RFetch c [] s h k = tt
  free_word RFetch c (Cell x ∷ entries) s h k = k
  free_word RFetch c (Loop limit index ∷ entries) s h k = tt
  free_word Index c [] s h k = tt
  free_word Index c (Cell x ∷ entries) s h k = tt
  free_word Index c (Loop limit index ∷ entries) s h k = k
  free_word OuterIndex c [] s h k = tt
  free_word OuterIndex c (Cell x ∷ entries) s h k = tt
  free_word OuterIndex c (Loop limit index ∷ []) s h k = tt
  free_word OuterIndex c (Loop limit index ∷ Cell x ∷ entries) s h k = tt
  free_word OuterIndex c (Loop limit index ∷ Loop limit' index' ∷ entries) s h k = k
  free_word Unloop c [] s h k = tt
  free_word Unloop c (Cell x ∷ entries) s h k = tt
  free_word Unloop c (Loop limit index ∷ entries) s h k = k
  free_word Execute [] entries s h k = tt
  free_word Execute (t ∷ c) entries s h k = free_with (token_of p t) (record s { cells = c }) (free_found t) k
  free_word word c entries s h k = free_cells (meaning word c s.world) s (meaning_stays word c s.world h) k

  free_called : (definition : ℕ) (s : State) → FreeState s → FreeState (called p definition s)
  free_called definition s k = (free_before (body_of p definition) [] (free_of definition) tt, k)

  free_act : (f : First) (s : State) → FreeFirst f → FreeFrames s.callers → FreeOutcome (act p f s)
  free_act BodyEnd s h k = free_end s.entries s.callers s k
  free_act IsExit s h k = free_end s.entries s.callers s k
  free_act (IsLiteral value work) s h k = (h, k)
  free_act (IsWord word work) s h k = free_word word s.cells s.entries (record s { work = work }) h.0 (h.1, k)
  free_act (IsCall definition work) s h k = free_called definition (record s { work = work }) (h, k)
  free_act (IsChild definition address work) s h k = free_called definition (record s { work = work; cells = address ∷ s.cells }) (h, k)
  free_act (IsText kind address size work) s h k = free_text kind address size s.cells (record s { work = work }) (h, k)
  free_act (IsIf first second work) s h k =
      free_flag s.cells _ _ s (free_before second work h.1 h.2) (free_before first (closed_by second work) h.0 (free_closed second work h.2)) k
  free_act (IsTrueEnd work) s h k = (h, k)
  free_act (IsUntil body work) s h k = free_flag s.cells _ _ s (free_before body (UntilTest body ∷ work) h.0 h) h.1 k
  free_act (IsWhile test body work) s h k = free_flag s.cells _ _ s h.2 (free_before body (Repeat test body ∷ work) h.1 ((h.0, h.1), h.2)) k
  free_act (IsRepeat test body work) s h k = (free_before test (WhileTest test body ∷ work) h.0 ((h.0, h.1), h.2), k)
  free_act (IsAgain body work) s h k = (free_before body (BeginAgain body ∷ work) h.0 h, k)
  free_act (IsDo body plus work) s h k = free_begins body plus work s.cells s h.0 h.1 k
  free_act (IsQDo body plus work) s h k = free_may_begin body plus work s.cells s h.0 h.1 k
  free_act (IsTurn body plus work) s h k = free_turn body plus work s.cells s h.0 h.1 k
  free_act (IsOf body others rest work) s h k = free_chooses body others rest work s.cells s h.0 h.1 h.2 h.3 k
  free_act (IsEndOf work) s h k = (h, k)
  free_act (IsEndCase work) s h k = free_case_end work s.cells s h k
  free_act (IsLeave work) s h k = free_leave work s.entries s h k

  free_step : (s : State) → FreeState s → FreeOutcome (step p s)
  unfolding step
  free_step s h = free_act (first_work s.work) s (free_first s.work h.0) h.1

  free_then : (o : Outcome) (next : State → Outcome) → FreeOutcome o → ((s : State) → FreeState s → FreeOutcome (next s)) → FreeOutcome (and_then o next)
  free_then (Goes s) next h each = each s h
  free_then (Ends end w) next h each = h

  free_steps : (k : ℕ) (s : State) → FreeState s → FreeOutcome (steps p k s)
  unfolding steps
  free_steps zero s h = h
  free_steps (suc k) s h = free_then (step p s) (steps p k) (free_step s h) (free_steps k)

  free_run : (input : List ℕ) (k : ℕ) → FreeOutcome (source_run p input k)
  unfolding source_run
  free_run input k = free_steps k (first_state p input) (free_before (body_of p p.main_body) [] (free_of p.main_body) tt, tt)

not_left : (o : Outcome) → FreeOutcome o → leaves o ≡ false
not_left (Goes s) h = refl
not_left (Ends (Left address) w) h = absurd h
not_left (Ends end w) h = refl

pub programs_stay : ProgramsStay
programs_stay p input k no_go tokens = not_left (source_run p input k) (free_run p no_go tokens input k)
