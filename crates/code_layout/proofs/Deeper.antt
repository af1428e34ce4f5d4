-- A body that neither calls nor leaves does over more return entries what it does without them.
use Rattle.std.proofs.Common.{◌≡◌, ◌≢◌, ℕ, zero, suc, ◌+◌, ◌<◌, ◌≤◌, Bool, true, false, ◌&&◌, List, [], ◌∷◌, ◌++◌, refl, sym, ap, ◌∙◌, subst, arith}
use Rattle.std.specs.Prelude.{if◌then◌else◌}
use Rattle.word_table.specs.declared.word.Word.{Word}
use Rattle.word_table.specs.declared.word.Word.TheVariants.{ToR, RFrom, RFetch, Index, OuterIndex, Unloop, Execute, Depth}
use Rattle.forth_program.specs.declared.item.TextKind.{TextKind}
use Rattle.forth_program.specs.declared.item.TextKind.TheVariants as text
use Rattle.cell_math.specs.Cell.{sum_of, difference_of, signed}
use Rattle.forth_program.specs.Tree.{Node, Nodes, Literal, Plain, Call, Child, Text, If, Until, While, Again, Do, QDo, Case, Leave, Exit, Empty, Then}
use Rattle.forth_program.specs.State.{Entry, Cell, Loop, Work, Todo, TrueEnd, UntilTest, WhileTest, Repeat, BeginAgain, Turn, OfTest, EndOf, EndCase, Frame}
use Rattle.forth_program.specs.State.{World, State, Reply, Gives, Stops, ◌▸◌, End, Halted, Unbalanced, Outcome, Goes, Ends}
use Rattle.forth_program.specs.Program.{SourceProgram}
use Rattle.forth_program.specs.Form.{everywhere, inside}
use Rattle.forth_program.specs.ByteWords.{type_out}
use Rattle.forth_program.specs.Meaning.{meaning}
use Rattle.forth_program.specs.Step.{First, BodyEnd, IsLiteral, IsWord, IsCall, IsChild, IsText, IsIf, IsTrueEnd, IsUntil, IsWhile, IsRepeat, IsAgain, IsDo}
use Rattle.forth_program.specs.Step.{IsQDo, IsTurn, IsOf, IsEndOf, IsEndCase, IsLeave, IsExit, before, first_in, first_among, first_work, on_cells, word_step}
use Rattle.forth_program.specs.Step.{text_step, on_flag, closed_by, loop_begins, crosses, turned, turn, after_loop, leave, act, step}
use Rattle.forth_program.specs.Run.{and_then, steps}
use Rattle.forth_program.specs.Price.{step_price, spent}
use Rattle.code_layout.specs.Library.{is_own}
use Rattle.forth_program.specs.Heights.{execute_back, DepthFits}
use Rattle.code_layout.proofs.Machine.{both}

abbrev pub AllOwn : List Work → Type 0
AllOwn [] = Unit {0}
AllOwn (Todo node ∷ w) = (is_own node ≡ true) × (inside is_own node ≡ true) × AllOwn w
AllOwn (TrueEnd ∷ w) = AllOwn w
AllOwn (UntilTest body ∷ w) = (everywhere is_own body ≡ true) × AllOwn w
AllOwn (WhileTest test body ∷ w) = (everywhere is_own test ≡ true) × (everywhere is_own body ≡ true) × AllOwn w
AllOwn (Repeat test body ∷ w) = (everywhere is_own test ≡ true) × (everywhere is_own body ≡ true) × AllOwn w
AllOwn (Turn body plus ∷ w) = (everywhere is_own body ≡ true) × AllOwn w
AllOwn (BeginAgain body ∷ w) = ⊥
AllOwn (OfTest body others rest ∷ w) = ⊥
AllOwn (EndOf ∷ w) = ⊥
AllOwn (EndCase ∷ w) = ⊥

one_own : (node : Node) (rest : Nodes) → everywhere is_own (Then node rest) ≡ true → (is_own node ≡ true) × (inside is_own node ≡ true) × (everywhere is_own rest ≡ true)
one_own node rest all =
    let e = both (is_own node && inside is_own node) (everywhere is_own rest) all in
    let f = both (is_own node) (inside is_own node) e.0 in
    (f.0, f.1, e.1)

pub own_before : (nodes : Nodes) (w : List Work) → everywhere is_own nodes ≡ true → AllOwn w → AllOwn (before nodes w)
own_before Empty w all own = own
own_before (Then node rest) w all own = let o = one_own node rest all in (o.0, o.1, own_before rest w o.2 own)

own_after_loop : (w : List Work) → AllOwn w → AllOwn (after_loop w)
own_after_loop [] own = own
own_after_loop (Turn body plus ∷ w) own = own.1
own_after_loop (Todo node ∷ w) own = own_after_loop w own.2
own_after_loop (TrueEnd ∷ w) own = own_after_loop w own
own_after_loop (UntilTest body ∷ w) own = own_after_loop w own.1
own_after_loop (WhileTest test body ∷ w) own = own_after_loop w own.2
own_after_loop (Repeat test body ∷ w) own = own_after_loop w own.2
own_after_loop (BeginAgain body ∷ w) own = absurd own
own_after_loop (OfTest body others rest ∷ w) own = absurd own
own_after_loop (EndOf ∷ w) own = absurd own
own_after_loop (EndCase ∷ w) own = absurd own

-- the first work keeps to its frame
abbrev OwnFirst : First → Type 0
OwnFirst BodyEnd = ⊥
OwnFirst IsExit = ⊥
OwnFirst (IsLiteral value after) = AllOwn after
OwnFirst (IsWord word after) = (is_own (Plain word) ≡ true) × AllOwn after
OwnFirst (IsCall d after) = ⊥
OwnFirst (IsChild d address after) = ⊥
OwnFirst (IsText kind a n after) = AllOwn after
OwnFirst (IsIf one two after) = (everywhere is_own one ≡ true) × (everywhere is_own two ≡ true) × AllOwn after
OwnFirst (IsTrueEnd after) = AllOwn after
OwnFirst (IsUntil body after) = (everywhere is_own body ≡ true) × AllOwn after
OwnFirst (IsWhile test body after) = (everywhere is_own test ≡ true) × (everywhere is_own body ≡ true) × AllOwn after
OwnFirst (IsRepeat test body after) = (everywhere is_own test ≡ true) × (everywhere is_own body ≡ true) × AllOwn after
OwnFirst (IsDo body plus after) = (everywhere is_own body ≡ true) × AllOwn after
OwnFirst (IsTurn body plus after) = (everywhere is_own body ≡ true) × AllOwn after
OwnFirst (IsLeave after) = AllOwn after
OwnFirst (IsAgain body after) = ⊥
OwnFirst (IsQDo body plus after) = ⊥
OwnFirst (IsOf body others rest after) = ⊥
OwnFirst (IsEndOf after) = ⊥
OwnFirst (IsEndCase after) = ⊥

mutual
  own_in : (node : Node) (w : List Work) → is_own node ≡ true → inside is_own node ≡ true → AllOwn w → OwnFirst (first_in node w)
  own_in (Literal value) w e f own = own
  own_in (Plain word) w e f own = (e, own)
  own_in (Call d) w e f own = absurd (let g : false ≡ true = e in cc)
  own_in (Child d address) w e f own = absurd (let g : false ≡ true = e in cc)
  own_in (Text kind a n) w e f own = own
  own_in (If one two) w e f own = let h = both (everywhere is_own one) (everywhere is_own two) f in (h.0, h.1, own)
  own_in (Until body) w e f own = own_among body (IsUntil body w) (UntilTest body ∷ w) f (f, own) (f, own)
  own_in (While test body) w e f own = let h = both (everywhere is_own test) (everywhere is_own body) f in own_among test (IsWhile test body w) (WhileTest test body ∷ w) h.0 (h.0, h.1, own) (h.0, h.1, own)
  own_in (Do body plus) w e f own = (f, own)
  own_in (Again body) w e f own = absurd (let g : false ≡ true = e in cc)
  own_in (QDo body plus) w e f own = absurd (let g : false ≡ true = e in cc)
  own_in (Case arms rest) w e f own = absurd (let g : false ≡ true = e in cc)
  own_in Leave w e f own = own
  own_in Exit w e f own = absurd (let g : false ≡ true = e in cc)

  own_among : (nodes : Nodes) (f : First) (w : List Work) → everywhere is_own nodes ≡ true → OwnFirst f → AllOwn w → OwnFirst (first_among nodes f w)
  own_among Empty f w all of own = of
  own_among (Then node rest) f w all of own = let o = one_own node rest all in own_in node (before rest w) o.0 o.1 (own_before rest w o.2 own)

own_first : (w : List Work) → w ≢ [] → AllOwn w → OwnFirst (first_work w)
own_first [] busy own = absurd (busy refl)
own_first (Todo node ∷ w) busy own = own_in node w own.0 own.1 own.2
own_first (TrueEnd ∷ w) busy own = own
own_first (UntilTest body ∷ w) busy own = own
own_first (WhileTest test body ∷ w) busy own = own
own_first (Repeat test body ∷ w) busy own = own
own_first (Turn body plus ∷ w) busy own = own
own_first (BeginAgain body ∷ w) busy own = absurd own
own_first (OfTest body others rest ∷ w) busy own = absurd own
own_first (EndOf ∷ w) busy own = absurd own
own_first (EndCase ∷ w) busy own = absurd own

depth_first : (f : First) (c : List ℕ) → OwnFirst f → DepthFits f c
depth_first (IsWord Depth after) c own = absurd (let g : false ≡ true = own.0 in cc)
depth_first f c own = tt

-- DEPTH is no such item
pub own_depth : (w : List Work) (c : List ℕ) → w ≢ [] → AllOwn w → DepthFits (first_work w) c
own_depth w c busy own = depth_first (first_work w) c (own_first w busy own)

execute_first : (p : SourceProgram) (f : First) (c : List ℕ) → OwnFirst f → execute_back p f c ≡ 0
execute_first p (IsWord Execute after) c own = absurd (let g : false ≡ true = own.0 in cc)
execute_first p f c own = refl

-- nor is EXECUTE
pub own_execute : (p : SourceProgram) (w : List Work) (c : List ℕ) → w ≢ [] → AllOwn w → execute_back p (first_work w) c ≡ 0
own_execute p w c busy own = execute_first p (first_work w) c (own_first w busy own)

-- no wrong return entry was found
abbrev pub balanced : Outcome → Bool
balanced (Goes s) = true
balanced (Ends Unbalanced world) = false
balanced (Ends end world) = true

abbrev OwnAfter : List Frame → Outcome → Type 0
OwnAfter fs (Goes s) = AllOwn s.work × (s.callers ≡ fs)
OwnAfter fs (Ends end world) = Unit {0}

module _ (es : List Entry) where
  abbrev pub deeper : State → State
  deeper s = record s { entries = s.entries ++ es }

  abbrev pub deeper_outcome : Outcome → Outcome
  deeper_outcome (Goes s) = Goes (deeper s)
  deeper_outcome (Ends end world) = Ends end world

  module _ (p : SourceProgram) where
    cells_deeper : (r : Reply (List ℕ)) (s : State) → AllOwn s.work → (on_cells r (deeper s) ≡ deeper_outcome (on_cells r s)) × OwnAfter s.callers (on_cells r s)
    cells_deeper (Gives c w) s own = (refl, (own, refl))
    cells_deeper (Stops end w) s own = (refl, tt)

    lost : {A : Type 0} → false ≡ true → A
    lost e = absurd (let g : false ≡ true = e in cc)

    word_deeper : (word : Word) (c : List ℕ) (entries : List Entry) (s : State) → is_own (Plain word) ≡ true → AllOwn s.work → s.entries ≡ entries → balanced (word_step p word c entries s) ≡ true →
        (word_step p word c (entries ++ es) (deeper s) ≡ deeper_outcome (word_step p word c entries s)) × OwnAfter s.callers (word_step p word c entries s)
    word_deeper ToR [] entries s may own is sound = (refl, tt)
    word_deeper ToR (x ∷ c) entries s may own is sound = (refl, (own, refl))
    word_deeper RFrom c (Cell x ∷ entries) s may own is sound = (refl, (own, refl))
    word_deeper RFrom c (Loop limit index ∷ entries) s may own is sound = lost sound
    word_deeper RFrom c [] s may own is sound = lost sound
    word_deeper RFetch c (Cell x ∷ entries) s may own is sound = (refl, (own, refl))
    word_deeper RFetch c (Loop limit index ∷ entries) s may own is sound = lost sound
    word_deeper RFetch c [] s may own is sound = lost sound
    word_deeper Index c (Loop limit index ∷ entries) s may own is sound = (refl, (own, refl))
    word_deeper Index c (Cell x ∷ entries) s may own is sound = lost sound
    word_deeper Index c [] s may own is sound = lost sound
    word_deeper OuterIndex c (Loop limit index ∷ Loop limit' index' ∷ entries) s may own is sound = (refl, (own, refl))
    word_deeper OuterIndex c (Loop limit index ∷ Cell x ∷ entries) s may own is sound = lost sound
    word_deeper OuterIndex c (Loop limit index ∷ []) s may own is sound = lost sound
    word_deeper OuterIndex c (Cell x ∷ entries) s may own is sound = lost sound
    word_deeper OuterIndex c [] s may own is sound = lost sound
    word_deeper Unloop c (Loop limit index ∷ entries) s may own is sound = (refl, (own, refl))
    word_deeper Unloop c (Cell x ∷ entries) s may own is sound = lost sound
    word_deeper Unloop c [] s may own is sound = lost sound
    word_deeper Execute c entries s may own is sound = absurd (let g : false ≡ true = may in cc)
    word_deeper Depth c entries s may own is sound = absurd (let g : false ≡ true = may in cc)
    word_deeper word c entries s may own is sound = cells_deeper (meaning word c s.world) s own

    flag_deeper : (c : List ℕ) (at_zero other : List Work) (s : State) → AllOwn at_zero → AllOwn other → (on_flag c at_zero other (deeper s) ≡ deeper_outcome (on_flag c at_zero other s)) × OwnAfter s.callers (on_flag c at_zero other s)
    flag_deeper [] at_zero other s one two = (refl, tt)
    flag_deeper (zero ∷ c) at_zero other s one two = (refl, (one, refl))
    flag_deeper (suc n ∷ c) at_zero other s one two = (refl, (two, refl))

    text_deeper : (kind : TextKind) (a n : ℕ) (c : List ℕ) (s : State) → AllOwn s.work → (text_step kind a n c (deeper s) ≡ deeper_outcome (text_step kind a n c s)) × OwnAfter s.callers (text_step kind a n c s)
    text_deeper text.Address a n c s own = (refl, (own, refl))
    text_deeper text.Print a n c s own = cells_deeper (type_out n a s.world ▸ λ _. Gives c) s own
    text_deeper text.Abort a n [] s own = (refl, tt)
    text_deeper text.Abort a n (zero ∷ c) s own = (refl, (own, refl))
    text_deeper text.Abort a n (suc m ∷ c) s own = cells_deeper (type_out n a s.world ▸ λ _. Stops (Halted 2)) s own

    if_deeper : (b : Bool) (s t : State) → t.callers ≡ s.callers → AllOwn s.work → AllOwn t.work →
        ((if b then Goes (deeper s) else Goes (deeper t)) ≡ deeper_outcome (if b then Goes s else Goes t)) × OwnAfter s.callers (if b then Goes s else Goes t)
    if_deeper true s t same one two = (refl, (one, refl))
    if_deeper false s t same one two = (refl, (two, same))

    turned_deeper : (n : ℕ) (body : Nodes) (plus : Bool) (after : List Work) (entries : List Entry) (s : State) → everywhere is_own body ≡ true → AllOwn after → balanced (turned n body plus after entries s) ≡ true →
        (turned n body plus after (entries ++ es) (deeper s) ≡ deeper_outcome (turned n body plus after entries s)) × OwnAfter s.callers (turned n body plus after entries s)
    turned_deeper n body plus after (Loop limit index ∷ entries) s own own' sound =
        if_deeper (crosses (signed (difference_of index limit)) (signed n)) (record s { work = after; entries = entries })
        (record s { work = before body (Turn body plus ∷ after); entries = Loop limit (sum_of index n) ∷ entries }) refl own'
        (own_before body (Turn body plus ∷ after) own (own, own'))
    turned_deeper n body plus after (Cell x ∷ entries) s own own' sound = lost sound
    turned_deeper n body plus after [] s own own' sound = lost sound

    turn_deeper : (body : Nodes) (plus : Bool) (after : List Work) (c : List ℕ) (s : State) → everywhere is_own body ≡ true → AllOwn after →
        balanced (turn body plus after c s) ≡ true →
        (turn body plus after c (deeper s) ≡ deeper_outcome (turn body plus after c s)) × OwnAfter s.callers (turn body plus after c s)
    turn_deeper body false after c s own own' sound = turned_deeper 1 body false after s.entries s own own' sound
    turn_deeper body true after (n ∷ c) s own own' sound = turned_deeper n body true after s.entries (record s { cells = c }) own own' sound
    turn_deeper body true after [] s own own' sound = (refl, tt)

    leave_deeper : (after : List Work) (entries : List Entry) (s : State) → AllOwn after → balanced (leave after entries s) ≡ true →
        (leave after (entries ++ es) (deeper s) ≡ deeper_outcome (leave after entries s)) × OwnAfter s.callers (leave after entries s)
    leave_deeper after (Loop limit index ∷ entries) s own sound = (refl, (own_after_loop after own, refl))
    leave_deeper after (Cell x ∷ entries) s own sound = lost sound
    leave_deeper after [] s own sound = lost sound

    loop_deeper : (body : Nodes) (plus : Bool) (after : List Work) (c : List ℕ) (s : State) → everywhere is_own body ≡ true → AllOwn after →
        (loop_begins body plus after c (deeper s) ≡ deeper_outcome (loop_begins body plus after c s)) × OwnAfter s.callers (loop_begins body plus after c s)
    loop_deeper body plus after [] s own own' = (refl, tt)
    loop_deeper body plus after (x ∷ []) s own own' = (refl, tt)
    loop_deeper body plus after (start ∷ limit ∷ c) s own own' = (refl, (own_before body (Turn body plus ∷ after) own (own, own'), refl))

    own_closed : (two : Nodes) (after : List Work) → AllOwn after → AllOwn (closed_by two after)
    own_closed Empty after own = own
    own_closed (Then node rest) after own = own

    act_deeper : (f : First) (s : State) → OwnFirst f → balanced (act p f s) ≡ true → (act p f (deeper s) ≡ deeper_outcome (act p f s)) × OwnAfter s.callers (act p f s)
    act_deeper BodyEnd s own sound = absurd own
    act_deeper IsExit s own sound = absurd own
    act_deeper (IsCall d after) s own sound = absurd own
    act_deeper (IsChild d address after) s own sound = absurd own
    act_deeper (IsLiteral value after) s own sound = (refl, (own, refl))
    act_deeper (IsWord word after) s own sound = word_deeper word s.cells s.entries (record s { work = after }) own.0 own.1 refl sound
    act_deeper (IsText kind a n after) s own sound = text_deeper kind a n s.cells (record s { work = after }) own
    act_deeper (IsIf one two after) s own sound = flag_deeper s.cells (before two after) (before one (closed_by two after)) s (own_before two after own.1 own.2) (own_before one (closed_by two after) own.0 (own_closed two after own.2))
    act_deeper (IsTrueEnd after) s own sound = (refl, (own, refl))
    act_deeper (IsUntil body after) s own sound = flag_deeper s.cells (before body (UntilTest body ∷ after)) after s (own_before body (UntilTest body ∷ after) own.0 own) own.1
    act_deeper (IsWhile test body after) s own sound = flag_deeper s.cells after (before body (Repeat test body ∷ after)) s own.2 (own_before body (Repeat test body ∷ after) own.1 own)
    act_deeper (IsRepeat test body after) s own sound = (refl, (own_before test (WhileTest test body ∷ after) own.0 own, refl))
    act_deeper (IsDo body plus after) s own sound = loop_deeper body plus after s.cells s own.0 own.1
    act_deeper (IsTurn body plus after) s own sound = turn_deeper body plus after s.cells s own.0 own.1 sound
    act_deeper (IsAgain body after) s own sound = absurd own
    act_deeper (IsQDo body plus after) s own sound = absurd own
    act_deeper (IsOf body others rest after) s own sound = absurd own
    act_deeper (IsEndOf after) s own sound = absurd own
    act_deeper (IsEndCase after) s own sound = absurd own
    act_deeper (IsLeave after) s own sound = leave_deeper after s.entries s own sound

    pub step_deeper : (s : State) → s.work ≢ [] → AllOwn s.work → balanced (step p s) ≡ true → (step p (deeper s) ≡ deeper_outcome (step p s)) × OwnAfter s.callers (step p s)
    unfolding step
    step_deeper s busy own sound = act_deeper (first_work s.work) s (own_first s.work busy own) sound

    -- ---- runs

    balanced_before : (j k : ℕ) (s : State) → j ≤ k → balanced (steps p k s) ≡ true → balanced (steps p j s) ≡ true
    unfolding steps
    balanced_before zero k s le sound = refl
    balanced_before (suc j) zero s le sound = absurd (omega arith)
    balanced_before (suc j) (suc k) s le sound = after (step p s) sound (λ a sound. balanced_before j k a (omega arith) sound)
      where
        after : (o : Outcome) → balanced (and_then o (steps p k)) ≡ true → ((a : State) → balanced (steps p k a) ≡ true → balanced (steps p j a) ≡ true) → balanced (and_then o (steps p j)) ≡ true
        after (Goes a) sound onward = onward a sound
        after (Ends end world) sound onward = sound

    -- each of k states has work left
    abbrev pub Busy : ℕ → State → Type 0
    Busy k s = (j : ℕ) (t : State) → j < k → steps p j s ≡ Goes t → t.work ≢ []

    first_balanced : (k : ℕ) (s : State) → balanced (steps p (suc k) s) ≡ true → balanced (step p s) ≡ true
    unfolding steps
    first_balanced k s sound = after (step p s) sound
      where
        after : (o : Outcome) → balanced (and_then o (steps p k)) ≡ true → balanced o ≡ true
        after (Goes a) sound = refl
        after (Ends end world) sound = sound

    no_steps : (s : State) → steps p 0 s ≡ Goes s
    unfolding steps
    no_steps s = refl

    steps_on : (k : ℕ) (s a : State) → step p s ≡ Goes a → steps p (suc k) s ≡ steps p k a
    unfolding steps
    steps_on k s a e = rw e refl

    steps_end : (k : ℕ) (s : State) (end : End) (world : World) → step p s ≡ Ends end world → steps p (suc k) s ≡ Ends end world
    unfolding steps
    steps_end k s end world e = rw e refl

    spent_on : (k total : ℕ) (s a : State) → step p s ≡ Goes a → spent p total (suc k) s ≡ spent p (total + step_price s) k a
    unfolding spent
    spent_on k total s a e = rw e refl

    spent_end : (k total : ℕ) (s : State) (end : End) (world : World) → step p s ≡ Ends end world → spent p total (suc k) s ≡ total + step_price s
    unfolding spent
    spent_end k total s end world e = rw e refl

    nothing_spent : (total : ℕ) (s t : State) → spent p total 0 s ≡ spent p total 0 t
    unfolding spent
    nothing_spent total s t = refl

    -- what k steps do over more entries, what they leave, and what they cost
    pub record RunsDeeper (k total : ℕ) (s : State) : Type 0 where
      pub does : steps p k (deeper s) ≡ deeper_outcome (steps p k s)
      pub costs : spent p total k (deeper s) ≡ spent p total k s
      pub own : OwnAfter s.callers (steps p k s)

    pub runs_deeper : (k total : ℕ) (s : State) → AllOwn s.work → Busy k s → balanced (steps p k s) ≡ true → RunsDeeper k total s
    runs_deeper zero total s own busy sound = record {
      does = no_steps (deeper s) ∙ ap deeper_outcome (sym (no_steps s));
      costs = nothing_spent total (deeper s) s;
      own = subst (OwnAfter s.callers) (sym (no_steps s)) (own, refl);
    }
    runs_deeper (suc k) total s own busy sound =
        after (step p s) refl (step_deeper s (busy 0 s (omega arith) (no_steps s)) own (first_balanced k s sound)) (λ a own busy sound. runs_deeper k (total + step_price s) a own busy sound)
      where
        after : (o : Outcome) → step p s ≡ o → (step p (deeper s) ≡ deeper_outcome (step p s)) × OwnAfter s.callers (step p s) →
            ((a : State) → AllOwn a.work → Busy k a → balanced (steps p k a) ≡ true → RunsDeeper k (total + step_price s) a) → RunsDeeper (suc k) total s
        after (Goes a) e d onward =
            let left = subst (OwnAfter s.callers) e d.1 in
            let deep : step p (deeper s) ≡ Goes (deeper a) = d.0 ∙ ap deeper_outcome e in
            let r = onward a left.0 (λ j t lt q. busy (suc j) t (omega arith) (steps_on j s a e ∙ q)) (sym (ap balanced (steps_on k s a e)) ∙ sound) in
            record {
              does = steps_on k (deeper s) (deeper a) deep ∙ r.does ∙ ap deeper_outcome (sym (steps_on k s a e));
              costs = spent_on k total (deeper s) (deeper a) deep ∙ r.costs ∙ sym (spent_on k total s a e);
              own = subst (OwnAfter s.callers) (sym (steps_on k s a e)) (subst (λ fs. OwnAfter fs (steps p k a)) left.1 r.own);
            }
        after (Ends end world) e d onward =
            let deep : step p (deeper s) ≡ Ends end world = d.0 ∙ ap deeper_outcome e in
            record {
              does = steps_end k (deeper s) end world deep ∙ ap deeper_outcome (sym (steps_end k s end world e));
              costs = spent_end k total (deeper s) end world deep ∙ sym (spent_end k total s end world e);
              own = subst (OwnAfter s.callers) (sym (steps_end k s end world e)) tt;
            }

    -- a state of the run over more entries is one of the run without them
    pub record IsDeeper (j : ℕ) (s t' : State) : Type 0 where
      pub state : State
      pub reached : steps p j s ≡ Goes state
      pub is : t' ≡ deeper state
      pub own : AllOwn state.work
      pub callers : state.callers ≡ s.callers

    pub state_deeper : (j k : ℕ) (s t' : State) → AllOwn s.work → Busy k s → balanced (steps p k s) ≡ true → j < k → steps p j (deeper s) ≡ Goes t' → IsDeeper j s t'
    state_deeper j k s t' own busy sound lt e =
        let r = runs_deeper j 0 s own (λ i t lt' q. busy i t (omega arith) q) (balanced_before j k s (omega arith) sound) in
        found (steps p j s) refl (sym r.does ∙ e) r.own
      where
        found : (o : Outcome) → steps p j s ≡ o → deeper_outcome (steps p j s) ≡ Goes t' → OwnAfter s.callers (steps p j s) → IsDeeper j s t'
        found (Goes t) q same left =
            let f : Goes (deeper t) ≡ Goes t' = sym (ap deeper_outcome q) ∙ same in
            let g : t' ≡ deeper t = cc in
            let h = subst (OwnAfter s.callers) q left in
            record { state = t; reached = q; is = g; own = h.0; callers = h.1 }
        found (Ends end world) q same left = let f : Ends end world ≡ Goes t' = sym (ap deeper_outcome q) ∙ same in cc
