-- One word step: the first work of the newest frame.
use Rattle.std.specs.Prelude.{ℕ, zero, suc, Bool, true, false, ◌&&◌, ◌||◌, if◌then◌else◌, List, [], ◌∷◌, Option, Some, None}
use Rattle.std.specs.Prelude.{◌==◌, ℤ, pos, ◌+ℤ◌, int_lt, int_le}
use Rattle.word_table.specs.declared.word.Word.{Word}
use Rattle.word_table.specs.declared.word.Word.TheVariants.{ToR, RFrom, RFetch, Index, OuterIndex, Unloop, Execute}
use Rattle.cell_math.specs.Cell.{sum_of, difference_of, signed}
use Rattle.forth_program.specs.declared.item.TextKind.{TextKind}
use Rattle.forth_program.specs.declared.item.TextKind.TheVariants as text
use Rattle.forth_program.specs.Tree.{Node, Nodes, Arms, Literal, Plain, Call, Child, Text, If, Until, While, Again, Do, QDo, Case, Leave, Exit, Empty, Then, NoArm, Arm}
use Rattle.forth_program.specs.State.{Entry, Cell, Loop, Work, Todo, TrueEnd, UntilTest, WhileTest, Repeat, BeginAgain, Turn, OfTest, EndOf, EndCase, Frame}
use Rattle.forth_program.specs.State.{State, Reply, Gives, Stops, ◌▸◌, Outcome, Goes, Ends, Halted, Underflow, Unbalanced}
use Rattle.forth_program.specs.Program.{SourceProgram, body_of, token_of}
use Rattle.forth_program.specs.ByteWords.{type_out}
use Rattle.forth_program.specs.Meaning.{meaning}

-- items in front of work
abbrev pub before : Nodes → List Work → List Work
before Empty work = work
before (Then node rest) work = Todo node ∷ before rest work

-- ---- the first work, with what follows it; a BEGIN that stands first is replaced by its content and its mark

-- what the next step does
pub data First : Type 0 where
  BodyEnd : First
  IsLiteral : (value : ℕ) (after : List Work) → First
  IsWord : (word : Word) (after : List Work) → First
  IsCall : (definition : ℕ) (after : List Work) → First
  IsChild : (definition address : ℕ) (after : List Work) → First
  IsText : (kind : TextKind) (address size : ℕ) (after : List Work) → First
  IsIf : (first second : Nodes) (after : List Work) → First
  IsTrueEnd : (after : List Work) → First
  IsUntil : (body : Nodes) (after : List Work) → First
  IsWhile : (test body : Nodes) (after : List Work) → First
  IsRepeat : (test body : Nodes) (after : List Work) → First
  IsAgain : (body : Nodes) (after : List Work) → First
  IsDo : (body : Nodes) (plus : Bool) (after : List Work) → First
  IsQDo : (body : Nodes) (plus : Bool) (after : List Work) → First
  IsTurn : (body : Nodes) (plus : Bool) (after : List Work) → First
  IsOf : (body : Nodes) (others : Arms) (rest : Nodes) (after : List Work) → First
  IsEndOf : (after : List Work) → First
  IsEndCase : (after : List Work) → First
  IsLeave : (after : List Work) → First
  IsExit : First

-- an item that stands first, before what follows it
abbrev mutual
  pub first_in : Node → List Work → First
  first_in (Literal value) after = IsLiteral value after
  first_in (Plain word) after = IsWord word after
  first_in (Call definition) after = IsCall definition after
  first_in (Child definition address) after = IsChild definition address after
  first_in (Text kind address size) after = IsText kind address size after
  first_in (If first second) after = IsIf first second after
  first_in (Until body) after = first_among body (IsUntil body after) (UntilTest body ∷ after)
  first_in (While test body) after = first_among test (IsWhile test body after) (WhileTest test body ∷ after)
  first_in (Again body) after = first_among body (IsAgain body after) (BeginAgain body ∷ after)
  first_in (Do body plus) after = IsDo body plus after
  first_in (QDo body plus) after = IsQDo body plus after
  first_in (Case arms rest) after = first_of_case arms rest (first_among rest (IsEndCase after) (EndCase ∷ after)) after
  first_in Leave after = IsLeave after
  first_in Exit after = IsExit

  -- where there is no item, what stands after them is first
  pub first_among : Nodes → First → List Work → First
  first_among Empty else_first after = else_first
  first_among (Then node rest) else_first after = first_in node (before rest after)

  -- a case begins with the tests of its first arm, or with what is first where it has no arm
  pub first_of_case : Arms → Nodes → First → List Work → First
  first_of_case NoArm rest else_first after = else_first
  first_of_case (Arm tests body others) rest else_first after = first_among tests (IsOf body others rest after) (OfTest body others rest ∷ after)

-- the first of the work
abbrev pub first_work : List Work → First
first_work [] = BodyEnd
first_work (Todo node ∷ after) = first_in node after
first_work (TrueEnd ∷ after) = IsTrueEnd after
first_work (UntilTest body ∷ after) = IsUntil body after
first_work (WhileTest test body ∷ after) = IsWhile test body after
first_work (Repeat test body ∷ after) = IsRepeat test body after
first_work (BeginAgain body ∷ after) = IsAgain body after
first_work (Turn body plus ∷ after) = IsTurn body plus after
first_work (OfTest body others rest ∷ after) = IsOf body others rest after
first_work (EndOf ∷ after) = IsEndOf after
first_work (EndCase ∷ after) = IsEndCase after

-- ---- words

-- the cells and the world of a reply, in the same frame
abbrev pub on_cells : Reply (List ℕ) → State → Outcome
on_cells (Gives cells world) s = Goes (record s { cells = cells; world = world })
on_cells (Stops end world) s = Ends end world

-- EXECUTE puts the item of the token in front of the work
abbrev pub with_token : Option Node → State → Outcome
with_token None s = Ends (Halted 13) s.world
with_token (Some node) s = Goes (record s { work = Todo node ∷ s.work })

-- a word: those on return entries and EXECUTE, and all others by their meaning
abbrev pub word_step : SourceProgram → Word → List ℕ → List Entry → State → Outcome
word_step p ToR (x ∷ c) entries s = Goes (record s { cells = c; entries = Cell x ∷ entries })
word_step p ToR [] entries s = Ends Underflow s.world
word_step p RFrom c (Cell x ∷ entries) s = Goes (record s { cells = x ∷ c; entries = entries })
word_step p RFrom c entries s = Ends Unbalanced s.world
word_step p RFetch c (Cell x ∷ entries) s = Goes (record s { cells = x ∷ c })
word_step p RFetch c entries s = Ends Unbalanced s.world
word_step p Index c (Loop limit index ∷ entries) s = Goes (record s { cells = index ∷ c })
word_step p Index c entries s = Ends Unbalanced s.world
word_step p OuterIndex c (Loop limit index ∷ Loop limit' index' ∷ entries) s = Goes (record s { cells = index' ∷ c })
word_step p OuterIndex c entries s = Ends Unbalanced s.world
word_step p Unloop c (Loop limit index ∷ entries) s = Goes (record s { entries = entries })
word_step p Unloop c entries s = Ends Unbalanced s.world
word_step p Execute (t ∷ c) entries s = with_token (token_of p t) (record s { cells = c })
word_step p Execute [] entries s = Ends Underflow s.world
word_step p word c entries s = on_cells (meaning word c s.world) s

-- S" leaves its text, ." prints it, and ABORT" prints it and halts where its flag is true
abbrev pub text_step : TextKind → ℕ → ℕ → List ℕ → State → Outcome
text_step text.Address address size c s = Goes (record s { cells = size ∷ address ∷ c })
text_step text.Print address size c s = on_cells (type_out size address s.world ▸ λ _. Gives c) s
text_step text.Abort address size [] s = Ends Underflow s.world
text_step text.Abort address size (zero ∷ c) s = Goes (record s { cells = c })
text_step text.Abort address size (suc n ∷ c) s = on_cells (type_out size address s.world ▸ λ _. Stops (Halted 2)) s

-- ---- frames

-- a definition begins: a frame of its own
abbrev pub called : SourceProgram → ℕ → State → State
called p definition s = record s {
  work = before (body_of p definition) [];
  entries = [];
  callers = record { work = s.work; entries = s.entries } ∷ s.callers;
}

-- the end of a body: no return entry may be left; the frame below goes on, and the last frame ends the run
abbrev pub unwound : List Entry → List Frame → State → Outcome
unwound (entry ∷ entries) callers s = Ends Unbalanced s.world
unwound [] [] s = Ends (Halted 0) s.world
unwound [] (frame ∷ callers) s = Goes (record s { work = frame.work; entries = frame.entries; callers = callers })

-- ---- structures

-- the work that a flag chooses: at 0, and else
abbrev pub on_flag : List ℕ → List Work → List Work → State → Outcome
on_flag [] at_zero other s = Ends Underflow s.world
on_flag (zero ∷ c) at_zero other s = Goes (record s { work = at_zero; cells = c })
on_flag (suc n ∷ c) at_zero other s = Goes (record s { work = other; cells = c })

-- a true branch ends by a mark where the false branch has items
abbrev pub closed_by : Nodes → List Work → List Work
closed_by Empty after = after
closed_by (Then node rest) after = TrueEnd ∷ after

-- DO takes the limit and the start
abbrev pub loop_begins : Nodes → Bool → List Work → List ℕ → State → Outcome
loop_begins body plus after (start ∷ limit ∷ c) s =
    Goes (record s { work = before body (Turn body plus ∷ after); entries = Loop limit start ∷ s.entries; cells = c })
loop_begins body plus after c s = Ends Underflow s.world

-- ?DO leaves the loop out where they are equal
abbrev pub loop_may_begin : Nodes → Bool → List Work → List ℕ → State → Outcome
loop_may_begin body plus after (start ∷ limit ∷ c) s =
    if limit == start then Goes (record s { work = after; cells = c }) else loop_begins body plus after (start ∷ limit ∷ c) s
loop_may_begin body plus after c s = Ends Underflow s.world

-- OF takes a cell, and where it equals the next takes that too and does its body; else the rest of the case is left
abbrev pub of_chooses : Nodes → Arms → Nodes → List Work → List ℕ → State → Outcome
of_chooses body others rest after (x ∷ y ∷ c) s =
    if x == y then Goes (record s { work = before body (EndOf ∷ after); cells = c }) else Goes (record s { work = Todo (Case others rest) ∷ after; cells = y ∷ c })
of_chooses body others rest after c s = Ends Underflow s.world

-- ENDCASE drops a cell
abbrev pub case_ends : List Work → List ℕ → State → Outcome
case_ends after [] s = Ends Underflow s.world
case_ends after (x ∷ c) s = Goes (record s { work = after; cells = c })

-- x is the signed view of index minus limit, and s the step: the boundary between limit - 1 and limit is crossed
abbrev pub crosses : ℤ → ℤ → Bool
crosses x s =
    (int_le (pos 0) s && int_lt x (pos 0) && int_le (pos 0) (x +ℤ s)) || (int_lt s (pos 0) && int_le (pos 0) x && int_lt (x +ℤ s) (pos 0))

-- the end of a turn, by a step
abbrev pub turned : ℕ → Nodes → Bool → List Work → List Entry → State → Outcome
turned step body plus after (Loop limit index ∷ entries) s =
    if crosses (signed (difference_of index limit)) (signed step) then Goes (record s { work = after; entries = entries })
    else Goes (record s { work = before body (Turn body plus ∷ after); entries = Loop limit (sum_of index step) ∷ entries })
turned step body plus after entries s = Ends Unbalanced s.world

-- +LOOP takes its step from the cells
abbrev pub turn : Nodes → Bool → List Work → List ℕ → State → Outcome
turn body false after c s = turned 1 body false after s.entries s
turn body true after (step ∷ c) s = turned step body true after s.entries (record s { cells = c })
turn body true after [] s = Ends Underflow s.world

-- the work after the innermost loop
abbrev pub after_loop : List Work → List Work
after_loop [] = []
after_loop (Turn body plus ∷ after) = after
after_loop (mark ∷ after) = after_loop after

-- LEAVE drops the loop and goes on after it
abbrev pub leave : List Work → List Entry → State → Outcome
leave after (Loop limit index ∷ entries) s = Goes (record s { work = after_loop after; entries = entries })
leave after entries s = Ends Unbalanced s.world

-- ---- the step

-- what the first work does; at one step too few cells come before a wrong return entry
abbrev pub act : SourceProgram → First → State → Outcome
act p BodyEnd s = unwound s.entries s.callers s
act p IsExit s = unwound s.entries s.callers s
act p (IsLiteral value after) s = Goes (record s { work = after; cells = value ∷ s.cells })
act p (IsWord word after) s = word_step p word s.cells s.entries (record s { work = after })
act p (IsCall definition after) s = Goes (called p definition (record s { work = after }))
act p (IsChild definition address after) s = Goes (called p definition (record s { work = after; cells = address ∷ s.cells }))
act p (IsText kind address size after) s = text_step kind address size s.cells (record s { work = after })
act p (IsIf first second after) s = on_flag s.cells (before second after) (before first (closed_by second after)) s
act p (IsTrueEnd after) s = Goes (record s { work = after })
act p (IsUntil body after) s = on_flag s.cells (before body (UntilTest body ∷ after)) after s
act p (IsWhile test body after) s = on_flag s.cells after (before body (Repeat test body ∷ after)) s
act p (IsRepeat test body after) s = Goes (record s { work = before test (WhileTest test body ∷ after) })
act p (IsAgain body after) s = Goes (record s { work = before body (BeginAgain body ∷ after) })
act p (IsDo body plus after) s = loop_begins body plus after s.cells s
act p (IsQDo body plus after) s = loop_may_begin body plus after s.cells s
act p (IsTurn body plus after) s = turn body plus after s.cells s
act p (IsOf body others rest after) s = of_chooses body others rest after s.cells s
act p (IsEndOf after) s = Goes (record s { work = after })
act p (IsEndCase after) s = case_ends after s.cells s
act p (IsLeave after) s = leave after s.entries s

-- one word step
unfoldable pub step : SourceProgram → State → Outcome
step p s = act p (first_work s.work) s
