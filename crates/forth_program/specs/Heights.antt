-- How many cells of both stacks the code of a word step takes, and which runs go well.
use Rattle.std.specs.Prelude.{◌≡◌, ℕ, ◌+◌, ◌<◌, ◌≤◌, Bool, true, false, List, [], ◌∷◌, length, Option, Some, None}
use Rattle.word_table.specs.declared.word.Word.TheVariants.{Depth, Execute}
use Rattle.word_table.specs.declared.word.Word.TheVariants as table
use Rattle.word_table.specs.Table.{entry_of}
use Rattle.forth_program.specs.Tree.{Node}
use Rattle.forth_program.specs.declared.item.TextKind.{TextKind}
use Rattle.forth_program.specs.declared.item.TextKind.TheVariants as text
use Rattle.forth_program.specs.State.{Entry, Cell, Loop, Work, Frame, State, Goes}
use Rattle.forth_program.specs.Program.{SourceProgram, token_of}
use Rattle.forth_program.specs.Step.{First, BodyEnd, IsLiteral, IsWord, IsChild, IsText, IsDo, IsQDo, IsTurn, IsOf, IsLeave, IsExit, first_in, first_work}
use Rattle.forth_program.specs.Tail.{ends_body}
use Rattle.forth_program.specs.Run.{steps, source_run, lacks}

-- the return cells of entries: a loop has two
abbrev pub entries_height : List Entry → ℕ
entries_height [] = 0
entries_height (Cell value ∷ entries) = 1 + entries_height entries
entries_height (Loop limit index ∷ entries) = 2 + entries_height entries

-- the return address of a frame that called the definition above it. Where the call was in tail position there is none
abbrev pub address_height : Bool → ℕ
address_height true = 0
address_height false = 1

-- those of the frames below the newest, with their return addresses; MAIN has one too
abbrev pub callers_height : List Frame → ℕ
callers_height [] = 1
callers_height (frame ∷ callers) = address_height (ends_body frame.work) + entries_height frame.entries + callers_height callers

abbrev pub return_height : State → ℕ
return_height s = entries_height s.entries + callers_height s.callers

-- the end of MAIN takes two data cells for its halt
abbrev pub end_peak : List Frame → ℕ
end_peak [] = 2
end_peak (frame ∷ callers) = 0

-- that of a text
abbrev pub text_peak : TextKind → ℕ
text_peak text.Address = (entry_of table.SQuote).peak
text_peak text.Print = (entry_of table.DotQuote).peak
text_peak text.Abort = (entry_of table.AbortQuote).peak

abbrev pub text_back : TextKind → ℕ
text_back text.Address = (entry_of table.SQuote).back
text_back text.Print = (entry_of table.DotQuote).back
text_back text.Abort = (entry_of table.AbortQuote).back

-- the data cells that a step takes above those of its state, as the word table says. The end of MAIN takes two for its halt; that of
-- another definition takes none
abbrev pub step_peak : First → ℕ
step_peak BodyEnd = 2
step_peak IsExit = 2
step_peak (IsLiteral value after) = (entry_of table.Literal).peak
step_peak (IsChild definition address after) = (entry_of table.Literal).peak
step_peak (IsWord word after) = (entry_of word).peak
step_peak (IsText kind address size after) = text_peak kind
step_peak (IsDo body plus after) = (entry_of table.Do).peak
step_peak (IsQDo body plus after) = (entry_of table.QDo).peak
step_peak (IsTurn body false after) = (entry_of table.Loop).peak
step_peak (IsTurn body true after) = (entry_of table.PlusLoop).peak
step_peak (IsOf body others rest after) = (entry_of table.Of).peak
step_peak (IsLeave after) = (entry_of table.Leave).peak
step_peak first = 0

-- the same, where these frames wait below
abbrev pub peak_of : List Frame → First → ℕ
peak_of callers BodyEnd = end_peak callers
peak_of callers IsExit = end_peak callers
peak_of callers first = step_peak first

-- and the return cells, before its last instruction: DO has put its limit there
abbrev pub back_of : First → ℕ
back_of (IsWord word after) = (entry_of word).back
back_of (IsText kind address size after) = text_back kind
back_of (IsDo body plus after) = 1
back_of (IsQDo body plus after) = 1
back_of first = 0

-- EXECUTE holds a return address below what the item of its token takes, where it is not in tail position
abbrev pub token_back : Option Node → List Work → ℕ
token_back None after = 0
token_back (Some node) after = address_height (ends_body after) + back_of (first_in node after)

abbrev pub execute_back : SourceProgram → First → List ℕ → ℕ
execute_back p (IsWord Execute after) (t ∷ c) = token_back (token_of p t) after
execute_back p first c = 0

-- each of the first k steps from a state takes at most so many data and return cells
abbrev pub StepsFit : SourceProgram → ℕ → ℕ → ℕ → State → Type 0
StepsFit p high return_high k s =
    (j : ℕ) (t : State) → j < k → steps p j s ≡ Goes t →
    (length t.cells + peak_of t.callers (first_work t.work) ≤ high) × (return_height t + back_of (first_work t.work) ≤ return_high) × (return_height t + execute_back p (first_work t.work) t.cells ≤ return_high)

-- and so do those of a run
abbrev pub StacksFit : SourceProgram → List ℕ → ℕ → ℕ → ℕ → Type 0
StacksFit p input high return_high k =
    (j : ℕ) (s : State) → j < k → source_run p input j ≡ Goes s →
    (length s.cells + peak_of s.callers (first_work s.work) ≤ high) × (return_height s + back_of (first_work s.work) ≤ return_high) × (return_height s + execute_back p (first_work s.work) s.cells ≤ return_high)

-- DEPTH counts at most 31 data cells: its code reads a pointer of five bits
abbrev pub DepthFits : First → List ℕ → Type 0
DepthFits (IsWord Depth after) c = length c ≤ 31
DepthFits first c = Unit {0}

-- in each of the first k steps from a state
abbrev pub DepthsFit : SourceProgram → ℕ → State → Type 0
DepthsFit p k s = (j : ℕ) (t : State) → j < k → steps p j s ≡ Goes t → DepthFits (first_work t.work) t.cells

-- within k word steps a run lacks no cells and finds its return entries, and DEPTH counts at most 31 cells
pub record IsSafe (p : SourceProgram) (input : List ℕ) (k : ℕ) : Type 0 where
  pub lacks_nothing : lacks (source_run p input k) ≡ false
  pub depth_fits : (j : ℕ) (s : State) → j < k → source_run p input j ≡ Goes s → DepthFits (first_work s.work) s.cells
