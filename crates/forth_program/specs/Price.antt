-- The price of a run: a ceiling on the machine instructions of its steps, in instructions.
use Rattle.std.specs.Prelude.{ℕ, zero, suc, ◌+◌, ◌*◌, Bool, true, false, List, ◌∷◌}
use Rattle.word_table.specs.declared.word.Word.{Word}
use Rattle.word_table.specs.declared.word.Word.TheVariants.{Spaces, TypeOut, Fill, Move, Accept, ToNumber}
use Rattle.word_table.specs.Table.{entry_of}
use Rattle.cell_math.specs.Cell.{signed}
use Rattle.forth_program.specs.declared.item.TextKind.{TextKind}
use Rattle.forth_program.specs.declared.item.TextKind.TheVariants as text
use Rattle.forth_program.specs.State.{World, State, Outcome, Goes, Ends}
use Rattle.forth_program.specs.Access.{base}
use Rattle.forth_program.specs.ByteWords.{positive, accept_begins, number_begins, begun_by}
use Rattle.forth_program.specs.Program.{SourceProgram}
use Rattle.forth_program.specs.Step.{First, IsLiteral, IsWord, IsChild, IsText, IsDo, IsQDo, IsTurn, IsOf, IsLeave, first_work, step}
use Rattle.forth_program.specs.Run.{first_state}

-- how often a word does what it is priced for: the whole count, and for input and numbers the bytes begun
abbrev pub count : Word → List ℕ → World → ℕ
count TypeOut (u ∷ a ∷ c) w = u
count Spaces (n ∷ c) w = positive (signed n)
count Fill (x ∷ u ∷ a ∷ c) w = u
count Move (u ∷ b ∷ a ∷ c) w = u
count Accept (u ∷ a ∷ c) w = accept_begins u a w
count ToNumber (u ∷ a ∷ h ∷ l ∷ c) w = begun_by (base w) (λ b. number_begins b u a)
count word c w = 0

-- the price that the table gives
abbrev pub word_price : Word → List ℕ → World → ℕ
word_price word c w = (entry_of word).base + (entry_of word).per * count word c w

-- the three string words, by the length of the text
abbrev pub text_price : TextKind → ℕ → List ℕ → ℕ
text_price text.Address size c = 2
text_price text.Print size c = 42 + 80 * size
text_price text.Abort size (suc n ∷ c) = 40 + 80 * size
text_price text.Abort size c = 40

-- a turn by LOOP, and by +LOOP
abbrev pub turn_price : Bool → ℕ
turn_price false = 12
turn_price true = 24

-- of the first work
abbrev pub first_price : First → List ℕ → World → ℕ
first_price (IsLiteral value after) c w = 2
first_price (IsWord word after) c w = word_price word c w
first_price (IsChild definition address after) c w = 2
first_price (IsText kind address size after) c w = text_price kind size c
first_price (IsDo body plus after) c w = 8
first_price (IsQDo body plus after) c w = 12
first_price (IsTurn body plus after) c w = turn_price plus
first_price (IsOf body others rest after) c w = 4
first_price (IsLeave after) c w = 5
-- a call, a decision, the end of a true branch, REPEAT, AGAIN, ENDOF, ENDCASE, EXIT and the end of a body
first_price first c w = 1

-- of the next step
abbrev pub step_price : State → ℕ
step_price s = first_price (first_work s.work) s.cells s.world

-- after a step at which so much was spent in all
abbrev pub spent_after : ℕ → Outcome → (State → ℕ) → ℕ
spent_after total (Goes s) next = next s
spent_after total (Ends end world) next = total

-- what is spent in all after at most k steps, when so much was spent before them
unfoldable pub spent : SourceProgram → ℕ → ℕ → State → ℕ
spent p total zero s = total
spent p total (suc k) s = spent_after (total + step_price s) (step p s) (spent p (total + step_price s) k)

-- the price of the first k steps of a run, with the start
unfoldable pub price : SourceProgram → List ℕ → ℕ → ℕ
price p input k = spent p 8 k (first_state p input)
