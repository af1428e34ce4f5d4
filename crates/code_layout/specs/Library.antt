-- The library: a body in Forth for each library word. An image holds the code of all of them once, and calls it.
use Rattle.std.specs.Prelude.{◌≡◌, ◌≢◌, ℕ, suc, ◌+◌, ◌*◌, ◌<◌, ◌≤◌, Bool, true, false, ◌&&◌, List, [], ◌∷◌, length, slice_index_or, Some}
use Rattle.std.specs.List.{list_all}
use Rattle.word_table.specs.declared.word.Word.{Word}
use Rattle.word_table.specs.declared.word.Word.TheVariants.{TypeOut, Execute, Depth}
use Rattle.word_table.specs.Table.{entry_of}
use Rattle.forth_program.specs.Tree.{Node, Nodes, Plain, Call, Child, Again, QDo, Case, Exit, Empty}
use Rattle.forth_program.specs.State.{World, State, Goes}
use Rattle.forth_program.specs.Program.{SourceProgram}
use Rattle.forth_program.specs.Form.{everywhere, leaves_fit}
use Rattle.forth_program.specs.Meaning.{meaning}
use Rattle.forth_program.specs.Step.{before, first_work, on_cells}
use Rattle.forth_program.specs.Run.{steps}
use Rattle.forth_program.specs.Price.{word_price, spent}
use Rattle.forth_program.specs.Cells.{AreCells, IsWorld}
use Rattle.code_layout.specs.Numbering.{library_number}
use Rattle.code_layout.specs.Built.{is_laid_out}
use Rattle.forth_program.specs.Heights.{entries_height, peak_of, back_of}

-- an item that keeps to its frame and does not count cells, of those that library bodies have: no AGAIN, ?DO and CASE
abbrev pub is_own : Node → Bool
is_own (Call definition) = false
is_own (Child definition address) = false
is_own (Plain Execute) = false
is_own (Plain Depth) = false
is_own (Again body) = false
is_own (QDo body plus) = false
is_own (Case arms rest) = false
is_own Exit = false
is_own node = true

-- each body consists of numbers, plain words and library words before its own, and has no calls, no EXECUTE, no EXIT and no DEPTH
abbrev pub each_uses_earlier : ℕ → List Nodes → Bool
each_uses_earlier number [] = true
each_uses_earlier number (body ∷ bodies) = everywhere (is_laid_out false number 0) body && each_uses_earlier (suc number) bodies

-- the form of a library
pub record IsLibrary (library : List Nodes) : Type 0 where
  pub items : each_uses_earlier 0 library ≡ true
  pub own_items : list_all (everywhere is_own) library ≡ true
  pub leaves_in_loops : list_all (leaves_fit false) library ≡ true

-- the price of a routine, with its call and its end: that of its word, but less for TYPE, since ABORT" has but the table's price
-- of TYPE for all that it does
abbrev pub routine_price : Word → List ℕ → World → ℕ
routine_price TypeOut (u ∷ a ∷ c) w = 29 + 80 * u
routine_price word c w = word_price word c w

-- a body begins, on these cells and in this world, and it has been done
abbrev pub body_begins : Nodes → List ℕ → World → State
body_begins body c w = record { work = before body []; entries = []; callers = []; cells = c; world = w }

abbrev pub body_is_done : List ℕ → World → State
body_is_done c w = record { work = []; entries = []; callers = []; cells = c; world = w }

-- a step of a body, on the stacks of a word that began with so many data cells; one return cell is the address of the caller
pub record BodyTakesNoMore (word : Word) (begins : ℕ) (t : State) : Type 0 where
  pub busy : t.work ≢ []
  pub cells : length t.cells + peak_of [] (first_work t.work) ≤ begins + (entry_of word).peak
  pub returns : 1 + entries_height t.entries + back_of (first_work t.work) ≤ (entry_of word).back

-- a body does what a word does
pub record BodyMeans (word : Word) (body : Nodes) (p : SourceProgram) (c : List ℕ) (w : World) : Type 0 where
  -- in so many word steps it leads to the word's cells and world, with the same accesses in their order, or ends as the word ends
  pub count : ℕ
  pub does : steps p count (body_begins body c w) ≡ on_cells (meaning word c w) (body_is_done c w)
  -- with the call and the end of the body they cost no more than the routine
  pub within_price : spent p 2 count (body_begins body c w) ≤ routine_price word c w
  -- each of them has an item or a mark to do, and takes no more cells than the word
  pub within_stacks : (j : ℕ) (t : State) → j < count → steps p j (body_begins body c w) ≡ Goes t → BodyTakesNoMore word (length c) t

-- the bodies of a library do what its words mean, in any program, with enough cells
abbrev pub LibraryMeans : List Nodes → Type 0
LibraryMeans library =
    (word : Word) (number : ℕ) → library_number word ≡ Some number → number < length library →
    (p : SourceProgram) (c : List ℕ) (w : World) → (entry_of word).need ≤ length c → AreCells c → IsWorld w →
    BodyMeans word (slice_index_or library number Empty) p c w
