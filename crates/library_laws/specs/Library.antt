-- What is asked of the definition of a word: its run is the word's meaning, within the word's price.
use Rattle.std.specs.Prelude.{◌≡◌, ℕ, ◌+◌, ◌*◌, ◌<◌, ◌≤◌, true, List, [], ◌∷◌, ◌++◌, length, slice_index_or}
use Rattle.std.specs.List.{list_all}
use Rattle.word_table.specs.declared.word.Word.{Word}
use Rattle.word_table.specs.declared.word.Word.TheVariants.{QDup, TypeOut}
use Rattle.word_table.specs.Table.{entry_of}
use Rattle.forth_program.specs.Tree.{Nodes, Empty}
use Rattle.forth_program.specs.State.{World, Frame, Work, State, Outcome, Goes}
use Rattle.forth_program.specs.Program.{SourceProgram}
use Rattle.forth_program.specs.Meaning.{meaning}
use Rattle.forth_program.specs.Step.{first_work, before, on_cells}
use Rattle.forth_program.specs.Run.{steps}
use Rattle.forth_program.specs.Price.{spent, word_price}
use Rattle.library_laws.specs.Bodies.{body_of_word, bodies_of, has_definition}
use Rattle.forth_program.specs.Cells.{AreCells, IsWorld}
use Rattle.forth_program.specs.Heights.{entries_height, step_peak, back_of}

-- a definition with these items begins
abbrev pub entered : Nodes → List Frame → List ℕ → World → State
entered body callers c w = record { work = before body []; entries = []; callers = callers; cells = c; world = w }

-- it has no item left
abbrev pub finished : List Frame → List ℕ → World → State
finished callers c w = record { work = []; entries = []; callers = callers; cells = c; world = w }

-- what the word means there
abbrev pub meant : Word → List Frame → List ℕ → World → Outcome
meant word callers c w = on_cells (meaning word c w) (finished callers c w)

-- a step of a definition, and it takes no more cells of both stacks than a word may that begins with so many data cells; of the
-- return cells one is the address to which the definition returns
pub record TakesNoMore (word : Word) (begins : ℕ) (below : List Frame) (s : State) : Type 0 where
  pub work : Work
  pub after : List Work
  pub busy : s.work ≡ work ∷ after
  pub callers : s.callers ≡ below
  pub cells : length s.cells + step_peak (first_work s.work) ≤ begins + (entry_of word).peak
  pub returns : 1 + entries_height s.entries + back_of (first_work s.work) ≤ (entry_of word).back

-- the run of a definition comes to what the word means, by word steps of the definition. Their prices with those of its call and of
-- its end are at most a price, and each stays within the word's peak and back
pub record DoesItsMeaning (price : ℕ) (body : Nodes) (word : Word) (p : SourceProgram) (callers : List Frame) (c : List ℕ) (w : World) : Type 0 where
  pub count : ℕ
  pub run : steps p count (entered body callers c w) ≡ meant word callers c w
  pub within_price : spent p 2 count (entered body callers c w) ≤ price
  pub within_stacks : (j : ℕ) (s : State) → j < count → steps p j (entered body callers c w) ≡ Goes s → TakesNoMore word (length c) callers s

-- for the price that the table gives, wherever there are as many cells as the word needs
abbrev pub DefinitionDoes : Nodes → Word → Type 0
DefinitionDoes body word =
    (p : SourceProgram) (callers : List Frame) (c : List ℕ) (w : World) → (entry_of word).need ≤ length c → AreCells c → IsWorld w →
    DoesItsMeaning (word_price word c w) body word p callers c w

-- in any program, below any frames and cells, and in any world
abbrev pub DefinitionsDoTheirMeaning : Type 0
DefinitionsDoTheirMeaning = (word : Word) → has_definition word ≡ true → DefinitionDoes (body_of_word word) word

-- the first bodies do the meanings of these words, in their order
pub record MeanWords (bodies : List Nodes) (words : List Word) : Type 0 where
  pub each : (k : ℕ) → k < length words → DefinitionDoes (slice_index_or bodies k Empty) (slice_index_or words k QDup)

-- those of words that have definitions, whatever stands behind them
abbrev pub BodiesMeanWords : Type 0
BodiesMeanWords = (words : List Word) (more : List Nodes) → list_all has_definition words ≡ true → MeanWords (bodies_of words ++ more) words

-- TYPE costs less than its price: ABORT" calls it, for a price that leaves room for no more
abbrev pub TypeIsCheap : Type 0
TypeIsCheap =
    (p : SourceProgram) (callers : List Frame) (u a : ℕ) (c : List ℕ) (w : World) → AreCells (u ∷ a ∷ c) → IsWorld w →
    DoesItsMeaning (6 + 49 * u) (body_of_word TypeOut) TypeOut p callers (u ∷ a ∷ c) w
