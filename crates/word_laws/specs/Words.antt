-- The words whose cells stand in an image as they are: their cells do what the words mean.
use Rattle.std.specs.Prelude.{ℕ, suc, ◌+◌, ◌-◌, ◌/◌, ◌≤◌, ◌≡◌, ◌↔◌, Bool, true, false, List, ◌∷◌, length, Option, Some, None, ℤ, pos, negsuc}
use Rattle.word_table.specs.declared.word.Class.{Class}
use Rattle.word_table.specs.declared.word.Class.TheVariants as class
use Rattle.word_table.specs.declared.word.Word.{Word}
use Rattle.word_table.specs.declared.word.Word.TheVariants.{ToR, RFrom, RFetch, Index, OuterIndex, Unloop, Depth}
use Rattle.word_table.specs.Table.{entry_of, cells_of, cells_from}
use Rattle.forth_program.specs.State.{Entry, Cell, Loop, World, State, End, Goes, Ends}
use Rattle.forth_program.specs.Program.{SourceProgram}
use Rattle.forth_program.specs.Step.{word_step}
use Rattle.forth_program.specs.Run.{lacks}
use Rattle.j1_simulator.specs.OpenMachine.{open_storage}
use Rattle.j1_simulator.specs.Run.{run}
use Rattle.word_laws.specs.Rings.{BeforeEach}
use Rattle.word_laws.specs.Bounds.{StaysWithin}
use Rattle.forth_program.specs.Cells.{AreCells, AreEntries, IsWorld}
use Rattle.word_laws.specs.Standing.{return_places, standing_as, HasCome, StandIn, MachinePlace}

abbrev pub is_inline : Class → Bool
is_inline class.Inline = true
is_inline kind = false

-- the inline words of the table, and the words on return entries
abbrev pub stands_plain : Word → Bool
stands_plain ToR = true
stands_plain RFrom = true
stands_plain RFetch = true
stands_plain Index = true
stands_plain OuterIndex = true
stands_plain Unloop = true
stands_plain word = is_inline ((entry_of word).class)

-- whether the newest return entries are those that a word works on
abbrev pub finds_entries : Word → List Entry → Bool
finds_entries RFrom (Cell value ∷ entries) = true
finds_entries RFrom entries = false
finds_entries RFetch (Cell value ∷ entries) = true
finds_entries RFetch entries = false
finds_entries Index (Loop limit index ∷ entries) = true
finds_entries Index entries = false
finds_entries OuterIndex (Loop limit index ∷ Loop limit' index' ∷ entries) = true
finds_entries OuterIndex entries = false
finds_entries Unloop (Loop limit index ∷ entries) = true
finds_entries Unloop entries = false
finds_entries word entries = true

-- the places of those entries
abbrev pub return_need : Word → ℕ
return_need RFrom = 1
return_need RFetch = 1
return_need Index = 2
return_need OuterIndex = 4
return_need Unloop = 2
return_need word = 0

-- what else the cells of a word ask for: those of DEPTH count at most 31 cells, since they read a pointer of five bits
abbrev pub CellsApply : Word → List ℕ → Type 0
CellsApply Depth c = length c ≤ 31
CellsApply word c = Unit {0}

-- a word stands in code, from pc to next, and a state has what it needs
pub record IsReady (word : Word) (code : List ℕ) (pc next : ℕ) (s : State) : Type 0 where
  pub plain : stands_plain word ≡ true
  pub code_size : length code ≡ s.world.data_start / 2
  pub in_code : StandIn code pc (cells_from s.world.data_start word) next
  pub need : (entry_of word).need ≤ length s.cells
  pub finds : finds_entries word s.entries ≡ true
  pub cells : AreCells s.cells
  pub entries : AreEntries s.entries
  pub applies : CellsApply word s.cells

-- in as many instructions as it has cells, a word's code does what the word means, or has ended as the word ends
abbrev pub WordsDoTheirMeaning : Type 0
WordsDoTheirMeaning =
    (p : SourceProgram) (word : Word) (m : MachinePlace) (next : ℕ) (s : State) → IsReady word m.code m.pc next s →
    HasCome m.code next m.returns (run open_storage s.world.data_start (length (cells_of word)) (standing_as s m)) (word_step p word s.cells s.entries s)

-- before each of these instructions the data counter stands from what the word's need leaves up to its peak, and the return
-- counter from what the entries leave that it works on up to its back
abbrev pub WordsKeepTheirBounds : Type 0
WordsKeepTheirBounds =
    (word : Word) (m : MachinePlace) (next : ℕ) (s : State) → IsReady word m.code m.pc next s →
    BeforeEach
    (StaysWithin (length s.cells - (entry_of word).need) (length s.cells + (entry_of word).peak)
    (length (return_places s.entries m.returns) - return_need word) (length (return_places s.entries m.returns) + (entry_of word).back))
    s.world.data_start (length (cells_of word)) (standing_as s m)

-- where such a word ends the run, they are within these bounds after these instructions too
abbrev pub WordsEndWithinBounds : Type 0
WordsEndWithinBounds =
    (p : SourceProgram) (word : Word) (m : MachinePlace) (next : ℕ) (s : State) (end : End) (world : World) → IsReady word m.code m.pc next s →
    word_step p word s.cells s.entries s ≡ Ends end world →
    StaysWithin (length s.cells - (entry_of word).need) (length s.cells + (entry_of word).peak)
    (length (return_places s.entries m.returns) - return_need word) (length (return_places s.entries m.returns) + (entry_of word).back)
    (run open_storage s.world.data_start (length (cells_of word)) (standing_as s m))

-- such a word lacks nothing exactly where the cells are as many as its need, and its entries are found
abbrev pub NeedsAreExact : Type 0
NeedsAreExact =
    (p : SourceProgram) (word : Word) (c : List ℕ) (entries : List Entry) (s : State) → stands_plain word ≡ true →
    (lacks (word_step p word c entries s) ≡ false) ↔ (((entry_of word).need ≤ length c) × (finds_entries word entries ≡ true))

-- a state after a word: the work, the frames below and the place of data space are as before, and its numbers are cells and bytes
pub record IsKept (before after : State) : Type 0 where
  pub work : after.work ≡ before.work
  pub callers : after.callers ≡ before.callers
  pub data_start : after.world.data_start ≡ before.world.data_start
  pub cells : AreCells after.cells
  pub entries : AreEntries after.entries
  pub world : IsWorld after.world

-- such a word leaves cells, where it found cells
abbrev pub WordsLeaveCells : Type 0
WordsLeaveCells =
    (p : SourceProgram) (word : Word) (s after : State) → stands_plain word ≡ true → AreCells s.cells → AreEntries s.entries → IsWorld s.world →
    word_step p word s.cells s.entries s ≡ Goes after → IsKept s after

-- a stack of so many cells has changed by so much
abbrev pub ChangesBy : ℤ → ℕ → ℕ → Type 0
ChangesBy (pos n) before after = after ≡ before + n
ChangesBy (negsuc n) before after = after + suc n ≡ before

-- the change is the exit, the same at both ends; where there is none, no state is left
abbrev pub LeavesBy : Option (ℤ × ℤ) → ℕ → ℕ → Type 0
LeavesBy None before after = ⊥
LeavesBy (Some exit) before after = ChangesBy exit.0 before after × (exit.1 ≡ exit.0)

-- such a word changes the number of data cells by its exit
abbrev pub WordsChangeDepths : Type 0
WordsChangeDepths =
    (p : SourceProgram) (word : Word) (s after : State) → stands_plain word ≡ true →
    word_step p word s.cells s.entries s ≡ Goes after → LeavesBy (entry_of word).exit (length s.cells) (length after.cells)
