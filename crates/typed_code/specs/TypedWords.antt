-- A typed word as a whole, from RUN-CODE on to what comes back behind GO, by what the word means: the word that stands at RUN-CALL runs
-- from the user's cells, and what it leaves are the user's cells then.
use Rattle.std.specs.Prelude.{ℕ, suc, ◌+◌, ◌-◌, ◌*◌, ◌%◌, ◌≤◌, ◌≡◌, true, List, [], ◌∷◌, ◌++◌, length, map, slice_set, Option, Some, None}
use Rattle.word_table.specs.declared.word.Word.{Word}
use Rattle.forth_program.specs.State.{World, State, End, Goes}
use Rattle.forth_program.specs.Program.{SourceProgram}
use Rattle.forth_program.specs.Run.{steps, end_of}
use Rattle.forth_program.specs.Price.{spent}
use Rattle.forth_program.specs.Returns.{IsReturn}
use Rattle.forth_program.specs.Cells.{AreCells, IsWorld}
use Rattle.j1_simulator.specs.Step.{Stop}
use Rattle.j1_simulator.specs.OpenMachine.{open_storage}
use Rattle.j1_simulator.specs.RoundMachine.{round_storage}
use Rattle.j1_simulator.specs.Run.{run}
use Rattle.word_laws.specs.Rings.{OpenConfiguration, BeforeEach, Agrees}
use Rattle.word_laws.specs.Bounds.{StaysWithin}
use Rattle.word_laws.specs.Standing.{machine_end}
use Rattle.code_layout.specs.ReturningChip.{RoundConfiguration}
use Rattle.typed_items.specs.Items.{TypedItem, TypedItems, NoItem, Item}
use Rattle.typed_items.specs.Listed.{AreReturnPlaces, stands}
use Rattle.typed_items.specs.Laws.{Shows, ItemsStand, TypedCode, items_begin, is_done, GoesOn, ItemsFit, FollowsBack, KeepsBehind}
use Rattle.typed_items.specs.OnChip.{FollowsBackOnChip}
use Rattle.typed_code.specs.MachineCode.{return_base, run_code, run_call, HasMachineCode, HasUserCells}
use Rattle.typed_code.specs.Standing.{Surroundings}
use Rattle.typed_code.specs.WayBack.{given_back, Returns, KeepsCode, GoesBack, GoesBackOnChip}

-- a world that has the pointers kept in RETURN-BASE, where there are so many return cells and no data cell
abbrev pub with_base : ℕ → World → World
with_base returns w = record w { space = slice_set w.space (return_base - 0x1000) (returns % 32 * 256) }

abbrev pub one_item : TypedItem → TypedItems
one_item item = Item item NoItem

-- the word begins, on the user's cells, over the address behind GO and the return cells below
abbrev pub word_begins : TypedItem → List ℕ → List (Option ℕ) → World → State
word_begins item c below w = items_begin (one_item item) c (with_base (suc (length below)) w)

-- the machine stands at RUN-CODE with no data cell
abbrev pub at_run_code : List ℕ → World → ℕ → List (Option ℕ) → List (Option ℕ) → List (Option ℕ) → OpenConfiguration
at_run_code code w address below data_above return_above = stands code run_code [] w (Some address ∷ below) data_above return_above

abbrev pub below_go : List (Option ℕ) → World → Surroundings
below_go below w = record { returns = below; input = w.input; printed = w.printed }

-- a listed word or a name stands at RUN-CALL, and all that it takes stands in memory: the machine code around it, the user's cells, the
-- definitions
pub record WordStands (code : List ℕ) (token : Word → ℕ) (place : ℕ → ℕ) (p : SourceProgram) (item : TypedItem) (c : List ℕ) (w : World)
    (address : ℕ) (below : List (Option ℕ)) : Type 0 where
  pub machine_code : HasMachineCode (code ++ w.space)
  pub user_cells : HasUserCells (code ++ w.space) c
  pub few : length c ≤ 31
  pub typed : TypedCode code (code ++ w.space) token place p
  pub at_run_call : ItemsStand (code ++ w.space) token place (length p.bodies) run_call (run_call + 1) (one_item item)
  pub known : AreReturnPlaces (Some address ∷ below)
  pub cells : AreCells c
  pub world : IsWorld w
  pub starts : w.data_start ≡ 0x2000

-- where the word has been done, the whole comes back behind GO, in at most 18 instructions more and 12 for each cell that is left: with
-- these as the user's cells, with what was printed meanwhile, and with a data space that has the machine code still, and is as it was
-- behind RETURN-BASE
pub record ComesBack (code : List ℕ) (address : ℕ) (below : List (Option ℕ)) (high return_high count : ℕ) (w : World) (t : State)
    (data_above return_above : List (Option ℕ)) : Type 0 where
  pub more : ℕ
  pub few : more ≤ 12 * length t.cells + 18
  pub kept : KeepsCode code t.world.space t.cells
  pub printed : List ℕ
  pub printed_is : t.world.printed ≡ w.printed ++ printed
  pub returns : Returns (count + more) high return_high run_code address (code ++ w.space) code kept.after t.world.input printed
      (below_go below w) data_above return_above
  pub goes : GoesBack (count + more) high return_high code (given_back kept.after t.world.input printed)
      (at_run_code code w address below data_above return_above)
  pub is_return : (q : SourceProgram) → q.data_start ≡ 0x2000 → IsReturn q (given_back kept.after t.world.input printed)
  pub machine_code : HasMachineCode (code ++ kept.after)
  pub user_cells : HasUserCells (code ++ kept.after) t.cells
  pub behind : KeepsBehind w.space kept.after

-- the machine does at least what k word steps of the word do, and k instructions do no more
pub record WordFollows (code : List ℕ) (p : SourceProgram) (address : ℕ) (below : List (Option ℕ)) (high back k : ℕ) (c : List ℕ)
    (w : World) (s : State) (data_above return_above : List (Option ℕ)) : Type 0 where
  pub count : ℕ
  pub within_price : count ≤ 8 * spent p 0 k s + 13 * length c + 15
  pub far_enough : end_of (steps p k s) ≡ None → k ≤ count
  pub shows : Shows code (run open_storage 0x2000 count (at_run_code code w address below data_above return_above)) (steps p k s)
  pub can_end : (end : End) → end_of (steps p k s) ≡ Some end → (stop : Stop) × (machine_end end ≡ Some stop)
  pub bounds : BeforeEach (StaysWithin 0 high 0 (length below + 1 + back)) 0x2000 count
      (at_run_code code w address below data_above return_above)
  pub no_more : FollowsBack p k s (at_run_code code w address below data_above return_above)
  pub comes_back : (t : State) → steps p k s ≡ Goes t → is_done t ≡ true → length t.cells ≤ 31 → length t.cells + 2 ≤ high →
      ComesBack code address below high (length below + 1 + back) count w t data_above return_above

abbrev pub TypedWordsDoTheirMeaning : Type 0
TypedWordsDoTheirMeaning =
    (code : List ℕ) (token : Word → ℕ) (place : ℕ → ℕ) (p : SourceProgram) (item : TypedItem) (c : List ℕ) (w : World)
    (address high back k : ℕ) (below data_above return_above : List (Option ℕ)) →
    WordStands code token place p item c w address below → length c + 3 ≤ high → 1 ≤ back → GoesOn p k (word_begins item c below w) →
    ItemsFit p high back k (word_begins item c below w) →
    WordFollows code p address below high back k c w (word_begins item c below w) data_above return_above

-- so does the chip, where the word fits its stacks beside the return cells below and these are known, and it comes back with the places of
-- the live cells kept
pub record WordFollowsOnChip (code : List ℕ) (p : SourceProgram) (address : ℕ) (below : List (Option ℕ)) (high back k : ℕ) (c : List ℕ)
    (w : World) (s : State) (data_above return_above : List (Option ℕ)) (chip : RoundConfiguration) : Type 0 where
  pub follows : WordFollows code p address below high back k c w s data_above return_above
  pub agrees : (m : ℕ) → m ≤ follows.count → Agrees (run open_storage 0x2000 m (at_run_code code w address below data_above return_above))
      (run round_storage 0x2000 m chip)
  pub no_more : FollowsBackOnChip p k s chip
  pub comes_back : (t : State) (e : steps p k s ≡ Goes t) (done : is_done t ≡ true) (few : length t.cells ≤ 31)
      (room : length t.cells + 2 ≤ high) →
      GoesBackOnChip (follows.count + (follows.comes_back t e done few room).more) code
      (given_back (follows.comes_back t e done few room).kept.after t.world.input (follows.comes_back t e done few room).printed) chip

abbrev pub TypedWordsDoTheirMeaningOnChip : Type 0
TypedWordsDoTheirMeaningOnChip =
    (code : List ℕ) (token : Word → ℕ) (place : ℕ → ℕ) (p : SourceProgram) (item : TypedItem) (c : List ℕ) (w : World)
    (address high back k : ℕ) (below data_above return_above : List (Option ℕ)) (addresses : List ℕ) (chip : RoundConfiguration) →
    WordStands code token place p item c w address below → length c + 3 ≤ high → 1 ≤ back → GoesOn p k (word_begins item c below w) →
    ItemsFit p high back k (word_begins item c below w) →
    high ≤ 33 → length below + 1 + back ≤ 32 → below ≡ map Some addresses →
    Agrees (at_run_code code w address below data_above return_above) chip →
    WordFollowsOnChip code p address below high back k c w (word_begins item c below w) data_above return_above chip
