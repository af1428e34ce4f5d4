-- What the machine code of typed definitions does.
use Rattle.std.specs.Prelude.{ℕ, ◌+◌, ◌*◌, ◌<◌, ◌≤◌, ◌≡◌, Bool, true, false, List, [], ◌∷◌, ◌++◌, length, slice_index, Option, Some, None}
use Rattle.word_table.specs.declared.word.Word.{Word}
use Rattle.word_table.specs.Table.{entry_of}
use Rattle.forth_program.specs.State.{Work, Frame, World, State, End, Outcome, Goes, Ends}
use Rattle.forth_program.specs.Program.{SourceProgram, body_of}
use Rattle.forth_program.specs.Step.{First, IsWord, before, first_work}
use Rattle.forth_program.specs.Run.{steps, world_of, end_of, lacks}
use Rattle.forth_program.specs.Price.{spent}
use Rattle.forth_program.specs.Heights.{peak_of}
use Rattle.forth_program.specs.Cells.{AreCells, IsWorld}
use Rattle.j1_simulator.specs.Step.{Stop}
use Rattle.j1_simulator.specs.OpenMachine.{open_storage}
use Rattle.j1_simulator.specs.Run.{run, IsPrefixOf}
use Rattle.word_laws.specs.Rings.{OpenConfiguration, BeforeEach}
use Rattle.word_laws.specs.Bounds.{StaysWithin}
use Rattle.word_laws.specs.Standing.{StandIn, machine_end}
use Rattle.typed_items.specs.Items.{TypedItems, nodes_of, AreTyped, nesting, items_size, typed_cells}
use Rattle.typed_items.specs.Listed.{AreReturnPlaces, KeepsSpace, ListedWords, stands}

-- ---- where code stands

-- these items stand in memory from a place on, behind what the kernel changes while it runs a typed word: their cells, and then the place
-- next
pub record ItemsStand (memory : List ℕ) (token : Word → ℕ) (place : ℕ → ℕ) (definitions at next : ℕ) (items : TypedItems) : Type 0 where
  pub typed : AreTyped definitions items
  pub nested : nesting items ≤ 4
  pub low : 4284 ≤ at
  pub end : next ≡ at + items_size items
  pub high : next < 0x1fff
  pub cells : StandIn memory at (typed_cells token place at items) next

-- a definition of a program stands at a place, as the kernel compiles it
pub record DefinitionStands (memory : List ℕ) (token : Word → ℕ) (place : ℕ → ℕ) (p : SourceProgram) (definition : ℕ) : Type 0 where
  pub items : TypedItems
  pub end : ℕ
  pub are_body : nodes_of items ≡ body_of p definition
  pub stand : ItemsStand memory token place (length p.bodies) (place definition) end items
  pub returns : StandIn memory end (0x700C ∷ []) (end + 1)

-- so all definitions do, in a memory that has this code before data space
pub record TypedCode (code memory : List ℕ) (token : Word → ℕ) (place : ℕ → ℕ) (p : SourceProgram) : Type 0 where
  pub size : length code ≡ 0x1000
  pub listed : ListedWords code token
  pub definitions : (d : ℕ) → d < length p.bodies → DefinitionStands memory token place p d

-- ---- what items mean

-- items begin, on these cells and in this world
abbrev pub items_begin : TypedItems → List ℕ → World → State
items_begin items c w = record { work = before (nodes_of items) []; entries = []; callers = []; cells = c; world = w }

-- and have been done
abbrev pub nothing_left : List Work → List Frame → Bool
nothing_left [] [] = true
nothing_left work callers = false

abbrev pub is_done : State → Bool
is_done s = nothing_left s.work s.callers

-- before none of k word steps they have been done, and in these no cell is lacking
pub record GoesOn (p : SourceProgram) (k : ℕ) (s : State) : Type 0 where
  pub lacks_nothing : lacks (steps p k s) ≡ false
  pub not_done : (j : ℕ) (t : State) → j < k → steps p j s ≡ Goes t → is_done t ≡ false

-- the return cells that a step takes above those of its callers: the call of a listed word takes one, and its routine those of the table
abbrev pub typed_back : First → ℕ
typed_back (IsWord word after) = 1 + (entry_of word).back
typed_back first = 0

-- before each of k word steps there are at most so many data cells and callers, with what the step takes
abbrev pub ItemsFit : SourceProgram → ℕ → ℕ → ℕ → State → Type 0
ItemsFit p high back k s =
    (j : ℕ) (t : State) → j < k → steps p j s ≡ Goes t →
    (length t.cells + peak_of t.callers (first_work t.work) ≤ high) × (length t.callers + typed_back (first_work t.work) ≤ back)

-- ---- what their code does

-- the machine's end for where a run is
abbrev pub stop_of : Outcome → Option Stop
stop_of (Goes s) = None
stop_of (Ends end world) = machine_end end

-- the machine has the end, the data space, the input left and the prints of a run
pub record Shows (code : List ℕ) (w : OpenConfiguration) (o : Outcome) : Type 0 where
  pub stop_is : w.stop ≡ stop_of o
  pub memory : w.core.memory ≡ code ++ (world_of o).space
  pub input : w.input ≡ (world_of o).input
  pub printed : w.printed ≡ (world_of o).printed

-- where the items have been done the machine comes in at most 4 instructions more, jumps of an ELSE with nothing behind it, to a place,
-- over the same return cells, with their cells and their world, in which data space is as it was from byte 8320 on
pub record ComesBehind (code : List ℕ) (next : ℕ) (returns : List (Option ℕ)) (high return_high : ℕ) (from : OpenConfiguration) (w : World)
    (t : State) : Type 0 where
  pub more : ℕ
  pub few : more ≤ 4
  pub data_above : List (Option ℕ)
  pub return_above : List (Option ℕ)
  pub makes : run open_storage 0x2000 more from ≡ stands code next t.cells t.world returns data_above return_above
  pub bounds : BeforeEach (StaysWithin 0 high 0 return_high) 0x2000 more from
  pub cells : AreCells t.cells
  pub world : IsWorld t.world
  pub starts : t.world.data_start ≡ 0x2000
  pub space : KeepsSpace w.space t.world.space

-- the machine does at least what k word steps do
pub record Follows (code : List ℕ) (next : ℕ) (returns : List (Option ℕ)) (p : SourceProgram) (high back k : ℕ) (s : State)
    (from : OpenConfiguration) : Type 0 where
  -- in so many instructions, at most 8 times their price, it comes to show the same; these are k or more, where the steps have not ended
  pub count : ℕ
  pub within_price : count ≤ 8 * spent p 0 k s
  pub far_enough : end_of (steps p k s) ≡ None → k ≤ count
  pub shows : Shows code (run open_storage 0x2000 count from) (steps p k s)
  -- an end is one of the machine
  pub can_end : (end : End) → end_of (steps p k s) ≡ Some end → (stop : Stop) × (machine_end end ≡ Some stop)
  -- and behind the items, where these have been done
  pub behind : (t : State) → steps p k s ≡ Goes t → is_done t ≡ true → length t.cells ≤ high →
      ComesBehind code next returns high (length returns + back) (run open_storage 0x2000 count from) s.world t
  -- before each of them both stacks have no more cells than the steps take
  pub bounds : BeforeEach (StaysWithin 0 high 0 (length returns + back)) 0x2000 count from

-- what n instructions print is a beginning of what n word steps print, and where they have ended these have ended alike
pub record FollowsBack (p : SourceProgram) (n : ℕ) (s : State) (from : OpenConfiguration) : Type 0 where
  pub prints : IsPrefixOf (run open_storage 0x2000 n from).printed (world_of (steps p n s)).printed
  pub ends : (stop : Stop) → (run open_storage 0x2000 n from).stop ≡ Some stop →
      (end : End) × (end_of (steps p n s) ≡ Some end) × (machine_end end ≡ Some stop)

-- items that stand in memory, whatever return entries are below and whatever was left above both pointers
abbrev pub ItemsDoTheirMeaning : Type 0
ItemsDoTheirMeaning =
    (code : List ℕ) (token : Word → ℕ) (place : ℕ → ℕ) (p : SourceProgram) (items : TypedItems) (c : List ℕ) (w : World)
    (at next high back k : ℕ) (returns data_above return_above : List (Option ℕ)) →
    TypedCode code (code ++ w.space) token place p → ItemsStand (code ++ w.space) token place (length p.bodies) at next items →
    AreReturnPlaces returns → AreCells c → IsWorld w → w.data_start ≡ 0x2000 → GoesOn p k (items_begin items c w) →
    ItemsFit p high back k (items_begin items c w) →
    Follows code next returns p high back k (items_begin items c w) (stands code at c w returns data_above return_above)

abbrev pub ItemsDoNoMore : Type 0
ItemsDoNoMore =
    (code : List ℕ) (token : Word → ℕ) (place : ℕ → ℕ) (p : SourceProgram) (items : TypedItems) (c : List ℕ) (w : World) (at next n : ℕ)
    (returns data_above return_above : List (Option ℕ)) →
    TypedCode code (code ++ w.space) token place p → ItemsStand (code ++ w.space) token place (length p.bodies) at next items →
    AreReturnPlaces returns → AreCells c → IsWorld w → w.data_start ≡ 0x2000 → GoesOn p n (items_begin items c w) →
    FollowsBack p n (items_begin items c w) (stands code at c w returns data_above return_above)

-- where a machine shows what k word steps do, and has made k instructions or more unless they have ended, n instructions do no more than n
-- word steps
abbrev pub ShowsNoMore : Type 0
ShowsNoMore =
    (code : List ℕ) (p : SourceProgram) (k count : ℕ) (s : State) (from : OpenConfiguration) →
    Shows code (run open_storage 0x2000 count from) (steps p k s) → (end_of (steps p k s) ≡ None → k ≤ count) →
    ((end : End) → end_of (steps p k s) ≡ Some end → (stop : Stop) × (machine_end end ≡ Some stop)) → FollowsBack p k s from

-- ---- what keeps typed code

-- a data space of which all is as it was behind RETURN-BASE, from byte 8568 on
pub record KeepsBehind (space after : List ℕ) : Type 0 where
  pub size : length after ≡ length space
  pub same : (i : ℕ) → 188 ≤ i → slice_index after i ≡ slice_index space i

-- there typed code stands as before
abbrev pub TypedCodeIsKept : Type 0
TypedCodeIsKept =
    (code space after : List ℕ) (token : Word → ℕ) (place : ℕ → ℕ) (p : SourceProgram) → length code ≡ 0x1000 → KeepsBehind space after →
    (TypedCode code (code ++ space) token place p → TypedCode code (code ++ after) token place p)
    × ((definitions at next : ℕ) (items : TypedItems) → ItemsStand (code ++ space) token place definitions at next items →
    ItemsStand (code ++ after) token place definitions at next items)
