-- What the machine code of typed definitions does on the chip, whose stacks are rings.
use Rattle.std.specs.Prelude.{ℕ, ◌+◌, ◌≤◌, ◌≡◌, ◌≢◌, true, List, ◌++◌, length, Option, Some, None}
use Rattle.word_table.specs.declared.word.Word.{Word}
use Rattle.forth_program.specs.State.{World, State, End, Goes}
use Rattle.forth_program.specs.Program.{SourceProgram}
use Rattle.forth_program.specs.Run.{steps, world_of, end_of}
use Rattle.forth_program.specs.Cells.{AreCells, IsWorld}
use Rattle.j1_simulator.specs.Step.{Stop, Missing}
use Rattle.j1_simulator.specs.OpenMachine.{open_storage}
use Rattle.j1_simulator.specs.RoundMachine.{RingCells, round_storage}
use Rattle.j1_simulator.specs.Run.{Configuration, run, IsPrefixOf}
use Rattle.word_laws.specs.Rings.{OpenConfiguration, BeforeEach, Agrees}
use Rattle.word_laws.specs.Bounds.{StaysWithin}
use Rattle.word_laws.specs.Standing.{machine_end}
use Rattle.typed_items.specs.Items.{TypedItems}
use Rattle.typed_items.specs.Listed.{AreReturnPlaces, stands}
use Rattle.typed_items.specs.Laws.{ItemsStand, TypedCode, items_begin, is_done, GoesOn, ItemsFit, Follows, Shows, FollowsBack}

abbrev pub RoundConfiguration : Type 0
RoundConfiguration = Configuration ℕ RingCells

-- where a run needs no unknown cell, and has at most 33 data cells and 32 return cells before each instruction, the chip does the same from
-- where it stands alike
abbrev pub RunsWithinRingsAgree : Type 0
RunsWithinRingsAgree =
    (n high return_high : ℕ) (from : OpenConfiguration) (chip : RoundConfiguration) →
    BeforeEach (StaysWithin 0 high 0 return_high) 0x2000 n from → high ≤ 33 → return_high ≤ 32 →
    (run open_storage 0x2000 n from).stop ≢ Some Missing → Agrees from chip → (m : ℕ) → m ≤ n →
    Agrees (run open_storage 0x2000 m from) (run round_storage 0x2000 m chip)

-- the chip does at least what k word steps do, as the open machine does
pub record FollowsOnChip (code : List ℕ) (next : ℕ) (returns : List (Option ℕ)) (p : SourceProgram) (high back k : ℕ) (s : State)
    (from : OpenConfiguration) (chip : RoundConfiguration) : Type 0 where
  pub follows : Follows code next returns p high back k s from
  pub agrees : (m : ℕ) → m ≤ follows.count → Agrees (run open_storage 0x2000 m from) (run round_storage 0x2000 m chip)
  -- and behind the items too
  pub behind : (t : State) (e : steps p k s ≡ Goes t) (done : is_done t ≡ true) (deep : length t.cells ≤ high) →
      Agrees (stands code next t.cells t.world returns (follows.behind t e done deep).data_above
      (follows.behind t e done deep).return_above)
      (run round_storage 0x2000 (follows.count + (follows.behind t e done deep).more) chip)

-- and no more than n word steps in n instructions
pub record FollowsBackOnChip (p : SourceProgram) (n : ℕ) (s : State) (chip : RoundConfiguration) : Type 0 where
  pub prints : IsPrefixOf (run round_storage 0x2000 n chip).printed (world_of (steps p n s)).printed
  pub ends : (stop : Stop) → (run round_storage 0x2000 n chip).stop ≡ Some stop →
      (end : End) × (end_of (steps p n s) ≡ Some end) × (machine_end end ≡ Some stop)

-- items whose word steps fit beside the return cells below
abbrev pub ItemsDoTheirMeaningOnChip : Type 0
ItemsDoTheirMeaningOnChip =
    (code : List ℕ) (token : Word → ℕ) (place : ℕ → ℕ) (p : SourceProgram) (items : TypedItems) (c : List ℕ) (w : World)
    (at next high back k : ℕ) (returns data_above return_above : List (Option ℕ)) (chip : RoundConfiguration) →
    TypedCode code (code ++ w.space) token place p → ItemsStand (code ++ w.space) token place (length p.bodies) at next items →
    AreReturnPlaces returns → AreCells c → IsWorld w → w.data_start ≡ 0x2000 → GoesOn p k (items_begin items c w) →
    ItemsFit p high back k (items_begin items c w) →
    high ≤ 33 → length returns + back ≤ 32 → Agrees (stands code at c w returns data_above return_above) chip →
    FollowsOnChip code next returns p high back k (items_begin items c w) (stands code at c w returns data_above return_above) chip
    × FollowsBackOnChip p k (items_begin items c w) chip

-- what a machine shows, the chip shows that stands alike up to there, and no more
abbrev pub ShowsNoMoreOnChip : Type 0
ShowsNoMoreOnChip =
    (code : List ℕ) (p : SourceProgram) (k count : ℕ) (s : State) (from : OpenConfiguration) (chip : RoundConfiguration) →
    Shows code (run open_storage 0x2000 count from) (steps p k s) → (end_of (steps p k s) ≡ None → k ≤ count) →
    ((end : End) → end_of (steps p k s) ≡ Some end → (stop : Stop) × (machine_end end ≡ Some stop)) →
    ((m : ℕ) → m ≤ count → Agrees (run open_storage 0x2000 m from) (run round_storage 0x2000 m chip)) → FollowsBack p k s from →
    FollowsBackOnChip p k s chip
