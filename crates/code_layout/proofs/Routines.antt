-- Code that does what a library word does: from a place to a return, over any return places.
use Rattle.std.proofs.Common.{◌≡◌, ℕ, zero, suc, ◌+◌, ◌-◌, ◌*◌, ◌≤◌, List, [], ◌∷◌, length, Option, Some}
use Rattle.j1_table.specs.Instruction.{decoded}
use Rattle.j1_simulator.specs.Step.{Stop}
use Rattle.j1_simulator.specs.OpenMachine.{open_storage}
use Rattle.j1_simulator.specs.Run.{run}
use Rattle.word_table.specs.declared.word.Word.{Word}
use Rattle.word_table.specs.Table.{entry_of}
use Rattle.forth_program.specs.State.{Entry, World, Reply, Gives, Stops, ◌▸◌, End, Halted, Underflow, Unbalanced, Left}
use Rattle.forth_program.specs.ByteWords.{type_out}
use Rattle.forth_program.specs.Meaning.{meaning}
use Rattle.code_layout.specs.Library.{routine_price}
use Rattle.word_laws.specs.Rings.{OpenConfiguration, BeforeEach}
use Rattle.word_laws.specs.Bounds.{StaysWithin}
use Rattle.forth_program.specs.Cells.{AreCells, AreEntries, IsWorld}
use Rattle.word_laws.specs.Control.{HoldsInstruction}
use Rattle.word_laws.specs.Standing.{return_places, standing_at_depths, machine_end, EndedIn, machine_at}
use Rattle.code_layout.specs.Numbering.{library_number}
use Rattle.code_layout.proofs.Machine.{Runs}

-- the return places of a routine: these entries, over the address behind the call of MAIN
abbrev pub places_below : List Entry → List (Option ℕ)
places_below es = return_places es (Some 2 ∷ [])

-- what ABORT" does
abbrev pub abort_reply : ℕ → ℕ → ℕ → List ℕ → World → Reply (List ℕ)
abort_reply u a zero c w = Gives c w
abort_reply u a (suc n) c w = type_out u a w ▸ λ _. Stops (Halted 2)

-- with its call and its return
abbrev pub abort_price : ℕ → ℕ → ℕ
abort_price u zero = 38
abort_price u (suc n) = 38 + 80 * u

module _ (data_start : ℕ) (code : List ℕ) where
  -- the machine comes to a return, with these cells and this world, and the return places as before
  pub record Returned (v : OpenConfiguration) (price high return_high : ℕ) (es : List Entry) (c : List ℕ) (world : World) : Type 0 where
    pub count : ℕ
    pub to : ℕ
    pub above : List (Option ℕ)
    pub above' : List (Option ℕ)
    pub runs : Runs data_start high return_high count v (standing_at_depths (machine_at code to (places_below es) above above') c world)
    pub returns : HoldsInstruction code to (decoded 0x700C)
    -- with its call and its return
    pub cheap : count + 2 ≤ price
    pub few : length c ≤ high
    pub cells : AreCells c
    pub world_is : IsWorld world
    pub starts : world.data_start ≡ data_start

  -- the machine ends
  pub record Stopped (v : OpenConfiguration) (price high return_high : ℕ) (end : End) (world : World) : Type 0 where
    pub count : ℕ
    pub stop : Stop
    pub stop_is : machine_end end ≡ Some stop
    pub ended : EndedIn (run open_storage data_start count v) code stop world
    pub bounds : BeforeEach (StaysWithin 0 high 0 return_high) data_start count v
    pub at_end : StaysWithin 0 high 0 return_high (run open_storage data_start count v)
    pub cheap : count + 2 ≤ price + 3

  -- unless cells are lacking, or GO leads away
  abbrev pub Answers : OpenConfiguration → ℕ → ℕ → ℕ → List Entry → Reply (List ℕ) → Type 0
  Answers v price high return_high es (Gives c world) = Returned v price high return_high es c world
  Answers v price high return_high es (Stops Underflow world) = Unit {0}
  Answers v price high return_high es (Stops Unbalanced world) = Unit {0}
  Answers v price high return_high es (Stops (Left address) world) = Unit {0}
  Answers v price high return_high es (Stops end world) = Stopped v price high return_high end world

  -- the code at a place does what a library word does
  pub record IsRoutine (word : Word) (at : ℕ) : Type 0 where
    pub number : ℕ
    pub is_library : library_number word ≡ Some number
    pub does : (es : List Entry) (c : List ℕ) (data_above return_above : List (Option ℕ)) (w : World) → AreEntries es → AreCells c → IsWorld w → w.data_start ≡ data_start →
        Answers (standing_at_depths (machine_at code at (places_below es) data_above return_above) c w) (routine_price word c w) (length c + (entry_of word).peak) (length (places_below es) + (entry_of word).back - 1) es (meaning word c w)

  -- the code at a place does what ABORT" does with a flag, an address and a length
  pub record IsAborter (at : ℕ) : Type 0 where
    pub does : (es : List Entry) (u a flag : ℕ) (c : List ℕ) (data_above return_above : List (Option ℕ)) (w : World) → AreEntries es → AreCells (u ∷ a ∷ flag ∷ c) → IsWorld w → w.data_start ≡ data_start →
        Answers (standing_at_depths (machine_at code at (places_below es) data_above return_above) (u ∷ a ∷ flag ∷ c) w) (abort_price u flag) (length (u ∷ a ∷ flag ∷ c) + 9) (length (places_below es) + 8 - 1) es (abort_reply u a flag c w)
