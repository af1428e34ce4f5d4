-- What is asked of the code behind the execution tokens of listed words.
use Rattle.std.specs.Prelude.{ℕ, ◌+◌, ◌/◌, ◌%◌, ◌<◌, ◌≤◌, ◌≡◌, true, List, [], ◌∷◌, length, slice_index, Option, Some}
use Rattle.word_table.specs.declared.word.Word.{Word}
use Rattle.word_table.specs.Table.{entry_of}
use Rattle.forth_program.specs.State.{Entry, World, State, Gives}
use Rattle.forth_program.specs.Meaning.{meaning}
use Rattle.forth_program.specs.Step.{on_cells}
use Rattle.forth_program.specs.Price.{word_price}
use Rattle.forth_program.specs.Cells.{AreCells, AreEntries, IsWorld}
use Rattle.j1_simulator.specs.OpenMachine.{open_storage}
use Rattle.j1_simulator.specs.Run.{run}
use Rattle.word_laws.specs.Rings.{OpenConfiguration, BeforeEach}
use Rattle.word_laws.specs.Bounds.{StaysWithin}
use Rattle.word_laws.specs.Standing.{return_places, standing_at_depths, machine_at, HasCome}
use Rattle.typed_items.specs.Items.{is_listed}

-- the place of an address
abbrev pub place_of : ℕ → ℕ
place_of address = address / 2 % 0x2000

-- the open machine with this code before data space, at a place with these data cells, in a world, over these return cells
abbrev pub stands : List ℕ → ℕ → List ℕ → World → List (Option ℕ) → List (Option ℕ) → List (Option ℕ) → OpenConfiguration
stands code at c w returns data_above return_above = standing_at_depths (machine_at code at returns data_above return_above) c w

-- the places of return entries, over the address behind the call of MAIN, as a run of the kernel has them
abbrev pub AreReturnPlaces : List (Option ℕ) → Type 0
AreReturnPlaces returns = (entries : List Entry) × AreEntries entries × (returns ≡ return_places entries (Some 2 ∷ []))

-- nothing is left to do but these cells and this world
abbrev pub word_is_done : List ℕ → World → State
word_is_done c w = record { work = []; entries = []; callers = []; cells = c; world = w }

-- from a place the machine does a word and returns, or ends as the word ends, within the word's price and 2 instructions more, one for the
-- jump of the token and one for the return; within the peak and the back that the table has for the word
pub record DoesWord (code : List ℕ) (word : Word) (address : ℕ) (c : List ℕ) (w : World) (returns : List (Option ℕ))
    (from : OpenConfiguration) : Type 0 where
  pub count : ℕ
  pub cheap : count ≤ word_price word c w + 2
  pub comes : HasCome code (place_of address) returns (run open_storage 0x2000 count from) (on_cells (meaning word c w) (word_is_done c w))
  pub bounds : BeforeEach (StaysWithin 0 (length c + (entry_of word).peak) 0 (length returns + 1 + (entry_of word).back)) 0x2000 count from

-- a data space of which all is as it was from byte 8320 on
pub record KeepsSpace (space after : List ℕ) : Type 0 where
  pub size : length after ≡ length space
  pub same : (i : ℕ) → 64 ≤ i → slice_index after i ≡ slice_index space i

-- what a word leaves
pub record LeavesAll (w : World) (c' : List ℕ) (w' : World) : Type 0 where
  pub cells : AreCells c'
  pub world : IsWorld w'
  pub starts : w'.data_start ≡ w.data_start
  pub space : KeepsSpace w.space w'.space

-- each listed word leaves cells and a world, and does not change data space from byte 8320 on
abbrev pub ListedWordsLeave : Type 0
ListedWordsLeave =
    (word : Word) (c c' : List ℕ) (w w' : World) → is_listed word ≡ true → AreCells c → IsWorld w → w.data_start ≡ 0x2000 →
    meaning word c w ≡ Gives c' w' → LeavesAll w c' w'

-- the code at the place of each listed word's execution token does the word, in each world, whatever was left above both pointers; and no
-- such word changes data space from byte 8320 on
pub record ListedWords (code : List ℕ) (token : Word → ℕ) : Type 0 where
  pub in_memory : (word : Word) → is_listed word ≡ true → token word < 0x2000
  pub does : (word : Word) (address : ℕ) (c : List ℕ) (w : World) (returns data_above return_above : List (Option ℕ)) →
      is_listed word ≡ true →
      address < 0x10000 → AreReturnPlaces returns → (entry_of word).need ≤ length c → AreCells c → IsWorld w → w.data_start ≡ 0x2000 →
      DoesWord code word address c w returns (stands code (token word) c w (Some address ∷ returns) data_above return_above)
  pub leaves : ListedWordsLeave
