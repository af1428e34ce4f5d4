-- What host words keep: the stack holds cells, data space stays where it begins and within its end, and no word but a tick adds a token.
use Rattle.std.specs.Prelude.{◌≡◌, ℕ, ◌+◌, ◌-◌, ◌/◌, ◌%◌, ◌<◌, ◌≤◌, true, List, [], ◌∷◌, length}
use Rattle.std.specs.List.{All}
use Rattle.host_state.specs.declared.entry.Ticked.{Ticked}
use Rattle.host_state.specs.declared.word.HostItem.{HostItem}
use Rattle.host_state.specs.HostCells.{Host, Reply, Gives, Refuses, pop, push}
use Rattle.host_state.specs.HostMemory.{is_here_within, checked, first_space}
use Rattle.host_state.specs.Naming.{created, variable, item_done, defined_by, string_laid}
use Rattle.host_state.specs.FirstImage.{image_of}

abbrev pub AreCells : List ℕ → Type 0
AreCells [] = Unit {0}
AreCells (x ∷ xs) = (x < 65536) × AreCells xs

-- a state whose data space begins there, with these execution tokens
pub record IsHost (data_start : ℕ) (tokens : List Ticked) (s : Host) : Type 0 where
  pub stack : AreCells s.stack
  pub fits : length s.space.cells + data_start / 2 ≤ 8192
  pub start : s.space.data_start ≡ data_start
  pub ticked : s.tokens ≡ tokens

-- the same, with HERE within data space
pub record IsSettled (data_start : ℕ) (tokens : List Ticked) (s : Host) : Type 0 where
  pub host : IsHost data_start tokens s
  pub here : is_here_within s.space ≡ true

-- what holds of a value and the state behind it, where a word is not refused
abbrev pub After : {A : Type 0} → (A → Host → Type 0) → Reply A → Type 0
After P (Gives x s) = P x s
After P (Refuses cause) = Unit {0}

-- what host words keep, from a settled state on
pub record HostKeeps (data_start : ℕ) (tokens : List Ticked) (s : Host) : Type 0 where
  -- a cell that is taken is a cell
  pub taken : After (λ x s. IsSettled data_start tokens s × (x < 65536)) (pop s)
  pub put : (x : ℕ) → After (λ _ s. IsSettled data_start tokens s) (push x s)
  pub items : (item : HostItem) → After (λ _ s. IsSettled data_start tokens s) (checked (item_done item s))
  -- addresses are at most 16384, and a text ends there
  pub texts : (text : List ℕ) → After (λ address s. IsSettled data_start tokens s × (address + length text ≤ 16384)) (checked (string_laid text s))
  pub addresses : After (λ address s. IsSettled data_start tokens s × (address ≤ 16384)) (checked (created s))
  pub variables : After (λ address s. IsSettled data_start tokens s × (address ≤ 16384)) (checked (variable s))
  pub children : (items : List HostItem) → After (λ address s. IsSettled data_start tokens s × (address ≤ 16384)) (checked (defined_by items s))

abbrev pub HostWordsKeep : Type 0
HostWordsKeep = (data_start : ℕ) (tokens : List Ticked) (s : Host) → data_start % 2 ≡ 0 → data_start ≤ 16000 → IsSettled data_start tokens s → HostKeeps data_start tokens s

-- the image of a settled state is bytes of data space
abbrev pub ImagesFit : Type 0
ImagesFit =
    (data_start : ℕ) (tokens : List Ticked) (s : Host) → data_start % 2 ≡ 0 → data_start ≤ 16000 → IsSettled data_start tokens s →
    All (λ byte. byte < 256) (image_of s.space) × (length (image_of s.space) ≤ 16384 - data_start)

-- data space at first is settled
abbrev pub SpacesBegin : Type 0
SpacesBegin = (data_start : ℕ) (tokens : List Ticked) (stack : List ℕ) → data_start % 2 ≡ 0 → data_start ≤ 16000 → AreCells stack → IsSettled data_start tokens (record { stack = stack; space = first_space data_start; tokens = tokens })
