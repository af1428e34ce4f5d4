-- What one core does in a step, and what an array keeps of it.
use Rattle.std.specs.Prelude.{ℕ, ◌≡◌, ◌<◌, ◌≤◌, ◌+◌, Bool, true, false, List, [], ◌∷◌, ◌++◌, length, get_or, set, map, Option, Some, None}
use Rattle.j1_simulator.specs.MachineState.{MachineState}
use Rattle.core_array.specs.declared.events.CoreEvent.{CoreEvent}
use Rattle.core_array.specs.declared.events.CoreEvent.TheVariants.{Went, Blocked}
use Rattle.core_array.specs.declared.links.Link.{Link}
use Rattle.core_array.specs.declared.turns.Turn.{Turn}
use Rattle.core_array.specs.Network.{Action, Alone, Sends, Receives, Network, list_at, has_room}

-- a core was blocked
pub record IsBlocked (turn : Turn) (old new : MachineState) (before after : List (List ℕ)) : Type 0 where
  pub event : turn.event ≡ Blocked
  pub sent : turn.sent ≡ None
  pub machine : new ≡ old
  pub mailboxes : after ≡ before

-- a core went on so, and this is what it sent
pub record TurnIs (next : MachineState) (told : CoreEvent) (cell : Option (ℕ × ℕ)) (boxes : List (List ℕ)) (turn : Turn) (new : MachineState) (after : List (List ℕ)) : Type 0 where
  pub event : turn.event ≡ told
  pub sent : turn.sent ≡ cell
  pub machine : new ≡ next
  pub mailboxes : after ≡ boxes

abbrev pub SendsWhere : Bool → ℕ → ℕ → MachineState → Turn → MachineState → MachineState → List (List ℕ) → List (List ℕ) → Type 0
SendsWhere true i cell next turn old new before after = TurnIs next Went (Some (i, cell)) (set before i (list_at before i ++ cell ∷ [])) turn new after
SendsWhere false i cell next turn old new before after = IsBlocked turn old new before after

abbrev pub ReceivesWhere : List ℕ → ℕ → (ℕ → MachineState) → Turn → MachineState → MachineState → List (List ℕ) → List (List ℕ) → Type 0
ReceivesWhere [] i next turn old new before after = IsBlocked turn old new before after
ReceivesWhere (cell ∷ rest) i next turn old new before after = TurnIs (next cell) Went None (set before i rest) turn new after

-- one core did this, and left the mailboxes so
abbrev pub DoesAction : Action MachineState → Turn → MachineState → MachineState → List (List ℕ) → List (List ℕ) → Type 0
DoesAction (Alone next event) turn old new before after = TurnIs next event None before turn new after
DoesAction (Sends i cell next) turn old new before after = SendsWhere (has_room (list_at before i)) i cell next turn old new before after
DoesAction (Receives i next) turn old new before after = ReceivesWhere (list_at before i) i next turn old new before after

-- a list that is kept, and the room for more before its memory grows
pub record Kept : Type 0 where
  pub items : List ℕ
  pub room : ℕ

-- an array as contracts see it
pub record ArrayState : Type 0 where
  pub links : List Link
  pub cores : List MachineState
  pub mailboxes : List (List ℕ)
  pub printed : List Kept
  pub histories : List Kept

abbrev pub kept_items : Kept → List ℕ
kept_items kept = kept.items

-- the cores of an array, with what they printed and sent
abbrev pub network_of : ArrayState → Network MachineState
network_of array = record { cores = array.cores; printed = map kept_items array.printed; mailboxes = array.mailboxes; histories = map kept_items array.histories }

-- the parts of an array belong together
pub record IsWhole (array : ArrayState) : Type 0 where
  pub printed : length array.printed ≡ length array.cores
  pub mailboxes : length array.mailboxes ≡ length array.links
  pub histories : length array.histories ≡ length array.links
  pub few_cores : length array.cores < 17
  pub few_links : length array.links < 17

-- nothing kept
abbrev pub none_kept : Kept
none_kept = record { items = []; room = 0 }

-- each list has room for n more
abbrev pub HaveRoom : ℕ → List Kept → Type 0
HaveRoom n lists = (k : ℕ) → k < length lists → n ≤ (get_or lists k none_kept).room

-- each list has at most one place less
abbrev pub OneLess : List Kept → List Kept → Type 0
OneLess before after = (k : ℕ) → k < length before → (get_or before k none_kept).room ≤ (get_or after k none_kept).room + 1

-- the histories after a cell that may have been sent
abbrev pub sent_on : Option (ℕ × ℕ) → List (List ℕ) → List (List ℕ)
sent_on None histories = histories
sent_on (Some sent) histories = set histories sent.0 (list_at histories sent.0 ++ sent.1 ∷ [])

-- what was sent has a history with room
abbrev pub SentFits : Option (ℕ × ℕ) → List Kept → Type 0
SentFits None histories = Unit {0}
SentFits (Some sent) histories = (sent.0 < length histories) × (0 < (get_or histories sent.0 none_kept).room)

-- a cell was sent by one of n links
abbrev pub SentWithin : Option (ℕ × ℕ) → ℕ → Type 0
SentWithin None n = Unit {0}
SentWithin (Some sent) n = sent.0 < n
