-- Cores that send each other cells by links, each with a mailbox of 64 cells, one step at a time.
use Rattle.std.specs.Prelude.{ℕ, ◌≡◌, Bool, true, false, nat_lt, List, [], ◌∷◌, ◌++◌, length, get_or, set}
use Rattle.core_array.specs.declared.events.CoreEvent.{CoreEvent}
use Rattle.core_array.specs.declared.events.CoreEvent.TheVariants.{Went, Printed, Blocked, Ended}

-- what a core does next: a step of its own, or it sends a cell by a link, or it takes the oldest cell of a link
pub data Action (S : Type 0) : Type 0 where
  Alone : S → CoreEvent → Action S
  Sends : ℕ → ℕ → S → Action S
  Receives : ℕ → (ℕ → S) → Action S

-- the cores, what each printed, the cells that wait at each link, and all cells that were sent by it
pub record Network (S : Type 0) : Type 0 where
  pub cores : List S
  pub printed : List (List ℕ)
  pub mailboxes : List (List ℕ)
  pub histories : List (List ℕ)

-- the bytes that an event tells
abbrev pub event_bytes : CoreEvent → List ℕ
event_bytes (Printed byte) = byte ∷ []
event_bytes Went = []
event_bytes Blocked = []
event_bytes (Ended end) = []

-- a list of a list of lists, empty where there is none
abbrev pub list_at : List (List ℕ) → ℕ → List ℕ
list_at lists i = get_or lists i []

-- a mailbox has room
abbrev pub has_room : List ℕ → Bool
has_room mailbox = nat_lt (length mailbox) 64

-- what a core answers that sends or takes: Blocked where the mailbox that it sends to is full, or the one that it takes from is empty
abbrev pub sent_event : Bool → CoreEvent
sent_event true = Went
sent_event false = Blocked

abbrev pub taken_event : List ℕ → CoreEvent
taken_event [] = Blocked
taken_event (cell ∷ rest) = Went

module _ {S : Type 0} where
  -- core k has made a step of its own
  abbrev pub after_own : ℕ → S → CoreEvent → Network S → Network S
  after_own k next event net =
      record net { cores = set net.cores k next; printed = set net.printed k (list_at net.printed k ++ event_bytes event) }

  -- core k sends a cell by link i, where there is room
  abbrev pub after_send : Bool → ℕ → ℕ → ℕ → S → Network S → Network S
  after_send false k i cell next net = net
  after_send true k i cell next net =
      record net {
        cores = set net.cores k next;
        mailboxes = set net.mailboxes i (list_at net.mailboxes i ++ cell ∷ []);
        histories = set net.histories i (list_at net.histories i ++ cell ∷ []);
      }

  -- core k takes the oldest cell of link i, where there is one
  abbrev pub after_receive : List ℕ → ℕ → ℕ → (ℕ → S) → Network S → Network S
  after_receive [] k i next net = net
  after_receive (cell ∷ rest) k i next net = record net { cores = set net.cores k (next cell); mailboxes = set net.mailboxes i rest }

  -- core k does this
  abbrev pub after_action : ℕ → Action S → Network S → Network S
  after_action k (Alone next event) net = after_own k next event net
  after_action k (Sends i cell next) net = after_send (has_room (list_at net.mailboxes i)) k i cell next net
  after_action k (Receives i next) net = after_receive (list_at net.mailboxes i) k i next net

  -- what it answers
  abbrev pub action_event : Action S → Network S → CoreEvent
  action_event (Alone next event) net = event
  action_event (Sends i cell next) net = sent_event (has_room (list_at net.mailboxes i))
  action_event (Receives i next) net = taken_event (list_at net.mailboxes i)

  module _ (idle : S) (action : ℕ → S → Action S) where
    -- the next action of core k
    abbrev pub action_at : ℕ → Network S → Action S
    action_at k net = action k (get_or net.cores k idle)

    -- one entry of a schedule
    abbrev pub after_entry : ℕ → Network S → Network S
    after_entry k net = after_action k (action_at k net) net

    -- a schedule
    abbrev pub after_schedule : List ℕ → Network S → Network S
    after_schedule [] net = net
    after_schedule (k ∷ schedule) net = after_schedule schedule (after_entry k net)

-- each link has one core that sends by it, and one that takes from it
pub record OneWriterOneReader {S : Type 0} (action : ℕ → S → Action S) : Type 0 where
  pub writer : (j k i c d : ℕ) (s t n m : S) → action j s ≡ Sends i c n → action k t ≡ Sends i d m → j ≡ k
  pub reader : (j k i : ℕ) (s t : S) (n m : ℕ → S) → action j s ≡ Receives i n → action k t ≡ Receives i m → j ≡ k
