-- A step of one core is the step of the array.
use Rattle.std.proofs.Common.{◌≡◌, ℕ, ◌<◌, Bool, true, false, List, [], ◌∷◌, ◌++◌, length, get_or, set, take, sym, ap, ◌∙◌, subst}
use Rattle.std.proofs.lemmas.List.{set-get_or, append-nil, get_or_default}
use Rattle.std.proofs.Math.Seq.{take-append_seam}
use Rattle.j1_simulator.specs.MachineState.{MachineState}
use Rattle.core_array.specs.declared.events.CoreEvent.{CoreEvent}
use Rattle.core_array.specs.declared.events.CoreEvent.TheVariants.{Blocked}
use Rattle.core_array.specs.declared.links.Link.{Link}
use Rattle.core_array.specs.declared.turns.Turn.{Turn}
use Rattle.core_array.specs.Network.{Action, Alone, Sends, Receives, Network, event_bytes, list_at, has_room, after_send, after_receive, after_action, sent_event, taken_event, action_event}
use Rattle.core_array.specs.Cores.{no_core, core_action, core_stepped, core_event}
use Rattle.core_array.specs.ArrayState.{DoesAction, SendsWhere, ReceivesWhere, IsBlocked, ArrayState, network_of, sent_on}

-- what a turn of core k leaves is this network
pub record Follows (told : CoreEvent) (to net : Network MachineState) (k : ℕ) (turn : Turn) (new : MachineState) (boxes : List (List ℕ)) : Type 0 where
  pub event : turn.event ≡ told
  pub cores : set net.cores k new ≡ to.cores
  pub mailboxes : boxes ≡ to.mailboxes
  pub printed : set net.printed k (list_at net.printed k ++ event_bytes turn.event) ≡ to.printed
  pub histories : sent_on turn.sent net.histories ≡ to.histories

quiet : (lists : List (List ℕ)) (k : ℕ) (event : CoreEvent) → event_bytes event ≡ [] → set lists k (list_at lists k ++ event_bytes event) ≡ lists
quiet lists k event e = let nil : List ℕ = [] in ap (λ b. set lists k (list_at lists k ++ b)) e ∙ ap (set lists k) (append-nil (list_at lists k)) ∙ set-get_or lists k nil

blocked : (net : Network MachineState) (k : ℕ) (turn : Turn) (old new : MachineState) (boxes : List (List ℕ)) → old ≡ get_or net.cores k no_core → IsBlocked turn old new net.mailboxes boxes → Follows Blocked net net k turn new boxes
blocked net k turn old new boxes o b =
    record {
      event = b.event;
      cores = ap (set net.cores k) (b.machine ∙ o) ∙ set-get_or net.cores k no_core;
      mailboxes = b.mailboxes;
      printed = quiet net.printed k turn.event (ap event_bytes b.event);
      histories = ap (λ s. sent_on s net.histories) b.sent;
    }

sends : (room : Bool) (i cell : ℕ) (next : MachineState) (net : Network MachineState) (k : ℕ) (turn : Turn) (old new : MachineState) (boxes : List (List ℕ)) → old ≡ get_or net.cores k no_core →
    SendsWhere room i cell next turn old new net.mailboxes boxes → Follows (sent_event room) (after_send room k i cell next net) net k turn new boxes
sends false i cell next net k turn old new boxes o d = blocked net k turn old new boxes o d
sends true i cell next net k turn old new boxes o d =
    record { event = d.event; cores = ap (set net.cores k) d.machine; mailboxes = d.mailboxes; printed = quiet net.printed k turn.event (ap event_bytes d.event); histories = ap (λ s. sent_on s net.histories) d.sent }

receives : (box : List ℕ) (i : ℕ) (next : ℕ → MachineState) (net : Network MachineState) (k : ℕ) (turn : Turn) (old new : MachineState) (boxes : List (List ℕ)) → old ≡ get_or net.cores k no_core →
    ReceivesWhere box i next turn old new net.mailboxes boxes → Follows (taken_event box) (after_receive box k i next net) net k turn new boxes
receives [] i next net k turn old new boxes o d = blocked net k turn old new boxes o d
receives (cell ∷ rest) i next net k turn old new boxes o d =
    record { event = d.event; cores = ap (set net.cores k) d.machine; mailboxes = d.mailboxes; printed = quiet net.printed k turn.event (ap event_bytes d.event); histories = ap (λ s. sent_on s net.histories) d.sent }

follows : (a : Action MachineState) (net : Network MachineState) (k : ℕ) (turn : Turn) (old new : MachineState) (boxes : List (List ℕ)) → old ≡ get_or net.cores k no_core →
    DoesAction a turn old new net.mailboxes boxes → Follows (action_event a net) (after_action k a net) net k turn new boxes
follows (Alone next event) net k turn old new boxes o d =
    record { event = d.event; cores = ap (set net.cores k) d.machine; mailboxes = d.mailboxes; printed = ap (λ e. set net.printed k (list_at net.printed k ++ event_bytes e)) d.event; histories = ap (λ s. sent_on s net.histories) d.sent }
follows (Sends i cell next) net k turn old new boxes o d = sends (has_room (list_at net.mailboxes i)) i cell next net k turn old new boxes o d
follows (Receives i next) net k turn old new boxes o d = receives (list_at net.mailboxes i) i next net k turn old new boxes o d

any_default : {X : Type 0} (xs : List X) (i : ℕ) (d e : X) → i < length xs → get_or xs i d ≡ get_or xs i e
any_default xs i d e lt = get_or_default xs i d e lt

-- the same by what the code has
pub step_follows : (array now : ArrayState) (core index : ℕ) (links : List Link) (old new : MachineState) (before after : List (List ℕ)) (turn : Turn) → array ≡ now → index ≡ core →
    links ≡ array.links → before ≡ array.mailboxes → core < length now.cores → old ≡ get_or array.cores index old → DoesAction (core_action links core old) turn old new before after →
    Follows (core_event now.links core (network_of now)) (core_stepped now.links core (network_of now)) (network_of array) index turn new after
step_follows array now core index links old new before after turn same i l b lt o d =
    let within : index < length array.cores = subst (λ n. n < length array.cores) (sym i) (subst (λ a. core < length a.cores) (sym same) lt) in
    let is : old ≡ get_or array.cores index no_core = o ∙ any_default array.cores index old no_core within in
    let does : DoesAction (core_action array.links index old) turn old new array.mailboxes after = subst (λ m. DoesAction (core_action array.links m old) turn old new array.mailboxes after) (sym i)
    (subst (λ m. DoesAction (core_action array.links core old) turn old new m after) b (subst (λ m. DoesAction (core_action m core old) turn old new before after) l d)) in
    let does' : DoesAction (core_action array.links index (get_or array.cores index no_core)) turn old new array.mailboxes after = subst (λ m. DoesAction (core_action array.links index m) turn old new array.mailboxes after) is does in
    let f = follows (core_action array.links index (get_or array.cores index no_core)) (network_of array) index turn old new after is does' in
    let g : Follows (core_event array.links core (network_of array)) (core_stepped array.links core (network_of array)) (network_of array) index turn new after = subst (λ m. Follows
    (core_event array.links m (network_of array)) (core_stepped array.links m (network_of array)) (network_of array) index turn new after) i f in
    subst (λ a. Follows (core_event a.links core (network_of a)) (core_stepped a.links core (network_of a)) (network_of array) index turn new after) same g

pub whole : {X : Type 0} (n : ℕ) (xs ys : List X) → length xs ≡ n → take n (xs ++ ys) ≡ xs
whole n xs ys e = ap (λ m. take m (xs ++ ys)) (sym e) ∙ take-append_seam xs ys
