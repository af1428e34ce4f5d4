-- A schedule, entry by entry.
use Rattle.std.proofs.Common.{◌≡◌, ℕ, ◌+◌, ◌-◌, ◌<◌, ◌≤◌, List, ◌∷◌, ◌++◌, length, get_or, set, map, drop, suc, Option, Some, None, sym, ap, ◌∙◌, subst, arith, add-one}
use Rattle.std.specs.Prelude.{slice_index}
use Rattle.std.proofs.lemmas.List.{length-set}
use Rattle.std.proofs.Math.Seq.{drop-cons}
use Rattle.j1_simulator.specs.MachineState.{MachineState}
use Rattle.core_array.specs.declared.turns.Turn.{Turn}
use Rattle.core_array.specs.Network.{Network, event_bytes, list_at}
use Rattle.core_array.specs.Cores.{cores_run, core_stepped, core_event}
use Rattle.core_array.specs.ArrayState.{Kept, kept_items, none_kept, HaveRoom, OneLess, sent_on, SentFits, SentWithin, ArrayState, network_of, IsWhole}
use Rattle.core_array.proofs.SingleSteps.{Follows}
use Rattle.core_array.proofs.KeptLists.{room_less}

-- after i entries of a schedule
pub record RunKeeps (schedule : List ℕ) (i : ℕ) (begun now : ArrayState) : Type 0 where
  pub rest : cores_run begun.links (drop i schedule) (network_of now) ≡ cores_run begun.links schedule (network_of begun)
  pub links : now.links ≡ begun.links
  pub count : length now.cores ≡ length begun.cores
  pub whole : IsWhole now
  pub printed : HaveRoom (length schedule - i) now.printed
  pub histories : HaveRoom (length schedule - i) now.histories

same_network : (c d : List MachineState) (p q m n h g : List (List ℕ)) → c ≡ d → p ≡ q → m ≡ n → h ≡ g →
    (let a : Network MachineState = record { cores = c; printed = p; mailboxes = m; histories = h } in a) ≡
    (let b : Network MachineState = record { cores = d; printed = q; mailboxes = n; histories = g } in b)
same_network c d p q m n h g ec ep em eh = cc

-- the room for one entry more
pub next_room : (schedule : List ℕ) (i : ℕ) (lists : List Kept) → i < length schedule → HaveRoom (length schedule - i) lists → HaveRoom (length schedule - (i + 1) + 1) lists
next_room schedule i lists lt h = let e : length schedule - i ≡ length schedule - (i + 1) + 1 = omega arith in subst (λ n. HaveRoom n lists) e h

pub has_one : (n k : ℕ) (lists : List Kept) → HaveRoom n lists → 0 < n → k < length lists → 0 < (get_or lists k none_kept).room
has_one n k lists h pos lt = let r : n ≤ (get_or lists k none_kept).room = h k lt in omega arith

pub fits : (sent : Option (ℕ × ℕ)) (n : ℕ) (lists : List Kept) → SentWithin sent (length lists) → HaveRoom n lists → 0 < n → SentFits sent lists
fits None n lists w h pos = tt
fits (Some sent) n lists w h pos = (w, has_one n sent.0 lists h pos w)

pub went_on : (schedule : List ℕ) (i core index : ℕ) (begun now new : ArrayState) (turn : Turn) (m : MachineState) (boxes : List (List ℕ)) →
    RunKeeps schedule i begun now → i < length schedule → core ≡ slice_index schedule i → core ≡ index →
    Follows (core_event now.links core (network_of now)) (core_stepped now.links core (network_of now)) (network_of now) index turn m boxes →
    new.links ≡ now.links → new.cores ≡ set now.cores index m → new.mailboxes ≡ boxes → length boxes ≡ length now.mailboxes →
    map kept_items new.printed ≡ set (map kept_items now.printed) index (list_at (map kept_items now.printed) index ++ event_bytes turn.event) → OneLess now.printed new.printed → length new.printed ≡ length now.printed →
    map kept_items new.histories ≡ sent_on turn.sent (map kept_items now.histories) → OneLess now.histories new.histories → length new.histories ≡ length now.histories →
    RunKeeps schedule (i + 1) begun new
went_on schedule i core index begun now new turn m boxes keeps lt is ix f el ec em lm ep op lp eh oh lh =
    let to : Network MachineState = core_stepped now.links core (network_of now) in
    let net : network_of new ≡ to = same_network _ to.cores _ to.printed _ to.mailboxes _ to.histories (ec ∙ f.cores) (ep ∙ f.printed) (em ∙ f.mailboxes) (eh ∙ f.histories) in
    let front : drop i schedule ≡ core ∷ drop (i + 1) schedule = drop-cons schedule i 0 lt ∙ ap (λ c. c ∷ drop (suc i) schedule) (sym is) ∙ ap (λ n. core ∷ drop n schedule) (sym (add-one i)) in
    let lc : length new.cores ≡ length now.cores = ap length ec ∙ length-set now.cores index m in
    record {
      rest =
          ap (cores_run begun.links (drop (i + 1) schedule)) (net ∙ ap (λ l. core_stepped l core (network_of now)) keeps.links) ∙ sym (ap (λ s. cores_run begun.links s (network_of now)) front) ∙ keeps.rest;
      links = el ∙ keeps.links;
      count = lc ∙ keeps.count;
      whole = record {
        printed = lp ∙ keeps.whole.printed ∙ sym lc;
        mailboxes = ap length em ∙ lm ∙ keeps.whole.mailboxes ∙ sym (ap length el);
        histories = lh ∙ keeps.whole.histories ∙ sym (ap length el);
        few_cores = subst (λ n. n < 17) (sym lc) keeps.whole.few_cores;
        few_links = subst (λ n. n < 17) (sym (ap length el)) keeps.whole.few_links;
      };
      printed = room_less (length schedule - (i + 1)) now.printed new.printed lp (next_room schedule i now.printed lt keeps.printed) op;
      histories = room_less (length schedule - (i + 1)) now.histories new.histories lh (next_room schedule i now.histories lt keeps.histories) oh;
    }
