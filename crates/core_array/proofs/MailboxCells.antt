-- What was sent by a link is what was taken and then its mailbox, which holds at most 64 cells.
use Rattle.std.proofs.Common.{◌≡◌, ◌≢◌, ◌⊎◌, ℕ, ◌+◌, ◌<◌, ◌≤◌, Bool, true, false, List, [], ◌∷◌, ◌++◌, length, set, replicate, refl, sym, ap, ◌∙◌, subst, inl, inr, arith, append_assoc, length-append}
use Rattle.std.proofs.lemmas.List.{length-set, get_or-set_same, get_or-set_other, get_or_past, get_or-replicate, length-replicate}
use Rattle.std.proofs.lemmas.Bool.{ltb-true}
use Rattle.core_array.specs.Network.{Action, Alone, Sends, Receives, Network, list_at, has_room, after_send, after_receive, after_action, action_at, after_entry, after_schedule}
use Rattle.core_array.specs.Cores.{no_core, core_action, cores_start}
use Rattle.core_array.specs.Laws.{IsMailbox, KeepsMailboxes}
use Rattle.core_array.proofs.Diamond.{placed, same_or_not}

-- a history and a mailbox for each link
record Holds {S : Type 0} (net : Network S) : Type 0 where
  same : length net.mailboxes ≡ length net.histories
  each : (i : ℕ) → IsMailbox (list_at net.histories i) (list_at net.mailboxes i)

along : (h g b d : List ℕ) → g ≡ h → d ≡ b → IsMailbox h b → IsMailbox g d
along h g b d e f m = subst (λ x. IsMailbox x d) (sym e) (subst (IsMailbox h) (sym f) m)

empty : IsMailbox [] []
empty = let nil : List ℕ = [] in record { few = omega arith; taken = nil; sent = refl }

more : (h b : List ℕ) (c : ℕ) → has_room b ≡ true → IsMailbox h b → IsMailbox (h ++ c ∷ []) (b ++ c ∷ [])
more h b c r m =
    let lt : length b < 64 = ltb-true (length b) 64 r in
    let l : length (b ++ c ∷ []) ≡ length b + 1 = length-append b (c ∷ []) in
    record { few = omega arith; taken = m.taken; sent = ap (λ x. x ++ c ∷ []) m.sent ∙ append_assoc m.taken b (c ∷ []) }

less : (h rest : List ℕ) (c : ℕ) → IsMailbox h (c ∷ rest) → IsMailbox h rest
less h rest c m =
    let f : length (c ∷ rest) ≤ 64 = m.few in
    record { few = omega arith; taken = m.taken ++ c ∷ []; sent = m.sent ∙ sym (append_assoc m.taken (c ∷ []) rest) }

none_past : (lists : List (List ℕ)) (i : ℕ) (x : List ℕ) → length lists ≤ i → list_at (set lists i x) i ≡ []
none_past lists i x p = let nil : List ℕ = [] in get_or_past (set lists i x) i nil (subst (λ n. n ≤ i) (sym (length-set lists i x)) p)

module _ {S : Type 0} where
  sent_here : (net : Network S) (i c : ℕ) → (i < length net.mailboxes) ⊎ (length net.mailboxes ≤ i) → has_room (list_at net.mailboxes i) ≡ true → Holds net →
      IsMailbox (list_at (set net.histories i (list_at net.histories i ++ c ∷ [])) i) (list_at (set net.mailboxes i (list_at net.mailboxes i ++ c ∷ [])) i)
  sent_here net i c (inl p) r h =
      let nil : List ℕ = [] in
      along _ _ _ _ (get_or-set_same net.histories i (list_at net.histories i ++ c ∷ []) nil (subst (λ n. i < n) h.same p)) (get_or-set_same net.mailboxes i
      (list_at net.mailboxes i ++ c ∷ []) nil p) (more (list_at net.histories i) (list_at net.mailboxes i) c r (h.each i))
  sent_here net i c (inr p) r h =
      along _ _ _ _ (none_past net.histories i (list_at net.histories i ++ c ∷ []) (subst (λ n. n ≤ i) h.same p)) (none_past net.mailboxes i (list_at net.mailboxes i ++ c ∷ []) p) empty

  sent_each : (net : Network S) (i c j : ℕ) → (j ≡ i) ⊎ (j ≢ i) → has_room (list_at net.mailboxes i) ≡ true → Holds net →
      IsMailbox (list_at (set net.histories i (list_at net.histories i ++ c ∷ [])) j) (list_at (set net.mailboxes i (list_at net.mailboxes i ++ c ∷ [])) j)
  sent_each net i c j (inl e) r h = subst (λ n. IsMailbox (list_at (set net.histories i (list_at net.histories i ++ c ∷ [])) n) (list_at (set net.mailboxes i (list_at net.mailboxes i ++ c ∷ [])) n))
      (sym e) (sent_here net i c (placed net.mailboxes i) r h)
  sent_each net i c j (inr n) r h =
      let nil : List ℕ = [] in
      along _ _ _ _ (get_or-set_other net.histories i j (list_at net.histories i ++ c ∷ []) nil n) (get_or-set_other net.mailboxes i j (list_at net.mailboxes i ++ c ∷ []) nil n) (h.each j)

  sent_holds : (room : Bool) (k i c : ℕ) (s : S) (net : Network S) → has_room (list_at net.mailboxes i) ≡ room → Holds net → Holds (after_send room k i c s net)
  sent_holds false k i c s net r h = h
  sent_holds true k i c s net r h =
      record {
        same = length-set net.mailboxes i (list_at net.mailboxes i ++ c ∷ []) ∙ h.same ∙ sym (length-set net.histories i (list_at net.histories i ++ c ∷ []));
        each = λ j. sent_each net i c j (same_or_not j i) r h;
      }

  taken_here : (net : Network S) (i c : ℕ) (rest : List ℕ) → (i < length net.mailboxes) ⊎ (length net.mailboxes ≤ i) → list_at net.mailboxes i ≡ c ∷ rest → Holds net →
      IsMailbox (list_at net.histories i) (list_at (set net.mailboxes i rest) i)
  taken_here net i c rest (inl p) e h = let nil : List ℕ = [] in along _ _ _ _ refl (get_or-set_same net.mailboxes i rest nil p) (less (list_at net.histories i) rest c (subst (IsMailbox (list_at net.histories i)) e (h.each i)))
  taken_here net i c rest (inr p) e h = let nil : List ℕ = [] in let z : list_at net.mailboxes i ≡ nil = get_or_past net.mailboxes i nil p in cc

  taken_each : (net : Network S) (i c j : ℕ) (rest : List ℕ) → (j ≡ i) ⊎ (j ≢ i) → list_at net.mailboxes i ≡ c ∷ rest → Holds net → IsMailbox (list_at net.histories j) (list_at (set net.mailboxes i rest) j)
  taken_each net i c j rest (inl e) f h = subst (λ n. IsMailbox (list_at net.histories n) (list_at (set net.mailboxes i rest) n)) (sym e) (taken_here net i c rest (placed net.mailboxes i) f h)
  taken_each net i c j rest (inr n) f h = let nil : List ℕ = [] in along _ _ _ _ refl (get_or-set_other net.mailboxes i j rest nil n) (h.each j)

  taken_holds : (box : List ℕ) (k i : ℕ) (s : ℕ → S) (net : Network S) → list_at net.mailboxes i ≡ box → Holds net → Holds (after_receive box k i s net)
  taken_holds [] k i s net e h = h
  taken_holds (c ∷ rest) k i s net e h = record { same = length-set net.mailboxes i rest ∙ h.same; each = λ j. taken_each net i c j rest (same_or_not j i) e h }

  done_holds : (k : ℕ) (a : Action S) (net : Network S) → Holds net → Holds (after_action k a net)
  done_holds k (Alone s d) net h = record { same = h.same; each = h.each }
  done_holds k (Sends i c s) net h = sent_holds (has_room (list_at net.mailboxes i)) k i c s net refl h
  done_holds k (Receives i s) net h = taken_holds (list_at net.mailboxes i) k i s net refl h

  folded_holds : (idle : S) (action : ℕ → S → Action S) (schedule : List ℕ) (net : Network S) → Holds net → Holds (after_schedule idle action schedule net)
  folded_holds idle action [] net h = h
  folded_holds idle action (k ∷ schedule) net h = folded_holds idle action schedule (after_entry idle action k net) (done_holds k (action_at idle action k net) net h)

abbrev nothing : ℕ → List (List ℕ)
nothing n = replicate n []

nothing_by : (n i : ℕ) → (i < length (nothing n)) ⊎ (length (nothing n) ≤ i) → list_at (nothing n) i ≡ []
nothing_by n i (inl p) = let nil : List ℕ = [] in get_or-replicate n i nil nil (subst (λ m. i < m) (length-replicate n nil) p)
nothing_by n i (inr p) = let nil : List ℕ = [] in get_or_past (nothing n) i nil p

nothing_at : (n i : ℕ) → list_at (nothing n) i ≡ []
nothing_at n i = nothing_by n i (placed (nothing n) i)

pub keeps_mailboxes : KeepsMailboxes
keeps_mailboxes images links schedule i =
    let start : Holds (cores_start images links) = record { same = refl; each = λ j. along _ _ _ _ (nothing_at (length links) j) (nothing_at (length links) j) empty } in
    (folded_holds no_core (core_action links) schedule (cores_start images links) start).each i
