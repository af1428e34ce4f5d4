-- Any two schedules can be gone on with to the same network, so what each has sent and printed begins one list.
use Rattle.std.proofs.Common.{◌≡◌, ◌≢◌, ◌⊎◌, ℕ, ◌<◌, ◌≤◌, Bool, true, false, List, [], ◌∷◌, ◌++◌, length, set, refl, sym, ap, ◌∙◌, subst, inl, inr, append_assoc}
use Rattle.std.proofs.lemmas.List.{append-nil, get_or-set_same, get_or-set_other, get_or_past}
use Rattle.j1_simulator.specs.Run.{IsPrefixOf}
use Rattle.core_array.specs.Network.{Action, Alone, Sends, Receives, Network, event_bytes, list_at, has_room, after_send, after_receive, after_action, action_at, after_entry, after_schedule, OneWriterOneReader}
use Rattle.core_array.specs.Laws.{OneBegins, SchedulesAgree}
use Rattle.core_array.proofs.Diamond.{apart_sym, placed, same_or_not, Commutes, Apart, commute, kept}

prefix_refl : (xs : List ℕ) → IsPrefixOf xs xs
prefix_refl xs = ([], append-nil xs)

prefix_then : (xs ys zs : List ℕ) → IsPrefixOf xs ys → IsPrefixOf ys zs → IsPrefixOf xs zs
prefix_then xs ys zs a b = (a.0 ++ b.0, sym (append_assoc xs a.0 b.0) ∙ ap (λ l. l ++ b.0) a.1 ∙ b.1)

prefix_along : (xs ys zs : List ℕ) → IsPrefixOf xs ys → zs ≡ ys → IsPrefixOf xs zs
prefix_along xs ys zs p e = subst (IsPrefixOf xs) (sym e) p

longer : (x y : ℕ) (xs ys : List ℕ) → x ≡ y → OneBegins xs ys → OneBegins (x ∷ xs) (y ∷ ys)
longer x y xs ys e (inl p) = inl (p.0, ap (λ z. z ∷ (xs ++ p.0)) e ∙ ap (λ l. y ∷ l) p.1)
longer x y xs ys e (inr p) = inr (p.0, ap (λ z. z ∷ (ys ++ p.0)) (sym e) ∙ ap (λ l. x ∷ l) p.1)

-- of two beginnings of one list, one begins the other
both_begin : (xs ys zs r s : List ℕ) → xs ++ r ≡ zs → ys ++ s ≡ zs → OneBegins xs ys
both_begin [] ys zs r s e f = inl (ys, refl)
both_begin (x ∷ xs) [] zs r s e f = inr (x ∷ xs, refl)
both_begin (x ∷ xs) (y ∷ ys) [] r s e f = cc
both_begin (x ∷ xs) (y ∷ ys) (z ∷ zs) r s e f =
    let ex : xs ++ r ≡ zs = cc in
    let fy : ys ++ s ≡ zs = cc in
    let xy : x ≡ y = cc in
    longer x y xs ys xy (both_begin xs ys zs r s ex fy)

-- a list of lists whose list at one place grows
grown_same : (lists : List (List ℕ)) (i : ℕ) (x : List ℕ) → (i < length lists) ⊎ (length lists ≤ i) → IsPrefixOf (list_at lists i) (list_at (set lists i (list_at lists i ++ x)) i)
grown_same lists i x (inl p) = let nil : List ℕ = [] in prefix_along _ (list_at lists i ++ x) _ (x, refl) (get_or-set_same lists i (list_at lists i ++ x) nil p)
grown_same lists i x (inr p) = let nil : List ℕ = [] in subst (λ l. IsPrefixOf l (list_at (set lists i (list_at lists i ++ x)) i)) (sym (get_or_past lists i nil p)) (list_at (set lists i (list_at lists i ++ x)) i, refl)

grown_by : (lists : List (List ℕ)) (h i : ℕ) (x : List ℕ) → (i ≡ h) ⊎ (i ≢ h) → IsPrefixOf (list_at lists i) (list_at (set lists h (list_at lists h ++ x)) i)
grown_by lists h i x (inl e) = subst (λ g. IsPrefixOf (list_at lists i) (list_at (set lists g (list_at lists g ++ x)) i)) e (grown_same lists i x (placed lists i))
grown_by lists h i x (inr n) = let nil : List ℕ = [] in prefix_along _ (list_at lists i) _ (prefix_refl (list_at lists i)) (get_or-set_other lists h i (list_at lists h ++ x) nil n)

grown : (lists : List (List ℕ)) (h i : ℕ) (x : List ℕ) → IsPrefixOf (list_at lists i) (list_at (set lists h (list_at lists h ++ x)) i)
grown lists h i x = grown_by lists h i x (same_or_not i h)

-- what was sent by each link and printed by each core begins what is later
pub record Grows {S : Type 0} (before after : Network S) : Type 0 where
  pub histories : (i : ℕ) → IsPrefixOf (list_at before.histories i) (list_at after.histories i)
  pub printed : (k : ℕ) → IsPrefixOf (list_at before.printed k) (list_at after.printed k)

module _ {S : Type 0} where
  grows_refl : (net : Network S) → Grows net net
  grows_refl net = record { histories = λ i. prefix_refl (list_at net.histories i); printed = λ k. prefix_refl (list_at net.printed k) }

  grows_then : (a b c : Network S) → Grows a b → Grows b c → Grows a c
  grows_then a b c p q = record { histories = λ i. prefix_then _ _ _ (p.histories i) (q.histories i); printed = λ k. prefix_then _ _ _ (p.printed k) (q.printed k) }

  sent_grows : (room : Bool) (k h c : ℕ) (s : S) (net : Network S) → Grows net (after_send room k h c s net)
  sent_grows false k h c s net = grows_refl net
  sent_grows true k h c s net = record { histories = λ i. grown net.histories h i (c ∷ []); printed = λ i. prefix_refl (list_at net.printed i) }

  taken_grows : (box : List ℕ) (k h : ℕ) (s : ℕ → S) (net : Network S) → Grows net (after_receive box k h s net)
  taken_grows [] k h s net = grows_refl net
  taken_grows (c ∷ rest) k h s net = record { histories = λ i. prefix_refl (list_at net.histories i); printed = λ i. prefix_refl (list_at net.printed i) }

  done_grows : (k : ℕ) (a : Action S) (net : Network S) → Grows net (after_action k a net)
  done_grows k (Alone s d) net = record { histories = λ i. prefix_refl (list_at net.histories i); printed = λ i. grown net.printed k i (event_bytes d) }
  done_grows k (Sends i c s) net = sent_grows (has_room (list_at net.mailboxes i)) k i c s net
  done_grows k (Receives i s) net = taken_grows (list_at net.mailboxes i) k i s net

  module _ (idle : S) (action : ℕ → S → Action S) where
    folded_grows : (schedule : List ℕ) (net : Network S) → Grows net (after_schedule idle action schedule net)
    folded_grows [] net = grows_refl net
    folded_grows (k ∷ schedule) net = grows_then _ _ _ (done_grows k (action_at idle action k net) net) (folded_grows schedule (after_entry idle action k net))

    pub folded_append : (a b : List ℕ) (net : Network S) → after_schedule idle action (a ++ b) net ≡ after_schedule idle action b (after_schedule idle action a net)
    folded_append [] b net = refl
    folded_append (k ∷ a) b net = folded_append a b (after_entry idle action k net)

    apart : OneWriterOneReader action → (j k : ℕ) (s t : S) (a b : Action S) → j ≢ k → action j s ≡ a → action k t ≡ b → Apart a b
    apart owned j k s t (Sends i c u) (Sends h d v) n e f = λ same. n (owned.writer j k h c d s t u v (e ∙ ap (λ x. Sends x c u) same) f)
    apart owned j k s t (Receives i u) (Receives h v) n e f = λ same. n (owned.reader j k h s t u v (e ∙ ap (λ x. Receives x u) same) f)
    apart owned j k s t (Alone u c) b n e f = tt
    apart owned j k s t (Sends i c u) (Alone v d) n e f = tt
    apart owned j k s t (Sends i c u) (Receives h v) n e f = tt
    apart owned j k s t (Receives i u) (Alone v d) n e f = tt
    apart owned j k s t (Receives i u) (Sends h d v) n e f = tt

    -- a step of j, or that and one of k, is where a step of k can be gone on from
    record Joins (j k : ℕ) (net : Network S) : Type 0 where
      more : List ℕ
      same : (after_entry idle action j net ≡ after_schedule idle action more (after_entry idle action k net)) ⊎ (after_entry idle action k (after_entry idle action j net) ≡ after_schedule idle action more (after_entry idle action k net))

    joins_apart : (j k : ℕ) (net : Network S) → j ≢ k → Commutes j (action_at idle action j net) k (action_at idle action k net) net → Joins j k net
    joins_apart j k net n (inl e) = record { more = []; same = inr (ap (after_entry idle action k) e) }
    joins_apart j k net n (inr (inl e)) = record { more = j ∷ []; same = inl (sym (ap (after_entry idle action j) e)) }
    joins_apart j k net n (inr (inr e)) =
        let a = action_at idle action j net in
        let b = action_at idle action k net in
        let kb : action_at idle action k (after_action j a net) ≡ b = ap (action k) (kept idle j k a net (apart_sym j k n)) in
        let ja : action_at idle action j (after_action k b net) ≡ a = ap (action j) (kept idle k j b net n) in
        record { more = j ∷ []; same = inr (ap (λ x. after_action k x (after_action j a net)) kb ∙ e ∙ sym (ap (λ x. after_action j x (after_action k b net)) ja)) }

    joins_by : OneWriterOneReader action → (j k : ℕ) (net : Network S) → (j ≡ k) ⊎ (j ≢ k) → Joins j k net
    joins_by owned j k net (inl e) = record { more = []; same = inl (ap (λ x. after_entry idle action x net) e) }
    joins_by owned j k net (inr n) = joins_apart j k net n (commute j k _ _ net n (apart owned j k _ _ _ _ n refl refl))

    -- two networks can be gone on with to the same one
    record Meets (one other : Network S) : Type 0 where
      of_one : List ℕ
      of_other : List ℕ
      same : after_schedule idle action of_one one ≡ after_schedule idle action of_other other

    strip_by : (j k : ℕ) (schedule more : List ℕ) (net : Network S) →
        (after_entry idle action j net ≡ after_schedule idle action more (after_entry idle action k net)) ⊎ (after_entry idle action k
        (after_entry idle action j net) ≡ after_schedule idle action more (after_entry idle action k net)) →
        Meets (after_entry idle action k (after_entry idle action j net)) (after_schedule idle action schedule (after_entry idle action j net)) → Meets (after_entry idle action k net) (after_schedule idle action (j ∷ schedule) net)
    strip_by j k schedule more net (inl e) later = record { of_one = more ++ schedule; of_other = []; same = folded_append more schedule (after_entry idle action k net) ∙ sym (ap (after_schedule idle action schedule) e) }
    strip_by j k schedule more net (inr e) later = record {
      of_one = more ++ later.of_one;
      of_other = later.of_other;
      same = folded_append more later.of_one (after_entry idle action k net)
          ∙ sym (ap (after_schedule idle action later.of_one) e) ∙ later.same;
    }

    strip : OneWriterOneReader action → (schedule : List ℕ) (k : ℕ) (net : Network S) → Meets (after_entry idle action k net) (after_schedule idle action schedule net)
    strip owned [] k net = record { of_one = []; of_other = k ∷ []; same = refl }
    strip owned (j ∷ schedule) k net =
        let joins = joins_by owned j k net (same_or_not j k) in
        strip_by j k schedule joins.more net joins.same (strip owned schedule k (after_entry idle action j net))

    confluent : OneWriterOneReader action → (one other : List ℕ) (net : Network S) → Meets (after_schedule idle action one net) (after_schedule idle action other net)
    confluent owned one [] net = record { of_one = []; of_other = one; same = refl }
    confluent owned one (k ∷ other) net =
        let first = strip owned one k net in
        let then = confluent owned first.of_one other (after_entry idle action k net) in
        record {
          of_one = first.of_other ++ then.of_one;
          of_other = then.of_other;
          same = folded_append first.of_other then.of_one (after_schedule idle action one net)
              ∙ sym (ap (after_schedule idle action then.of_one) first.same) ∙ then.same;
        }

    meet_begins : (one other : Network S) → Meets one other → SchedulesAgree one other
    meet_begins one other m =
        let x = folded_grows m.of_one one in
        let y = folded_grows m.of_other other in
        record {
          histories = λ i. both_begin _ _ _ _ _ ((x.histories i).1 ∙ ap (λ n. list_at n.histories i) m.same) (y.histories i).1;
          printed = λ k. both_begin _ _ _ _ _ ((x.printed k).1 ∙ ap (λ n. list_at n.printed k) m.same) (y.printed k).1;
        }

    pub agree : OneWriterOneReader action → (one other : List ℕ) (net : Network S) → SchedulesAgree (after_schedule idle action one net) (after_schedule idle action other net)
    agree owned one other net = meet_begins _ _ (confluent owned one other net)
