-- Steps of different cores commute, where neither is blocked.
use Rattle.std.proofs.Common.{◌≡◌, ◌≢◌, ◌⊎◌, ℕ, ◌<◌, ◌≤◌, Bool, true, false, List, [], ◌∷◌, ◌++◌, length, get_or, set, refl, sym, ap, ◌∙◌, subst, inl, inr, arith}
use Rattle.std.proofs.lemmas.List.{set_comm, set-set, get_or-set_same, get_or-set_other, get_or_past}
use Rattle.std.proofs.lemmas.Bool.{ltb-true, lt-ltb}
use Rattle.std.proofs.lemmas.Bool.Decides.{eqb_tells, leb_tells}
use Rattle.core_array.specs.declared.events.CoreEvent.{CoreEvent}
use Rattle.core_array.specs.Network.{Action, Alone, Sends, Receives, Network, event_bytes, list_at, has_room, after_own, after_send, after_receive, after_action}

pub apart_sym : (i j : ℕ) → i ≢ j → j ≢ i
apart_sym i j n = λ e. n (sym e)

-- two lists grow, each at its own place
both_grow : (lists : List (List ℕ)) (j k : ℕ) (x y : List ℕ) → j ≢ k →
    set (set lists j (list_at lists j ++ x)) k (list_at (set lists j (list_at lists j ++ x)) k ++ y) ≡ set (set lists k (list_at lists k ++ y)) j (list_at (set lists k (list_at lists k ++ y)) j ++ x)
both_grow lists j k x y n =
    let nil : List ℕ = [] in
    let a : list_at (set lists j (list_at lists j ++ x)) k ≡ list_at lists k = get_or-set_other lists j k (list_at lists j ++ x) nil (apart_sym j k n) in
    let b : list_at (set lists k (list_at lists k ++ y)) j ≡ list_at lists j = get_or-set_other lists k j (list_at lists k ++ y) nil n in
    ap (λ l. set (set lists j (list_at lists j ++ x)) k (l ++ y)) a ∙ set_comm lists j k (list_at lists j ++ x) (list_at lists k ++ y) n ∙ sym (ap (λ l. set (set lists k (list_at lists k ++ y)) j (l ++ x)) b)

-- a place is within a list of lists, or the list there is empty
pub placed : (lists : List (List ℕ)) (i : ℕ) → (i < length lists) ⊎ (length lists ≤ i)
placed lists i = elim (leb_tells (length lists) i) as (λ _. (i < length lists) ⊎ (length lists ≤ i)) [ inl p ↦ inr p.1 | inr p ↦ inl p.1 ]

in_range_by : (lists : List (List ℕ)) (i c : ℕ) (rest : List ℕ) → (i < length lists) ⊎ (length lists ≤ i) → list_at lists i ≡ c ∷ rest → i < length lists
in_range_by lists i c rest (inl p) e = p
in_range_by lists i c rest (inr p) e = let nil : List ℕ = [] in let z : list_at lists i ≡ nil = get_or_past lists i nil p in cc

in_range : (lists : List (List ℕ)) (i c : ℕ) (rest : List ℕ) → list_at lists i ≡ c ∷ rest → i < length lists
in_range lists i c rest e = in_range_by lists i c rest (placed lists i) e

pub same_or_not : (i j : ℕ) → (i ≡ j) ⊎ (i ≢ j)
same_or_not i j = elim (eqb_tells i j) as (λ _. (i ≡ j) ⊎ (i ≢ j)) [ inl p ↦ inl p.1 | inr p ↦ inr p.1 ]

room_after : (c : ℕ) (rest : List ℕ) → has_room (c ∷ rest) ≡ true → has_room rest ≡ true
room_after c rest h = let lt : length (c ∷ rest) < 64 = ltb-true (length (c ∷ rest)) 64 h in lt-ltb (length rest) 64 (omega arith)

module _ {S : Type 0} where
  abbrev net_of : List S → List (List ℕ) → List (List ℕ) → List (List ℕ) → Network S
  net_of c p m h = record { cores = c; printed = p; mailboxes = m; histories = h }

  same_net : (c d : List S) (p q m n h g : List (List ℕ)) → c ≡ d → p ≡ q → m ≡ n → h ≡ g → net_of c p m h ≡ net_of d q n g
  same_net c d p q m n h g ec ep em eh = cc

  -- either core is blocked, or their steps commute
  abbrev pub Commutes : ℕ → Action S → ℕ → Action S → Network S → Type 0
  Commutes j a k b net = (after_action j a net ≡ net) ⊎ ((after_action k b net ≡ net) ⊎ (after_action k b (after_action j a net) ≡ after_action j a (after_action k b net)))

  swapped : (j k : ℕ) (a b : Action S) (net : Network S) → Commutes k b j a net → Commutes j a k b net
  swapped j k a b net (inl e) = inr (inl e)
  swapped j k a b net (inr (inl e)) = inl e
  swapped j k a b net (inr (inr e)) = inr (inr (sym e))

  joined : (j k : ℕ) (a b : Action S) (net x y z : Network S) → after_action j a net ≡ x → after_action k b net ≡ y → after_action k b x ≡ z → after_action j a y ≡ z → Commutes j a k b net
  joined j k a b net x y z s t u v = inr (inr (ap (after_action k b) s ∙ u ∙ sym (ap (after_action j a) t ∙ v)))

  alone_alone : (j k : ℕ) (s t : S) (d e : CoreEvent) (net : Network S) → j ≢ k → Commutes j (Alone s d) k (Alone t e) net
  alone_alone j k s t d e net n =
      inr (inr (same_net _ _ _ _ _ _ _ _ (set_comm net.cores j k s t n) (both_grow net.printed j k (event_bytes d) (event_bytes e) n) refl refl))

  alone_sends : (room : Bool) (j k i c : ℕ) (s t : S) (d : CoreEvent) (net : Network S) → j ≢ k → has_room (list_at net.mailboxes i) ≡ room → Commutes j (Alone s d) k (Sends i c t) net
  alone_sends false j k i c s t d net n e = inr (inl (ap (λ b. after_send b k i c t net) e))
  alone_sends true j k i c s t d net n e =
      joined j k (Alone s d) (Sends i c t) net (after_own j s d net) (after_send true k i c t net) (after_own j s d (after_send true k i c t net)) refl (ap (λ b. after_send b k i c t net) e)
      (ap (λ b. after_send b k i c t (after_own j s d net)) e ∙ same_net _ _ _ _ _ _ _ _ (set_comm net.cores j k s t n) refl refl refl) refl

  alone_takes : (box : List ℕ) (j k i : ℕ) (s : S) (t : ℕ → S) (d : CoreEvent) (net : Network S) → j ≢ k → list_at net.mailboxes i ≡ box → Commutes j (Alone s d) k (Receives i t) net
  alone_takes [] j k i s t d net n e = inr (inl (ap (λ b. after_receive b k i t net) e))
  alone_takes (c ∷ rest) j k i s t d net n e =
      joined j k (Alone s d) (Receives i t) net (after_own j s d net) (after_receive (c ∷ rest) k i t net) (after_own j s d (after_receive (c ∷ rest) k i t net)) refl (ap (λ b. after_receive b k i t net) e)
      (ap (λ b. after_receive b k i t (after_own j s d net)) e ∙ same_net _ _ _ _ _ _ _ _ (set_comm net.cores j k s (t c) n) refl refl refl) refl

  sends_sends : (room space : Bool) (j k i h c d : ℕ) (s t : S) (net : Network S) → j ≢ k → i ≢ h → has_room (list_at net.mailboxes i) ≡ room → has_room (list_at net.mailboxes h) ≡ space → Commutes j (Sends i c s) k (Sends h d t) net
  sends_sends false space j k i h c d s t net n m e f = inl (ap (λ b. after_send b j i c s net) e)
  sends_sends true false j k i h c d s t net n m e f = inr (inl (ap (λ b. after_send b k h d t net) f))
  sends_sends true true j k i h c d s t net n m e f =
      let nil : List ℕ = [] in
      let x : Network S = after_send true j i c s net in
      let y : Network S = after_send true k h d t net in
      let fx : has_room (list_at x.mailboxes h) ≡ true = ap has_room (get_or-set_other net.mailboxes i h (list_at net.mailboxes i ++ c ∷ []) nil (apart_sym i h m)) ∙ f in
      let ey : has_room (list_at y.mailboxes i) ≡ true = ap has_room (get_or-set_other net.mailboxes h i (list_at net.mailboxes h ++ d ∷ []) nil m) ∙ e in
      joined j k (Sends i c s) (Sends h d t) net x y (after_send true j i c s y) (ap (λ b. after_send b j i c s net) e) (ap (λ b. after_send b k h d t net) f)
      (ap (λ b. after_send b k h d t x) fx ∙ same_net _ _ _ _ _ _ _ _ (set_comm net.cores j k s t n) refl (both_grow net.mailboxes i h (c ∷ []) (d ∷ []) m) (both_grow net.histories i h (c ∷ []) (d ∷ []) m))
      (ap (λ b. after_send b j i c s y) ey)

  takes_takes : (box crate : List ℕ) (j k i h : ℕ) (s t : ℕ → S) (net : Network S) → j ≢ k → i ≢ h → list_at net.mailboxes i ≡ box → list_at net.mailboxes h ≡ crate → Commutes j (Receives i s) k (Receives h t) net
  takes_takes [] crate j k i h s t net n m e f = inl (ap (λ b. after_receive b j i s net) e)
  takes_takes (c ∷ rest) [] j k i h s t net n m e f = inr (inl (ap (λ b. after_receive b k h t net) f))
  takes_takes (c ∷ rest) (d ∷ others) j k i h s t net n m e f =
      let nil : List ℕ = [] in
      let x : Network S = after_receive (c ∷ rest) j i s net in
      let y : Network S = after_receive (d ∷ others) k h t net in
      let fx : list_at x.mailboxes h ≡ d ∷ others = get_or-set_other net.mailboxes i h rest nil (apart_sym i h m) ∙ f in
      let ey : list_at y.mailboxes i ≡ c ∷ rest = get_or-set_other net.mailboxes h i others nil m ∙ e in
      joined j k (Receives i s) (Receives h t) net x y (after_receive (c ∷ rest) j i s y) (ap (λ b. after_receive b j i s net) e) (ap (λ b. after_receive b k h t net) f)
      (ap (λ b. after_receive b k h t x) fx ∙ same_net _ _ _ _ _ _ _ _ (set_comm net.cores j k (s c) (t d) n) refl (set_comm net.mailboxes i h rest others m) refl)
      (ap (λ b. after_receive b j i s y) ey)

  -- the same link: the cell that is taken is the oldest one before and after the other is sent
  sends_takes_here : (j k i c d : ℕ) (rest : List ℕ) (s : S) (t : ℕ → S) (net : Network S) → j ≢ k → has_room (list_at net.mailboxes i) ≡ true → list_at net.mailboxes i ≡ d ∷ rest → Commutes j (Sends i c s) k (Receives i t) net
  sends_takes_here j k i c d rest s t net n e f =
      let nil : List ℕ = [] in
      let x : Network S = after_send true j i c s net in
      let y : Network S = after_receive (d ∷ rest) k i t net in
      let within : i < length net.mailboxes = in_range net.mailboxes i d rest f in
      let fx : list_at x.mailboxes i ≡ d ∷ (rest ++ c ∷ []) = get_or-set_same net.mailboxes i (list_at net.mailboxes i ++ c ∷ []) nil within ∙ ap (λ l. l ++ c ∷ []) f in
      let iy : list_at y.mailboxes i ≡ rest = get_or-set_same net.mailboxes i rest nil within in
      let ey : has_room (list_at y.mailboxes i) ≡ true = ap has_room iy ∙ room_after d rest (sym (ap has_room f) ∙ e) in
      let boxes : set (set net.mailboxes i (list_at net.mailboxes i ++ c ∷ [])) i (rest ++ c ∷ []) ≡ set (set net.mailboxes i rest) i (list_at y.mailboxes i ++ c ∷ []) =
      set-set net.mailboxes i (list_at net.mailboxes i ++ c ∷ []) (rest ++ c ∷ []) ∙ sym (set-set net.mailboxes i rest (rest ++ c ∷ [])) ∙ sym (ap (λ l. set (set net.mailboxes i rest) i (l ++ c ∷ [])) iy) in
      joined j k (Sends i c s) (Receives i t) net x y (after_send true j i c s y) (ap (λ b. after_send b j i c s net) e) (ap (λ b. after_receive b k i t net) f)
      (ap (λ b. after_receive b k i t x) fx ∙ same_net _ _ _ _ _ _ _ _ (set_comm net.cores j k s (t d) n) refl boxes refl)
      (ap (λ b. after_send b j i c s y) ey)

  sends_takes_apart : (j k i h c d : ℕ) (rest : List ℕ) (s : S) (t : ℕ → S) (net : Network S) → j ≢ k → i ≢ h → has_room (list_at net.mailboxes i) ≡ true → list_at net.mailboxes h ≡ d ∷ rest → Commutes j (Sends i c s) k (Receives h t) net
  sends_takes_apart j k i h c d rest s t net n m e f =
      let nil : List ℕ = [] in
      let x : Network S = after_send true j i c s net in
      let y : Network S = after_receive (d ∷ rest) k h t net in
      let fx : list_at x.mailboxes h ≡ d ∷ rest = get_or-set_other net.mailboxes i h (list_at net.mailboxes i ++ c ∷ []) nil (apart_sym i h m) ∙ f in
      let iy : list_at y.mailboxes i ≡ list_at net.mailboxes i = get_or-set_other net.mailboxes h i rest nil m in
      let boxes : set (set net.mailboxes i (list_at net.mailboxes i ++ c ∷ [])) h rest ≡ set (set net.mailboxes h rest) i (list_at y.mailboxes i ++ c ∷ []) =
      set_comm net.mailboxes i h (list_at net.mailboxes i ++ c ∷ []) rest m ∙ sym (ap (λ l. set (set net.mailboxes h rest) i (l ++ c ∷ [])) iy) in
      joined j k (Sends i c s) (Receives h t) net x y (after_send true j i c s y) (ap (λ b. after_send b j i c s net) e) (ap (λ b. after_receive b k h t net) f)
      (ap (λ b. after_receive b k h t x) fx ∙ same_net _ _ _ _ _ _ _ _ (set_comm net.cores j k s (t d) n) refl boxes refl)
      (ap (λ b. after_send b j i c s y) (ap has_room iy ∙ e))

  sends_takes_by : (j k i h c d : ℕ) (rest : List ℕ) (s : S) (t : ℕ → S) (net : Network S) → (i ≡ h) ⊎ (i ≢ h) → j ≢ k → has_room (list_at net.mailboxes i) ≡ true →
      list_at net.mailboxes h ≡ d ∷ rest → Commutes j (Sends i c s) k (Receives h t) net
  sends_takes_by j k i h c d rest s t net (inr m) n e f = sends_takes_apart j k i h c d rest s t net n m e f
  sends_takes_by j k i h c d rest s t net (inl m) n e f =
      subst (λ l. Commutes j (Sends i c s) k (Receives l t) net) m (sends_takes_here j k i c d rest s t net n e (ap (list_at net.mailboxes) m ∙ f))

  sends_takes : (room : Bool) (box : List ℕ) (j k i h c : ℕ) (s : S) (t : ℕ → S) (net : Network S) → (i ≡ h) ⊎ (i ≢ h) → j ≢ k → has_room (list_at net.mailboxes i) ≡ room →
      list_at net.mailboxes h ≡ box → Commutes j (Sends i c s) k (Receives h t) net
  sends_takes false box j k i h c s t net m n e f = inl (ap (λ b. after_send b j i c s net) e)
  sends_takes true [] j k i h c s t net m n e f = inr (inl (ap (λ b. after_receive b k h t net) f))
  sends_takes true (d ∷ rest) j k i h c s t net m n e f = sends_takes_by j k i h c d rest s t net m n e f

  -- two actions are at different links, where both send or both take
  abbrev pub Apart : Action S → Action S → Type 0
  Apart (Sends i c s) (Sends h d t) = i ≢ h
  Apart (Receives i s) (Receives h t) = i ≢ h
  Apart _ _ = Unit {0}

  pub commute : (j k : ℕ) (a b : Action S) (net : Network S) → j ≢ k → Apart a b → Commutes j a k b net
  commute j k (Alone s d) (Alone t e) net n m = alone_alone j k s t d e net n
  commute j k (Alone s d) (Sends i c t) net n m = alone_sends _ j k i c s t d net n refl
  commute j k (Alone s d) (Receives i t) net n m = alone_takes _ j k i s t d net n refl
  commute j k (Sends i c s) (Alone t e) net n m = swapped j k (Sends i c s) (Alone t e) net (alone_sends _ k j i c t s e net (apart_sym j k n) refl)
  commute j k (Sends i c s) (Sends h d t) net n m = sends_sends _ _ j k i h c d s t net n m refl refl
  commute j k (Sends i c s) (Receives h t) net n m = sends_takes _ _ j k i h c s t net (same_or_not i h) n refl refl
  commute j k (Receives i s) (Alone t e) net n m = swapped j k (Receives i s) (Alone t e) net (alone_takes _ k j i t s e net (apart_sym j k n) refl)
  commute j k (Receives i s) (Sends h d t) net n m = swapped j k (Receives i s) (Sends h d t) net (sends_takes _ _ k j h i d t s net (same_or_not h i) (apart_sym j k n) refl refl)
  commute j k (Receives i s) (Receives h t) net n m = takes_takes _ _ j k i h s t net n m refl refl

  -- a step of one core leaves the others
  kept_sent : (idle : S) (room : Bool) (j k i c : ℕ) (s : S) (net : Network S) → k ≢ j → get_or (after_send room j i c s net).cores k idle ≡ get_or net.cores k idle
  kept_sent idle false j k i c s net n = refl
  kept_sent idle true j k i c s net n = get_or-set_other net.cores j k s idle n

  kept_taken : (idle : S) (box : List ℕ) (j k i : ℕ) (s : ℕ → S) (net : Network S) → k ≢ j → get_or (after_receive box j i s net).cores k idle ≡ get_or net.cores k idle
  kept_taken idle [] j k i s net n = refl
  kept_taken idle (c ∷ rest) j k i s net n = get_or-set_other net.cores j k (s c) idle n

  pub kept : (idle : S) (j k : ℕ) (a : Action S) (net : Network S) → k ≢ j → get_or (after_action j a net).cores k idle ≡ get_or net.cores k idle
  kept idle j k (Alone s d) net n = get_or-set_other net.cores j k s idle n
  kept idle j k (Sends i c s) net n = kept_sent idle (has_room (list_at net.mailboxes i)) j k i c s net n
  kept idle j k (Receives i s) net n = kept_taken idle (list_at net.mailboxes i) j k i s net n
