-- Runs of a definition up to its end.
use Rattle.std.proofs.Common.{◌≡◌, ℕ, zero, suc, ◌+◌, ◌<◌, List, [], ◌∷◌, Option, Some, None, refl, ap, sym, ◌∙◌, subst, arith}
use Rattle.forth_program.specs.State.{State, Work, Outcome, Goes, Ends}
use Rattle.forth_program.specs.Program.{SourceProgram}
use Rattle.forth_program.specs.Step.{step}
use Rattle.forth_program.specs.Run.{steps, and_then}
use Rattle.forth_program.specs.Price.{spent, spent_after, step_price}

-- one thing where no work is left, and another where some is
abbrev pub where_left : {A : Type 0} → List Work → A → A → A
where_left [] none some = none
where_left (work ∷ after) none some = some

-- at most k word steps, none of them the end of the definition
unfoldable pub body_steps : SourceProgram → ℕ → State → Outcome
body_steps p zero s = Goes s
body_steps p (suc k) s = where_left s.work (Goes s) (and_then (step p s) (body_steps p k))

-- what is spent in all after them
unfoldable pub body_spent : SourceProgram → ℕ → ℕ → State → ℕ
body_spent p total zero s = total
body_spent p total (suc k) s = where_left s.work total (spent_after (total + step_price s) (step p s) (body_spent p (total + step_price s) k))

-- the price of the next step, where it is not the end of the definition
abbrev pub next_price : State → Option ℕ
next_price s = where_left s.work None (Some (step_price s))

module _ (p : SourceProgram) where
  same_then : (o : Outcome) (f g h : State → Outcome) → ((s : State) → f s ≡ and_then (g s) h) → and_then o f ≡ and_then (and_then o g) h
  same_then (Goes s) f g h same = same s
  same_then (Ends end w) f g h same = refl

  ended : (ws : List Work) (k : ℕ) (s : State) → s.work ≡ ws → ws ≡ [] → body_steps p k s ≡ Goes s
  unfolding body_steps
  ended ws zero s e f = refl
  ended ws (suc k) s e f = ap (λ z. where_left z (Goes s) (and_then (step p s) (body_steps p k))) (e ∙ f)

  pub steps_more : (a b : ℕ) (s : State) → body_steps p (a + b) s ≡ and_then (body_steps p a s) (body_steps p b)
  unfolding body_steps
  steps_more zero b s = ap (λ k. body_steps p k s) (plus b)
    where
      plus : (b : ℕ) → 0 + b ≡ b
      plus b = omega arith
  steps_more (suc a) b s = ap (λ k. body_steps p k s) (plus a b) ∙ by s.work refl (same_then (step p s) (body_steps p (a + b)) (body_steps p a) (body_steps p b) (λ s'. steps_more a b s'))
    where
      plus : (a b : ℕ) → suc a + b ≡ suc (a + b)
      plus a b = omega arith

      by : (ws : List Work) → s.work ≡ ws → and_then (step p s) (body_steps p (a + b)) ≡ and_then (and_then (step p s) (body_steps p a)) (body_steps p b) →
          where_left ws (Goes s) (and_then (step p s) (body_steps p (a + b))) ≡ and_then (where_left ws (Goes s) (and_then (step p s) (body_steps p a))) (body_steps p b)
      by [] e same = sym (ended [] b s e refl)
      by (w ∷ ws) e same = same

  spent_ended : (ws : List Work) (k t : ℕ) (s : State) → s.work ≡ ws → ws ≡ [] → body_spent p t k s ≡ t
  unfolding body_spent
  spent_ended ws zero t s e f = refl
  spent_ended ws (suc k) t s e f = ap (λ z. where_left z t (spent_after (t + step_price s) (step p s) (body_spent p (t + step_price s) k))) (e ∙ f)

  -- what was spent before adds to what is spent
  pub spent_from : (t u k : ℕ) (s : State) → body_spent p (t + u) k s ≡ t + body_spent p u k s
  unfolding body_spent
  spent_from t u zero s = refl
  spent_from t u (suc k) s = by s.work _ _
      (ap (λ n. spent_after n (step p s) (body_spent p n k)) (plus t u (step_price s))
      ∙ after (step p s) (body_spent p (t + (u + step_price s)) k) (body_spent p (u + step_price s) k) (u + step_price s)
      (λ s'. spent_from t (u + step_price s) k s'))
    where
      plus : (a b c : ℕ) → (a + b) + c ≡ a + (b + c)
      plus a b c = omega arith

      after : (o : Outcome) (f g : State → ℕ) (u : ℕ) → ((s : State) → f s ≡ t + g s) → spent_after (t + u) o f ≡ t + spent_after u o g
      after (Goes s) f g u same = same s
      after (Ends end w) f g u same = refl

      by : (ws : List Work) (a b : ℕ) → a ≡ t + b → where_left ws (t + u) a ≡ t + where_left ws u b
      by [] a b same = refl
      by (w ∷ ws) a b same = same

  through : (k m t : ℕ) (u : State) (o : Outcome) → ((s : State) → body_steps p k s ≡ Goes u → body_spent p t (k + m) s ≡ body_spent p (body_spent p t k s) m u) →
      and_then o (body_steps p k) ≡ Goes u → spent_after t o (body_spent p t (k + m)) ≡ body_spent p (spent_after t o (body_spent p t k)) m u
  through k m t u (Goes s) more e = more s e
  through k m t u (Ends end w) more e = let no : ⊥ = cc in absurd no

  -- prices of runs one after the other
  pub spent_more : (k m t : ℕ) (s u : State) → body_steps p k s ≡ Goes u → body_spent p t (k + m) s ≡ body_spent p (body_spent p t k s) m u
  unfolding body_steps body_spent
  spent_more zero m t s u e = ap (λ n. body_spent p t n s) (plus m) ∙ ap (λ o. spent_after 0 o (body_spent p t m)) e
    where
      plus : (m : ℕ) → 0 + m ≡ m
      plus m = omega arith
  spent_more (suc k) m t s u e =
      ap (λ n. body_spent p t n s) (plus k m) ∙ by s.work refl e (λ f. through k m (t + step_price s) u (step p s) (λ s'. spent_more k m (t + step_price s) s' u) f)
    where
      plus : (k m : ℕ) → suc k + m ≡ suc (k + m)
      plus k m = omega arith

      by : (ws : List Work) → s.work ≡ ws → where_left ws (Goes s) (and_then (step p s) (body_steps p k)) ≡ Goes u →
          (and_then (step p s) (body_steps p k) ≡ Goes u →
          spent_after (t + step_price s) (step p s) (body_spent p (t + step_price s) (k + m))
          ≡ body_spent p (spent_after (t + step_price s) (step p s) (body_spent p (t + step_price s) k)) m u) →
          where_left ws t (spent_after (t + step_price s) (step p s) (body_spent p (t + step_price s) (k + m))) ≡ body_spent p (where_left ws t (spent_after (t + step_price s) (step p s) (body_spent p (t + step_price s) k))) m u
      by [] e f g = sym (spent_ended [] m t s e refl) ∙ ap (λ o. spent_after 0 o (body_spent p t m)) f
      by (w ∷ ws) e f g = g f

  -- ---- the same run by word steps, each of which finds work
  pub record Exactly (k t : ℕ) (s : State) (o : Outcome) : Type 0 where
    pub count : ℕ
    pub run : steps p count s ≡ o
    pub price : spent p t count s ≡ body_spent p t k s
    pub busy : (j : ℕ) (u : State) → j < count → steps p j s ≡ Goes u → (work : Work) × (after : List Work) × (u.work ≡ work ∷ after)

  -- it finds work first
  first_busy : (w : Work) (ws : List Work) (s u : State) → s.work ≡ w ∷ ws → Goes s ≡ Goes u → (work : Work) × (after : List Work) × (u.work ≡ work ∷ after)
  first_busy w ws s u same e = let here : s ≡ u = cc in (w, ws, subst (λ z. z.work ≡ w ∷ ws) here same)

  exactly_on : (k t : ℕ) (s : State) (o : Outcome) (w : Work) (ws : List Work) (x : Outcome) → s.work ≡ w ∷ ws → step p s ≡ x →
      ((s' : State) → body_steps p k s' ≡ o → Exactly k (t + step_price s) s' o) → and_then x (body_steps p k) ≡ o → Exactly (suc k) t s o
  unfolding body_steps body_spent steps spent
  exactly_on k t s o w ws (Goes s') same e more f = let r = more s' f in record {
    count = suc r.count;
    run = ap (λ x. and_then x (steps p r.count)) e ∙ r.run;
    price = ap (λ x. spent_after (t + step_price s) x (spent p (t + step_price s) r.count)) e ∙ r.price
        ∙ sym (ap (λ x. spent_after (t + step_price s) x (body_spent p (t + step_price s) k)) e)
        ∙ sym (ap (λ z. where_left z t (spent_after (t + step_price s) (step p s) (body_spent p (t + step_price s) k))) same);
    busy = λ j u h g. later r.busy j u h g;
  }
    where
      later : {count : ℕ} → ((j : ℕ) (u : State) → j < count → steps p j s' ≡ Goes u → (work : Work) × (after : List Work) × (u.work ≡ work ∷ after)) →
          (j : ℕ) (u : State) → j < suc count → steps p j s ≡ Goes u → (work : Work) × (after : List Work) × (u.work ≡ work ∷ after)
      later busy zero u h g = first_busy w ws s u same g
      later busy (suc j) u h g = busy j u (omega (arith, h)) (sym (ap (λ x. and_then x (steps p j)) e) ∙ g)
  exactly_on k t s o w ws (Ends end w') same e more f = record {
    count = 1;
    run = ap (λ x. and_then x (steps p 0)) e ∙ f;
    price = ap (λ x. spent_after (t + step_price s) x (spent p (t + step_price s) 0)) e
        ∙ sym (ap (λ x. spent_after (t + step_price s) x (body_spent p (t + step_price s) k)) e)
        ∙ sym (ap (λ z. where_left z t (spent_after (t + step_price s) (step p s) (body_spent p (t + step_price s) k))) same);
    busy = λ j u h g. at_first j u h g;
  }
    where
      at_first : (j : ℕ) (u : State) → j < 1 → steps p j s ≡ Goes u → (work : Work) × (after : List Work) × (u.work ≡ work ∷ after)
      at_first zero u h g = first_busy w ws s u same g
      at_first (suc j) u h g = absurd (omega (arith, h))

  pub exactly : (k t : ℕ) (s : State) (o : Outcome) → body_steps p k s ≡ o → Exactly k t s o
  unfolding body_steps body_spent steps spent
  exactly zero t s o e = record { count = 0; run = e; price = refl; busy = λ j u h f. absurd (omega (arith, h)) }
  exactly (suc k) t s o e = by s.work refl e (λ w ws same f. exactly_on k t s o w ws (step p s) same refl (λ s'. exactly k (t + step_price s) s' o) f)
    where
      by : (ws : List Work) → s.work ≡ ws → where_left ws (Goes s) (and_then (step p s) (body_steps p k)) ≡ o →
          ((w : Work) (ws : List Work) → s.work ≡ w ∷ ws → and_then (step p s) (body_steps p k) ≡ o → Exactly (suc k) t s o) → Exactly (suc k) t s o
      by [] same f more = record { count = 0; run = f; price = sym (spent_ended [] (suc k) t s same refl); busy = λ j u h g. absurd (omega (arith, h)) }
      by (w ∷ ws) same f more = more w ws same f
