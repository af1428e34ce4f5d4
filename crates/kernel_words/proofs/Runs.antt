-- Runs one after the other.
use Rattle.std.proofs.Common.{◌≡◌, ℕ, zero, suc, ◌+◌, ◌≤◌, List, [], ◌∷◌, refl, ap, ◌∙◌, arith}
use Rattle.word_table.specs.declared.word.Word.{Word}
use Rattle.forth_program.specs.Tree.{Nodes}
use Rattle.forth_program.specs.State.{State, World, Work, Outcome, Goes, Ends, Gives}
use Rattle.forth_program.specs.Program.{SourceProgram, body_of}
use Rattle.forth_program.specs.Meaning.{meaning}
use Rattle.forth_program.specs.Step.{before, on_cells, called, step}
use Rattle.forth_program.specs.Run.{steps, and_then}
use Rattle.forth_program.specs.Price.{spent, spent_after, step_price}
use Rattle.kernel_words.specs.Running.{Comes, Returns}

module _ (p : SourceProgram) where
  same_then : (o : Outcome) (f g h : State → Outcome) → ((s : State) → f s ≡ and_then (g s) h) → and_then o f ≡ and_then (and_then o g) h
  same_then (Goes s) f g h same = same s
  same_then (Ends end w) f g h same = refl

  steps_more : (a b : ℕ) (s : State) → steps p (a + b) s ≡ and_then (steps p a s) (steps p b)
  unfolding steps
  steps_more zero b s = ap (λ k. steps p k s) (omega arith)
  steps_more (suc a) b s = ap (λ k. steps p k s) (plus a b) ∙ same_then (step p s) (steps p (a + b)) (steps p a) (steps p b) (λ s'. steps_more a b s')
    where
      plus : (a b : ℕ) → suc a + b ≡ suc (a + b)
      plus a b = omega arith

  -- what was spent before adds to what is spent
  spent_from : (t u k : ℕ) (s : State) → spent p (t + u) k s ≡ t + spent p u k s
  unfolding spent
  spent_from t u zero s = refl
  spent_from t u (suc k) s = ap (λ n. spent_after n (step p s) (spent p n k)) (plus t u (step_price s)) ∙ after (step p s) (spent p (t + (u + step_price s)) k) (spent p (u + step_price s) k)
      (u + step_price s) (λ s'. spent_from t (u + step_price s) k s')
    where
      plus : (a b c : ℕ) → (a + b) + c ≡ a + (b + c)
      plus a b c = omega arith

      after : (o : Outcome) (f g : State → ℕ) (u : ℕ) → ((s : State) → f s ≡ t + g s) → spent_after (t + u) o f ≡ t + spent_after u o g
      after (Goes s) f g u same = same s
      after (Ends end w) f g u same = refl

  through : (k m t : ℕ) (u : State) (o : Outcome) → ((s : State) → steps p k s ≡ Goes u → spent p t (k + m) s ≡ spent p (spent p t k s) m u) →
      and_then o (steps p k) ≡ Goes u → spent_after t o (spent p t (k + m)) ≡ spent p (spent_after t o (spent p t k)) m u
  through k m t u (Goes s) more e = more s e
  through k m t u (Ends end w) more e = let no : ⊥ = cc in absurd no

  spent_more : (k m t : ℕ) (s u : State) → steps p k s ≡ Goes u → spent p t (k + m) s ≡ spent p (spent p t k s) m u
  unfolding steps spent
  spent_more zero m t s u e = ap (λ n. spent p t n s) (plus m) ∙ ap (λ o. spent_after 0 o (spent p t m)) e
    where
      plus : (m : ℕ) → 0 + m ≡ m
      plus m = omega arith
  spent_more (suc k) m t s u e =
      ap (λ n. spent p t n s) (plus k m) ∙ through k m (t + step_price s) u (step p s) (λ s'. spent_more k m (t + step_price s) s' u) e
    where
      plus : (k m : ℕ) → suc k + m ≡ suc (k + m)
      plus k m = omega arith

  -- the end is reached
  pub there : {n b : ℕ} {s : State} → Comes p n b s s
  unfolding steps spent
  there = record { count = 0; run = refl; few = omega arith; paid = omega arith }

  -- within more
  pub within : {n b : ℕ} {s t : State} (m d : ℕ) → m ≤ n → d ≤ b → Comes p m d s t → Comes p n b s t
  within m d h k r = record { count = r.count; run = r.run; few = omega (arith, r.few, h); paid = omega (arith, r.paid, k) }

  -- one run and then another
  pub followed : {n b m d : ℕ} {s t u : State} → Comes p n b s t → Comes p m d t u → Comes p (n + m) (b + d) s u
  followed {s = s} {t = t} r q = record {
    count = r.count + q.count;
    run = steps_more r.count q.count s ∙ ap (λ o. and_then o (steps p q.count)) r.run ∙ q.run;
    few = omega (arith, r.few, q.few);
    paid = let both : spent p 0 (r.count + q.count) s ≡ spent p 0 r.count s + spent p 0 q.count t = spent_more r.count q.count 0 s t r.run ∙ apart (spent p 0 r.count s) q.count t in omega (arith, both, r.paid, q.paid);
  }
    where
      apart : (x m : ℕ) (t : State) → spent p x m t ≡ x + spent p 0 m t
      apart x m t = ap (λ y. spent p y m t) (plus_zero x) ∙ spent_from x 0 m t
        where
          plus_zero : (x : ℕ) → x ≡ x + 0
          plus_zero x = omega arith

  -- k steps, and then the rest within m and d
  pub by_way : {n b : ℕ} {s t u : State} (k m d : ℕ) → steps p k s ≡ Goes t → k + m ≤ n → spent p 0 k s + d ≤ b → Comes p m d t u → Comes p n b s u
  by_way {s = s} k m d e h g r = within (k + m) (spent p 0 k s + d) h g (followed (record { count = k; run = e; few = omega arith; paid = omega arith }) r)

  -- one step
  one : {s t : State} → step p s ≡ Goes t → Comes p 1 (step_price s) s t
  unfolding steps spent
  one {s = s} e = record { count = 1; run = ap (λ o. and_then o (steps p 0)) e; few = omega arith; paid = rw e (omega arith) }

  -- a word whose meaning is known
  pub by_word : {n b : ℕ} {s u : State} {after : List Work} {c : List ℕ} {w : World} (word : Word) (m d : ℕ) → meaning word s.cells s.world ≡ Gives c w →
      step p s ≡ on_cells (meaning word s.cells s.world) (record s { work = after }) → 1 + m ≤ n → step_price s + d ≤ b →
      Comes p m d (record s { work = after; cells = c; world = w }) u → Comes p n b s u
  by_word {s = s} {after = after} word m d known e h g r = within (1 + m) (step_price s + d) h g (followed (one (e ∙ ap (λ x. on_cells x (record s { work = after })) known)) r)

  -- a call of a definition that returns
  pub by_call : {n b : ℕ} {s u : State} {after : List Work} {c : List ℕ} {w : World} {body : Nodes} (definition i j m d : ℕ) → body_of p definition ≡ body →
      Returns p body i j s.cells s.world c w →
      step p s ≡ Goes (called p definition (record s { work = after })) → 1 + i + m ≤ n → step_price s + j + d ≤ b →
      Comes p m d (record s { work = after; cells = c; world = w }) u → Comes p n b s u
  by_call {s = s} {u = u} {after = after} {c = c} {w = w} definition i j m d same returns e h g r =
      within (1 + (i + m)) (step_price s + (j + d)) (omega (arith, h)) (omega (arith, g))
      (followed (one (e ∙ ap (λ z. Goes (record s { work = before z []; entries = []; callers = record { work = after; entries = s.entries } ∷ s.callers })) same))
      (followed (returns after s.entries s.callers) r))

  -- to the same under another name
  pub renamed : {n b : ℕ} {s t u : State} → t ≡ u → Comes p n b s t → Comes p n b s u
  renamed e r = record { count = r.count; run = r.run ∙ ap Goes e; few = r.few; paid = r.paid }
