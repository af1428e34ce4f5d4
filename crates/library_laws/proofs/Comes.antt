-- Runs that come to an outcome within a price.
use Rattle.std.proofs.Common.{◌≡◌, ℕ, ◌+◌, ◌*◌, ◌≤◌, Some, None, List, [], ◌∷◌, length, refl, ap, ◌∙◌, arith}
use Rattle.word_table.specs.declared.word.Word.{Word}
use Rattle.word_table.specs.Table.{entry_of}
use Rattle.forth_program.specs.Tree.{Nodes}
use Rattle.forth_program.specs.State.{State, Frame, World, Work, Reply, Gives, Stops, ◌▸◌, Outcome, Goes, Ends}
use Rattle.forth_program.specs.ByteWords.{begun_by}
use Rattle.forth_program.specs.Program.{SourceProgram}
use Rattle.forth_program.specs.Step.{step, on_cells}
use Rattle.forth_program.specs.Run.{and_then}
use Rattle.forth_program.specs.Price.{spent_after, step_price}
use Rattle.library_laws.specs.Library.{entered, finished, meant, DoesItsMeaning}
use Rattle.library_laws.proofs.Replies.{Giving}
use Rattle.library_laws.proofs.BodySteps.{where_left, body_steps, body_spent, next_price, steps_more, spent_from, spent_more, exactly}
use Rattle.library_laws.proofs.Along.{definition_fits}
use Rattle.library_laws.proofs.Walk.{walk}

-- a run comes to an outcome for at most so much
pub record Comes (p : SourceProgram) (price : ℕ) (s : State) (o : Outcome) : Type 0 where
  pub count : ℕ
  pub run : body_steps p count s ≡ o
  pub paid : body_spent p 0 count s ≤ price

module _ (p : SourceProgram) where
  -- in k steps
  pub at_once : {n : ℕ} {s : State} {o : Outcome} (k : ℕ) → body_steps p k s ≡ o → body_spent p 0 k s ≤ n → Comes p n s o
  at_once k e h = record { count = k; run = e; paid = h }

  -- by way of a state that k steps come to; the rest costs b
  pub by_way : {n : ℕ} {s t : State} {o : Outcome} (k b : ℕ) → body_steps p k s ≡ Goes t → body_spent p 0 k s + b ≤ n → Comes p b t o → Comes p n s o
  by_way {s = s} {t = t} k b e h r = record {
    count = k + r.count;
    run = steps_more p k r.count s ∙ ap (λ o. and_then o (body_steps p r.count)) e ∙ r.run;
    paid = let both : body_spent p 0 (k + r.count) s ≡ body_spent p 0 k s + body_spent p 0 r.count t = spent_more p k r.count 0 s t e ∙ apart (body_spent p 0 k s) r.count t in omega (arith, both, h, r.paid);
  }
    where
      apart : (x m : ℕ) (t : State) → body_spent p x m t ≡ x + body_spent p 0 m t
      apart x m t = ap (λ y. body_spent p y m t) (plus_zero x) ∙ spent_from p x 0 m t
        where
          plus_zero : (x : ℕ) → x ≡ x + 0
          plus_zero x = omega arith

  -- one step with work left
  one_step : (x : Outcome) (s : State) (a : ℕ) (ws : List Work) → s.work ≡ ws → step p s ≡ x → where_left ws None (Some (step_price s)) ≡ Some a → (body_steps p 1 s ≡ x) × (body_spent p 0 1 s ≡ a)
  unfolding body_steps body_spent
  one_step x s a [] same e paid = let no : ⊥ = cc in absurd no
  one_step x s a (w ∷ ws) same e paid = (
    ap (λ z. where_left z (Goes s) (and_then (step p s) (body_steps p 0))) same ∙ stays (step p s) ∙ e,
    ap (λ z. where_left z 0 (spent_after (0 + step_price s) (step p s) (body_spent p (0 + step_price s) 0))) same ∙ below (step p s) (let f : step_price s ≡ a = cc in f),
  )
    where
      stays : (x : Outcome) → and_then x (body_steps p 0) ≡ x
      stays (Goes s) = refl
      stays (Ends end w) = refl

      below : (x : Outcome) → step_price s ≡ a → spent_after (0 + step_price s) x (λ u. 0 + step_price s) ≡ a
      below (Goes s') paid = omega (arith, paid)
      below (Ends end w) paid = omega (arith, paid)

  -- one step, the last
  pub last_step : {n : ℕ} {s : State} {o : Outcome} (a : ℕ) → step p s ≡ o → next_price s ≡ Some a → a ≤ n → Comes p n s o
  last_step {s = s} {o = o} a e paid h = let one = one_step o s a s.work refl e paid in at_once 1 one.0 (let k = one.1 in omega (arith, k, h))

  -- by way of one step
  pub by_step : {n : ℕ} {s t : State} {o : Outcome} (a b : ℕ) → step p s ≡ Goes t → next_price s ≡ Some a → a + b ≤ n → Comes p b t o → Comes p n s o
  by_step {s = s} {t = t} a b e paid h r = let one = one_step (Goes t) s a s.work refl e paid in by_way 1 b one.0 (let k = one.1 in omega (arith, k, h)) r

  -- by way of what gives a value or ends the run
  pub by_reply : {A : Type 0} {cells : A → List ℕ} {n : ℕ} {s : State} (more : A → World → Reply (List ℕ)) (s' t : State) (r : Reply A) (P : A → World → Type 0) (a b : ℕ) →
      Giving r P → step p s ≡ on_cells (r ▸ λ x. Gives (cells x)) s' → next_price s ≡ Some a → a + b ≤ n →
      ((x : A) (w : World) → P x w → Comes p b (record s' { cells = cells x; world = w }) (on_cells (more x w) t)) →
      Comes p n s (on_cells (r ▸ more) t)
  by_reply more s' t (Gives x w) P a b g e paid h each = by_step a b e paid h (each x w g)
  by_reply more s' t (Stops end w) P a b g e paid h each = last_step a e paid (omega (arith, h))

  -- the same, where the price of the rest is counted along with it
  pub by_begun : {A : Type 0} {cells : A → List ℕ} {n : ℕ} {s : State} (more : A → World → Reply (List ℕ)) (s' t : State) (r : Reply A) (P : A → World → Type 0) (g : A → World → ℕ) (a b k : ℕ) →
      Giving r P → step p s ≡ on_cells (r ▸ λ x. Gives (cells x)) s' → next_price s ≡ Some a → a + (b + k * begun_by r g) ≤ n →
      ((x : A) (w : World) → P x w → Comes p (b + k * g x w) (record s' { cells = cells x; world = w }) (on_cells (more x w) t)) →
      Comes p n s (on_cells (r ▸ more) t)
  by_begun more s' t (Gives x w) P g a b k given e paid h each = by_step a (b + k * g x w) e paid h (each x w given)
  by_begun more s' t (Stops end w) P g a b k given e paid h each = last_step a e paid (omega (arith, h))

  -- a last step that gives the cells of the meaning
  pub last_reply : {n : ℕ} {s : State} (callers : List Frame) (c c' : List ℕ) (w w' : World) (r r' : Reply (List ℕ)) (a : ℕ) →
      step p s ≡ on_cells r (finished callers c w) → r ≡ r' → next_price s ≡ Some a → a ≤ n → Comes p n s (on_cells r' (finished callers c' w'))
  last_reply callers c c' w w' r r' a e f paid h = last_step a (e ∙ ap (λ z. on_cells z (finished callers c w)) f ∙ alike r') paid h
    where
      alike : (r : Reply (List ℕ)) → on_cells r (finished callers c w) ≡ on_cells r (finished callers c' w')
      alike (Gives c w) = refl
      alike (Stops end w) = refl

  -- the same for more
  pub cheaper : {b : ℕ} {s : State} {o : Outcome} (a : ℕ) → a ≤ b → Comes p a s o → Comes p b s o
  cheaper a h r = record { count = r.count; run = r.run; paid = omega (arith, r.paid, h) }

  -- to the same under another name
  pub renamed : {n : ℕ} {s : State} {o o' : Outcome} → o ≡ o' → Comes p n s o → Comes p n s o'
  renamed e r = record { count = r.count; run = r.run ∙ e; paid = r.paid }

-- what comes to the meaning, within heights that a walk finds, does its meaning
pub meant_by : {price : ℕ} {body : Nodes} {word : Word} {p : SourceProgram} {callers : List Frame} {c : List ℕ} {w : World} {x : ℕ × ℕ} (n : ℕ) →
    n + 2 ≤ price → walk ((entry_of word).need + (entry_of word).peak) (entry_of word).back body (entry_of word).need 1 ≡ Some x → (entry_of word).need ≤ length c →
    Comes p n (entered body callers c w) (meant word callers c w) → DoesItsMeaning price body word p callers c w
meant_by {body = body} {word = word} {p = p} {callers = callers} {c = c} {w = w} {x = x} n h e need r =
    let same = exactly p r.count 2 (entered body callers c w) (meant word callers c w) r.run in record {
      count = same.count;
      run = same.run;
      within_price =
          let f : body_spent p (2 + 0) r.count (entered body callers c w) ≡ 2 + body_spent p 0 r.count (entered body callers c w) = spent_from p 2 0 r.count (entered body callers c w) in
          let g = same.price in
          let k = r.paid in
          omega (arith, f, g, k, h);
      within_stacks = λ j s i run. definition_fits body word p callers c w x e need j s run (λ m v l. same.busy m v (omega (arith, l, i)));
    }
