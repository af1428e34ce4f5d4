-- Runs whose GOs come back, one after the other.
use Rattle.std.proofs.Common.{◌≡◌, ℕ, zero, suc, ◌+◌, ◌≤◌, List, [], ◌∷◌, refl, ap, ◌∙◌, subst, arith}
use Rattle.std.specs.Prelude.{◌++◌}
use Rattle.std.proofs.lemmas.List.{append_assoc}
use Rattle.forth_program.specs.Tree.{Nodes}
use Rattle.forth_program.specs.State.{State, World, Work, Left, Outcome, Goes, Ends}
use Rattle.forth_program.specs.Program.{SourceProgram, body_of}
use Rattle.forth_program.specs.Step.{before, called, step}
use Rattle.forth_program.specs.Run.{steps, and_then}
use Rattle.forth_program.specs.Price.{spent, spent_after, step_price}
use Rattle.forth_program.specs.Returns.{Return, come_back, steps_back, spent_back, spent_back_after, state_back}
use Rattle.kernel_words.specs.Running.{Comes, Returns}
use Rattle.kernel_words.proofs.Runs.{by_way, there}
use Rattle.kernel_interpreter.specs.Running.{ComesBack, ComesOut, ReturnsBack}
use Rattle.kernel_interpreter.specs.Laws.{ReturnsStay}

module _ (p : SourceProgram) where
  -- ---- where no GO is on the way
  goes_on : (later : List Return) (n k : ℕ) (s t : State) → steps p k s ≡ Goes t → steps_back p later (k + n) s ≡ steps_back p later n t
  unfolding steps steps_back
  goes_on later n zero s t e = ap (λ m. steps_back p later m s) (none n) ∙ ap (λ o. come_back later s o (λ rest u. steps_back p rest n u)) e
    where
      none : (n : ℕ) → 0 + n ≡ n
      none n = omega arith
  goes_on later n (suc k) s t e = ap (λ m. steps_back p later m s) (more k n) ∙ by (step p s) e (λ u. goes_on later n k u t)
    where
      more : (k n : ℕ) → suc k + n ≡ suc (k + n)
      more k n = omega arith

      by : (o : Outcome) → and_then o (steps p k) ≡ Goes t →
          ((u : State) → steps p k u ≡ Goes t → steps_back p later (k + n) u ≡ steps_back p later n t) →
          come_back later s o (λ rest u. steps_back p rest (k + n) u) ≡ steps_back p later n t
      by (Goes u) e same = same u e
      by (Ends end w) e same = let no : ⊥ = cc in absurd no

  spends : (later : List Return) (n k total : ℕ) (s t : State) → steps p k s ≡ Goes t →
      spent_back p later total (k + n) s ≡ spent_back p later (spent p total k s) n t
  unfolding steps spent spent_back
  spends later n zero total s t e = ap (λ m. spent_back p later total m s) (none n)
      ∙ ap (λ o. spent_back_after later s total o (λ rest u. spent_back p rest total n u)) e
    where
      none : (n : ℕ) → 0 + n ≡ n
      none n = omega arith
  spends later n (suc k) total s t e = ap (λ m. spent_back p later total m s) (more k n)
      ∙ by (step p s) e (λ u. spends later n k (total + step_price s) u t)
    where
      more : (k n : ℕ) → suc k + n ≡ suc (k + n)
      more k n = omega arith

      by : (o : Outcome) → and_then o (steps p k) ≡ Goes t →
          ((u : State) → steps p k u ≡ Goes t → spent_back p later (total + step_price s) (k + n) u
          ≡ spent_back p later (spent p (total + step_price s) k u) n t) →
          spent_back_after later s (total + step_price s) o (λ rest u. spent_back p rest (total + step_price s) (k + n) u) ≡
          spent_back p later (spent_after (total + step_price s) o (spent p (total + step_price s) k)) n t
      by (Goes u) e same = same u e
      by (Ends end w) e same = let no : ⊥ = cc in absurd no

  -- what was spent before adds to what is spent
  spent_from : (t u k : ℕ) (s : State) → spent p (t + u) k s ≡ t + spent p u k s
  unfolding spent
  spent_from t u zero s = refl
  spent_from t u (suc k) s = ap (λ n. spent_after n (step p s) (spent p n k)) (plus t u (step_price s))
      ∙ after (step p s) (spent p (t + (u + step_price s)) k) (spent p (u + step_price s) k)
      (u + step_price s) (λ s'. spent_from t (u + step_price s) k s')
    where
      plus : (a b c : ℕ) → (a + b) + c ≡ a + (b + c)
      plus a b c = omega arith

      after : (o : Outcome) (f g : State → ℕ) (u : ℕ) → ((s : State) → f s ≡ t + g s) → spent_after (t + u) o f ≡ t + spent_after u o g
      after (Goes s) f g u same = same s
      after (Ends end w) f g u same = refl

  spent_on : (x k : ℕ) (s : State) → spent p x k s ≡ x + spent p 0 k s
  spent_on x k s = ap (λ y. spent p y k s) (plus_zero x) ∙ spent_from x 0 k s
    where
      plus_zero : (x : ℕ) → x ≡ x + 0
      plus_zero x = omega arith

  pub stays : {m d : ℕ} {s t : State} → Comes p m d s t → ComesBack p [] m d s t
  stays {s = s} {t = t} r = record {
    count = r.count;
    paid = spent p 0 r.count s;
    run = λ later k. goes_on later k r.count s t r.run;
    price = λ later total k. spends later k r.count total s t r.run ∙ ap (λ x. spent_back p later x k t) (spent_on total r.count s);
    few = r.few;
    cheap = r.paid;
  }

  -- ---- a step of GO, which comes back
  pub go_back : (back : Return) (s t : State) (a : ℕ) (w : World) → step p s ≡ Ends (Left a) w → state_back back s ≡ t →
      ComesBack p (back ∷ []) 1 (step_price s) s t
  unfolding steps_back spent_back
  go_back back s t a w e f = record {
    count = 1;
    paid = step_price s;
    run = λ later k. ap (λ n. steps_back p (back ∷ later) n s) (one k)
        ∙ ap (λ o. come_back (back ∷ later) s o (λ rest u. steps_back p rest k u)) e ∙ ap (λ u. steps_back p later k u) f;
    price = λ later total k. ap (λ n. spent_back p (back ∷ later) total n s) (one k)
        ∙ ap (λ o. spent_back_after (back ∷ later) s (total + step_price s) o (λ rest u. spent_back p rest (total + step_price s) k u)) e
        ∙ ap (λ u. spent_back p later (total + step_price s) k u) f;
    few = omega arith;
    cheap = omega arith;
  }
    where
      one : (k : ℕ) → 1 + k ≡ suc k
      one k = omega arith

  -- ---- one run and then another
  pub within_back : {backs : List Return} {n b : ℕ} {s t : State} (m d : ℕ) → m ≤ n → d ≤ b → ComesBack p backs m d s t →
      ComesBack p backs n b s t
  within_back m d h k r = record {
    count = r.count;
    paid = r.paid;
    run = r.run;
    price = r.price;
    few = omega (arith, r.few, h);
    cheap = omega (arith, r.cheap, k);
  }

  pub then_back : {b b' : List Return} {m d m' d' : ℕ} {s t u : State} → ComesBack p b m d s t → ComesBack p b' m' d' t u →
      ComesBack p (b ++ b') (m + m') (d + d') s u
  then_back {b = b} {b' = b'} {s = s} {u = u} r q = record {
    count = r.count + q.count;
    paid = r.paid + q.paid;
    run = λ later k. ap (λ l. steps_back p l (r.count + q.count + k) s) (append_assoc b b' later)
        ∙ ap (λ n. steps_back p (b ++ (b' ++ later)) n s) (plus r.count q.count k) ∙ r.run (b' ++ later) (q.count + k) ∙ q.run later k;
    price = λ later total k. ap (λ l. spent_back p l total (r.count + q.count + k) s) (append_assoc b b' later)
        ∙ ap (λ n. spent_back p (b ++ (b' ++ later)) total n s) (plus r.count q.count k) ∙ r.price (b' ++ later) total (q.count + k)
        ∙ q.price later (total + r.paid) k
        ∙ ap (λ x. spent_back p later x k u) (plus total r.paid q.paid);
    few = omega (arith, r.few, q.few);
    cheap = omega (arith, r.cheap, q.cheap);
  }
    where
      plus : (x y z : ℕ) → x + y + z ≡ x + (y + z)
      plus x y z = omega arith

  -- a run with no GO, and then one
  pub then_goes : {b : List Return} {n c : ℕ} {s t u : State} (m d m' d' : ℕ) → m + m' ≤ n → d + d' ≤ c → Comes p m d s t →
      ComesBack p b m' d' t u → ComesBack p b n c s u
  then_goes m d m' d' h k r q = within_back (m + m') (d + d') h k (then_back (stays r) q)

  -- a run, and then one with no GO
  pub then_stays : {b : List Return} {n c : ℕ} {s t u : State} (m d m' d' : ℕ) → m + m' ≤ n → d + d' ≤ c → ComesBack p b m d s t →
      Comes p m' d' t u → ComesBack p b n c s u
  then_stays {b = b} {n = n} {c = c} {s = s} {u = u} m d m' d' h k r q =
      subst_back (append_nil b) (within_back (m + m') (d + d') h k (then_back r (stays q)))
    where
      append_nil : (l : List Return) → l ++ [] ≡ l
      append_nil [] = refl
      append_nil (x ∷ l) = ap (λ l. x ∷ l) (append_nil l)

      subst_back : {b b' : List Return} → b ≡ b' → ComesBack p b n c s u → ComesBack p b' n c s u
      subst_back e r = subst (λ l. ComesBack p l n c s u) e r

  -- a call of a definition that returns where its GOs come back
  pub calls_back : {backs : List Return} {s : State} {after : List Work} {c : List ℕ} {w : World} {body : Nodes} (definition i j : ℕ) →
      body_of p definition ≡ body →
      ReturnsBack p backs body i j s.cells s.world c w → step p s ≡ Goes (called p definition (record s { work = after })) →
      ComesBack p backs (1 + i) (step_price s + j) s (record s { work = after; cells = c; world = w })
  unfolding steps spent
  calls_back {s = s} {after = after} {c = c} {w = w} definition i j same returns e =
      then_back (stays (record {
        count = 1;
        run = ap (λ o. and_then o (steps p 0))
            (e ∙ ap (λ z. Goes (record s {
              work = before z [];
              entries = [];
              callers = record { work = after; entries = s.entries } ∷ s.callers;
            })) same);
        few = omega arith;
        paid = rw e (omega arith);
      })) (returns after s.entries s.callers)

pub returns_stay : ReturnsStay
returns_stay p body most highest c w c' w' r work es callers = stays p (r work es callers)

-- a run that comes to a step of GO leaves there
module _ (p : SourceProgram) (t : State) (a : ℕ) (w : World) (leaves : step p t ≡ Ends (Left a) w) where
  plus_one : (k : ℕ) → suc k + 1 ≡ suc (k + 1)
  plus_one k = omega arith

  goes_through : (k : ℕ) (s : State) → steps p k s ≡ Goes t → steps p (k + 1) s ≡ Ends (Left a) w
  unfolding steps
  goes_through zero s f = ap (λ o. and_then o (λ u. and_then (step p u) (steps p 0))) f ∙ ap (λ o. and_then o (steps p 0)) leaves
  goes_through (suc k) s f = ap (λ n. steps p n s) (plus_one k) ∙ by (step p s) f (goes_through k)
    where
      by : (o : Outcome) → and_then o (steps p k) ≡ Goes t → ((u : State) → steps p k u ≡ Goes t → steps p (k + 1) u ≡ Ends (Left a) w) →
          and_then o (steps p (k + 1)) ≡ Ends (Left a) w
      by (Goes u) f same = same u f
      by (Ends end v) f same = let no : ⊥ = cc in absurd no

  pays : (k total : ℕ) (s : State) → steps p k s ≡ Goes t → spent p total (k + 1) s ≡ spent p total k s + step_price t
  unfolding steps spent
  pays zero total s f = ap (λ o. spent_after 0 o (λ u. spent_after (total + step_price u) (step p u) (spent p (total + step_price u) 0))) f
      ∙ ap (λ o. spent_after (total + step_price t) o (spent p (total + step_price t) 0)) leaves
  pays (suc k) total s f = ap (λ n. spent p total n s) (plus_one k) ∙ by (step p s) f (pays k (total + step_price s))
    where
      by : (o : Outcome) → and_then o (steps p k) ≡ Goes t →
          ((u : State) → steps p k u ≡ Goes t → spent p (total + step_price s) (k + 1) u
          ≡ spent p (total + step_price s) k u + step_price t) →
          spent_after (total + step_price s) o (spent p (total + step_price s) (k + 1))
          ≡ spent_after (total + step_price s) o (spent p (total + step_price s) k) + step_price t
      by (Goes u) f same = same u f
      by (Ends end v) f same = let no : ⊥ = cc in absurd no

  pub out : {n b : ℕ} {s : State} (m d : ℕ) → Comes p m d s t → 1 + m ≤ n → step_price t + d ≤ b → ComesOut p n b s a w
  out {s = s} m d r h g = record {
    count = r.count + 1;
    run = goes_through r.count s r.run;
    few = omega (arith, r.few, h);
    paid = let all : spent p 0 (r.count + 1) s ≡ spent p 0 r.count s + step_price t = pays r.count 0 s r.run in
        omega (arith, all, r.paid, g);
  }
