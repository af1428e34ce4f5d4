-- Runs compose, and an end stays.
use Rattle.std.proofs.Common.{◌≡◌, ℕ, zero, suc, ◌+◌, refl, ap, sym, ◌∙◌, arith}
use Rattle.forth_program.specs.State.{State, End, World, Outcome, Goes, Ends}
use Rattle.forth_program.specs.Program.{SourceProgram}
use Rattle.forth_program.specs.Step.{step}
use Rattle.forth_program.specs.Run.{steps, and_then}
use Rattle.forth_program.specs.Price.{spent, spent_after, step_price}

and_then_then : (o : Outcome) (f g : State → Outcome) → and_then (and_then o f) g ≡ and_then o (λ s. and_then (f s) g)
and_then_then (Goes s) f g = refl
and_then_then (Ends end w) f g = refl

and_then_same : (o : Outcome) (f g : State → Outcome) → ((s : State) → f s ≡ g s) → and_then o f ≡ and_then o g
and_then_same (Goes s) f g same = same s
and_then_same (Ends end w) f g same = refl

-- a + b steps are a steps and then b more
pub steps_more : (p : SourceProgram) (a b : ℕ) (s : State) → steps p (a + b) s ≡ and_then (steps p a s) (steps p b)
unfolding steps
steps_more p zero b s = ap (λ k. steps p k s) (omega arith)
steps_more p (suc a) b s =
    ap (λ k. steps p k s) (suc_sum a b) ∙ and_then_same (step p s) (steps p (a + b)) (λ t. and_then (steps p a t) (steps p b)) (steps_more p a b)
    ∙ sym (and_then_then (step p s) (steps p a) (steps p b))
  where
    suc_sum : (a b : ℕ) → suc a + b ≡ suc (a + b)
    suc_sum a b = omega arith

pub ended : (p : SourceProgram) (a b : ℕ) (s : State) (end : End) (w : World) → steps p a s ≡ Ends end w → steps p (a + b) s ≡ Ends end w
ended p a b s end w e = steps_more p a b s ∙ ap (λ o. and_then o (steps p b)) e

after_plus : (o : Outcome) (f g : State → ℕ) (t u : ℕ) → ((s : State) → f s ≡ t + g s) → spent_after (t + u) o f ≡ t + spent_after u o g
after_plus (Goes s) f g t u same = same s
after_plus (Ends end w) f g t u same = refl

-- the total is what stood before and what is spent from 0
pub spent_from : (p : SourceProgram) (t u k : ℕ) (s : State) → spent p (t + u) k s ≡ t + spent p u k s
unfolding spent
spent_from p t u zero s = refl
spent_from p t u (suc k) s =
    ap (λ n. spent_after n (step p s) (spent p n k)) (sum_assoc t u (step_price s))
    ∙ after_plus (step p s) (spent p (t + (u + step_price s)) k) (spent p (u + step_price s) k) t (u + step_price s) (spent_from p t (u + step_price s) k)
  where
    sum_assoc : (a b c : ℕ) → (a + b) + c ≡ a + (b + c)
    sum_assoc a b c = omega arith
