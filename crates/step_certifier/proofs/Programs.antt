-- The definitions of a program, in source order, end within their cost: so MAIN does.
use Rattle.std.proofs.Common.{◌≡◌, ℕ, zero, suc, ◌+◌, ◌<◌, ⊎_elim, Bool, true, false, ◌&&◌, if◌then◌else◌, List, [], ◌∷◌, ◌++◌, length, Option, Some, None, refl, sym, ap, ◌∙◌, subst, arith}
use Rattle.std.specs.Prelude.{nat_lt, slice_index_or}
use Rattle.std.proofs.lemmas.Bool.{eq-eqb, cases_lt}
use Rattle.forth_program.specs.Tree.{Nodes, Empty}
use Rattle.forth_program.specs.State.{Frame, World}
use Rattle.forth_program.specs.Program.{SourceProgram, body_of}
use Rattle.forth_program.specs.Step.{before}
use Rattle.forth_program.specs.Run.{first_world, source_run}
use Rattle.forth_program.specs.Price.{price}
use Rattle.step_certifier.specs.declared.bound.BoundCause.{BoundCause}
use Rattle.step_certifier.specs.declared.bound.BoundCause.TheVariants.{TooLarge}
use Rattle.step_certifier.specs.Capped.{most_steps}
use Rattle.step_certifier.specs.Cost.{Other, cost, costs_with, costs}
use Rattle.step_certifier.specs.Refusal.{refusal, calls, reaches, refusal_in, first_refusal}
use Rattle.step_certifier.specs.Bound.{bound, refused_item, Bounded, Refused, answer_of, step_bound}
use Rattle.step_certifier.proofs.Entries.{LevelProgram}
use Rattle.step_certifier.specs.Law.{EndsWithin}
use Rattle.step_certifier.proofs.RunEnds.{at, Within, more}
use Rattle.step_certifier.proofs.Ways.{Exits, exits_more, end_onward, acts, or_left, or_right}
use Rattle.step_certifier.proofs.LoopCosts.{Earlier}
use Rattle.step_certifier.proofs.Items.{items_end}

and_both : (a b : Bool) → a ≡ true → b ≡ true → (a && b) ≡ true
and_both true b h k = k
and_both false b h k = cc (h)

low_of : (xs : List ℕ) (y d : ℕ) → d < length xs → slice_index_or (xs ++ y ∷ []) d 0 ≡ slice_index_or xs d 0
low_of [] y d lt = absurd (omega (arith, lt))
low_of (x ∷ xs) y zero lt = refl
low_of (x ∷ xs) y (suc d) lt = low_of xs y d (omega (arith, lt))

end_of : (xs : List ℕ) (y : ℕ) → slice_index_or (xs ++ y ∷ []) (length xs) 0 ≡ y
end_of [] y = refl
end_of (x ∷ xs) y = end_of xs y

one_longer : (xs : List ℕ) (y : ℕ) → length (xs ++ y ∷ []) ≡ suc (length xs)
one_longer [] y = refl
one_longer (x ∷ xs) y = ap suc (one_longer xs y)

head_refusal : (number : ℕ) (x : Option BoundCause) (next : Option (ℕ × BoundCause)) → refusal_in number x next ≡ None → (x ≡ None) × (next ≡ None)
head_refusal number None next r = (refl, r)
head_refusal number (Some cause) next r = cc (r)

chosen : (b : Bool) (x : Option BoundCause) → b ≡ true → (if b then x else None) ≡ None → x ≡ None
chosen true x h r = r
chosen false x h r = cc (h)

module _ (p : SourceProgram) (comes_back : ℕ → Bool) (level : LevelProgram p comes_back) where
  -- the items of a definition and its end
  abbrev Runs : ℕ → ℕ → Type 0
  Runs d most_own = (cs : List Frame) (c : List ℕ) (w : World) (most : ℕ) → (comes_back d ≡ true → Exits p cs most) → Within p (at (before (body_of p d) []) [] cs c w) (most_own + 1 + most)

  body_runs : (known : List ℕ) (own : ℕ) → refusal own Other (body_of p own) ≡ None → Earlier p comes_back known own (body_of p own) → Runs own (cost known Other (body_of p own))
  body_runs known own r e cs c w most x =
      more p (at (before (body_of p own) []) [] cs c w) (cost known Other (body_of p own) + (1 + most)) (cost known Other (body_of p own) + 1 + most)
      (items_end p comes_back known own (body_of p own) (record { out = None; loop_work = []; base = []; callers = cs; inside = λ m e. cc (e) }) Other (Some 0) (level own).0 [] (1 + most) r e (level own).1 refl
      (λ es c' w' k i o. acts p (at [] es cs c' w') most (end_onward p (comes_back own) (level own).0 [] es cs c' w' most (level own).2 i x))
      (λ l v es c' w' e i. cc (e))
      (λ back. exits_more p cs most (1 + most) (x back) (omega arith))
      [] c w tt refl tt)
      (omega arith)

  -- definitions before this one that are reached
  abbrev Good : ℕ → List ℕ → (ℕ → Bool) → Type 0
  Good number known reached = (d : ℕ) → reached d ≡ true → d < number → Runs d (slice_index_or known d 0)

  module _ (reached : ℕ → Bool) where
    table : (bodies : List Nodes) (number : ℕ) (known : List ℕ) → length known ≡ number → ((j : ℕ) → body_of p (number + j) ≡ slice_index_or bodies j Empty) → first_refusal reached number bodies ≡ None →
        ((d : ℕ) → reaches p.main_body number bodies d ≡ true → reached d ≡ true) → Good number known (reaches p.main_body number bodies) → p.main_body < number + length bodies →
        Runs p.main_body (slice_index_or (costs_with known bodies) p.main_body 0)
    table [] number known size are r up good lt = good p.main_body (eq-eqb p.main_body p.main_body refl) (omega (arith, lt))
    table (body ∷ bodies) number known size are r up good lt =
        let heads = head_refusal number (if reached number then refusal number Other body else None) (first_refusal reached (suc number) bodies) r in
        table bodies (suc number) (known ++ cost known Other body ∷ []) (one_longer known (cost known Other body) ∙ ap suc size)
        (λ j. let e : suc number + j ≡ number + suc j = omega arith in ap (body_of p) e ∙ are (suc j))
        heads.1
        (λ d h. up d (or_left (reaches p.main_body (suc number) bodies d) (reaches p.main_body (suc number) bodies number && calls d body) h))
        (λ d h below. ⊎_elim
        (λ less. subst (Runs d) (sym (low_of known (cost known Other body) d (omega (arith, size, less))))
        (good d (or_left (reaches p.main_body (suc number) bodies d) (reaches p.main_body (suc number) bodies number && calls d body) h) less))
        (λ same.
        let is : d ≡ number = omega (arith, below, same) in
        let on : reaches p.main_body (suc number) bodies number ≡ true = subst (λ n. reaches p.main_body (suc number) bodies n ≡ true) is h in
        subst (λ n. Runs n (slice_index_or (known ++ cost known Other body ∷ []) n 0)) (sym is)
        (own_runs body (let z : number ≡ number + 0 = omega arith in ap (body_of p) z ∙ are 0)
        (chosen (reached number) (refusal number Other body) (up number (or_left (reaches p.main_body (suc number) bodies number) (reaches p.main_body (suc number) bodies number && calls number body) on)) heads.0)
        (λ n called before_it. good n
        (or_right (reaches p.main_body (suc number) bodies n) (reaches p.main_body (suc number) bodies number && calls n body) (and_both (reaches p.main_body (suc number) bodies number) (calls n body) on called)) before_it)
        number known size))
        (cases_lt d number))
        (omega (arith, lt))
      where
        own_runs : (body : Nodes) → body_of p number ≡ body → refusal number Other body ≡ None → ((n : ℕ) → calls n body ≡ true → n < number → Runs n (slice_index_or known n 0)) → (m : ℕ) (known' : List ℕ) → length known ≡ number →
            Runs number (slice_index_or (known ++ cost known Other body ∷ []) number 0)
        own_runs body is r called m known' size =
            subst (Runs number) (sym (ap (λ n. slice_index_or (known ++ cost known Other body ∷ []) n 0) (sym size) ∙ end_of known (cost known Other body)))
            (subst (λ b. Runs number (cost known Other b)) is
            (body_runs known number (subst (λ b. refusal number Other b ≡ None) (sym is) r)
            (λ n h lt f fs c w most back. called n (subst (λ b. calls n b ≡ true) is h) lt (f ∷ fs) c w most (λ returns c' w'. back c' w' returns))))

  main_runs : refused_item p ≡ None → p.main_body < length p.bodies → Runs p.main_body (slice_index_or (costs p.bodies) p.main_body 0)
  main_runs r lt =
      table (reaches p.main_body 0 p.bodies) p.bodies 0 [] refl (λ j. let e : 0 + j ≡ j = omega arith in ap (body_of p) e) r (λ d h. h) (λ d h lt. absurd (omega (arith, lt))) (omega (arith, lt))

bounded_same : (m n : ℕ) → Bounded m ≡ Bounded n → m ≡ n
bounded_same m n e = cc

answer_bounds : (p : SourceProgram) (most : ℕ) (o : Option (ℕ × BoundCause)) → answer_of p o ≡ Bounded most → (o ≡ None) × (bound p ≡ most)
answer_bounds p most (Some found) is = cc (is)
answer_bounds p most None is = (refl, of (nat_lt most_steps (bound p)) is)
  where
    of : (b : Bool) → (if b then Refused p.main_body TooLarge else Bounded (bound p)) ≡ Bounded most → bound p ≡ most
    of true is = cc (is)
    of false is = bounded_same (bound p) most is

pub level_program_ends : (p : SourceProgram) (comes_back : ℕ → Bool) (most : ℕ) (input : List ℕ) → p.main_body < length p.bodies → LevelProgram p comes_back → step_bound p ≡ Bounded most → EndsWithin p input most
unfolding source_run price
level_program_ends p comes_back most input lt level is =
    let a = answer_bounds p most (refused_item p) is in
    let e = main_runs p comes_back level a.0 lt [] [] (first_world p input) 0 (λ back. tt) in
    record {
      count = e.count;
      end = e.end;
      world = e.world;
      ends = e.ends;
      price = (
          let g = e.price 8 in
          let h = a.1 in
          omega (arith, g, h));
    }
