-- Whole runs of word steps.
use Rattle.std.proofs.Common.{◌≡◌, ℕ, zero, suc, ◌+◌, ◌/◌, ◌*◌, ◌≤◌, ◌⊎◌, inl, inr, ⊎_elim, max, Bool, true, false, List, ◌∷◌, length, Option, Some, None, refl, sym, ap, ◌∙◌, subst, arith, add-mul, mul-le-mul_right}
use Rattle.j1_simulator.specs.OpenMachine.{open_storage}
use Rattle.j1_simulator.specs.Run.{run}
use Rattle.forth_program.specs.Tree.{Node}
use Rattle.forth_program.specs.State.{Work, Todo, World, State, End, Halted, InputEnded, Outside, Underflow, Unbalanced, Left, Outcome, Goes, Ends}
use Rattle.forth_program.specs.Program.{SourceProgram}
use Rattle.forth_program.specs.Form.{may_be_token}
use Rattle.forth_program.specs.Tail.{ends_body}
use Rattle.forth_program.specs.Step.{first_work, step}
use Rattle.forth_program.specs.Run.{steps, end_of, lacks, leaves}
use Rattle.forth_program.specs.Price.{step_price, spent}
use Rattle.word_laws.specs.Rings.{OpenConfiguration, BeforeEach}
use Rattle.word_laws.specs.Bounds.{StaysWithin}
use Rattle.word_laws.specs.Standing.{return_places, standing_as, machine_at}
use Rattle.forth_program.specs.Heights.{address_height, return_height, peak_of, back_of, StepsFit, DepthsFit}
use Rattle.code_layout.specs.Layout.{Routine}
use Rattle.code_layout.specs.Agreement.{Shows}
use Rattle.code_layout.proofs.Work.{places_height, callers_fit, ahead, unfinished, Meets}
use Rattle.code_layout.proofs.Machine.{Laws, Runs, narrower, wider, runs_then}
use Rattle.code_layout.proofs.Steps.{Comes, Halts, Follows, halts_after, AllStand}
use Rattle.code_layout.proofs.ExecuteStep.{Executes}
use Rattle.code_layout.proofs.FirstSteps.{step_follows}

-- a run that the machine does not follow: it lacks something, or GO has led it away
abbrev pub strays : Outcome → Bool
strays (Goes s) = false
strays (Ends Underflow world) = true
strays (Ends Unbalanced world) = true
strays (Ends (Left address) world) = true
strays (Ends end world) = false

pub strays_not : (o : Outcome) → lacks o ≡ false → leaves o ≡ false → strays o ≡ false
strays_not (Goes s) e f = refl
strays_not (Ends Underflow world) e f = e
strays_not (Ends Unbalanced world) e f = e
strays_not (Ends (Left address) world) e f = f
strays_not (Ends (Halted status) world) e f = refl
strays_not (Ends InputEnded world) e f = refl
strays_not (Ends (Outside address) world) e f = refl

module _ (p : SourceProgram) (s : State) (k total : ℕ) where
  pub steps_on : (after : State) → step p s ≡ Goes after → steps p (suc k) s ≡ steps p k after
  unfolding steps
  steps_on after e = rw e refl

  pub steps_end : (end : End) (world : World) → step p s ≡ Ends end world → steps p (suc k) s ≡ Ends end world
  unfolding steps
  steps_end end world e = rw e refl

  pub spent_on : (after : State) → step p s ≡ Goes after → spent p total (suc k) s ≡ spent p (total + step_price s) k after
  unfolding spent
  spent_on after e = rw e refl

  pub spent_end : (end : End) (world : World) → step p s ≡ Ends end world → spent p total (suc k) s ≡ total + step_price s
  unfolding spent
  spent_end end world e = rw e refl

pub no_steps : (p : SourceProgram) (s : State) → steps p 0 s ≡ Goes s
unfolding steps
no_steps p s = refl

pub nothing_spent : (p : SourceProgram) (s : State) (total : ℕ) → spent p total 0 s ≡ total
unfolding spent
nothing_spent p s total = refl

module _ (laws : Laws) (p : SourceProgram) (code : List ℕ) (place : Routine → ℕ) (size : length code ≡ p.data_start / 2) (all : AllStand laws p code place size) where
  -- the machine stands where a state stands
  pub record StandsAs (v : OpenConfiguration) (s : State) : Type 0 where
    pub out : Option ℕ
    pub to : ℕ
    pub base : List (Option ℕ)
    pub data_above : List (Option ℕ)
    pub return_above : List (Option ℕ)
    pub is : v ≡ standing_as s (machine_at code to base data_above return_above)
    pub meets : Meets code place p out to s base

  -- where the run has not ended, or else is at the item of a token
  abbrev pub StandsWhere : OpenConfiguration → Outcome → Type 0
  StandsWhere v (Goes s) = StandsAs v s ⊎ ((node : Node) × (w : List Work) × (s.work ≡ Todo node ∷ w) × (may_be_token node ≡ true))
  StandsWhere v (Ends end world) = Unit {0}

  abbrev pub Nearer : ℕ → ℕ → ℕ → Outcome → Type 0
  Nearer k now count (Goes s) = (k + ahead s.work + unfinished s.callers ≤ now + count * (p.source_tokens + 1)) ⊎ ((node : Node) × (w : List Work) × (s.work ≡ Todo node ∷ w) × (may_be_token node ≡ true))
  Nearer k now count (Ends end world) = Unit {0}

  -- k word steps, and as many instructions as do the same
  pub record Reaches (k total now : ℕ) (s : State) (v : OpenConfiguration) : Type 0 where
    pub count : ℕ
    pub cheap : count + total ≤ spent p total k s + 3
    -- a run that goes on takes no more than its price
    pub paid : end_of (steps p k s) ≡ None → count + total ≤ spent p total k s
    pub shows : Shows code (run open_storage p.data_start count v) (steps p k s)
    pub before : (high return_high : ℕ) → StepsFit p high return_high k s → BeforeEach (StaysWithin 0 high 0 return_high) p.data_start count v
    pub at_end : (high return_high : ℕ) (end : End) → StepsFit p high return_high k s → end_of (steps p k s) ≡ Some end → StaysWithin 0 high 0 return_high (run open_storage p.data_start count v)
    pub progress : end_of (steps p k s) ≡ None → k ≤ now + count * (p.source_tokens + 1)
    pub stands : StandsWhere (run open_storage p.data_start count v) (steps p k s)
    -- with the steps that are ahead there
    pub nearer : Nearer k now count (steps p k s)

  pub height_is : (out : Option ℕ) (pc : ℕ) (s : State) (base : List (Option ℕ)) → Meets code place p out pc s base → length (return_places s.entries base) ≡ return_height s
  height_is out pc s base m = omega (arith, places_height s.entries base, callers_fit code place p s.callers base m.frames)

  none_yet : (total now : ℕ) (s : State) (v : OpenConfiguration) → Shows code v (Goes s) → StandsAs v s → ahead s.work + unfinished s.callers ≤ now → Reaches zero total now s v
  none_yet total now s v shows stands due = record {
    count = 0;
    cheap = omega (arith, nothing_spent p s total);
    paid = λ e. omega (arith, nothing_spent p s total);
    shows = subst (Shows code v) (sym (no_steps p s)) shows;
    before = λ high return_high fit. tt;
    at_end = λ high return_high end fit e. let f : end_of (Goes s) ≡ Some end = ap end_of (sym (no_steps p s)) ∙ e in cc;
    progress = λ e. omega arith;
    stands = subst (StandsWhere v) (sym (no_steps p s)) (inl stands);
    nearer = subst (Nearer 0 now 0) (sym (no_steps p s)) (inl (omega arith));
  }

  -- the last of some steps
  ends_at : (k total cost now : ℕ) (s : State) (v : OpenConfiguration) (high return_high : ℕ) (end : End) (world : World) → steps p k s ≡ Ends end world →
      spent p total k s ≡ total + cost → Halts laws p code place size v cost high return_high end world →
      ((high' return_high' : ℕ) → StepsFit p high' return_high' k s → (high ≤ high') × (return_high ≤ return_high')) → Reaches k total now s v
  ends_at k total cost now s v high return_high end world over price h fits =
      let paid = h.cheap in
      record {
        count = h.count;
        cheap = omega (arith, price, paid);
        paid = λ n. let f : Some end ≡ None = sym (ap end_of over) ∙ n in cc;
        shows = subst (Shows code (run open_storage p.data_start h.count v)) (sym over) (record { stop_is = h.ended.stop_is ∙ sym h.stop_is; memory = h.ended.memory; input = h.ended.input; printed = h.ended.printed });
        before = λ high' return_high' fit. let g = fits high' return_high' fit in wider laws p.data_start 0 high 0 return_high high' return_high' h.count v g.0 g.1 h.bounds;
        at_end = λ high' return_high' end' fit e'. let g = fits high' return_high' fit in narrower laws p.data_start 0 high 0 return_high high' return_high' (run open_storage p.data_start h.count v) g.0 g.1 h.at_end;
        progress = λ n. let f : Some end ≡ None = sym (ap end_of over) ∙ n in cc;
        stands = subst (StandsWhere (run open_storage p.data_start h.count v)) (sym over) tt;
        nearer = subst (Nearer k now h.count) (sym over) tt;
      }

  nearer_on : (m k all_steps now then_now count count' : ℕ) (o : Outcome) → all_steps ≡ m + k → m + then_now ≤ now + count * (p.source_tokens + 1) → Nearer k then_now count' o → Nearer all_steps now (count + count') o
  nearer_on m k all_steps now then_now count count' (Goes s) are near (inl h) = inl (omega (arith, are, near, h, add-mul count count' (p.source_tokens + 1)))
  nearer_on m k all_steps now then_now count count' (Goes s) are near (inr hand) = inr hand
  nearer_on m k all_steps now then_now count count' (Ends end world) are near h = tt

  -- m steps and those after them
  goes_on : (m k all_steps total cost now now' : ℕ) (s after : State) (v : OpenConfiguration) (high return_high : ℕ) → all_steps ≡ m + k → steps p all_steps s ≡ steps p k after → spent p total all_steps s ≡ spent p (total + cost) k after →
      (c : Comes laws p code place size v cost now' high return_high after) → m + ahead after.work + unfinished after.callers ≤ now + c.count * (p.source_tokens + 1) →
      Reaches k (total + cost) (ahead after.work + unfinished after.callers) after (standing_as after (machine_at code c.to c.base c.data_above c.return_above)) →
      ((high' return_high' : ℕ) → StepsFit p high' return_high' all_steps s → (high ≤ high') × (return_high ≤ return_high') × StepsFit p high' return_high' k after) → Reaches all_steps total now s v
  goes_on m k all_steps total cost now now' s after v high return_high are onward price c near r fits =
      let paid = c.cheap in
      let paid' = r.cheap in
      let middle = standing_as after (machine_at code c.to c.base c.data_above c.return_above) in
      let joined : run open_storage p.data_start (c.count + r.count) v ≡ run open_storage p.data_start r.count middle = laws.runs_join c.count r.count p.data_start v ∙ ap (run open_storage p.data_start r.count) c.runs.makes in
      record {
        count = c.count + r.count;
        cheap = omega (arith, price, paid, paid');
        paid = λ n. let spent = r.paid (sym (ap end_of onward) ∙ n) in omega (arith, price, paid, spent);
        shows = subst (Shows code (run open_storage p.data_start (c.count + r.count) v)) (sym onward) (subst (λ u. Shows code u (steps p k after)) (sym joined) r.shows);
        before = λ high' return_high' fit.
            let g = fits high' return_high' fit in
            laws.bounds_join 0 high' 0 return_high' c.count r.count p.data_start v (wider laws p.data_start 0 high 0 return_high high' return_high' c.count v g.0 g.1 c.runs.bounds)
            (subst (BeforeEach (StaysWithin 0 high' 0 return_high') p.data_start r.count) (sym c.runs.makes) (r.before high' return_high' g.2));
        at_end = λ high' return_high' end fit q. subst (StaysWithin 0 high' 0 return_high') (sym joined) (r.at_end high' return_high' end (fits high' return_high' fit).2 (sym (ap end_of onward) ∙ q));
        progress = λ n. let far = r.progress (sym (ap end_of onward) ∙ n) in omega (arith, far, near, are, add-mul c.count r.count (p.source_tokens + 1));
        stands = subst (StandsWhere (run open_storage p.data_start (c.count + r.count) v)) (sym onward) (subst (λ u. StandsWhere u (steps p k after)) (sym joined) r.stands);
        nearer = subst (Nearer all_steps now (c.count + r.count)) (sym onward) (nearer_on m k all_steps now (ahead after.work + unfinished after.callers) c.count r.count (steps p k after) are (omega (arith, near)) r.nearer);
      }

  -- what is proved of k steps
  abbrev RunsOf : ℕ → Type 0
  RunsOf k = (total pc : ℕ) (out : Option ℕ) (s : State) (base data_above return_above : List (Option ℕ)) → Meets code place p out pc s base → strays (steps p k s) ≡ false → DepthsFit p k s →
      Reaches k total (ahead s.work + unfinished s.callers) s (standing_as s (machine_at code pc base data_above return_above))

  no_runs : RunsOf zero
  no_runs total pc out s base data_above return_above m sound depths =
      none_yet total (ahead s.work + unfinished s.callers) s (standing_as s (machine_at code pc base data_above return_above)) (record { stop_is = refl; memory = refl; input = refl; printed = refl })
      (record { out = out; to = pc; base = base; data_above = data_above; return_above = return_above; is = refl; meets = m }) (omega arith)

  module _ (total pc : ℕ) (out : Option ℕ) (s : State) (base data_above return_above : List (Option ℕ)) (m : Meets code place p out pc s base) where
    abbrev from : OpenConfiguration
    from = standing_as s (machine_at code pc base data_above return_above)

    abbrev high : ℕ
    high = length s.cells + peak_of s.callers (first_work s.work)

    abbrev return_high : ℕ
    return_high = length (return_places s.entries base) + back_of (first_work s.work)

    fits : (k high' return_high' : ℕ) → StepsFit p high' return_high' (suc k) s → (high ≤ high') × (return_high ≤ return_high')
    fits k high' return_high' fit = let f = fit 0 s (omega arith) (no_steps p s) in (f.0, (let g = f.1 in omega (arith, g, height_is out pc s base m)))

    -- a step that the machine follows
    followed : (k : ℕ) → strays (steps p (suc k) s) ≡ false → DepthsFit p (suc k) s → RunsOf k → (o : Outcome) → step p s ≡ o →
        Follows laws p code place size from (step_price s) (ahead s.work + unfinished s.callers) high return_high o →
        Reaches (suc k) total (ahead s.work + unfinished s.callers) s from
    followed k sound depths later (Goes after) e c =
        let near = c.progress in
        goes_on 1 k (suc k) total (step_price s) (ahead s.work + unfinished s.callers) (ahead s.work + unfinished s.callers) s after from high return_high (omega arith) (steps_on p s k total after e) (spent_on p s k total after e) c near
        (later (total + step_price s) c.to c.out after c.base c.data_above c.return_above c.meets (sym (ap strays (steps_on p s k total after e)) ∙ sound) (λ j t lt q. depths (suc j) t (omega arith) (steps_on p s j total after e ∙ q)))
        (λ high' return_high' fit. let g = fits k high' return_high' fit in (g.0, g.1, λ j t lt q. fit (suc j) t (omega arith) (steps_on p s j total after e ∙ q)))
    followed k sound depths later (Ends Underflow world) e c = let f : true ≡ false = sym (ap strays (steps_end p s k total Underflow world e)) ∙ sound in cc
    followed k sound depths later (Ends Unbalanced world) e c = let f : true ≡ false = sym (ap strays (steps_end p s k total Unbalanced world e)) ∙ sound in cc
    followed k sound depths later (Ends (Left address) world) e c = let f : true ≡ false = sym (ap strays (steps_end p s k total (Left address) world e)) ∙ sound in cc
    followed k sound depths later (Ends (Halted status) world) e c =
        ends_at (suc k) total (step_price s) (ahead s.work + unfinished s.callers) s from high return_high (Halted status) world (steps_end p s k total (Halted status) world e) (spent_end p s k total (Halted status) world e) c (fits k)
    followed k sound depths later (Ends InputEnded world) e c =
        ends_at (suc k) total (step_price s) (ahead s.work + unfinished s.callers) s from high return_high InputEnded world (steps_end p s k total InputEnded world e) (spent_end p s k total InputEnded world e) c (fits k)
    followed k sound depths later (Ends (Outside address) world) e c =
        ends_at (suc k) total (step_price s) (ahead s.work + unfinished s.callers) s from high return_high (Outside address) world
        (steps_end p s k total (Outside address) world e) (spent_end p s k total (Outside address) world e) c (fits k)

    -- EXECUTE, and then the item of its token
    module _ (x : Executes laws p code place size all from (step_price s) (ahead s.work + unfinished s.callers) high return_high (first_work s.work) s.cells s.entries base (step p s)) where
      twice_on : (k : ℕ) (after : State) → step p x.after ≡ Goes after → steps p (suc (suc k)) s ≡ steps p k after
      twice_on k after e = steps_on p s (suc k) total x.after x.is ∙ steps_on p x.after k total after e

      twice_spent : (k : ℕ) (after : State) → step p x.after ≡ Goes after → spent p total (suc (suc k)) s ≡ spent p (total + (step_price s + step_price x.after)) k after
      twice_spent k after e =
          let sum : total + step_price s + step_price x.after ≡ total + (step_price s + step_price x.after) = omega arith in
          spent_on p s (suc k) total x.after x.is ∙ spent_on p x.after k (total + step_price s) after e ∙ ap (λ n. spent p n k after) sum

      twice_end : (k : ℕ) (end : End) (world : World) → step p x.after ≡ Ends end world → steps p (suc (suc k)) s ≡ Ends end world
      twice_end k end world e = steps_on p s (suc k) total x.after x.is ∙ steps_end p x.after k total end world e

      twice_end_spent : (k : ℕ) (end : End) (world : World) → step p x.after ≡ Ends end world → spent p total (suc (suc k)) s ≡ total + (step_price s + step_price x.after)
      twice_end_spent k end world e =
          let sum : total + step_price s + step_price x.after ≡ total + (step_price s + step_price x.after) = omega arith in
          spent_on p s (suc k) total x.after x.is ∙ spent_end p x.after k (total + step_price s) end world e ∙ sum

      item_state : (k : ℕ) → steps p 1 s ≡ Goes x.after
      item_state k = steps_on p s 0 total x.after x.is ∙ no_steps p x.after

      -- EXECUTE alone
      executed : strays (steps p 1 s) ≡ false → Reaches 1 total (ahead s.work + unfinished s.callers) s from
      executed sound =
          let over = item_state 0 in
          let price = spent_on p s 0 total x.after x.is ∙ nothing_spent p x.after (total + step_price s) in
          let cheap = x.cheap in
          let some = x.some in
          let makes = x.runs.makes in
          let near : 2 * (p.source_tokens + 1) ≤ x.count * (p.source_tokens + 1) = mul-le-mul_right (p.source_tokens + 1) some in
          record {
            count = x.count;
            cheap = omega (arith, price, cheap);
            paid = λ n. omega (arith, price, cheap);
            shows = subst (Shows code (run open_storage p.data_start x.count from)) (sym over) (subst (λ u. Shows code u (Goes x.after)) (sym makes) x.shows);
            before = λ high' return_high' fit. let g = fits 0 high' return_high' fit in wider laws p.data_start 0 high 0 return_high high' return_high' x.count from g.0 g.1 x.runs.bounds;
            at_end = λ high' return_high' end fit q. let f : None ≡ Some end = sym (ap end_of over) ∙ q in cc;
            progress = λ n. omega (arith, near);
            stands = subst (StandsWhere (run open_storage p.data_start x.count from)) (sym over) (inr (x.node, x.then_work, x.work_is, x.is_token));
            nearer = subst (Nearer 1 (ahead s.work + unfinished s.callers) x.count) (sym over) (inr (x.node, x.then_work, x.work_is, x.is_token));
          }

      module _ (top return_top : ℕ) (peak : high ≤ top) (back : return_high ≤ return_top) where
        abbrev runs_before : Runs p.data_start top return_top x.count from x.there
        runs_before = record { makes = x.runs.makes; bounds = wider laws p.data_start 0 high 0 return_high top return_top x.count from peak back x.runs.bounds }

        both_come : (after : State) → Comes laws p code place size x.there (step_price x.after + 1) (p.source_tokens + 1 + unfinished (record { work = x.then_work; entries = s.entries } ∷ x.after.callers)) top return_top after →
            (c : Comes laws p code place size from (step_price s + step_price x.after) (ahead s.work + unfinished s.callers) top return_top after)
            × (2 + ahead after.work + unfinished after.callers ≤ ahead s.work + unfinished s.callers + c.count * (p.source_tokens + 1))
        both_come after c =
            let cheap = x.cheap in
            let paid = c.cheap in
            let some = x.some in
            let far = c.progress in
            let due = x.due in
            let twice : 2 * (p.source_tokens + 1) ≤ x.count * (p.source_tokens + 1) = mul-le-mul_right (p.source_tokens + 1) some in (
              record {
                count = x.count + c.count;
                out = c.out;
                to = c.to;
                base = c.base;
                data_above = c.data_above;
                return_above = c.return_above;
                runs = runs_then laws p.data_start top return_top x.count c.count from x.there (standing_as after (machine_at code c.to c.base c.data_above c.return_above)) runs_before c.runs;
                meets = c.meets;
                cheap = omega (arith, cheap, paid);
                progress = omega (arith, far, due, twice, add-mul x.count c.count (p.source_tokens + 1));
              },
              omega (arith, far, due, twice, add-mul x.count c.count (p.source_tokens + 1)),
            )

        both_end : (k : ℕ) → ((high' return_high' : ℕ) → StepsFit p high' return_high' (suc (suc k)) s → (top ≤ high') × (return_top ≤ return_high')) → (end : End) (world : World) → step p x.after ≡ Ends end world →
            Halts laws p code place size x.there (step_price x.after + 1) top return_top end world → Reaches (suc (suc k)) total (ahead s.work + unfinished s.callers) s from
        both_end k fit end world e h =
            let cheap = x.cheap in
            ends_at (suc (suc k)) total (step_price s + step_price x.after) (ahead s.work + unfinished s.callers) s from top return_top end world (twice_end k end world e) (twice_end_spent k end world e)
            (halts_after laws p code place size from x.there x.count (step_price x.after + 1) (step_price s + step_price x.after) top return_top end world (omega (arith, cheap)) runs_before h) fit

        both_followed : (k : ℕ) → strays (steps p (suc (suc k)) s) ≡ false → DepthsFit p (suc (suc k)) s → RunsOf k → ((high' return_high' : ℕ) → StepsFit p high' return_high' (suc (suc k)) s → (top ≤ high') × (return_top ≤ return_high')) →
            (o : Outcome) → step p x.after ≡ o →
            Follows laws p code place size x.there (step_price x.after + 1)
            (p.source_tokens + 1 + unfinished (record { work = x.then_work; entries = s.entries } ∷ x.after.callers)) top return_top o →
            Reaches (suc (suc k)) total (ahead s.work + unfinished s.callers) s from
        both_followed k sound depths later fit (Goes after) e c =
            let b = both_come after c in
            let d = b.0 in
            goes_on 2 k (suc (suc k)) total (step_price s + step_price x.after) (ahead s.work + unfinished s.callers) (ahead s.work + unfinished s.callers) s
            after from top return_top (omega arith) (twice_on k after e) (twice_spent k after e) d b.1
            (later (total + (step_price s + step_price x.after)) d.to d.out after d.base d.data_above d.return_above d.meets
            (sym (ap strays (twice_on k after e)) ∙ sound) (λ j t lt q. depths (suc (suc j)) t (omega arith) (twice_on j after e ∙ q)))
            (λ high' return_high' steps_fit. let g = fit high' return_high' steps_fit in (g.0, g.1, λ j t lt q. steps_fit (suc (suc j)) t (omega arith) (twice_on j after e ∙ q)))
        both_followed k sound depths later fit (Ends Underflow world) e c = let f : true ≡ false = sym (ap strays (twice_end k Underflow world e)) ∙ sound in cc
        both_followed k sound depths later fit (Ends Unbalanced world) e c = let f : true ≡ false = sym (ap strays (twice_end k Unbalanced world e)) ∙ sound in cc
        both_followed k sound depths later fit (Ends (Left address) world) e c = let f : true ≡ false = sym (ap strays (twice_end k (Left address) world e)) ∙ sound in cc
        both_followed k sound depths later fit (Ends (Halted status) world) e c = both_end k fit (Halted status) world e c
        both_followed k sound depths later fit (Ends InputEnded world) e c = both_end k fit InputEnded world e c
        both_followed k sound depths later fit (Ends (Outside address) world) e c = both_end k fit (Outside address) world e c

      -- what both take
      abbrev back_of_item : ℕ
      back_of_item = length (return_places s.entries base) + address_height (ends_body x.then_work) + back_of (first_work x.after.work)

      twice : (k : ℕ) → strays (steps p (suc (suc k)) s) ≡ false → DepthsFit p (suc (suc k)) s → RunsOf k → Reaches (suc (suc k)) total (ahead s.work + unfinished s.callers) s from
      twice k sound depths later =
          let top = max high (length x.after.cells + peak_of x.after.callers (first_work x.after.work)) in
          let return_top = max return_high back_of_item in
          both_followed top return_top (omega arith) (omega arith) k sound depths later
          (λ high' return_high' fit.
          let f = fit 0 s (omega arith) (no_steps p s) in
          let g = fit 1 x.after (omega arith) (item_state 1) in
          let a = f.0 in
          let b = g.0 in
          let d = f.1 in
          let e = f.2 in
          let same = x.back_is in
          let height = height_is out pc s base m in
          (omega (arith, a, b), omega (arith, d, e, same, height)))
          (step p x.after) refl (x.item top return_top (omega arith) (omega arith) (depths 1 x.after (omega arith) (item_state 1)))

  one_more : (k : ℕ) → RunsOf k → ((j : ℕ) → suc j ≡ k → RunsOf j) → RunsOf (suc k)
  one_more k here earlier total pc out s base data_above return_above m sound depths =
      ⊎_elim (λ f. followed total pc out s base data_above return_above m k sound depths here (step p s) refl f) (λ x. executing k earlier sound depths x)
      (step_follows laws p code place size all out pc s base data_above return_above m (depths 0 s (omega arith) (no_steps p s)))
    where
      executing : (k : ℕ) → ((j : ℕ) → suc j ≡ k → RunsOf j) → strays (steps p (suc k) s) ≡ false → DepthsFit p (suc k) s →
          Executes laws p code place size all (standing_as s (machine_at code pc base data_above return_above)) (step_price s) (ahead s.work + unfinished s.callers)
          (length s.cells + peak_of s.callers (first_work s.work)) (length (return_places s.entries base) + back_of (first_work s.work)) (first_work s.work)
          s.cells s.entries base (step p s) →
          Reaches (suc k) total (ahead s.work + unfinished s.callers) s (standing_as s (machine_at code pc base data_above return_above))
      executing zero earlier sound depths x = executed total pc out s base data_above return_above m x sound
      executing (suc k) earlier sound depths x = twice total pc out s base data_above return_above m x k sound depths (earlier k refl)

  -- k steps, and those of one less
  both_runs : (k : ℕ) → RunsOf k × ((j : ℕ) → suc j ≡ k → RunsOf j)
  both_runs zero = (no_runs, λ j e. absurd (omega (arith, e)))
  both_runs (suc k) =
      let h = both_runs k in
      (one_more k h.0 h.1, λ j e. subst RunsOf (same_before j k e) h.0)
    where
      same_before : (j k : ℕ) → suc j ≡ suc k → k ≡ j
      same_before j k e = omega (arith, e)

  pub reaches : (k total pc : ℕ) (out : Option ℕ) (s : State) (base data_above return_above : List (Option ℕ)) → Meets code place p out pc s base → strays (steps p k s) ≡ false → DepthsFit p k s →
      Reaches k total (ahead s.work + unfinished s.callers) s (standing_as s (machine_at code pc base data_above return_above))
  reaches k = (both_runs k).0
