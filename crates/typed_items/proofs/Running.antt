-- Runs of typed items, by their code.
use Rattle.std.proofs.Common.{◌≡◌, ℕ, zero, suc, ◌+◌, ◌*◌, ◌<◌, ◌≤◌, max, false, List, length, Option, Some, None, refl, sym, ap, ◌∙◌}
use Rattle.std.proofs.Common.{subst, arith}
use Rattle.j1_simulator.specs.Step.{Stop}
use Rattle.j1_simulator.specs.OpenMachine.{open_storage}
use Rattle.j1_simulator.specs.Run.{run}
use Rattle.word_table.specs.declared.word.Word.{Word}
use Rattle.forth_program.specs.State.{World, State, End, Outcome, Goes, Ends}
use Rattle.forth_program.specs.Program.{SourceProgram}
use Rattle.forth_program.specs.Step.{first_work, step}
use Rattle.forth_program.specs.Run.{steps, end_of, lacks}
use Rattle.forth_program.specs.Price.{step_price, spent}
use Rattle.forth_program.specs.Heights.{peak_of}
use Rattle.word_laws.specs.Rings.{OpenConfiguration, BeforeEach}
use Rattle.word_laws.specs.Bounds.{StaysWithin}
use Rattle.word_laws.specs.Standing.{machine_end}
use Rattle.typed_items.specs.Listed.{stands, AreReturnPlaces, ListedWords}
use Rattle.typed_items.specs.Laws.{Shows, is_done, typed_back, ItemsFit}
use Rattle.typed_items.proofs.Instructions.{Laws}
use Rattle.typed_items.proofs.Placed.{callers_fit}
use Rattle.typed_items.proofs.Step.{reference, BodiesStand, Meets, Comes, Halts, Follows, step_follows}

module _ (p : SourceProgram) (s : State) (k total : ℕ) where
  steps_on : (after : State) → step p s ≡ Goes after → steps p (suc k) s ≡ steps p k after
  unfolding steps
  steps_on after e = rw e refl

  steps_end : (end : End) (world : World) → step p s ≡ Ends end world → steps p (suc k) s ≡ Ends end world
  unfolding steps
  steps_end end world e = rw e refl

  spent_on : (after : State) → step p s ≡ Goes after → spent p total (suc k) s ≡ spent p (total + step_price s) k after
  unfolding spent
  spent_on after e = rw e refl

  spent_end : (end : End) (world : World) → step p s ≡ Ends end world → spent p total (suc k) s ≡ total + step_price s
  unfolding spent
  spent_end end world e = rw e refl

  -- the first step lacks nothing, where the run does not
  first_sound : (o : Outcome) → step p s ≡ o → lacks (steps p (suc k) s) ≡ false → lacks o ≡ false
  first_sound (Goes after) e sound = refl
  first_sound (Ends end world) e sound = sym (ap lacks (steps_end end world e)) ∙ sound

no_steps : (p : SourceProgram) (s : State) → steps p 0 s ≡ Goes s
unfolding steps
no_steps p s = refl

nothing_spent : (p : SourceProgram) (s : State) (total : ℕ) → spent p total 0 s ≡ total
unfolding spent
nothing_spent p s total = refl

abbrev state_of : State → Outcome → State
state_of other (Goes t) = t
state_of other (Ends end world) = other

-- the cells of some steps are bounded
pub fits_some : (p : SourceProgram) (k : ℕ) (s : State) → (high : ℕ) × (back : ℕ) × ItemsFit p high back k s
fits_some p zero s = (0, 0, λ j t lt q. absurd (omega (arith, lt)))
fits_some p (suc k) s = one_further (step p s) refl (λ after. fits_some p k after)
  where
    first_fits : (high back : ℕ) (t : State) → length s.cells + peak_of s.callers (first_work s.work) ≤ high →
        length s.callers + typed_back (first_work s.work) ≤ back → steps p 0 s ≡ Goes t →
        (length t.cells + peak_of t.callers (first_work t.work) ≤ high) × (length t.callers + typed_back (first_work t.work) ≤ back)
    first_fits high back t deep under q =
        let same : s ≡ t = ap (state_of s) (sym (no_steps p s) ∙ q) in
        subst (λ x. (length x.cells + peak_of x.callers (first_work x.work) ≤ high) ×
        (length x.callers + typed_back (first_work x.work) ≤ back)) same (deep, under)

    one_further : (o : Outcome) → step p s ≡ o → ((after : State) → (high : ℕ) × (back : ℕ) × ItemsFit p high back k after) →
        (high : ℕ) × (back : ℕ) × ItemsFit p high back (suc k) s
    one_further (Goes after) e later =
        let more = later after in
        let high = max (length s.cells + peak_of s.callers (first_work s.work)) more.0 in
        let back = max (length s.callers + typed_back (first_work s.work)) more.1 in
        (high, back, each high back more.0 more.1 after e (omega arith) (omega arith) (omega arith) (omega arith) more.2)
      where
        each : (high back high' back' : ℕ) (after : State) → step p s ≡ Goes after →
            length s.cells + peak_of s.callers (first_work s.work) ≤ high → length s.callers + typed_back (first_work s.work) ≤ back →
            high' ≤ high → back' ≤ back →
            ItemsFit p high' back' k after → ItemsFit p high back (suc k) s
        each high back high' back' after e deep under wide wide' fit zero t lt q = first_fits high back t deep under q
        each high back high' back' after e deep under wide wide' fit (suc j) t lt q =
            let f = fit j t (omega (arith, lt)) (sym (steps_on p s j 0 after e) ∙ q) in
            let a = f.0 in
            let b = f.1 in
            (omega (arith, a, wide), omega (arith, b, wide'))
    one_further (Ends end world) e later = (
      length s.cells + peak_of s.callers (first_work s.work),
      length s.callers
          + typed_back (first_work s.work),
      each,
    )
      where
        each : ItemsFit p (length s.cells + peak_of s.callers (first_work s.work)) (length s.callers + typed_back (first_work s.work))
            (suc k) s
        each zero t lt q = first_fits (length s.cells + peak_of s.callers (first_work s.work))
            (length s.callers + typed_back (first_work s.work)) t (omega arith) (omega arith) q
        each (suc j) t lt q = let f : Some end ≡ None = ap end_of (sym (steps_end p s j 0 end world e) ∙ q) in cc

-- before none of k word steps the items have been done
abbrev pub NotDone : SourceProgram → ℕ → State → Type 0
NotDone p k s = (j : ℕ) (t : State) → j < k → steps p j s ≡ Goes t → is_done t ≡ false

module _ (laws : Laws) (code : List ℕ) (size : length code ≡ 0x1000) (token : Word → ℕ) (listed : ListedWords code token) (place : ℕ → ℕ)
    (p : SourceProgram) (w0 : World)
    (bodies : BodiesStand laws code size token listed place p w0) (final : ℕ) (outer : List (Option ℕ)) (known : AreReturnPlaces outer)
    (high back : ℕ) where
  abbrev Stands_there : ℕ → State → List (Option ℕ) → Type 0
  Stands_there at s r = Meets laws code size token listed place p w0 bodies final outer known at s r

  -- where the run has not ended the machine stands where its state does
  pub record StandsAs (v : OpenConfiguration) (t : State) : Type 0 where
    pub at : ℕ
    pub r : List (Option ℕ)
    pub data_above : List (Option ℕ)
    pub return_above : List (Option ℕ)
    pub is : v ≡ stands code at t.cells t.world r data_above return_above
    pub meets : Meets laws code size token listed place p w0 bodies final outer known at t r

  abbrev pub StandsWhere : OpenConfiguration → Outcome → Type 0
  StandsWhere v (Goes t) = StandsAs v t
  StandsWhere v (Ends end world) = Unit {0}

  -- the machine has an end for that of a run
  abbrev pub Knows : Outcome → Type 0
  Knows (Goes t) = Unit {0}
  Knows (Ends end world) = (stop : Stop) × (machine_end end ≡ Some stop)

  -- k word steps, and as many instructions as do the same
  pub record Reaches (k total : ℕ) (s : State) (v : OpenConfiguration) : Type 0 where
    pub count : ℕ
    pub cheap : count + 8 * total ≤ 8 * spent p total k s
    pub far : end_of (steps p k s) ≡ None → k ≤ count
    pub shows : Shows code (run open_storage 0x2000 count v) (steps p k s)
    pub bounds : BeforeEach (StaysWithin 0 high 0 (length outer + back)) 0x2000 count v
    pub can_end : Knows (steps p k s)
    pub stands_where : StandsWhere (run open_storage 0x2000 count v) (steps p k s)

  shows_there : (v : OpenConfiguration) (t : State) → StandsAs v t → Shows code v (Goes t)
  shows_there v t h = subst (λ u. Shows code u (Goes t)) (sym h.is) (record { stop_is = refl; memory = refl; input = refl; printed = refl })

  none_yet : (total at : ℕ) (s : State) (r da ra : List (Option ℕ)) → Stands_there at s r →
      Reaches zero total s (stands code at s.cells s.world r da ra)
  none_yet total at s r da ra m =
      let v = stands code at s.cells s.world r da ra in
      let there : StandsAs v s = record {
        at = at;
        r = r;
        data_above = da;
        return_above = ra;
        is = refl;
        meets = m;
      } in
      record {
        count = 0;
        cheap = omega (arith, nothing_spent p s total);
        far = λ e. omega arith;
        shows = subst (Shows code v) (sym (no_steps p s)) (shows_there v s there);
        bounds = tt;
        can_end = subst Knows (sym (no_steps p s)) tt;
        stands_where = subst (StandsWhere v) (sym (no_steps p s)) there;
      }

  -- the last of some steps
  ends_at : (k total : ℕ) (s : State) (v : OpenConfiguration) (end : End) (world : World) → step p s ≡ Ends end world →
      Halts laws code size token listed place p w0 bodies final outer known v (8 * step_price s) high (length outer + back) end world →
      Reaches (suc k) total s v
  ends_at k total s v end world e h =
      let paid = h.cheap in
      let over = steps_end p s k total end world e in
      let price = spent_end p s k total end world e in
      record {
        count = h.count;
        cheap = omega (arith, paid, price);
        far = λ n. let f : Some end ≡ None = sym (ap end_of over) ∙ n in cc;
        shows = subst (Shows code (run open_storage 0x2000 h.count v)) (sym over)
            (record {
              stop_is = h.ended.stop_is ∙ sym h.stop_is;
              memory = h.ended.memory;
              input = h.ended.input;
              printed = h.ended.printed;
            });
        bounds = h.bounds;
        can_end = subst Knows (sym over) (h.stop, h.stop_is);
        stands_where = subst (StandsWhere (run open_storage 0x2000 h.count v)) (sym over) tt;
      }

  -- a step, and those after it
  goes_on : (k total : ℕ) (s after : State) (v : OpenConfiguration) → step p s ≡ Goes after →
      (c : Comes laws code size token listed place p w0 bodies final outer known v (8 * step_price s) high (length outer + back) after) →
      Reaches k (total + step_price s) after (stands code c.to after.cells after.world c.r c.data_above c.return_above) →
      Reaches (suc k) total s v
  goes_on k total s after v e c r =
      let paid = c.cheap in
      let paid' = r.cheap in
      let some = c.some in
      let onward = steps_on p s k total after e in
      let price = spent_on p s k total after e in
      let middle = stands code c.to after.cells after.world c.r c.data_above c.return_above in
      let joined : run open_storage 0x2000 (c.count + r.count) v ≡ run open_storage 0x2000 r.count middle =
      laws.runs c.count r.count 0x2000 v ∙ ap (run open_storage 0x2000 r.count) c.runs.makes in
      record {
        count = c.count + r.count;
        cheap = omega (arith, paid, paid', price);
        far = λ n. let more = r.far (sym (ap end_of onward) ∙ n) in omega (arith, more, some);
        shows = subst (Shows code (run open_storage 0x2000 (c.count + r.count) v)) (sym onward)
            (subst (λ u. Shows code u (steps p k after)) (sym joined) r.shows);
        bounds =
            laws.bounds 0 high 0 (length outer + back) c.count r.count 0x2000 v c.runs.bounds
            (subst (BeforeEach (StaysWithin 0 high 0 (length outer + back)) 0x2000 r.count) (sym c.runs.makes) r.bounds);
        can_end = subst Knows (sym onward) r.can_end;
        stands_where = subst (StandsWhere (run open_storage 0x2000 (c.count + r.count) v)) (sym onward)
            (subst (λ u. StandsWhere u (steps p k after)) (sym joined) r.stands_where);
      }

  abbrev RunsOf : ℕ → Type 0
  RunsOf k =
      (total at : ℕ) (s : State) (r da ra : List (Option ℕ)) → Stands_there at s r → lacks (steps p k s) ≡ false → NotDone p k s →
      ItemsFit p high back k s →
      Reaches k total s (stands code at s.cells s.world r da ra)

  one_more : (k : ℕ) → RunsOf k → RunsOf (suc k)
  one_more k later total at s r da ra m sound going fits =
      let near = fits 0 s (omega arith) (no_steps p s) in
      let fit = near.1 in
      let tall : length r ≡ length s.callers + length outer =
      callers_fit (reference laws code size token listed place p w0) token place (length p.bodies) final outer s.callers r m.callers in
      by_step (step p s) refl
      (step_follows laws code size token listed place p w0 bodies final outer known at s r da ra high (length outer + back) m
      (going 0 s (omega arith) (no_steps p s))
      (first_sound p s k total (step p s) refl sound) near.0 (omega (arith, fit, tall)))
    where
      by_step : (o : Outcome) → step p s ≡ o → Follows laws code size token listed place p w0 bodies final outer known
          (stands code at s.cells s.world r da ra) (8 * step_price s) high (length outer + back) o →
          Reaches (suc k) total s (stands code at s.cells s.world r da ra)
      by_step (Goes after) e c =
          goes_on k total s after (stands code at s.cells s.world r da ra) e c
          (later (total + step_price s) c.to after c.r c.data_above c.return_above c.meets
          (sym (ap lacks (steps_on p s k total after e)) ∙ sound)
          (λ j t lt q. going (suc j) t (omega arith) (steps_on p s j total after e ∙ q))
          (λ j t lt q. fits (suc j) t (omega arith) (steps_on p s j total after e ∙ q)))
      by_step (Ends end world) e h = ends_at k total s (stands code at s.cells s.world r da ra) end world e h

  pub reaches : (k : ℕ) → RunsOf k
  reaches zero = none_yet_for
    where
      none_yet_for : RunsOf zero
      none_yet_for total at s r da ra m sound going fits = none_yet total at s r da ra m
  reaches (suc k) = one_more k (reaches k)
