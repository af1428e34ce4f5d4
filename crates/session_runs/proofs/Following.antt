-- A run that follows a session answers it.
use Rattle.std.proofs.Common.{◌≡◌, ◌⊎◌, inl, inr, ⊎_elim, ℕ, zero, suc, ◌+◌, ◌*◌, ◌<◌, ◌≤◌, Bool, true, false, IsTrue, List, [], ◌++◌}
use Rattle.std.proofs.Common.{length, Option, Some, None, refl, sym, ap, subst, ◌∙◌, arith, add-mul}
use Rattle.std.proofs.Math.Nat.{mul-le-mul_right}
use Rattle.std.proofs.lemmas.Bool.{cases_lt}
use Rattle.std.proofs.lemmas.Grind.{common_steps}
use Rattle.j1_table.specs.Image.{Content}
use Rattle.j1_simulator.specs.Step.{Stop}
use Rattle.j1_simulator.specs.RoundMachine.{RingCells, round_storage}
use Rattle.j1_simulator.specs.Run.{Configuration, begun, round_start, round_run, IsPrefixOf}
use Rattle.j1_simulator.specs.Laws.{OnlyGrows}
use Rattle.forth_program.specs.State.{End, InputEnded}
use Rattle.word_laws.specs.Standing.{machine_end}
use Rattle.session_machine.specs.Lines.{bytes_of_lines}
use Rattle.session_machine.specs.Session.{Session, Action, StepsOn, TakesLine, EndsInput, Replies, Adds, Puts, Begins, Answers, Drops}
use Rattle.session_machine.specs.Session.{action_of, done, advanced, session_step, session_steps, first_session, session_run, printed_by}
use Rattle.session_machine.specs.Laws.{SessionsCompose, SessionsStayEnded}
use Rattle.session_runs.specs.Answers.{is_unfinished, IsSharedEnd, allowed, enough_steps, AnswersForward, AnswersBackward}
use Rattle.session_runs.specs.Following.{EndsAlike, ShowsSession, instructions_before, IsFollowed, kept_for, beside, FollowsSession}

-- ---- sessions, step by step

next_session : SessionsCompose → (lines : List (List ℕ)) (k : ℕ) → session_run lines (suc k) ≡ session_step (session_run lines k)
unfolding session_run session_steps
next_session compose lines k = ap (λ n. session_steps n (first_session lines)) (one_more k) ∙ compose k 1 (first_session lines)
  where
    one_more : (k : ℕ) → suc k ≡ k + 1
    one_more k = omega arith

done_next : (s : Session) → s.end ≡ None → session_step s ≡ done (action_of s) s
unfolding session_step
done_next s h = ap (λ o. advanced o s) h

pub next_done : SessionsCompose → (lines : List (List ℕ)) (k : ℕ) → (session_run lines k).end ≡ None →
    session_run lines (suc k) ≡ done (action_of (session_run lines k)) (session_run lines k)
next_done compose lines k h = next_session compose lines k ∙ done_next (session_run lines k) h

one_step : (s : Session) → session_steps 1 s ≡ s → session_step s ≡ s
unfolding session_steps
one_step s e = e

stays : SessionsCompose → SessionsStayEnded → (lines : List (List ℕ)) (k : ℕ) (end : End) → (session_run lines k).end ≡ Some end →
    session_run lines (suc k) ≡ session_run lines k
stays compose stay lines k end h = next_session compose lines k ∙ one_step (session_run lines k) (stay 1 (session_run lines k) end h)

-- a session still runs, or there was a last step
data Moment (lines : List (List ℕ)) (k : ℕ) : Type 0 where
  Runs : (session_run lines k).end ≡ None → Moment lines k
  Ended : (j : ℕ) (end : End) → (session_run lines j).end ≡ None → session_run lines (suc j) ≡ session_run lines k →
      (session_run lines k).end ≡ Some end → Moment lines k

first_runs : (lines : List (List ℕ)) → (session_run lines 0).end ≡ None
unfolding session_run session_steps
first_runs lines = refl

first_cost : (lines : List (List ℕ)) (start : ℕ) → start + kept_for (session_run lines 0).words ≤ start + allowed (session_run lines 0)
unfolding session_run session_steps
first_cost lines start = omega arith

moment : SessionsCompose → SessionsStayEnded → (lines : List (List ℕ)) (k : ℕ) → Moment lines k
moment compose stay lines zero = Runs (first_runs lines)
moment compose stay lines (suc k) = later (moment compose stay lines k)
  where
    by_end : (o : Option End) → (session_run lines k).end ≡ None → (session_run lines (suc k)).end ≡ o → Moment lines (suc k)
    by_end None h e = Runs e
    by_end (Some end) h e = Ended k end h refl e

    later : Moment lines k → Moment lines (suc k)
    later (Runs h) = by_end (session_run lines (suc k)).end h refl
    later (Ended j end h same e) = Ended j end h (same ∙ sym (stays compose stay lines k end e))
        (ap (λ s. s.end) (stays compose stay lines k end e) ∙ e)

clash : {A : Type 0} (x : A) → Some x ≡ None → ⊥
clash x e = subst (λ o. elim o as (λ p. Type 0) [ None ↦ ⊥ | Some y ↦ Unit {0} ]) e tt

before_it : SessionsCompose → SessionsStayEnded → (lines : List (List ℕ)) (k : ℕ) → (session_run lines (suc k)).end ≡ None →
    (session_run lines k).end ≡ None
before_it compose stay lines k h = by_end (session_run lines k).end refl
  where
    by_end : (o : Option End) → (session_run lines k).end ≡ o → (session_run lines k).end ≡ None
    by_end None e = e
    by_end (Some end) e = absurd (clash end (sym e ∙ sym (ap (λ s. s.end) (stays compose stay lines k end e)) ∙ h))

-- ---- actions

runs_on : (more : List ℕ) (action : Action) (s : Session) → (done action s).end ≡ None → IsFollowed more action × (beside action ≡ 0)
runs_on more StepsOn s h = (tt, refl)
runs_on more (TakesLine line lines) s h = (tt, refl)
runs_on more EndsInput s h = absurd (clash InputEnded h)
runs_on more Replies s h = (tt, refl)
runs_on more (Adds definition rest) s h = (tt, refl)
runs_on more (Puts value rest) s h = (tt, refl)
runs_on more (Begins node rest) s h = (tt, refl)
runs_on more (Answers text) s h = (tt, refl)
runs_on more (Drops name begun text) s h = (tt, refl)

little_beside : (action : Action) → beside action ≤ 100000000
little_beside EndsInput = omega arith
little_beside action = omega arith

data IsDecided (more : List ℕ) (action : Action) : Type 0 where
  Followed : IsFollowed more action → IsDecided more action
  Lost : action ≡ EndsInput → is_unfinished more ≡ false → IsDecided more action

decide : (more : List ℕ) (b : Bool) (action : Action) → is_unfinished more ≡ b → IsDecided more action
decide more true EndsInput e = Followed e
decide more false EndsInput e = Lost refl e
decide more b StepsOn e = Followed tt
decide more b (TakesLine line lines) e = Followed tt
decide more b Replies e = Followed tt
decide more b (Adds definition rest) e = Followed tt
decide more b (Puts value rest) e = Followed tt
decide more b (Begins node rest) e = Followed tt
decide more b (Answers text) e = Followed tt
decide more b (Drops name begun text) e = Followed tt

always_followed : (more : List ℕ) (action : Action) → IsTrue (is_unfinished more) → IsFollowed more action
always_followed more EndsInput h = h
always_followed more StepsOn h = tt
always_followed more (TakesLine line lines) h = tt
always_followed more Replies h = tt
always_followed more (Adds definition rest) h = tt
always_followed more (Puts value rest) h = tt
always_followed more (Begins node rest) h = tt
always_followed more (Answers text) h = tt
always_followed more (Drops name begun text) h = tt

-- ---- numbers

no_more : (xs : List ℕ) → xs ++ [] ≡ xs
no_more xs = grind (arith, common_steps)

waits_first : (w a m r : ℕ) → w ≤ r → 0 + w ≤ a * m + r
waits_first w a m r h = omega (arith, h)

waits_on : (k w w' a c m r : ℕ) → k + w ≤ a * m + r → suc w' ≤ w → c ≡ 0 → suc k + w' ≤ (a + c) * m + r
waits_on k w w' a c m r h l n = let e : (a + c) * m ≡ a * m + c * m = add-mul a c m in omega (arith, h, l, e)

goes_on : (k w w' a c m r : ℕ) → k + w ≤ a * m + r → w' ≤ r → suc r ≤ m → 1 ≤ c → suc k + w' ≤ (a + c) * m + r
goes_on k w w' a c m r h l j n =
    let e : (a + c) * m ≡ a * m + c * m = add-mul a c m in
    let g : 1 * m ≤ c * m = mul-le-mul_right m n in
    omega (arith, h, l, j, e, g)

is_far : (n k w a m r : ℕ) → k ≡ (n + 1) * m → k + w ≤ a * m + r → suc r ≤ m → n < a
is_far n k w a m r e h j = ⊎_elim (λ lt. lt) far (cases_lt n a)
  where
    far : a ≤ n → n < a
    far le =
        let p : (n + 1) * m ≡ n * m + 1 * m = add-mul n 1 m in
        let g : a * m ≤ n * m = mul-le-mul_right m le in
        omega (arith, e, h, j, p, g)

module _ (compose : SessionsCompose) (stay : SessionsStayEnded) (grow : OnlyGrows round_storage) (image : Content) (lines : List (List ℕ))
    (more : List ℕ) (f : FollowsSession image lines more) where
  -- the chip after n instructions, and the instructions before the k-th step
  abbrev chip : ℕ → Configuration ℕ RingCells
  chip n = round_run image (bytes_of_lines lines ++ more) n

  abbrev at : ℕ → ℕ
  at k = instructions_before f.start f.count k

  prints_grow : (k n : ℕ) → k ≤ n → IsPrefixOf (chip k).printed (chip n).printed
  prints_grow k n h = grow.prints image.data_start k n (begun (round_start image) (bytes_of_lines lines ++ more)) h

  stop_stays : (k n : ℕ) (stop : Stop) → k ≤ n → (chip k).stop ≡ Some stop → chip n ≡ chip k
  stop_stays k n stop h e = grow.ends image.data_start k n (begun (round_start image) (bytes_of_lines lines ++ more)) stop h e

  -- while the session runs, the chip shows it, at no more than it may cost
  record Stands (k : ℕ) : Type 0 where
    shows : ShowsSession (chip (at k)) (session_run lines k)
    cost : at k + kept_for (session_run lines k).words ≤ f.start + allowed (session_run lines k)

  stands : (k : ℕ) → (session_run lines k).end ≡ None → Stands k
  stands zero h = record { shows = f.begins; cost = first_cost lines f.start }
  stands (suc k) h = after (before_it compose stay lines k h) (stands k (before_it compose stay lines k h))
    where
      costs_add : (a c kept kept' allow allow' start extra : ℕ) → a + kept ≤ start + allow → c + kept' + allow ≤ kept + allow' + extra →
          extra ≡ 0 → a + c + kept' ≤ start + allow'
      costs_add a c kept kept' allow allow' start extra h k e = omega arith

      after : (session_run lines k).end ≡ None → Stands k → Stands (suc k)
      after e s =
          let d : IsFollowed more (action_of (session_run lines k)) × (beside (action_of (session_run lines k)) ≡ 0)
          = runs_on more (action_of (session_run lines k)) (session_run lines k)
          (ap (λ t. t.end) (sym (next_done compose lines k e)) ∙ h) in
          record {
            shows = f.follows k e d.0;
            cost = costs_add (at k) (f.count k) (kept_for (session_run lines k).words) (kept_for (session_run lines (suc k)).words)
                (allowed (session_run lines k)) (allowed (session_run lines (suc k))) f.start
                (beside (action_of (session_run lines k))) s.cost (f.costs k e d.0) d.1;
          }

  -- ---- forward

  ended_shows : (o : Option Stop) (now : Option End) (end : End) → now ≡ Some end → EndsAlike o now → EndsAlike o (Some end)
  ended_shows o now end e h = subst (λ n. EndsAlike o n) e h

  same_prints : (n : ℕ) (s t : Session) → ShowsSession (chip n) s → printed_by s ≡ printed_by t → (m : ℕ) → n ≤ m →
      IsPrefixOf (printed_by t) (chip m).printed
  same_prints n s t h e m le = subst (λ xs. IsPrefixOf xs (chip m).printed) (h.printed ∙ e) (prints_grow n m le)

  shared_stop : (n m : ℕ) (end : End) → n ≤ m → EndsAlike (chip n).stop (Some end) →
      (stop : Stop) × (machine_end end ≡ Some stop) × ((chip m).stop ≡ Some stop)
  shared_stop n m end le h = (h.0, h.1, ap (λ w. w.stop) (stop_stays n m h.0 le h.2) ∙ h.2)

  shown : (k j : ℕ) (end : End) → ShowsSession (chip (at (suc j))) (session_run lines (suc j)) →
      session_run lines (suc j) ≡ session_run lines k → (session_run lines k).end ≡ Some end →
      at (suc j) ≤ allowed (session_run lines k) + 200000000 → AnswersForward image lines more k
  shown k j end h same e le = record {
    prints = same_prints (at (suc j)) (session_run lines (suc j)) (session_run lines k) h (ap printed_by same)
        (allowed (session_run lines k) + 200000000) le;
    ends = λ other o shared. shared_stop (at (suc j)) (allowed (session_run lines k) + 200000000) other le
        (ended_shows (chip (at (suc j))).stop (session_run lines (suc j)).end other (ap (λ s. s.end) same ∙ o) h.ends);
  }

  cost_runs : (a kept allow start : ℕ) → a + kept ≤ start + allow → start ≤ 100000000 → a ≤ allow + 200000000
  cost_runs a kept allow start h k = omega arith

  cost_ends : (a c kept kept' allow allow' start extra : ℕ) → a + kept ≤ start + allow → c + kept' + allow ≤ kept + allow' + extra →
      extra ≤ 100000000 → start ≤ 100000000 → a + c ≤ allow' + 200000000
  cost_ends a c kept kept' allow allow' start extra h k e l = omega arith

  -- at the end of the input nothing more is printed, and nothing is spent
  lost_end : (s t : Session) (action : Action) → action ≡ EndsInput → t ≡ done action s →
      (t.end ≡ Some InputEnded) × (printed_by t ≡ printed_by s) × (allowed t ≡ allowed s)
  lost_end s t action a e =
      let d : t ≡ done EndsInput s = e ∙ ap (λ x. done x s) a in
      (ap (λ u. u.end) d, ap printed_by d, ap allowed d)

  not_shared : (end : End) → end ≡ InputEnded → is_unfinished more ≡ false → IsSharedEnd more end → ⊥
  not_shared end e u h = let g : is_unfinished more ≡ true = subst (IsSharedEnd more) e h in let b : false ≡ true = sym u ∙ g in cc

  some_same : {A : Type 0} (x y : A) → Some x ≡ Some y → x ≡ y
  some_same {A = A} x y e = ap (λ o. elim o as (λ p. A) [ None ↦ x | Some z ↦ z ]) e

  forward_by : (k : ℕ) → Moment lines k → AnswersForward image lines more k
  forward_by k (Runs h) =
      let s : Stands k = stands k h in
      let le : at k ≤ allowed (session_run lines k) + 200000000 =
      cost_runs (at k) (kept_for (session_run lines k).words) (allowed (session_run lines k)) f.start s.cost f.starts_soon in
      record {
        prints = same_prints (at k) (session_run lines k) (session_run lines k) s.shows refl (allowed (session_run lines k) + 200000000) le;
        ends = λ end e shared. absurd (clash end (sym e ∙ h));
      }
  forward_by k (Ended j end h same e) = by_decision (decide more (is_unfinished more) (action_of (session_run lines j)) refl)
    where
      s : Stands j
      s = stands j h

      by_decision : IsDecided more (action_of (session_run lines j)) → AnswersForward image lines more k
      by_decision (Followed g) =
          shown k j end (f.follows j h g) same e
          (subst (λ t. at (suc j) ≤ allowed t + 200000000) same
          (cost_ends (at j) (f.count j) (kept_for (session_run lines j).words) (kept_for (session_run lines (suc j)).words)
          (allowed (session_run lines j)) (allowed (session_run lines (suc j))) f.start (beside (action_of (session_run lines j)))
          s.cost (f.costs j h g) (little_beside (action_of (session_run lines j))) f.starts_soon))
      by_decision (Lost a u) =
          let t : ((session_run lines k).end ≡ Some InputEnded) × (printed_by (session_run lines k) ≡ printed_by (session_run lines j)) ×
          (allowed (session_run lines k) ≡ allowed (session_run lines j))
          = lost_end (session_run lines j) (session_run lines k) (action_of (session_run lines j)) a
          (sym same ∙ next_done compose lines j h) in
          let le : at j ≤ allowed (session_run lines k) + 200000000
          = subst (λ n. at j ≤ n + 200000000) (sym t.2) (cost_runs (at j) (kept_for (session_run lines j).words)
          (allowed (session_run lines j)) f.start s.cost f.starts_soon) in
          record {
            prints = same_prints (at j) (session_run lines j) (session_run lines k) s.shows (sym t.1)
                (allowed (session_run lines k) + 200000000) le;
            ends = λ other o shared. absurd (not_shared other (some_same other InputEnded (sym o ∙ t.0)) u shared);
          }

  pub forward : (k : ℕ) → AnswersForward image lines more k
  forward k = forward_by k (moment compose stay lines k)

  -- ---- backward

  abbrev bytes : ℕ
  bytes = length (bytes_of_lines lines)

  waited_after : (k : ℕ) → (session_run lines k).end ≡ None → k + f.waits k ≤ at k * (bytes + 4) + (bytes + 3) → (c : ℕ) → f.count k ≡ c →
      suc k + f.waits (suc k) ≤ at (suc k) * (bytes + 4) + (bytes + 3)
  waited_after k h now zero n = waits_on k (f.waits k) (f.waits (suc k)) (at k) (f.count k) (bytes + 4) (bytes + 3) now (f.falls k h n) n
  waited_after k h now (suc c) n = goes_on k (f.waits k) (f.waits (suc k)) (at k) (f.count k) (bytes + 4) (bytes + 3) now
      (f.waits_little (suc k)) (omega arith) (omega (arith, n))

  waited : (k : ℕ) → (session_run lines k).end ≡ None → k + f.waits k ≤ at k * (bytes + 4) + (bytes + 3)
  waited zero h = waits_first (f.waits 0) f.start (bytes + 4) (bytes + 3) (f.waits_little 0)
  waited (suc k) h = waited_after k (before_it compose stay lines k h) (waited k (before_it compose stay lines k h)) (f.count k) refl

  backward_by : (n : ℕ) → IsTrue (is_unfinished more) → Moment lines (enough_steps lines n) → AnswersBackward image lines more n
  backward_by n u (Runs h) =
      let s : Stands (enough_steps lines n) = stands (enough_steps lines n) h in
      let le : n < at (enough_steps lines n) = is_far n (enough_steps lines n) (f.waits (enough_steps lines n)) (at (enough_steps lines n))
      (bytes + 4) (bytes + 3) refl (waited (enough_steps lines n) h) (omega arith) in
      let alike : EndsAlike (chip (at (enough_steps lines n))).stop None =
      subst (λ o. EndsAlike (chip (at (enough_steps lines n))).stop o) h s.shows.ends in
      record {
        prints = subst (λ xs. IsPrefixOf (chip n).printed xs) s.shows.printed
            (prints_grow n (at (enough_steps lines n)) (omega (arith, le)));
        ends = λ stop e. absurd (clash stop (sym e ∙ sym
            (ap (λ w. w.stop) (stop_stays n (at (enough_steps lines n)) stop (omega (arith, le)) e)) ∙ alike));
      }
  backward_by n u (Ended j end h same e) = by_order (cases_lt n (at (suc j)))
    where
      s : ShowsSession (chip (at (suc j))) (session_run lines (suc j))
      s = f.follows j h (always_followed more (action_of (session_run lines j)) u)

      alike : EndsAlike (chip (at (suc j))).stop (Some end)
      alike = ended_shows (chip (at (suc j))).stop (session_run lines (suc j)).end end (ap (λ t. t.end) same ∙ e) s.ends

      by_order : (n < at (suc j)) ⊎ (at (suc j) ≤ n) → AnswersBackward image lines more n
      by_order (inl lt) = record {
        prints = subst (λ xs. IsPrefixOf (chip n).printed xs) (s.printed ∙ ap printed_by same)
            (prints_grow n (at (suc j)) (omega (arith, lt)));
        ends = λ stop o.
            let w : chip (at (suc j)) ≡ chip n = stop_stays n (at (suc j)) stop (omega (arith, lt)) o in
            (end, e, alike.1 ∙ sym alike.2 ∙ ap (λ v. v.stop) w ∙ o);
      }
      by_order (inr le) =
          let w : chip n ≡ chip (at (suc j)) = stop_stays (at (suc j)) n alike.0 le alike.2 in
          record {
            prints = ([], no_more (chip n).printed ∙ ap (λ v. v.printed) w ∙ s.printed ∙ ap printed_by same);
            ends = λ stop o. (end, e, alike.1 ∙ sym alike.2 ∙ sym (ap (λ v. v.stop) w) ∙ o);
          }

  pub backward : (n : ℕ) → IsTrue (is_unfinished more) → AnswersBackward image lines more n
  backward n u = backward_by n u (moment compose stay lines (enough_steps lines n))
