-- A call that comes back, for a text that follows a session.
use Rattle.std.proofs.Common.{◌≡◌, ◌⊎◌, inl, inr, ⊎_elim, ℕ, zero, suc, ◌+◌, ◌-◌, ◌<◌, ◌≤◌, IsTrue, List, [], ◌∷◌, ◌++◌, length, take, drop}
use Rattle.std.proofs.Common.{Some, None, refl, sym, ap, subst, ◌∙◌, append_assoc, arith}
use Rattle.std.proofs.lemmas.Bool.{cases_lt}
use Rattle.j1_simulator.specs.RoundMachine.{round_storage}
use Rattle.j1_simulator.specs.Step.{Stop}
use Rattle.j1_simulator.specs.Run.{IsPrefixOf}
use Rattle.forth_program.specs.State.{End, World, State, Left, Outcome, Goes, Ends}
use Rattle.forth_program.specs.Program.{SourceProgram}
use Rattle.forth_program.specs.Step.{step}
use Rattle.forth_program.specs.Run.{first_state, world_of, end_of}
use Rattle.forth_program.specs.RunLaws.{SpentAdds, WorldsGrow}
use Rattle.forth_program.specs.Price.{step_price, spent}
use Rattle.forth_program.specs.Returns.{Return, state_back, come_back, steps_back, spent_back, run_back, price_back}
use Rattle.word_laws.specs.Standing.{machine_end}
use Rattle.code_layout.specs.Agreement.{code_of}
use Rattle.code_layout.specs.Returning.{last_of_go}
use Rattle.code_layout.specs.ReturningChip.{RoundConfiguration, RoundReturn, round_back, round_backs}
use Rattle.session_machine.specs.Session.{first_session, session_run, printed_by}
use Rattle.session_machine.specs.Laws.{SessionsCompose, SessionsGrow}
use Rattle.session_runs.specs.Answers.{is_unfinished, allowed, enough_steps}
use Rattle.session_runs.specs.Following.{kept_for}
use Rattle.session_runs.specs.Splicing.{CalledCode, CallsComeBack, IsLedOutTo, IsInside, total_count, returns_of}
use Rattle.session_runs.specs.InWords.{KernelSession, input_of, chip_start, text_run, LedOut, code_run, TextStays, CodeStays}
use Rattle.session_runs.specs.Along.{IsFollowedStep, StandsAlong, GoesAlong, IsCall, call_price, IsInCode, ComesBackAfter, with_call}
use Rattle.session_runs.proofs.Parts.{quiet, returns_on, print_more, stay_ended, one_more_comes_back, led_out_to_one_place}
use Rattle.session_runs.proofs.Along.{take_all, none_more, some_none, spent_from, sum_assoc}

-- ---- lists with one call more

returns_more : (xs : List (CalledCode RoundReturn)) (x : CalledCode RoundReturn) (more : List Return) →
    round_backs (returns_of (xs ++ x ∷ [])) ++ more ≡ round_backs (returns_of xs) ++ x.returned.back ∷ more
returns_more [] x more = refl
returns_more (y ∷ xs) x more = ap (λ ys. y.returned.back ∷ ys) (returns_more xs x more)

count_more : (xs : List (CalledCode RoundReturn)) (x : CalledCode RoundReturn) → total_count (xs ++ x ∷ []) ≡ total_count xs + x.count
count_more [] x = omega arith
count_more (y ∷ xs) x = let h : total_count (xs ++ x ∷ []) ≡ total_count xs + x.count = count_more xs x in omega (arith, h)

length_more : (xs : List (CalledCode RoundReturn)) (x : CalledCode RoundReturn) → length (xs ++ x ∷ []) ≡ suc (length xs)
length_more [] x = refl
length_more (y ∷ xs) x = ap suc (length_more xs x)

take_more : (n : ℕ) (xs : List (CalledCode RoundReturn)) (x : CalledCode RoundReturn) → n ≤ length xs → take n (xs ++ x ∷ []) ≡ take n xs
take_more zero xs x h = refl
take_more (suc n) [] x h = absurd (omega (arith, h))
take_more (suc n) (y ∷ xs) x h = ap (λ ys. y ∷ ys) (take_more n xs x (omega (arith, h)))

inside_more : (n m : ℕ) (xs : List (CalledCode RoundReturn)) (x : CalledCode RoundReturn) → n < length xs →
    IsInside (drop n (xs ++ x ∷ [])) m → IsInside (drop n xs) m
inside_more n m [] x h k = absurd (omega (arith, h))
inside_more zero m (y ∷ xs) x h k = k
inside_more (suc n) m (y ∷ xs) x h k = inside_more n m xs x (omega (arith, h)) k

inside_last : (m : ℕ) (xs : List (CalledCode RoundReturn)) (x : CalledCode RoundReturn) → IsInside (drop (length xs) (xs ++ x ∷ [])) m →
    m ≤ x.count
inside_last m [] x h = h
inside_last m (y ∷ xs) x h = inside_last m xs x h

-- ---- what was asked of the calls before is so with one call more

text_same : (w : KernelSession) (call : CalledCode RoundReturn) (made words : ℕ) → made ≤ length w.calls →
    text_run (with_call w call) made words ≡ text_run w made words
text_same w call made words h = ap (λ calls. run_back w.p (round_backs (returns_of calls)) (input_of w) words)
    (take_more made w.calls call h)

followed_more : (w : KernelSession) (call : CalledCode RoundReturn) (i : ℕ) → IsFollowedStep w i → IsFollowedStep (with_call w call) i
followed_more w call i (inl x) =
    let same : (words : ℕ) → text_run (with_call w call) x.0.made words ≡ text_run w x.0.made words =
    λ words. text_same w call x.0.made words x.1 in
    let calls : take x.0.made (w.calls ++ call ∷ []) ≡ take x.0.made w.calls = take_more x.0.made w.calls call x.1 in
    let longer : length (w.calls ++ call ∷ []) ≡ suc (length w.calls) = length_more w.calls call in
    inl (
      record {
        made = x.0.made;
        words = x.0.words;
        prints = subst (λ o. IsPrefixOf (printed_by (session_run w.lines i)) (world_of o).printed) (sym (same x.0.words)) x.0.prints;
        cost = subst (λ cs. price_back w.p (round_backs (returns_of cs)) (input_of w) x.0.words + total_count cs
            ≤ allowed (session_run w.lines i) + 200000000) (sym calls) x.0.cost;
        ends = λ end e shared. let s = x.0.ends end e shared in (s.0, s.1, ap end_of (same x.0.words) ∙ s.2);
      },
      omega (arith, x.1, longer),
    )
followed_more w call i (inr x) =
    let calls : take x.0.made (w.calls ++ call ∷ []) ≡ take x.0.made w.calls = take_more x.0.made w.calls call x.1 in
    let longer : length (w.calls ++ call ∷ []) ≡ suc (length w.calls) = length_more w.calls call in
    inr (
      record {
        made = x.0.made;
        before = x.0.before;
        inside = x.0.inside;
        led_to = x.0.led_to;
        leads = subst (λ cs. IsLedOutTo round_storage (round_back (code_of w.library w.p)) (last_of_go w.library w.p) w.p.data_start
            (returns_of cs) x.0.before (chip_start w) x.0.led_to) (sym calls) x.0.leads;
        prints = x.0.prints;
        cost = subst (λ cs. x.0.before + total_count cs + x.0.inside ≤ allowed (session_run w.lines i) + 200000000) (sym calls) x.0.cost;
        ends = x.0.ends;
      },
      omega (arith, x.1, longer),
    )

text_stays_more : (w : KernelSession) (call : CalledCode RoundReturn) (made words n : ℕ) → made ≤ length w.calls →
    TextStays w made words n → TextStays (with_call w call) made words n
text_stays_more w call made words n h s = record {
  prints = subst (λ o. IsPrefixOf (world_of o).printed (printed_by (session_run w.lines (enough_steps w.lines n))))
      (sym (text_same w call made words h)) s.prints;
  ends = λ end stop e m. s.ends end stop (sym (ap end_of (text_same w call made words h)) ∙ e) m;
}

code_stays_more : (w : KernelSession) (call : CalledCode RoundReturn) (m n : ℕ) (u : RoundConfiguration) → CodeStays w m n u →
    CodeStays (with_call w call) m n u
code_stays_more w call m n u s = record { prints = s.prints; ends = s.ends }

led_less : (w : KernelSession) (call : CalledCode RoundReturn) (made earlier : ℕ) (u : RoundConfiguration) → made ≤ length w.calls →
    LedOut (with_call w call) made earlier u → LedOut w made earlier u
led_less w call made earlier u h led =
    subst (λ cs. IsLedOutTo round_storage (round_back (code_of w.library w.p)) (last_of_go w.library w.p) w.p.data_start
    (returns_of cs) earlier (chip_start w) u) (take_more made w.calls call h) led

pub led_behind_all : (w : KernelSession) (earlier : ℕ) (u : RoundConfiguration) →
    IsLedOutTo round_storage (round_back (code_of w.library w.p)) (last_of_go w.library w.p) w.p.data_start (returns_of w.calls) earlier
    (chip_start w) u → LedOut w (length w.calls) earlier u
led_behind_all w earlier u led =
    subst (λ cs. IsLedOutTo round_storage (round_back (code_of w.library w.p)) (last_of_go w.library w.p) w.p.data_start
    (returns_of cs) earlier (chip_start w) u) (sym (take_all w.calls)) led

pub one_place : (w : KernelSession) (made m n : ℕ) (u v : RoundConfiguration) → LedOut w made m u → LedOut w made n v → u ≡ v
one_place w made m n u v h k = led_out_to_one_place w.library w.p (returns_of (take made w.calls)) m n (chip_start w) u v h k

-- ---- sessions only print more

pub session_prints : SessionsCompose → SessionsGrow → (lines : List (List ℕ)) (k m : ℕ) → k ≤ m →
    IsPrefixOf (printed_by (session_run lines k)) (printed_by (session_run lines m))
unfolding session_run
session_prints compose grow lines k m h =
    let more = (grow (m - k) (session_run lines k)).prints in
    (more.0, sym (ap printed_by (ap (λ n. session_run lines n) (split k m h) ∙ compose k (m - k) (first_session lines)) ∙ more.1))
  where
    split : (k m : ℕ) → k ≤ m → m ≡ k + (m - k)
    split k m h = omega (arith, h)

pub through : (xs ys zs : List ℕ) → IsPrefixOf xs ys → IsPrefixOf ys zs → IsPrefixOf xs zs
through xs ys zs h k = (h.0 ++ k.0, sym (append_assoc xs h.0 k.0) ∙ ap (λ v. v ++ k.0) h.1 ∙ k.1)

pub some_same : {A : Type 0} (x y : A) → Some x ≡ Some y → x ≡ y
some_same {A = A} x y e = ap (λ o. elim o as (λ p. A) [ None ↦ x | Some z ↦ z ]) e

pub last_step : (p : SourceProgram) (s : State) (address : ℕ) (world : World) → step p s ≡ Ends (Left address) world →
    steps_back p [] 1 s ≡ Ends (Left address) world
unfolding steps_back
last_step p s address world e = ap (λ o. come_back [] s o (λ rest t. steps_back p rest 0 t)) e

-- ---- the text behind all calls, until it calls once more

module _ (w : KernelSession) (k : ℕ) (t : State) (a : StandsAlong w k t) (c : IsCall w k a.price t) where
  abbrev backs : List Return
  backs = round_backs (returns_of w.calls)

  abbrev first : State
  first = first_state w.p (input_of w)

  abbrev ended_at : ℕ
  ended_at = a.words + (c.words + 1)

  leaves_here : steps_back w.p backs ended_at first ≡ Ends (Left c.address) c.going.world
  leaves_here =
      ap (λ bs. steps_back w.p bs ended_at first) (sym (none_more backs)) ∙ a.stands [] (c.words + 1)
      ∙ (quiet w.p [] 0 c.words 1 t c.going c.goes).0 ∙ last_step w.p c.going c.address c.going.world c.leaves

  text_is : (words : ℕ) → text_run w (length w.calls) words ≡ steps_back w.p backs words first
  unfolding run_back
  text_is words = ap (λ calls. steps_back w.p (round_backs (returns_of calls)) words first) (take_all w.calls)

  later_is : (words : ℕ) → steps_back w.p backs (words + ended_at) first ≡ Ends (Left c.address) c.going.world
  later_is words = ap (λ n. steps_back w.p backs n first) (turned words ended_at)
      ∙ stay_ended w.p backs ended_at words first (Left c.address) c.going.world leaves_here
    where
      turned : (a b : ℕ) → a + b ≡ b + a
      turned a b = omega arith

  text_prints : WorldsGrow → (words : ℕ) → IsPrefixOf (world_of (text_run w (length w.calls) words)).printed c.going.world.printed
  text_prints grow words =
      subst (λ o. IsPrefixOf (world_of o).printed c.going.world.printed) (sym (text_is words))
      (subst (λ o. IsPrefixOf (world_of (steps_back w.p backs words first)).printed (world_of o).printed) (later_is words)
      (print_more grow w.p backs words ended_at first))

  end_later : (words : ℕ) (o : Outcome) (end : End) → steps_back w.p backs words first ≡ o → end_of o ≡ Some end →
      end_of (steps_back w.p backs (words + ended_at) first) ≡ Some end
  end_later words (Goes s) end e h = absurd (some_none end (sym h))
  end_later words (Ends f world) end e h = ap end_of (stay_ended w.p backs words ended_at first f world e) ∙ h

  text_end : (words : ℕ) (end : End) (stop : Stop) → end_of (text_run w (length w.calls) words) ≡ Some end → machine_end end ≡ Some stop → ⊥
  text_end words end stop e m =
      let f : Some (Left c.address) ≡ Some end = sym (ap end_of (later_is words))
      ∙ end_later words (steps_back w.p backs words first) end refl (sym (ap end_of (text_is words)) ∙ e) in
      some_none stop (sym m ∙ sym (ap machine_end (some_same (Left c.address) end f)))

  -- with one call more, it stays behind the session
  pub text_stays_here : WorldsGrow → SessionsCompose → SessionsGrow → (words n : ℕ) → 1 ≤ n → total_count w.calls ≤ n →
      TextStays w (length w.calls) words n
  text_stays_here grow compose sgrow words n some few = record {
    prints = through (world_of (text_run w (length w.calls) words)).printed (printed_by (session_run w.lines k))
        (printed_by (session_run w.lines (enough_steps w.lines n)))
        (subst (λ xs. IsPrefixOf (world_of (text_run w (length w.calls) words)).printed xs) c.printed (text_prints grow words))
        (session_prints compose sgrow w.lines k (enough_steps w.lines n) (c.enough n some few));
    ends = λ end stop e m. absurd (text_end words end stop e m);
  }

-- ---- a call that comes back

call_stands : SpentAdds → (w : KernelSession) (k d : ℕ) (t : State) (call : CalledCode RoundReturn) (a : StandsAlong w k t)
    (c : IsCall w k a.price t) → ComesBackAfter w k a.price t c call d →
    StandsAlong (with_call w call) (suc k + d) (state_back call.returned.back c.going)
call_stands adds w k d t call a c r = record {
  words = a.words + (c.words + 1);
  price = a.price + (spent w.p 0 c.words t + step_price c.going);
  stands = λ more b.
      ap (λ bs. steps_back w.p bs (a.words + (c.words + 1) + b) (first_state w.p (input_of w))) (returns_more w.calls call more)
      ∙ ap (λ n. steps_back w.p (round_backs (returns_of w.calls) ++ call.returned.back ∷ more) n (first_state w.p (input_of w)))
      (parts a.words c.words b)
      ∙ a.stands (call.returned.back ∷ more) (c.words + suc b)
      ∙ (quiet w.p (call.returned.back ∷ more) 0 c.words (suc b) t c.going c.goes).0
      ∙ (returns_on w.p call.returned.back more 0 b c.address c.going c.going.world c.leaves).0;
  costs = λ more b.
      ap (λ bs. spent_back w.p bs 8 (a.words + (c.words + 1) + b) (first_state w.p (input_of w))) (returns_more w.calls call more)
      ∙ ap (λ n. spent_back w.p (round_backs (returns_of w.calls) ++ call.returned.back ∷ more) 8 n (first_state w.p (input_of w)))
      (parts a.words c.words b)
      ∙ a.costs (call.returned.back ∷ more) (c.words + suc b)
      ∙ (quiet w.p (call.returned.back ∷ more) a.price c.words (suc b) t c.going c.goes).1
      ∙ (returns_on w.p call.returned.back more (spent w.p a.price c.words t) b c.address c.going c.going.world c.leaves).1
      ∙ ap (λ n. spent_back w.p more n b (state_back call.returned.back c.going))
      (ap (λ n. n + step_price c.going) (spent_from adds w.p a.price c.words t)
      ∙ sum_assoc a.price (spent w.p 0 c.words t) (step_price c.going));
  runs = (r.follows d (omega arith)).runs;
  printed = r.printed;
  cost = cost_is a.price (call_price w k a.price t c) (total_count w.calls) call.count (total_count (w.calls ++ call ∷ []))
      (kept_for (session_run w.lines k).words) (kept_for (session_run w.lines (suc k + d)).words) (allowed (session_run w.lines k))
      (allowed (session_run w.lines (suc k + d)))
      (count_more w.calls call) a.cost r.cost;
}
  where
    parts : (a c b : ℕ) → a + (c + 1) + b ≡ a + (c + suc b)
    parts a c b = omega arith

    cost_is : (price x total count total' kept kept' allow allow' : ℕ) → total' ≡ total + count → price + total + kept ≤ allow + 100000000 →
        x + count + kept' + allow ≤ kept + allow' → price + x + total' + kept' ≤ allow' + 100000000
    cost_is price x total count total' kept kept' allow allow' e h l = omega (arith, e, h, l)

call_follows : (w : KernelSession) (k d : ℕ) (t : State) (call : CalledCode RoundReturn) (a : StandsAlong w k t) (c : IsCall w k a.price t)
    (r : ComesBackAfter w k a.price t c call d) (i : ℕ) → i ≤ d → IsFollowedStep w (suc k + i)
call_follows w k d t call a c r i le =
    let s : IsInCode w k (suc k + i) (call_price w k a.price t c) c.led_to = r.follows i le in
    inr (
      record {
        made = length w.calls;
        before = c.earlier;
        inside = s.inside;
        led_to = c.led_to;
        leads = c.leads;
        prints = s.prints;
        cost = cost_is a.price (call_price w k a.price t c) c.earlier (total_count (take (length w.calls) w.calls))
            (total_count w.calls) s.inside (kept_for (session_run w.lines k).words) (allowed (session_run w.lines k))
            (allowed (session_run w.lines (suc k + i)))
            (ap total_count (take_all w.calls)) c.within_price a.cost s.cost;
        ends = λ end e shared. absurd (some_none end (sym e ∙ s.runs));
      },
      omega arith,
    )
  where
    cost_is : (price x earlier n total inside kept allow allow' : ℕ) → n ≡ total → earlier ≤ price + x →
        price + total + kept ≤ allow + 100000000 → x + inside + allow ≤ kept + allow' → earlier + n + inside ≤ allow' + 200000000
    cost_is price x earlier n total inside kept allow allow' e h l m = omega (arith, e, h, l, m)

both_parts : (w : KernelSession) (k d i : ℕ) → ((i : ℕ) → i ≤ k → IsFollowedStep w i) → ((i : ℕ) → i ≤ d → IsFollowedStep w (suc k + i)) →
    i ≤ suc k + d → IsFollowedStep w i
both_parts w k d i before inside le = ⊎_elim (λ lt. before i (omega (arith, lt)))
    (λ ge. subst (IsFollowedStep w) (same i k ge) (inside (i - suc k) (less i k d le ge))) (cases_lt i (suc k))
  where
    same : (i k : ℕ) → suc k ≤ i → suc k + (i - suc k) ≡ i
    same i k h = omega (arith, h)

    less : (i k d : ℕ) → i ≤ suc k + d → suc k ≤ i → i - suc k ≤ d
    less i k d h l = omega (arith, h, l)

-- a number below one more is below or equal
below_or_last : (i n m : ℕ) → m ≡ suc n → i < m → (i < n) ⊎ (n ≡ i)
below_or_last i n m e h = ⊎_elim (λ lt. inl lt) (λ ge. inr (same i n m e h ge)) (cases_lt i n)
  where
    same : (i n m : ℕ) → m ≡ suc n → i < m → n ≤ i → n ≡ i
    same i n m e h l = omega (arith, e, h, l)

module _ (adds : SpentAdds) (grow : WorldsGrow) (compose : SessionsCompose) (sgrow : SessionsGrow) (w : KernelSession) (k d : ℕ) (t : State)
    (call : CalledCode RoundReturn) (a : GoesAlong w k t) (c : IsCall w k a.here.price t)
    (r : ComesBackAfter w k a.here.price t c call d) where
  call_comes : (n : ℕ) → CallsComeBack round_storage (round_back (code_of w.library w.p)) (last_of_go w.library w.p) w.p.data_start
      (w.calls ++ call ∷ []) n (chip_start w)
  call_comes = one_more_comes_back w.library w.p w.calls call (chip_start w) a.comes_back
      (λ n u led. subst (λ v. code_run w call.count v ≡ round_back (code_of w.library w.p) call.returned v)
      (one_place w (length w.calls) c.earlier n c.led_to u c.leads (led_behind_all w n u led)) r.comes)

  call_text : (made words n : ℕ) → made < length (w.calls ++ call ∷ []) → IsTrue (is_unfinished w.more) → 1 ≤ n →
      total_count (take made (w.calls ++ call ∷ [])) ≤ n → TextStays (with_call w call) made words n
  call_text made words n lt u some few = ⊎_elim earlier last
      (below_or_last made (length w.calls) (length (w.calls ++ call ∷ [])) (length_more w.calls call) lt)
    where
      earlier : made < length w.calls → TextStays (with_call w call) made words n
      earlier h = text_stays_more w call made words n (omega (arith, h))
          (a.text_stays made words n h u some (subst (λ cs. total_count cs ≤ n) (take_more made w.calls call (omega (arith, h))) few))

      here : length w.calls ≡ made → total_count w.calls ≤ n
      here e = subst (λ cs. total_count cs ≤ n) (take_more made w.calls call (omega (arith, e)) ∙ ap (λ i. take i w.calls) (sym e)
          ∙ take_all w.calls) few

      last : length w.calls ≡ made → TextStays (with_call w call) made words n
      last e = subst (λ i. TextStays (with_call w call) i words n) e
          (text_stays_more w call (length w.calls) words n (omega arith)
          (text_stays_here w k t a.here c grow compose sgrow words n some (here e)))

  call_code : (made earlier m n : ℕ) (u : RoundConfiguration) → made < length (w.calls ++ call ∷ []) → IsTrue (is_unfinished w.more) →
      1 ≤ n → LedOut (with_call w call) made earlier u →
      IsInside (drop made (w.calls ++ call ∷ [])) m → total_count (take made (w.calls ++ call ∷ [])) + m ≤ n →
      CodeStays (with_call w call) m n u
  call_code made earlier m n u lt un some led inside few =
      ⊎_elim before last (below_or_last made (length w.calls) (length (w.calls ++ call ∷ [])) (length_more w.calls call) lt)
    where
      before : made < length w.calls → CodeStays (with_call w call) m n u
      before h =
          code_stays_more w call m n u (a.code_stays made earlier m n u h un some (led_less w call made earlier u (omega (arith, h)) led)
          (inside_more made m w.calls call h inside)
          (subst (λ cs. total_count cs + m ≤ n) (take_more made w.calls call (omega (arith, h))) few))

      last : length w.calls ≡ made → CodeStays (with_call w call) m n u
      last e =
          let there : LedOut w (length w.calls) earlier u =
          subst (λ i. LedOut w i earlier u) (sym e) (led_less w call made earlier u (omega (arith, e)) led) in
          let count : total_count w.calls + m ≤ n = subst (λ cs. total_count cs + m ≤ n)
          (take_more made w.calls call (omega (arith, e)) ∙ ap (λ i. take i w.calls) (sym e) ∙ take_all w.calls) few in
          let within : m ≤ call.count = inside_last m w.calls call
          (subst (λ i. IsInside (drop i (w.calls ++ call ∷ [])) m) (sym e) inside) in
          code_stays_more w call m n u (subst (λ v. CodeStays w m n v)
          (one_place w (length w.calls) c.earlier earlier c.led_to u c.leads there) (r.stays m n un some within count))

  pub call_along : GoesAlong (with_call w call) (suc k + d) (state_back call.returned.back c.going)
  call_along = record {
    here = call_stands adds w k d t call a.here c r;
    comes_back = call_comes;
    forward = λ i le. followed_more w call i (both_parts w k d i a.forward (λ j h. call_follows w k d t call a.here c r j h) le);
    text_stays = call_text;
    code_stays = call_code;
  }
