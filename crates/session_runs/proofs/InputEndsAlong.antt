-- A text that follows a session to the end of the input.
use Rattle.std.proofs.Common.{◌≡◌, inl, ⊎_elim, ℕ, zero, suc, ◌+◌, ◌-◌, ◌<◌, ◌≤◌, Bool, true, false, IsTrue, List, [], ◌∷◌, length, take}
use Rattle.std.proofs.Common.{Some, refl, sym, ap, subst, ◌∙◌, arith}
use Rattle.std.proofs.lemmas.Bool.{cases_lt}
use Rattle.j1_simulator.specs.declared.ends.End.TheVariants as chip_ends
use Rattle.j1_simulator.specs.RoundMachine.{round_storage}
use Rattle.j1_simulator.specs.Step.{Stop, By}
use Rattle.j1_simulator.specs.Run.{run, round_run, IsPrefixOf}
use Rattle.j1_simulator.specs.Laws.{OnlyGrows}
use Rattle.forth_program.specs.State.{End, Halted, InputEnded, Outside, Underflow, Unbalanced, Left, World, State, Outcome, Goes, Ends}
use Rattle.forth_program.specs.Program.{SourceProgram}
use Rattle.forth_program.specs.Step.{step}
use Rattle.forth_program.specs.Run.{and_then, steps, first_state, world_of, end_of}
use Rattle.forth_program.specs.RunLaws.{SpentAdds, WorldsGrow}
use Rattle.forth_program.specs.Price.{step_price, spent, spent_after}
use Rattle.forth_program.specs.Returns.{Return, come_back, steps_back, spent_back_after, spent_back, run_back, price_back}
use Rattle.word_laws.specs.Standing.{machine_end}
use Rattle.code_layout.specs.Layout.{laid_out}
use Rattle.code_layout.specs.Agreement.{code_of, word_steps}
use Rattle.code_layout.specs.Returning.{last_of_go}
use Rattle.code_layout.specs.ReturningChip.{RoundConfiguration, round_back, round_backs, round_returning_run}
use Rattle.session_machine.specs.Session.{Session, Action, EndsInput, action_of, done, first_session, session_run, printed_by}
use Rattle.session_machine.specs.Laws.{SessionsCompose, SessionsStayEnded, SessionsGrow}
use Rattle.session_runs.specs.Answers.{is_unfinished, IsSharedEnd, allowed, enough_steps}
use Rattle.session_runs.specs.Following.{kept_for}
use Rattle.session_runs.specs.Splicing.{with_calls, total_count, returns_of}
use Rattle.session_runs.specs.InWords.{KernelSession, input_of, chip_start, LedOut, code_run, text_run, text_price, TextFollows, TextStays}
use Rattle.session_runs.specs.InWords.{CodeStays, FollowsInWords, AgreesAtAll}
use Rattle.session_runs.specs.Along.{GoesAlong, InputEndsHere}
use Rattle.session_runs.proofs.Splicing.{run_more, spliced}
use Rattle.session_runs.proofs.Calls.{first_come_back, led_is}
use Rattle.session_runs.proofs.InWords.{returning_is}
use Rattle.session_runs.proofs.Following.{next_done}
use Rattle.session_runs.proofs.Parts.{print_more, stay_ended}
use Rattle.session_runs.proofs.Along.{take_all, none_more, some_none, sum_zero, spent_from, all_run, all_price}
use Rattle.session_runs.proofs.CallsAlong.{session_prints, through, some_same}
use Rattle.session_runs.proofs.EndsAlong.{text_beyond, led_beyond, count_beyond, few_beyond, plain}

-- ---- word steps that end at the end of the input

IsInputEnd : Outcome → Type 0
IsInputEnd (Ends InputEnded world) = Unit {0}
IsInputEnd o = ⊥

ended_by : (p : SourceProgram) (backs : List Return) (total a : ℕ) (s : State) (o : Outcome) (world : World) →
    and_then o (steps p a) ≡ Ends InputEnded world →
    ((m : State) → steps p a m ≡ Ends InputEnded world →
    (steps_back p backs a m ≡ Ends InputEnded world) × (spent_back p backs total a m ≡ spent p total a m)) →
    (come_back backs s o (λ rest m. steps_back p rest a m) ≡ Ends InputEnded world)
    × (spent_back_after backs s total o (λ rest m. spent_back p rest total a m) ≡ spent_after total o (spent p total a))
ended_by p backs total a s (Goes m) world e each = each m e
ended_by p [] total a s (Ends f w) world e each = (e, refl)
ended_by p (back ∷ backs) total a s (Ends InputEnded w) world e each = (e, refl)
ended_by p (back ∷ backs) total a s (Ends (Halted status) w) world e each = (e, refl)
ended_by p (back ∷ backs) total a s (Ends (Outside address) w) world e each = (e, refl)
ended_by p (back ∷ backs) total a s (Ends Underflow w) world e each = (e, refl)
ended_by p (back ∷ backs) total a s (Ends Unbalanced w) world e each = (e, refl)
ended_by p (back ∷ backs) total a s (Ends (Left address) w) world e each =
    absurd (subst (λ o. elim o as (λ x. Type 0) [
      | Goes u ↦ Unit {0}
      | Ends g v ↦ elim g as (λ x. Type 0) [
        | Halted n ↦ Unit {0}
        | InputEnded ↦ ⊥
        | Outside n ↦ Unit {0}
        | Underflow ↦ Unit {0}
        | Unbalanced ↦ Unit {0}
        | Left n ↦ Unit {0}
      ]
    ]) e tt)

input_ends : (p : SourceProgram) (backs : List Return) (total a : ℕ) (s : State) (world : World) → steps p a s ≡ Ends InputEnded world →
    (steps_back p backs a s ≡ Ends InputEnded world) × (spent_back p backs total a s ≡ spent p total a s)
unfolding steps steps_back spent spent_back
input_ends p backs total zero s world e = absurd (subst (λ o. elim o as (λ x. Type 0) [ Goes u ↦ Unit {0} | Ends g v ↦ ⊥ ]) e tt)
input_ends p backs total (suc a) s world e = ended_by p backs (total + step_price s) a s (step p s) world e
    (λ m k. input_ends p backs (total + step_price s) a m world k)

-- ---- a run that has ended

module _ (p : SourceProgram) (backs : List Return) (ended_at : ℕ) (first : State) (end : End) (world : World)
    (ends : steps_back p backs ended_at first ≡ Ends end world) where
  later_is : (words : ℕ) → steps_back p backs (words + ended_at) first ≡ Ends end world
  later_is words = ap (λ n. steps_back p backs n first) (turned words ended_at) ∙ stay_ended p backs ended_at words first end world ends
    where
      turned : (a b : ℕ) → a + b ≡ b + a
      turned a b = omega arith

  pub run_prints : WorldsGrow → (words : ℕ) → IsPrefixOf (world_of (steps_back p backs words first)).printed world.printed
  run_prints grow words = subst (λ o. IsPrefixOf (world_of (steps_back p backs words first)).printed (world_of o).printed) (later_is words)
      (print_more grow p backs words ended_at first)

  end_by : (words : ℕ) (o : Outcome) (other : End) → steps_back p backs words first ≡ o → end_of o ≡ Some other → end ≡ other
  end_by words (Goes s) other e h = absurd (some_none other (sym h))
  end_by words (Ends f w) other e h =
      some_same end other (sym (ap end_of (later_is words)) ∙ ap end_of (stay_ended p backs words ended_at first f w e) ∙ h)

-- ---- the session at the end of the input

ended_session : (s t : Session) (action : Action) → action ≡ EndsInput → t ≡ done action s →
    (t.end ≡ Some InputEnded) × (printed_by t ≡ printed_by s) × (allowed t ≡ allowed s)
ended_session s t action a e = let d : t ≡ done EndsInput s = e ∙ ap (λ x. done x s) a in (ap (λ u. u.end) d, ap printed_by d, ap allowed d)

stays_ended : SessionsCompose → SessionsStayEnded → (lines : List (List ℕ)) (j i : ℕ) (end : End) → (session_run lines j).end ≡ Some end →
    j ≤ i → session_run lines i ≡ session_run lines j
unfolding session_run
stays_ended compose stay lines j i end e h =
    ap (λ n. session_run lines n) (split j i h) ∙ compose j (i - j) (first_session lines) ∙ stay (i - j) (session_run lines j) end e
  where
    split : (k m : ℕ) → k ≤ m → m ≡ k + (m - k)
    split k m h = omega (arith, h)

module _ (adds : SpentAdds) (wgrow : WorldsGrow) (grow : OnlyGrows round_storage) (compose : SessionsCompose) (stay : SessionsStayEnded)
    (sgrow : SessionsGrow) (w : KernelSession) (k : ℕ) (t : State) (agree : AgreesAtAll w) (a : GoesAlong w k t)
    (q : InputEndsHere w k t) where
  abbrev backs : List Return
  backs = round_backs (returns_of w.calls)

  abbrev first : State
  first = first_state w.p (input_of w)

  abbrev ended_at : ℕ
  ended_at = a.here.words + q.words

  abbrev now : Session
  now = session_run w.lines (suc k)

  now_is : (now.end ≡ Some InputEnded) × (printed_by now ≡ printed_by (session_run w.lines k)) ×
      (allowed now ≡ allowed (session_run w.lines k))
  now_is = ended_session (session_run w.lines k) now (action_of (session_run w.lines k)) q.action (next_done compose w.lines k a.here.runs)

  later : (i : ℕ) → suc k ≤ i → session_run w.lines i ≡ now
  later i h = stays_ended compose stay w.lines (suc k) i InputEnded now_is.0 h

  ends_here : IsTrue (is_unfinished w.more) → steps_back w.p backs ended_at first ≡ Ends InputEnded q.world
  ends_here u = ap (λ bs. steps_back w.p bs ended_at first) (sym (none_more backs)) ∙ a.here.stands [] q.words
      ∙ (input_ends w.p [] 0 q.words t q.world (q.ends u)).0

  price_here : IsTrue (is_unfinished w.more) → spent_back w.p backs 8 ended_at first ≡ a.here.price + spent w.p 0 q.words t
  price_here u =
      ap (λ bs. spent_back w.p bs 8 ended_at first) (sym (none_more backs)) ∙ a.here.costs [] q.words
      ∙ (input_ends w.p [] a.here.price q.words t q.world (q.ends u)).1 ∙ spent_from adds w.p a.here.price q.words t

  text_is : (words : ℕ) → text_run w (length w.calls) words ≡ steps_back w.p backs words first
  unfolding run_back
  text_is words = ap (λ calls. steps_back w.p (round_backs (returns_of calls)) words first) (take_all w.calls)

  price_is : (words : ℕ) → text_price w (length w.calls) words ≡ spent_back w.p backs 8 words first
  unfolding price_back
  price_is words = ap (λ calls. spent_back w.p (round_backs (returns_of calls)) 8 words first) (take_all w.calls)

  -- ---- forward

  cost_ended : (x price more n total kept allow allow' : ℕ) → x ≡ price + more → n ≡ total → allow' ≡ allow → more ≤ 100000000 →
      price + total + kept ≤ allow + 100000000 → x + n ≤ allow' + 200000000
  cost_ended x price more n total kept allow allow' e f g h l = omega (arith, e, f, g, h, l)

  by_unfinished : (i : ℕ) → suc k ≤ i → (b : Bool) → is_unfinished w.more ≡ b → TextFollows w i
  by_unfinished i h true u = record {
    made = length w.calls;
    words = ended_at;
    prints = (
      [],
      none_more (printed_by (session_run w.lines i)) ∙ ap printed_by (later i h) ∙ now_is.1 ∙ sym (q.printed u)
          ∙ sym (ap (λ o. (world_of o).printed) (text_is ended_at ∙ ends_here u)),
    );
    cost = cost_ended (text_price w (length w.calls) ended_at) a.here.price (spent w.p 0 q.words t)
        (total_count (take (length w.calls) w.calls)) (total_count w.calls) (kept_for (session_run w.lines k).words)
        (allowed (session_run w.lines k)) (allowed (session_run w.lines i))
        (price_is ended_at ∙ price_here u) (ap total_count (take_all w.calls)) (ap allowed (later i h) ∙ now_is.2) q.cost a.here.cost;
    ends = λ end e shared.
        let f : InputEnded ≡ end = some_same InputEnded end (sym now_is.0 ∙ sym (ap (λ s. s.end) (later i h)) ∙ e) in
        (By chip_ends.InputEnded, sym (ap machine_end f), ap end_of (text_is ended_at ∙ ends_here u) ∙ ap (λ x. Some x) f);
  }
  by_unfinished i h false u = record {
    made = length w.calls;
    words = a.here.words;
    prints = (
      [],
      none_more (printed_by (session_run w.lines i)) ∙ ap printed_by (later i h) ∙ now_is.1 ∙ sym a.here.printed
          ∙ sym (ap (λ o. (world_of o).printed) (all_run w k t a.here)),
    );
    cost = cost_ended (text_price w (length w.calls) a.here.words) a.here.price 0 (total_count (take (length w.calls) w.calls))
        (total_count w.calls) (kept_for (session_run w.lines k).words) (allowed (session_run w.lines k)) (allowed (session_run w.lines i))
        (all_price w k t a.here ∙ sym (sum_zero a.here.price)) (ap total_count (take_all w.calls)) (ap allowed (later i h) ∙ now_is.2)
        (omega arith) a.here.cost;
    ends = λ end e shared.
        let f : end ≡ InputEnded = sym (some_same InputEnded end (sym now_is.0 ∙ sym (ap (λ s. s.end) (later i h)) ∙ e)) in
        let g : is_unfinished w.more ≡ true = subst (IsSharedEnd w.more) f shared in
        absurd (let b : false ≡ true = sym u ∙ g in cc);
  }

  -- ---- backward

  text_here : (words n : ℕ) → IsTrue (is_unfinished w.more) → 1 ≤ n → total_count w.calls ≤ n → TextStays w (length w.calls) words n
  text_here words n u some few = record {
    prints = subst (λ o. IsPrefixOf (world_of o).printed (printed_by (session_run w.lines (enough_steps w.lines n)))) (sym (text_is words))
        (through (world_of (steps_back w.p backs words first)).printed (printed_by (session_run w.lines k))
        (printed_by (session_run w.lines (enough_steps w.lines n)))
        (subst (λ xs. IsPrefixOf (world_of (steps_back w.p backs words first)).printed xs) (q.printed u)
        (run_prints w.p backs ended_at first InputEnded q.world (ends_here u) wgrow words))
        (session_prints compose sgrow w.lines k (enough_steps w.lines n) (below k (enough_steps w.lines n) (q.enough n some few))));
    ends = λ end stop e m.
        let f : InputEnded ≡ end = end_by w.p backs ended_at first InputEnded q.world (ends_here u) words
        (steps_back w.p backs words first) end refl (sym (ap end_of (text_is words)) ∙ e) in
        ap (λ s. s.end) (later (enough_steps w.lines n) (q.enough n some few)) ∙ now_is.0 ∙ ap (λ x. Some x) f;
  }
    where
      below : (k n : ℕ) → suc k ≤ n → k ≤ n
      below k n h = omega (arith, h)

  -- ---- behind all calls the text ends, so that no code is called there

  abbrev chip : ℕ → RoundConfiguration
  chip n = round_run (laid_out w.library w.p) (input_of w) n

  abbrev spliced_count : ℕ → ℕ
  spliced_count n = with_calls round_storage (round_back (code_of w.library w.p)) (last_of_go w.library w.p) w.p.data_start
      (take (length w.calls) w.calls) n (chip_start w)

  chip_is : (n : ℕ) → chip (spliced_count n) ≡ round_returning_run w.library w.p (returns_of (take (length w.calls) w.calls)) (input_of w) n
  chip_is n =
      spliced round_storage (round_back (code_of w.library w.p)) (last_of_go w.library w.p) w.p.data_start n (take (length w.calls) w.calls)
      (chip_start w)
      (first_come_back round_storage (round_back (code_of w.library w.p)) (last_of_go w.library w.p) w.p.data_start n
      (length w.calls) w.calls (chip_start w) (a.comes_back n))
      ∙ returning_is w (length w.calls) n

  code_is : (earlier m : ℕ) (u : RoundConfiguration) → LedOut w (length w.calls) earlier u →
      chip (spliced_count earlier + m) ≡ code_run w m u
  code_is earlier m u led =
      run_more round_storage w.p.data_start (spliced_count earlier) m (chip_start w)
      ∙ ap (λ v. run round_storage w.p.data_start m v)
      (chip_is earlier ∙ sym (returning_is w (length w.calls) earlier)
      ∙ led_is round_storage (round_back (code_of w.library w.p)) (last_of_go w.library w.p) w.p.data_start earlier
      (returns_of (take (length w.calls) w.calls)) (chip_start w) u led)

  -- so many instructions of the run that goes on end it
  abbrev last_count : ℕ
  last_count = text_price w (length w.calls) ended_at

  last_stop : IsTrue (is_unfinished w.more) → (chip (spliced_count last_count)).stop ≡ Some (By chip_ends.InputEnded)
  last_stop u =
      ap (λ v. v.stop) (chip_is last_count)
      ∙ (agree (length w.calls)).ends_no_later ended_at InputEnded (By chip_ends.InputEnded)
      (ap end_of (text_is ended_at ∙ ends_here u)) refl

  -- wherever the chip is, it has printed no more than it has there, and it has no other end
  no_more_than : (m n : ℕ) (stop : Stop) → (chip m).stop ≡ Some stop →
      IsPrefixOf (chip n).printed (chip m).printed × ((other : Stop) → (chip n).stop ≡ Some other → stop ≡ other)
  no_more_than m n stop e = ⊎_elim sooner later_on (cases_lt n m)
    where
      sooner : n < m → IsPrefixOf (chip n).printed (chip m).printed × ((other : Stop) → (chip n).stop ≡ Some other → stop ≡ other)
      sooner lt = (
        grow.prints w.p.data_start n m (chip_start w) (omega (arith, lt)),
        λ other f. some_same stop other (sym e ∙ ap (λ v. v.stop) (grow.ends w.p.data_start n m (chip_start w) other (omega (arith, lt)) f)
            ∙ f),
      )

      later_on : m ≤ n → IsPrefixOf (chip n).printed (chip m).printed × ((other : Stop) → (chip n).stop ≡ Some other → stop ≡ other)
      later_on le =
          let same : chip n ≡ chip m = grow.ends w.p.data_start m n (chip_start w) stop le e in (
            ([], none_more (chip n).printed ∙ ap (λ v. v.printed) same),
            λ other f. some_same stop other
                (sym e ∙ sym (ap (λ v. v.stop) same) ∙ f),
          )

  code_here : (earlier m n : ℕ) (u : RoundConfiguration) → IsTrue (is_unfinished w.more) → 1 ≤ n → LedOut w (length w.calls) earlier u →
      total_count w.calls ≤ n → CodeStays w m n u
  code_here earlier m n u un some led few =
      let bound = no_more_than (spliced_count last_count) (spliced_count earlier + m) (By chip_ends.InputEnded) (last_stop un) in
      let s : TextStays w (length w.calls) (word_steps w.p last_count) n = text_here (word_steps w.p last_count) n un some few in
      record {
        prints =
            subst (λ v. IsPrefixOf v.printed (printed_by (session_run w.lines (enough_steps w.lines n)))) (code_is earlier m u led)
            (through (chip (spliced_count earlier + m)).printed (chip (spliced_count last_count)).printed
            (printed_by (session_run w.lines (enough_steps w.lines n))) bound.0
            (through (chip (spliced_count last_count)).printed (world_of (text_run w (length w.calls) (word_steps w.p last_count))).printed
            (printed_by (session_run w.lines (enough_steps w.lines n)))
            (subst (λ v. IsPrefixOf v.printed (world_of (text_run w (length w.calls) (word_steps w.p last_count))).printed)
            (sym (chip_is last_count)) ((agree (length w.calls)).prints_no_more last_count))
            s.prints));
        ends = λ stop e.
            let f : By chip_ends.InputEnded ≡ stop = bound.1 stop (ap (λ v. v.stop) (code_is earlier m u led) ∙ e) in
            let g = (agree (length w.calls)).ends_no_sooner last_count (By chip_ends.InputEnded)
            (sym (ap (λ v. v.stop) (chip_is last_count)) ∙ last_stop un) in
            (g.0, s.ends g.0 (By chip_ends.InputEnded) g.1 g.2, g.2 ∙ ap (λ x. Some x) f);
      }

  pub to_the_end : FollowsInWords w
  to_the_end = record {
    comes_back = a.comes_back;
    forward = λ i. ⊎_elim (λ lt. inl (by_unfinished i (omega (arith, lt)) (is_unfinished w.more) refl)) (λ ge. plain w i (a.forward i ge))
        (cases_lt k i);
    text_stays = λ made words n u some few.
        ⊎_elim (λ lt. a.text_stays made words n lt u some few)
        (λ ge. text_beyond w made words n ge (text_here words n u some (few_beyond w made n ge few))) (cases_lt made (length w.calls));
    code_stays = λ made earlier m n u un some led inside few.
        ⊎_elim (λ lt. a.code_stays made earlier m n u lt un some led inside few)
        (λ ge. code_here earlier m n u un some (led_beyond w made earlier u ge led)
        (less (total_count w.calls) m n (count_beyond w made m n ge few))) (cases_lt made (length w.calls));
  }
    where
      less : (c m n : ℕ) → c + m ≤ n → c ≤ n
      less c m n h = omega (arith, h)
