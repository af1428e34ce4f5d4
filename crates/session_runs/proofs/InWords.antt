-- A text and the code that it calls, which follow a session, answer it on the chip.
use Rattle.std.proofs.Common.{◌≡◌, ⊎_elim, ℕ, zero, suc, ◌+◌, ◌≤◌, IsTrue, List, ◌++◌, take, Some, None, refl, sym, ap, subst, ◌∙◌}
use Rattle.std.proofs.Common.{append_assoc, arith}
use Rattle.j1_simulator.specs.Step.{Stop}
use Rattle.j1_simulator.specs.RoundMachine.{round_storage}
use Rattle.j1_simulator.specs.Run.{run, round_run, IsPrefixOf}
use Rattle.j1_simulator.specs.Laws.{OnlyGrows}
use Rattle.forth_program.specs.Run.{world_of}
use Rattle.code_layout.specs.Layout.{laid_out}
use Rattle.code_layout.specs.Agreement.{code_of, word_steps}
use Rattle.code_layout.specs.Returning.{run_returning, last_of_go}
use Rattle.code_layout.specs.ReturningChip.{RoundConfiguration, round_back, round_returning_run}
use Rattle.session_machine.specs.Session.{session_run, printed_by}
use Rattle.session_runs.specs.Answers.{is_unfinished, allowed, enough_steps, AnswersForward, AnswersBackward}
use Rattle.session_runs.specs.Splicing.{with_calls, total_count, returns_of}
use Rattle.session_runs.specs.InWords.{KernelSession, input_of, chip_start, text_run, text_price, LedOut, code_run, TextFollows}
use Rattle.session_runs.specs.InWords.{CodeFollows, TextStays, CodeStays, FollowsInWords, AgreesAtAll}
use Rattle.session_runs.proofs.Splicing.{run_more, spliced}
use Rattle.session_runs.proofs.Calls.{first_come_back, few_with_calls, led_is, WhereIs, InText, InCode, where_at}

prefix_through : (xs ys zs : List ℕ) → IsPrefixOf xs ys → IsPrefixOf ys zs → IsPrefixOf xs zs
prefix_through xs ys zs h k = (h.0 ++ k.0, sym (append_assoc xs h.0 k.0) ∙ ap (λ v. v ++ k.0) h.1 ∙ k.1)

pub returning_is : (w : KernelSession) (made n : ℕ) →
    run_returning round_storage (round_back (code_of w.library w.p)) (last_of_go w.library w.p) w.p.data_start
    (returns_of (take made w.calls)) n (chip_start w)
    ≡ round_returning_run w.library w.p (returns_of (take made w.calls)) (input_of w) n
unfolding round_returning_run
returning_is w made n = refl

module _ (grow : OnlyGrows round_storage) (w : KernelSession) (agree : AgreesAtAll w) (f : FollowsInWords w) where
  abbrev chip : ℕ → RoundConfiguration
  chip n = round_run (laid_out w.library w.p) (input_of w) n

  -- the chip's instructions for n of the run that goes on behind the first calls
  abbrev spliced_count : ℕ → ℕ → ℕ
  spliced_count made n = with_calls round_storage (round_back (code_of w.library w.p)) (last_of_go w.library w.p) w.p.data_start
      (take made w.calls) n (chip_start w)

  chip_is : (made n : ℕ) → chip (spliced_count made n) ≡ round_returning_run w.library w.p (returns_of (take made w.calls)) (input_of w) n
  chip_is made n =
      spliced round_storage (round_back (code_of w.library w.p)) (last_of_go w.library w.p) w.p.data_start n (take made w.calls)
      (chip_start w)
      (first_come_back round_storage (round_back (code_of w.library w.p)) (last_of_go w.library w.p) w.p.data_start n made w.calls
      (chip_start w) (f.comes_back n))
      ∙ returning_is w made n

  few : (made n : ℕ) → spliced_count made n ≤ n + total_count (take made w.calls)
  few made n = few_with_calls round_storage (round_back (code_of w.library w.p)) (last_of_go w.library w.p) w.p.data_start n
      (take made w.calls) (chip_start w)

  prints_grow : (k n : ℕ) → k ≤ n → IsPrefixOf (chip k).printed (chip n).printed
  prints_grow k n h = grow.prints w.p.data_start k n (chip_start w) h

  stop_stays : (k n : ℕ) (stop : Stop) → k ≤ n → (chip k).stop ≡ Some stop → (chip n).stop ≡ Some stop
  stop_stays k n stop h e = ap (λ v. v.stop) (grow.ends w.p.data_start k n (chip_start w) stop h e) ∙ e

  -- ---- forward

  text_forward : (k : ℕ) → TextFollows w k → AnswersForward (laid_out w.library w.p) w.lines w.more k
  text_forward k t = record {
    prints =
        prefix_through (printed_by (session_run w.lines k)) (world_of (text_run w t.made t.words)).printed (chip bound).printed t.prints
        (prefix_through (world_of (text_run w t.made t.words)).printed (chip there).printed (chip bound).printed
        (subst (λ v. IsPrefixOf (world_of (text_run w t.made t.words)).printed v.printed)
        (sym (chip_is t.made (text_price w t.made t.words))) ((agree t.made).prints_no_less t.words))
        (prints_grow there bound le));
    ends = λ end e shared.
        let s = t.ends end e shared in (
          s.0,
          s.1,
          stop_stays there bound s.0 le (ap (λ v. v.stop) (chip_is t.made (text_price w t.made t.words))
              ∙ (agree t.made).ends_no_later t.words end s.0 s.2 s.1),
        );
  }
    where
      bound : ℕ
      bound = allowed (session_run w.lines k) + 200000000

      there : ℕ
      there = spliced_count t.made (text_price w t.made t.words)

      le : there ≤ bound
      le = let a = few t.made (text_price w t.made t.words) in omega (arith, a, t.cost)

  -- inside the code that is called behind the first calls
  code_is : (made earlier m : ℕ) (u : RoundConfiguration) → LedOut w made earlier u → chip (spliced_count made earlier + m) ≡ code_run w m u
  code_is made earlier m u led =
      run_more round_storage w.p.data_start (spliced_count made earlier) m (chip_start w)
      ∙ ap (λ v. run round_storage w.p.data_start m v)
      (chip_is made earlier ∙ sym (returning_is w made earlier)
      ∙ led_is round_storage (round_back (code_of w.library w.p)) (last_of_go w.library w.p) w.p.data_start earlier
      (returns_of (take made w.calls)) (chip_start w) u led)

  code_forward : (k : ℕ) → CodeFollows w k → AnswersForward (laid_out w.library w.p) w.lines w.more k
  code_forward k t = record {
    prints =
        prefix_through (printed_by (session_run w.lines k)) (code_run w t.inside t.led_to).printed (chip bound).printed t.prints
        (subst (λ v. IsPrefixOf v.printed (chip bound).printed) (code_is t.made t.before t.inside t.led_to t.leads)
        (prints_grow there bound le));
    ends = λ end e shared.
        let s = t.ends end e shared in
        (s.0, s.1, stop_stays there bound s.0 le (ap (λ v. v.stop) (code_is t.made t.before t.inside t.led_to t.leads) ∙ s.2));
  }
    where
      bound : ℕ
      bound = allowed (session_run w.lines k) + 200000000

      there : ℕ
      there = spliced_count t.made t.before + t.inside

      le : there ≤ bound
      le = let a = few t.made t.before in omega (arith, a, t.cost)

  pub forward : (k : ℕ) → AnswersForward (laid_out w.library w.p) w.lines w.more k
  forward k = ⊎_elim (text_forward k) (code_forward k) (f.forward k)

  -- ---- backward

  nothing_yet : AnswersBackward (laid_out w.library w.p) w.lines w.more 0
  nothing_yet = record {
    prints = (printed_by (session_run w.lines (enough_steps w.lines 0)), refl);
    ends = λ stop e. absurd (none_is stop e);
  }
    where
      none_is : (stop : Stop) → None ≡ Some stop → ⊥
      none_is stop e = subst (λ o. elim o as (λ p. Type 0) [ None ↦ Unit {0} | Some y ↦ ⊥ ]) e tt

  behind : (n : ℕ) → IsTrue (is_unfinished w.more) → 1 ≤ n →
      WhereIs round_storage (round_back (code_of w.library w.p)) (last_of_go w.library w.p) w.p.data_start w.calls (chip_start w) n →
      AnswersBackward (laid_out w.library w.p) w.lines w.more n
  behind n u some (InText j m same few) =
      let t : TextStays w j (word_steps w.p m) n = f.text_stays j (word_steps w.p m) n u some few in
      let here : chip n ≡ round_returning_run w.library w.p (returns_of (take j w.calls)) (input_of w) m = same ∙ returning_is w j m in
      record {
        prints = prefix_through (chip n).printed (world_of (text_run w j (word_steps w.p m))).printed
            (printed_by (session_run w.lines (enough_steps w.lines n)))
            (subst (λ v. IsPrefixOf v.printed (world_of (text_run w j (word_steps w.p m))).printed) (sym here)
            ((agree j).prints_no_more m)) t.prints;
        ends = λ stop e.
            let s = (agree j).ends_no_sooner m stop (sym (ap (λ v. v.stop) here) ∙ e) in
            (s.0, t.ends s.0 stop s.1 s.2, s.2);
      }
  behind n u some (InCode j earlier m v led same inside few) =
      let t : CodeStays w m n v = f.code_stays j earlier m n v u some led inside few in
      record {
        prints = subst (λ x. IsPrefixOf x.printed (printed_by (session_run w.lines (enough_steps w.lines n)))) (sym same) t.prints;
        ends = λ stop e. t.ends stop (sym (ap (λ x. x.stop) same) ∙ e);
      }

  pub backward : (n : ℕ) → IsTrue (is_unfinished w.more) → AnswersBackward (laid_out w.library w.p) w.lines w.more n
  backward zero u = nothing_yet
  backward (suc n) u =
      behind (suc n) u (omega arith) (where_at round_storage (round_back (code_of w.library w.p)) (last_of_go w.library w.p) w.p.data_start
      (suc n) (suc n) w.calls (chip_start w) (omega arith) f.comes_back)
