-- How a text that follows a session comes to its end.
use Rattle.std.proofs.Common.{◌≡◌, ◌⊎◌, inl, inr, ⊎_elim, ℕ, zero, suc, ◌+◌, ◌<◌, ◌≤◌, List, [], ◌∷◌, length, take, refl, sym, ap, subst}
use Rattle.std.proofs.Common.{◌∙◌, arith}
use Rattle.std.proofs.lemmas.Bool.{cases_lt}
use Rattle.j1_simulator.specs.RoundMachine.{round_storage}
use Rattle.j1_simulator.specs.Run.{IsPrefixOf}
use Rattle.forth_program.specs.State.{State}
use Rattle.forth_program.specs.Run.{world_of, end_of}
use Rattle.forth_program.specs.Returns.{run_back}
use Rattle.forth_program.specs.RunLaws.{WorldsGrow}
use Rattle.code_layout.specs.Agreement.{code_of}
use Rattle.code_layout.specs.Returning.{last_of_go}
use Rattle.code_layout.specs.ReturningChip.{RoundConfiguration, round_back, round_backs}
use Rattle.session_machine.specs.Session.{session_run, printed_by}
use Rattle.session_machine.specs.Laws.{SessionsCompose, SessionsGrow}
use Rattle.session_runs.specs.Answers.{allowed, enough_steps}
use Rattle.session_runs.specs.Following.{kept_for}
use Rattle.session_runs.specs.Splicing.{IsLedOutTo, total_count, returns_of}
use Rattle.session_runs.specs.InWords.{KernelSession, input_of, chip_start, LedOut, text_run, TextFollows, CodeFollows, TextStays}
use Rattle.session_runs.specs.InWords.{CodeStays}
use Rattle.session_runs.specs.Along.{IsFollowedStep, StandsAlong, IsCall, call_price, IsInLastCode, NeverComesBack, LastCallsFollow}
use Rattle.session_runs.proofs.Along.{take_all}
use Rattle.session_runs.proofs.CallsAlong.{one_place, text_stays_here}

-- beyond all calls there are no others
take_beyond : {A : Type 0} (n : ℕ) (xs : List A) → length xs ≤ n → take n xs ≡ xs
take_beyond zero [] h = refl
take_beyond zero (x ∷ xs) h = absurd (omega (arith, h))
take_beyond (suc n) [] h = refl
take_beyond (suc n) (x ∷ xs) h = ap (λ ys. x ∷ ys) (take_beyond n xs (omega (arith, h)))

-- so the text and the place to which it has led out are those behind all calls
pub text_beyond : (w : KernelSession) (made words n : ℕ) → length w.calls ≤ made → TextStays w (length w.calls) words n →
    TextStays w made words n
text_beyond w made words n h s = record {
  prints = subst (λ o. IsPrefixOf (world_of o).printed (printed_by (session_run w.lines (enough_steps w.lines n)))) same s.prints;
  ends = λ end stop e m. s.ends end stop (ap end_of same ∙ e) m;
}
  where
    same : text_run w (length w.calls) words ≡ text_run w made words
    same = ap (λ calls. run_back w.p (round_backs (returns_of calls)) (input_of w) words)
        (take_all w.calls ∙ sym (take_beyond made w.calls h))

pub led_beyond : (w : KernelSession) (made earlier : ℕ) (u : RoundConfiguration) → length w.calls ≤ made → LedOut w made earlier u →
    LedOut w (length w.calls) earlier u
led_beyond w made earlier u h led =
    subst (λ cs. IsLedOutTo round_storage (round_back (code_of w.library w.p)) (last_of_go w.library w.p) w.p.data_start
    (returns_of cs) earlier (chip_start w) u) (take_beyond made w.calls h ∙ sym (take_all w.calls)) led

pub count_beyond : (w : KernelSession) (made m n : ℕ) → length w.calls ≤ made → total_count (take made w.calls) + m ≤ n →
    total_count w.calls + m ≤ n
count_beyond w made m n h few = subst (λ cs. total_count cs + m ≤ n) (take_beyond made w.calls h) few

pub few_beyond : (w : KernelSession) (made n : ℕ) → length w.calls ≤ made → total_count (take made w.calls) ≤ n → total_count w.calls ≤ n
few_beyond w made n h few = subst (λ cs. total_count cs ≤ n) (take_beyond made w.calls h) few

pub plain : (w : KernelSession) (i : ℕ) → IsFollowedStep w i → TextFollows w i ⊎ CodeFollows w i
plain w i (inl x) = inl x.0
plain w i (inr x) = inr x.0

-- ---- a call that never comes back

last_follows : (w : KernelSession) (k i : ℕ) (t : State) (a : StandsAlong w k t) (c : IsCall w k a.price t) →
    NeverComesBack w k a.price t c → k < i → CodeFollows w i
last_follows w k i t a c r lt =
    let s : IsInLastCode w k i (call_price w k a.price t c) c.led_to = r.follows i lt in
    record {
      made = length w.calls;
      before = c.earlier;
      inside = s.inside;
      led_to = c.led_to;
      leads = c.leads;
      prints = s.prints;
      cost = cost_is a.price (call_price w k a.price t c) c.earlier (total_count (take (length w.calls) w.calls))
          (total_count w.calls) s.inside (kept_for (session_run w.lines k).words) (allowed (session_run w.lines k))
          (allowed (session_run w.lines i))
          (ap total_count (take_all w.calls)) c.within_price a.cost s.cost;
      ends = λ end e shared. s.ends end e;
    }
  where
    cost_is : (price x earlier n total inside kept allow allow' : ℕ) → n ≡ total → earlier ≤ price + x →
        price + total + kept ≤ allow + 100000000 → x + inside + allow ≤ kept + allow' → earlier + n + inside ≤ allow' + 200000000
    cost_is price x earlier n total inside kept allow allow' e h l m = omega (arith, e, h, l, m)

pub last_call : WorldsGrow → SessionsCompose → SessionsGrow → LastCallsFollow
last_call grow compose sgrow w k t a c r = record {
  comes_back = a.comes_back;
  forward = λ i. ⊎_elim (λ lt. inr (last_follows w k i t a.here c r lt)) (λ ge. plain w i (a.forward i ge)) (cases_lt k i);
  text_stays = λ made words n u some few.
      ⊎_elim (λ lt. a.text_stays made words n lt u some few)
      (λ ge. text_beyond w made words n ge (text_stays_here w k t a.here c grow compose sgrow words n some
      (few_beyond w made n ge few))) (cases_lt made (length w.calls));
  code_stays = λ made earlier m n u un some led inside few.
      ⊎_elim (λ lt. a.code_stays made earlier m n u lt un some led inside few)
      (λ ge. subst (λ v. CodeStays w m n v) (one_place w (length w.calls) c.earlier earlier c.led_to u c.leads
      (led_beyond w made earlier u ge led)) (r.stays m n un some (count_beyond w made m n ge few))) (cases_lt made (length w.calls));
}
