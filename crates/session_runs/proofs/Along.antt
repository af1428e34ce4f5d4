-- How a text comes to follow a session.
use Rattle.std.proofs.Common.{◌≡◌, inl, ⊎_elim, ℕ, suc, ◌+◌, ◌<◌, ◌≤◌, List, [], ◌∷◌, ◌++◌, length, take, Some, None, refl, sym, ap, subst}
use Rattle.std.proofs.Common.{◌∙◌, arith}
use Rattle.std.proofs.lemmas.Bool.{cases_lt}
use Rattle.forth_program.specs.State.{State, Goes}
use Rattle.forth_program.specs.Program.{SourceProgram}
use Rattle.forth_program.specs.Run.{steps, first_state, world_of}
use Rattle.forth_program.specs.RunLaws.{SpentAdds}
use Rattle.forth_program.specs.Price.{spent}
use Rattle.forth_program.specs.Returns.{steps_back, spent_back, run_back, price_back}
use Rattle.code_layout.specs.ReturningChip.{round_backs}
use Rattle.session_machine.specs.Session.{session_steps, session_run, printed_by}
use Rattle.session_runs.specs.Answers.{allowed}
use Rattle.j1_simulator.specs.RoundMachine.{round_storage}
use Rattle.code_layout.specs.Agreement.{code_of}
use Rattle.code_layout.specs.Returning.{last_of_go}
use Rattle.code_layout.specs.ReturningChip.{round_back}
use Rattle.session_runs.specs.Following.{kept_for}
use Rattle.session_runs.specs.Splicing.{CallsComeBack, total_count, returns_of}
use Rattle.session_runs.specs.InWords.{KernelSession, input_of, chip_start, text_run, text_price}
use Rattle.session_runs.specs.Along.{IsFollowedStep, StandsAlong, TextsBegin, IsQuietStep, QuietStepsGoAlong}
use Rattle.session_runs.proofs.Parts.{quiet, no_call}

pub take_all : {A : Type 0} (xs : List A) → take (length xs) xs ≡ xs
take_all [] = refl
take_all (x ∷ xs) = ap (λ ys. x ∷ ys) (take_all xs)

pub none_more : {A : Type 0} (xs : List A) → xs ++ [] ≡ xs
none_more [] = refl
none_more (x ∷ xs) = ap (λ ys. x ∷ ys) (none_more xs)

pub sum_assoc : (a b c : ℕ) → a + b + c ≡ a + (b + c)
sum_assoc a b c = omega arith

pub sum_zero : (a : ℕ) → a + 0 ≡ a
sum_zero a = omega arith

pub some_none : {A : Type 0} (x : A) → Some x ≡ None → ⊥
some_none x e = subst (λ o. elim o as (λ p. Type 0) [ None ↦ ⊥ | Some y ↦ Unit {0} ]) e tt

-- the run behind all calls, and its price
pub all_run : (w : KernelSession) (k : ℕ) (t : State) (a : StandsAlong w k t) → text_run w (length w.calls) a.words ≡ Goes t
unfolding run_back steps_back
all_run w k t a =
    ap (λ calls. steps_back w.p (round_backs (returns_of calls)) a.words (first_state w.p (input_of w))) (take_all w.calls)
    ∙ ap (λ backs. steps_back w.p backs a.words (first_state w.p (input_of w))) (sym (none_more (round_backs (returns_of w.calls))))
    ∙ ap (λ n. steps_back w.p (round_backs (returns_of w.calls) ++ []) n (first_state w.p (input_of w))) (sym (sum_zero a.words))
    ∙ a.stands [] 0

pub all_price : (w : KernelSession) (k : ℕ) (t : State) (a : StandsAlong w k t) → text_price w (length w.calls) a.words ≡ a.price
unfolding price_back spent_back
all_price w k t a =
    ap (λ calls. spent_back w.p (round_backs (returns_of calls)) 8 a.words (first_state w.p (input_of w))) (take_all w.calls)
    ∙ ap (λ backs. spent_back w.p backs 8 a.words (first_state w.p (input_of w))) (sym (none_more (round_backs (returns_of w.calls))))
    ∙ ap (λ n. spent_back w.p (round_backs (returns_of w.calls) ++ []) 8 n (first_state w.p (input_of w))) (sym (sum_zero a.words))
    ∙ a.costs [] 0

-- where it stands the step is followed
pub followed_here : (w : KernelSession) (k : ℕ) (t : State) → StandsAlong w k t → IsFollowedStep w k
followed_here w k t a =
    inl (
      record {
        made = length w.calls;
        words = a.words;
        prints = (
          [],
          none_more (printed_by (session_run w.lines k)) ∙ sym a.printed
              ∙ sym (ap (λ o. (world_of o).printed) (all_run w k t a)),
        );
        cost = cost_is (text_price w (length w.calls) a.words) a.price (total_count (take (length w.calls) w.calls)) (total_count w.calls)
            (kept_for (session_run w.lines k).words) (allowed (session_run w.lines k))
            (all_price w k t a) (ap total_count (take_all w.calls)) a.cost;
        ends = λ end e shared. absurd (some_none end (sym e ∙ a.runs));
      },
      omega arith,
    )
  where
    cost_is : (x price n total kept allow : ℕ) → x ≡ price → n ≡ total → price + total + kept ≤ allow + 100000000 →
        x + n ≤ allow + 200000000
    cost_is x price n total kept allow e f h = omega (arith, e, f, h)

pub spent_from : SpentAdds → (p : SourceProgram) (t k : ℕ) (s : State) → spent p t k s ≡ t + spent p 0 k s
spent_from adds p t k s = ap (λ n. spent p n k s) (sym (sum_zero t)) ∙ adds p t 0 k s

quiet_stands : SpentAdds → (w : KernelSession) (k : ℕ) (t t' : State) → StandsAlong w k t → IsQuietStep w k t t' → StandsAlong w (suc k) t'
quiet_stands adds w k t t' a q = record {
  words = a.words + q.words;
  price = a.price + spent w.p 0 q.words t;
  stands = λ more b.
      ap (λ n. steps_back w.p (round_backs (returns_of w.calls) ++ more) n (first_state w.p (input_of w))) (sum_assoc a.words q.words b)
      ∙ a.stands more (q.words + b) ∙ (quiet w.p more 0 q.words b t t' q.goes).0;
  costs = λ more b.
      ap (λ n. spent_back w.p (round_backs (returns_of w.calls) ++ more) 8 n (first_state w.p (input_of w))) (sum_assoc a.words q.words b)
      ∙ a.costs more (q.words + b) ∙ (quiet w.p more a.price q.words b t t' q.goes).1
      ∙ ap (λ n. spent_back w.p more n b t') (spent_from adds w.p a.price q.words t);
  runs = q.runs;
  printed = q.printed;
  cost = cost_is a.price (spent w.p 0 q.words t) (total_count w.calls) (kept_for (session_run w.lines k).words)
      (kept_for (session_run w.lines (suc k)).words) (allowed (session_run w.lines k))
      (allowed (session_run w.lines (suc k))) a.cost q.cost;
}
  where
    cost_is : (price x total kept kept' allow allow' : ℕ) → price + total + kept ≤ allow + 100000000 → x + kept' + allow ≤ kept + allow' →
        price + x + total + kept' ≤ allow' + 100000000
    cost_is price x total kept kept' allow allow' h k = omega (arith, h, k)

-- a step more
pub one_more : (w : KernelSession) (k i : ℕ) → ((i : ℕ) → i ≤ k → IsFollowedStep w i) → IsFollowedStep w (suc k) → i ≤ suc k →
    IsFollowedStep w i
one_more w k i before now le = ⊎_elim (λ lt. before i (omega (arith, lt))) (λ ge. subst (IsFollowedStep w) (same i k le ge) now)
    (cases_lt i (suc k))
  where
    same : (i k : ℕ) → i ≤ suc k → suc k ≤ i → suc k ≡ i
    same i k h l = omega (arith, h, l)

pub quiet_step : SpentAdds → QuietStepsGoAlong
quiet_step adds w k t t' a q =
    let here : StandsAlong w (suc k) t' = quiet_stands adds w k t t' a.here q in
    record {
      here = here;
      comes_back = a.comes_back;
      forward = λ i le. one_more w k i a.forward (followed_here w (suc k) t' here) le;
      text_stays = a.text_stays;
      code_stays = a.code_stays;
    }

-- ---- the beginning

first_shows : (lines : List (List ℕ)) → ((session_run lines 0).end ≡ None) × (printed_by (session_run lines 0) ≡ []) ×
    (kept_for (session_run lines 0).words ≡ 0)
unfolding session_run session_steps
first_shows lines = (refl, refl, refl)

first_stands : (w : KernelSession) (words : ℕ) (t : State) → w.calls ≡ [] → steps w.p words (first_state w.p (input_of w)) ≡ Goes t →
    t.world.printed ≡ [] → spent w.p 8 words (first_state w.p (input_of w)) ≤ 100000000 → StandsAlong w 0 t
first_stands w words t none goes printed cost = record {
  words = words;
  price = spent w.p 8 words (first_state w.p (input_of w));
  stands = λ more b.
      ap (λ calls. steps_back w.p (round_backs (returns_of calls) ++ more) (words + b) (first_state w.p (input_of w))) none
      ∙ (quiet w.p more 8 words b (first_state w.p (input_of w)) t goes).0;
  costs = λ more b.
      ap (λ calls. spent_back w.p (round_backs (returns_of calls) ++ more) 8 (words + b) (first_state w.p (input_of w))) none
      ∙ (quiet w.p more 8 words b (first_state w.p (input_of w)) t goes).1;
  runs = (first_shows w.lines).0;
  printed = printed ∙ sym (first_shows w.lines).1;
  cost = cost_is (spent w.p 8 words (first_state w.p (input_of w))) (total_count w.calls) (kept_for (session_run w.lines 0).words)
      (allowed (session_run w.lines 0)) cost (ap total_count none) (first_shows w.lines).2;
}
  where
    cost_is : (x total kept allow : ℕ) → x ≤ 100000000 → total ≡ 0 → kept ≡ 0 → x + total + kept ≤ allow + 100000000
    cost_is x total kept allow h e f = omega (arith, h, e, f)

pub begins : TextsBegin
begins w words t none goes printed cost =
    let here : StandsAlong w 0 t = first_stands w words t none goes printed cost in
    record {
      here = here;
      comes_back = λ n. subst (λ calls. CallsComeBack round_storage (round_back (code_of w.library w.p))
          (last_of_go w.library w.p) w.p.data_start calls n (chip_start w)) (sym none)
          (no_call round_storage (round_back (code_of w.library w.p)) (last_of_go w.library w.p) w.p.data_start n (chip_start w));
      forward = λ i le. subst (IsFollowedStep w) (none_before i le) (followed_here w 0 t here);
      text_stays = λ made words n lt u some few. absurd (no_number made (length w.calls) (ap length none) lt);
      code_stays = λ made earlier m n u lt un some led inside few. absurd (no_number made (length w.calls) (ap length none) lt);
    }
  where
    none_before : (i : ℕ) → i ≤ 0 → 0 ≡ i
    none_before i h = omega (arith, h)

    no_number : (i n : ℕ) → n ≡ 0 → i < n → ⊥
    no_number i n e h = omega (arith, e, h)
