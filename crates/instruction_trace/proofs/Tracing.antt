-- A trace as far as it has come, and what it leaves.
use Rattle.std.proofs.Common.{◌≡◌, inl, inr, ℕ, zero, suc, ◌+◌, ◌<◌, ◌≤◌, List, [], ◌++◌, length, take, refl, sym, ap, subst, ◌∙◌, arith, append_assoc, length-append}
use Rattle.std.specs.Prelude.{Bool, true, false, ◌&&◌, IsTrue, Option, Some, None, option_map, Result, Ok, Err}
use Rattle.std.proofs.lemmas.Bool.{cases_lt}
use Rattle.std.proofs.lemmas.List.{append-nil}
use Rattle.std.specs.Io.KnownBytes.{Keeps, Appends, Consumes}
use Rattle.outside_io.specs.Bytes.{AppendsFront}
use Rattle.j1_table.specs.Image.{Content}
use Rattle.j1_simulator.specs.declared.ends.End.{End}
use Rattle.j1_simulator.specs.declared.ends.End.TheVariants.{InputEnded}
use Rattle.j1_simulator.specs.declared.ends.Finish.{Finish}
use Rattle.j1_simulator.specs.declared.ends.Finish.TheVariants.{Ended, StepsUsed}
use Rattle.j1_simulator.specs.Step.{Core, Stop, By, step}
use Rattle.j1_simulator.specs.RoundMachine.{RingCells, round_storage}
use Rattle.j1_simulator.specs.Run.{Configuration, run, round_run, round_start, begun, advance, advanced}
use Rattle.j1_simulator.specs.MachineState.{MachineState, IsTaking, machine_start}
use Rattle.j1_simulator.specs.Drive.{IsAt, counters_fit}
use Rattle.j1_simulator.specs.Laws.{OnlyGrows}
use Rattle.instruction_trace.specs.declared.traces.TraceError.{TraceError}
use Rattle.instruction_trace.specs.declared.traces.TraceError.TheVariants.{Read, Write, OutOfMemory}
use Rattle.instruction_trace.specs.Trace.{line_at, outcome_text, entry, traced}
use Rattle.instruction_trace.specs.Turn.{bytes_of, told_text, asked, IsMade, IsShown, IsShownFront, IsUnread, TurnEnds}
use Rattle.instruction_trace.specs.Leaves.{in_vain, IsTraceOf}

-- ---- known bytes

appends_none : (a : Option (List ℕ)) → Appends a a []
appends_none None = tt
appends_none (Some xs) = sym (append-nil xs)

appends_then : (a b c : Option (List ℕ)) (xs ys : List ℕ) → Appends a b xs → Appends b c ys → Appends a c (xs ++ ys)
appends_then None b c xs ys first second = tt
appends_then (Some old) None c xs ys first second = absurd first
appends_then (Some old) (Some mid) None xs ys first second = absurd second
appends_then (Some old) (Some mid) (Some new) xs ys first second = second ∙ ap (λ m. m ++ ys) first ∙ append_assoc old xs ys

consumes_none : (a : Option (List ℕ)) → Consumes a a []
consumes_none None = tt
consumes_none (Some xs) = refl

consumes_then : (a b c : Option (List ℕ)) (xs ys : List ℕ) → Consumes a b xs → Consumes b c ys → Consumes a c (xs ++ ys)
consumes_then None b c xs ys first second = tt
consumes_then (Some old) None c xs ys first second = absurd first
consumes_then (Some old) (Some mid) None xs ys first second = absurd second
consumes_then (Some old) (Some mid) (Some new) xs ys first second = first ∙ ap (λ m. xs ++ m) second ∙ sym (append_assoc xs ys new)

consumes_kept : (a b c : Option (List ℕ)) (xs : List ℕ) → Consumes a b xs → Keeps b c → Consumes a c xs
consumes_kept None b c xs first kept = tt
consumes_kept (Some old) None c xs first kept = absurd first
consumes_kept (Some old) (Some mid) None xs first kept = absurd kept
consumes_kept (Some old) (Some mid) (Some new) xs first kept = first ∙ ap (λ m. xs ++ m) (sym kept)

-- ---- runs and their traces

next_by : (data_start n : ℕ) (from : Configuration ℕ RingCells) →
    run round_storage data_start (suc n) from ≡ advance data_start (run round_storage data_start n from)
next_by data_start zero from = refl
next_by data_start (suc n) from = next_by data_start n (advanced from.stop round_storage data_start from)

run_next : (image : Content) (input : List ℕ) (n : ℕ) → round_run image input (suc n) ≡ advance image.data_start (round_run image input n)
run_next image input n = next_by image.data_start n (begun (round_start image) input)

stays : OnlyGrows round_storage → (image : Content) (input : List ℕ) (k n : ℕ) (stop : Stop) → k ≤ n → (round_run image input k).stop ≡ Some stop →
    round_run image input n ≡ round_run image input k
stays grows image input k n stop few ended = grows.ends image.data_start k n (begun (round_start image) input) stop few ended

-- nothing is added once a run has ended
no_more : OnlyGrows round_storage → (image : Content) (input : List ℕ) (k n : ℕ) (stop : Stop) → k ≤ n → (round_run image input k).stop ≡ Some stop →
    traced image input n ≡ traced image input k
unfolding traced
no_more grows image input k zero stop few ended = let same : zero ≡ k = omega arith in ap (traced image input) same
no_more grows image input k (suc n) stop few ended = elim (cases_lt n k) [
  | inl less ↦ let same : suc n ≡ k = omega arith in ap (traced image input) same
  | inr more ↦
      let over : (round_run image input n).stop ≡ Some stop = ap (λ (c : Configuration ℕ RingCells). c.stop) (stays grows image input k n stop more ended) ∙ ended in
      ap (λ s. traced image input n ++ entry s (suc n) image.data_start (round_run image input n)) over
      ∙ append-nil (traced image input n)
      ∙ no_more grows image input k n stop more ended
]

some_same : {A : Type 0} (x y : A) → Some x ≡ Some y → x ≡ y
some_same x y e = cc

-- ---- a trace as far as it has come

-- a running machine, after so many instructions, whatever bytes follow those that it took
pub record IsTraced (image : Content) (made : ℕ) (machine : MachineState) (before now out_before out_now : Option (List ℕ)) (calls_before calls_now : ℕ) : Type 0 where
  pub taken : List ℕ
  pub took : Consumes before now taken
  pub stands : (rest : List ℕ) → (fits : Bool) × IsAt (round_run image (taken ++ rest) made) fits machine image.data_start (Some rest) None None []
  pub written : (rest : List ℕ) → Appends out_before out_now (traced image (taken ++ rest) made)
  pub running : machine.ended ≡ None
  pub given : machine.given ≡ None
  pub calls : calls_now ≤ calls_before + length taken
  pub each : calls_now ≤ calls_before + made

pub begins : (image : Content) (machine : MachineState) (console out : Option (List ℕ)) (calls : ℕ) → machine ≡ machine_start image →
    IsTraced image 0 machine console console out out calls calls
unfolding traced
begins image machine console out calls is = record {
  taken = [];
  took = consumes_none console;
  stands = λ rest. (
    true,
    subst (λ m. IsAt (round_run image rest 0) true m image.data_start (Some rest) None None []) (sym is)
        (record { stands = record { core = refl; start_is = refl; ended = refl; depths = λ fits. refl }; left_is = refl; out = tt }),
  );
  written = λ rest. appends_none out;
  running = ap (λ (m : MachineState). m.ended) is;
  given = ap (λ (m : MachineState). m.given) is;
  calls = omega arith;
  each = omega arith;
}

not_true : IsTrue false → ⊥
not_true e = cc

-- whether the console was asked in vain
vain_of : Option (Option ℕ) → Bool
vain_of None = false
vain_of (Some None) = true
vain_of (Some (Some byte)) = false

vain_is : (taken : Option (Option ℕ)) → IsTrue (vain_of taken) → taken ≡ Some None
unfolding vain_of
vain_is None vain = absurd (not_true vain)
vain_is (Some None) vain = refl
vain_is (Some (Some byte)) vain = absurd (not_true vain)

is_vain : (taken : Option (Option ℕ)) → taken ≡ Some None → IsTrue (vain_of taken)
unfolding vain_of
is_vain taken same = subst (λ t. IsTrue (vain_of t)) (sym same) refl

asked_few : (taken : Option (Option ℕ)) (result : Result Finish TraceError) → asked taken ≤ length (bytes_of taken) + in_vain (vain_of taken) result
unfolding vain_of
asked_few None result = omega arith
asked_few (Some None) result = omega arith
asked_few (Some (Some byte)) result = omega arith

asked_exactly : (taken : Option (Option ℕ)) → (taken ≡ Some None → ⊥) → asked taken ≤ length (bytes_of taken)
asked_exactly None some = omega arith
asked_exactly (Some None) some = absurd (some refl)
asked_exactly (Some (Some byte)) some = omega arith

asked_once : (taken : Option (Option ℕ)) → asked taken ≤ 1
asked_once None = omega arith
asked_once (Some byte) = omega arith

module _ (image : Content) (made number : ℕ) (machine new : MachineState) (before now after out_before out_now out_after : Option (List ℕ)) (calls_before calls_now calls_after : ℕ)
    (t : IsTraced image made machine before now out_before out_now calls_before calls_now) (is_next : number ≡ suc made) where
  -- the moment of its run at which the machine stands
  abbrev from : List ℕ → Configuration ℕ RingCells
  from rest = round_run image (t.taken ++ rest) made

  stopless : (rest : List ℕ) → (from rest).stop ≡ None
  stopless rest = sym (t.stands rest).1.stands.ended ∙ ap (option_map By) t.running

  left_now : (rest : List ℕ) → (from rest).input ≡ rest
  left_now rest = sym (some_same rest (from rest).input (t.stands rest).1.left_is)

  line_same : (rest : List ℕ) → line_at number machine.data_start machine.core ≡ line_at (suc made) image.data_start (from rest).core
  line_same rest =
      ap (λ n. line_at n machine.data_start machine.core) is_next
      ∙ ap (λ d. line_at (suc made) d machine.core) (t.stands rest).1.stands.start_is
      ∙ ap (λ (k : Core ℕ RingCells). line_at (suc made) image.data_start k) (t.stands rest).1.stands.core

  module _ (IsOut : List ℕ → List ℕ → Type 0) (m : IsMade number machine new now after calls_now calls_after IsOut) where
    abbrev bytes : List ℕ
    bytes = bytes_of m.taken

    regrouped : (rest : List ℕ) → t.taken ++ (bytes ++ rest) ≡ (t.taken ++ bytes) ++ rest
    regrouped rest = sym (append_assoc t.taken bytes rest)

    -- it stands at the next moment
    moved : (rest : List ℕ) → (m.taken ≡ Some None → rest ≡ []) →
        (fits : Bool) × IsAt (round_run image ((t.taken ++ bytes) ++ rest) (suc made)) fits new image.data_start (Some rest) None None []
    moved rest none =
        let at = t.stands (bytes ++ rest) in
        let fits : Bool = at.0 && counters_fit (advance image.data_start (from (bytes ++ rest))) in
        let later : IsAt (advance image.data_start (from (bytes ++ rest))) fits new image.data_start (Some rest) None None [] =
        m.makes.moves (from (bytes ++ rest)) at.0 image.data_start rest none at.1 in (
          fits,
          subst (λ input. IsAt (round_run image input (suc made)) fits new image.data_start (Some rest) None None []) (regrouped rest)
              (subst (λ (c : Configuration ℕ RingCells). IsAt c fits new image.data_start (Some rest) None None []) (sym (run_next image (t.taken ++ (bytes ++ rest)) made)) later),
        )

    -- what its byte tells
    outcome_same : (rest : List ℕ) → (m.taken ≡ Some None → rest ≡ []) →
        told_text m.event m.taken ≡ outcome_text (step round_storage image.data_start (from (bytes ++ rest)).core) (from (bytes ++ rest)).input
    outcome_same rest none =
        let at = (t.stands (bytes ++ rest)).1 in
        sym (m.makes.told rest none)
        ∙ ap (λ i. outcome_text (step round_storage machine.data_start machine.core) i) (sym (left_now (bytes ++ rest)))
        ∙ ap (λ d. outcome_text (step round_storage d machine.core) (from (bytes ++ rest)).input) at.stands.start_is
        ∙ ap (λ (k : Core ℕ RingCells). outcome_text (step round_storage image.data_start k) (from (bytes ++ rest)).input) at.stands.core

    -- the trace has its entry
    traced_next : (rest : List ℕ) → (m.taken ≡ Some None → rest ≡ []) →
        traced image ((t.taken ++ bytes) ++ rest) (suc made) ≡ traced image (t.taken ++ (bytes ++ rest)) made ++ (line_at number machine.data_start machine.core ++ told_text m.event m.taken)
    unfolding traced
    traced_next rest none =
        ap (λ input. traced image input (suc made)) (sym (regrouped rest))
        ∙ ap (λ e. traced image (t.taken ++ (bytes ++ rest)) made ++ e)
        (ap (λ s. entry s (suc made) image.data_start (from (bytes ++ rest))) (stopless (bytes ++ rest))
        ∙ ap (λ line. line ++ outcome_text (step round_storage image.data_start (from (bytes ++ rest)).core) (from (bytes ++ rest)).input) (sym (line_same (bytes ++ rest)))
        ∙ ap (λ o. line_at number machine.data_start machine.core ++ o) (sym (outcome_same rest none)))

    written_next : Appends out_now out_after (line_at number machine.data_start machine.core ++ told_text m.event m.taken) → (rest : List ℕ) → (m.taken ≡ Some None → rest ≡ []) →
        Appends out_before out_after (traced image ((t.taken ++ bytes) ++ rest) (suc made))
    written_next wrote rest none =
        subst (Appends out_before out_after) (sym (traced_next rest none))
        (appends_then out_before out_now out_after (traced image (t.taken ++ (bytes ++ rest)) made) _ (t.written (bytes ++ rest)) wrote)

    taken_all : Consumes before after (t.taken ++ bytes)
    taken_all = consumes_then before now after t.taken bytes t.took m.took

    counted : (result : Result Finish TraceError) → calls_after ≤ calls_before + length (t.taken ++ bytes) + in_vain (vain_of m.taken) result
    counted result =
        let few = asked_few m.taken result in
        let long = length-append t.taken bytes in
        omega (arith, few, long, m.calls, t.calls)

  -- an instruction that went on
  pub goes_on : IsMade number machine new now after calls_now calls_after (IsShown out_now out_after) → new.ended ≡ None →
      IsTraced image (suc made) new before after out_before out_after calls_before calls_after
  goes_on m running =
      let some : m.taken ≡ Some None → ⊥ = λ vain. (let e : None ≡ Some InputEnded = sym running ∙ m.makes.vain vain in cc) in
      let few = asked_exactly m.taken some in
      let once = asked_once m.taken in
      let long = length-append t.taken (bytes_of m.taken) in
      record {
        taken = t.taken ++ bytes_of m.taken;
        took = taken_all (IsShown out_now out_after) m;
        stands = λ rest. moved (IsShown out_now out_after) m rest (λ vain. absurd (some vain));
        written = λ rest. written_next (IsShown out_now out_after) m m.wrote rest (λ vain. absurd (some vain));
        running = running;
        given = m.makes.given;
        calls = omega (arith, few, long, m.calls, t.calls);
        each = omega (arith, once, m.calls, t.each);
      }

  -- one that ended the run
  pub ends : OnlyGrows round_storage → (steps : ℕ) (end : End) → made < steps → IsMade number machine new now after calls_now calls_after (IsShown out_now out_after) →
      Some end ≡ new.ended → IsTraceOf image steps (Ok (Ended end)) before after out_before out_after calls_before calls_after
  ends grows steps end few m is = record {
    taken = t.taken ++ bytes_of m.taken;
    took = taken_all (IsShown out_now out_after) m;
    made = suc made;
    none_left = vain_of m.taken;
    leaves = λ rest none.
        let input : List ℕ = (t.taken ++ bytes_of m.taken) ++ rest in
        let none_by : m.taken ≡ Some None → rest ≡ [] = λ same. none (is_vain m.taken same) in
        let at = (moved (IsShown out_now out_after) m rest none_by).1 in
        let over : (round_run image input (suc made)).stop ≡ Some (By end) = sym at.stands.ended ∙ ap (option_map By) (sym is) in
        let still = stays grows image input (suc made) steps (By end) (let h : suc made ≤ steps = omega arith in h) over in
        record {
          end = sym over ∙ ap (λ (c : Configuration ℕ RingCells). c.stop) (sym still);
          left_is = ap (λ (c : Configuration ℕ RingCells). c.input) still ∙ sym (some_same rest (round_run image input (suc made)).input at.left_is);
          written = subst (Appends out_before out_after) (sym (no_more grows image input (suc made) steps (By end) (let h : suc made ≤ steps = omega arith in h) over))
              (written_next (IsShown out_now out_after) m m.wrote rest none_by);
        };
    at_end = λ vain. m.at_end (vain_is m.taken vain);
    calls = counted (IsShown out_now out_after) m (Ok (Ended end));
  }

  -- the console could not be read
  unread : (steps : ℕ) → made < steps → IsUnread number machine now after out_now out_after calls_now calls_after →
      IsTraceOf image steps (Err Read) before after out_before out_after calls_before calls_after
  unread steps few u = record {
    taken = t.taken;
    took = consumes_kept before now after t.taken t.took u.kept;
    made = made;
    none_left = false;
    leaves = λ rest none.
        let at = (t.stands rest).1 in
        record {
          within = few;
          left_is = left_now rest;
          due = (
            stopless rest,
            subst (λ (k : Core ℕ RingCells). IsTaking (step round_storage image.data_start k)) at.stands.core
                (subst (λ d. IsTaking (step round_storage d machine.core)) at.stands.start_is u.wants.taking),
          );
          written = subst (λ line. Appends out_before out_after (traced image (t.taken ++ rest) made ++ line)) (line_same rest)
              (appends_then out_before out_now out_after (traced image (t.taken ++ rest) made) _ (t.written rest) u.line);
        };
    at_end = λ vain. absurd (not_true vain);
    calls = omega (arith, u.calls, t.calls);
  }

  -- there was no memory for the line
  without_memory : (steps : ℕ) → made < steps → (after ≡ now) × (out_after ≡ out_now) × (calls_after ≡ calls_now) →
      IsTraceOf image steps (Err OutOfMemory) before after out_before out_after calls_before calls_after
  without_memory steps few same = record {
    taken = t.taken;
    took = subst (λ left. Consumes before left t.taken) (sym same.0) t.took;
    made = made;
    none_left = false;
    leaves = λ rest none. record {
      within = omega arith;
      left_is = left_now rest;
      written = subst (λ held. Appends out_before held (traced image (t.taken ++ rest) made)) (sym same.1) (t.written rest);
    };
    at_end = λ vain. absurd (not_true vain);
    calls = omega (arith, same.2, t.calls);
  }

  -- the line could not be written
  line_unwritten : (steps : ℕ) → made < steps → (after ≡ now) × (calls_after ≡ calls_now) × AppendsFront out_now out_after (line_at number machine.data_start machine.core) →
      IsTraceOf image steps (Err Write) before after out_before out_after calls_before calls_after
  line_unwritten steps few broken = record {
    taken = t.taken;
    took = subst (λ left. Consumes before left t.taken) (sym broken.0) t.took;
    made = made;
    none_left = false;
    leaves = λ rest none. inl (record {
      within = few;
      left_is = left_now rest;
      bytes = broken.2.0;
      written = subst (λ line. Appends out_before out_after (traced image (t.taken ++ rest) made ++ take broken.2.0 line)) (line_same rest)
          (appends_then out_before out_now out_after (traced image (t.taken ++ rest) made) _ (t.written rest) broken.2.1);
    });
    at_end = λ vain. absurd (not_true vain);
    calls = omega (arith, broken.1, t.calls);
  }

  -- the line of its byte could not be written
  byte_unwritten : (steps : ℕ) → made < steps → IsMade number machine new now after calls_now calls_after (IsShownFront out_now out_after) →
      IsTraceOf image steps (Err Write) before after out_before out_after calls_before calls_after
  byte_unwritten steps few m = record {
    taken = t.taken ++ bytes_of m.taken;
    took = taken_all (IsShownFront out_now out_after) m;
    made = made;
    none_left = vain_of m.taken;
    leaves = λ rest none.
        let input : List ℕ = (t.taken ++ bytes_of m.taken) ++ rest in
        let none_by : m.taken ≡ Some None → rest ≡ [] = λ same. none (is_vain m.taken same) in
        let at = (moved (IsShownFront out_now out_after) m rest none_by).1 in
        let rest_now : List ℕ = bytes_of m.taken ++ rest in
        let wrote = appends_then out_before out_now out_after (traced image (t.taken ++ rest_now) made) _ (t.written rest_now) m.wrote.1 in
        inr (record {
          within = few;
          left_is = sym (some_same rest (round_run image input (suc made)).input at.left_is);
          bytes = m.wrote.0;
          written =
              subst (λ (i : List ℕ). Appends out_before out_after (traced image i made ++ (line_at (suc made) image.data_start (round_run image i made).core
              ++ take m.wrote.0 (outcome_text (step round_storage image.data_start (round_run image i made).core) (round_run image i made).input))))
              (regrouped (IsShownFront out_now out_after) m rest)
              (subst (λ line. Appends out_before out_after (traced image (t.taken ++ rest_now) made ++ (line ++ take m.wrote.0 (outcome_text (step round_storage image.data_start (from rest_now).core) (from rest_now).input))))
              (line_same rest_now)
              (subst (λ o. Appends out_before out_after (traced image (t.taken ++ rest_now) made ++ (line_at number machine.data_start machine.core ++ take m.wrote.0 o)))
              (outcome_same (IsShownFront out_now out_after) m rest none_by) wrote));
        });
    at_end = λ vain. m.at_end (vain_is m.taken vain);
    calls = counted (IsShownFront out_now out_after) m (Err Write);
  }

  -- a trace that broke off
  pub breaks : (steps : ℕ) (error : TraceError) → made < steps → TurnEnds number (Err error) machine new now after out_now out_after calls_now calls_after →
      IsTraceOf image steps (Err error) before after out_before out_after calls_before calls_after
  breaks steps Read few turn = unread steps few turn
  breaks steps OutOfMemory few turn = without_memory steps few turn
  breaks steps Write few (inl broken) = line_unwritten steps few broken
  breaks steps Write few (inr m) = byte_unwritten steps few m

-- all instructions were made
pub used_up : (image : Content) (steps : ℕ) (machine : MachineState) (before now out_before out_now : Option (List ℕ)) (calls_before calls_now : ℕ) →
    IsTraced image steps machine before now out_before out_now calls_before calls_now → IsTraceOf image steps (Ok StepsUsed) before now out_before out_now calls_before calls_now
used_up image steps machine before now out_before out_now calls_before calls_now t = record {
  taken = t.taken;
  took = t.took;
  made = steps;
  none_left = false;
  leaves = λ rest none. record {
    end = sym (sym (t.stands rest).1.stands.ended ∙ ap (option_map By) t.running);
    left_is = sym (some_same rest (round_run image (t.taken ++ rest) steps).input (t.stands rest).1.left_is);
    written = t.written rest;
  };
  at_end = λ vain. absurd (not_true vain);
  calls = omega (arith, t.calls);
}

-- there was no memory for the machine
pub without_machine : (image : Content) (steps : ℕ) (console out : Option (List ℕ)) (calls : ℕ) → IsTraceOf image steps (Err OutOfMemory) console console out out calls calls
unfolding traced
without_machine image steps console out calls = record {
  taken = [];
  took = consumes_none console;
  made = 0;
  none_left = false;
  leaves = λ rest none. record { within = omega arith; left_is = refl; written = appends_none out };
  at_end = λ vain. absurd (not_true vain);
  calls = omega arith;
}
