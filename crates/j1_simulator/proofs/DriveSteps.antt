-- What a drive keeps from one instruction to the next.
use Rattle.std.proofs.Common.{◌≡◌, ◌⊎◌, ℕ, zero, suc, ◌+◌, ◌<◌, ◌≤◌, List, [], ◌∷◌, ◌++◌, length, Option, Some, None, refl, sym, ap, ◌∙◌, subst, inl, inr, ⊎_elim, arith, add-one, append_assoc}
use Rattle.std.specs.Prelude.{Bool, ◌&&◌, IfSome, option_map, Result, Ok, Err}
use Rattle.std.proofs.lemmas.List.{append-nil, length-append}
use Rattle.std.specs.Io.KnownBytes.{Appends, Consumes}
use Rattle.outside_io.specs.Bytes.{AppendsFront}
use Rattle.j1_simulator.specs.declared.ends.End.{End}
use Rattle.j1_simulator.specs.declared.ends.End.TheVariants.{InputEnded}
use Rattle.j1_simulator.specs.declared.ends.Finish.{Finish}
use Rattle.j1_simulator.specs.declared.ends.Finish.TheVariants.{StepsUsed}
use Rattle.j1_simulator.specs.declared.ends.DriveError.{DriveError}
use Rattle.j1_simulator.specs.declared.ends.DriveError.TheVariants.{Read, Write}
use Rattle.j1_simulator.specs.Step.{By}
use Rattle.j1_simulator.specs.RoundMachine.{RingCells, round_storage}
use Rattle.j1_simulator.specs.MachineState.{MachineState, WantsAByte}
use Rattle.j1_simulator.specs.Run.{Configuration, advance}
use Rattle.j1_simulator.specs.Drive.{HoldsPrints, HoldsFront, HoldsAll, StandsAt, IsAt, driven, StandsWritten, driven_fits, going_on, counters_fit, input_for, given_after, left_of, IsDriven, IsBrokenOff, in_vain, MadeAtMost, KeepsEnd}
use Rattle.j1_simulator.specs.Turn.{LeftAfter, ComesFrom, IsTaken, MayWait, WritesFew, TurnEnds, asks, Turns}
use Rattle.j1_simulator.proofs.FlushedOutput.{holds_flushed, holds_front, grows_front}
use Rattle.j1_simulator.proofs.Runs.{run_suc, fits_before}
use Rattle.j1_simulator.proofs.RunGrowth.{run_over}
use Rattle.j1_simulator.proofs.Turns.{flushed, narrowed}
use Rattle.j1_simulator.proofs.Questions.{vain, vain_grows, vain_in, read_failed, asks_at_most, took_hand, took_none, took_no_byte, took_byte}
use Rattle.j1_simulator.proofs.Unwritten.{Unwritten, unwritten_first, unwritten_on, lacks_flush, lacks_full}

-- what is left of the input is known before and after an instruction that takes nothing given by hand
pub left_kept : (hand : Option (Option ℕ)) (k j : ℕ) (taken : Option (Option ℕ)) (left after : Option (List ℕ)) → None ≡ given_after k hand → k ≤ j →
    (hand ≡ Some None → taken ≡ None) → LeftAfter taken left after → LeftAfter taken (left_of hand k left) (left_of hand j after)
left_kept None k j taken left after g le n l = l
left_kept (Some None) k j taken left after g le n l = subst (λ t. LeftAfter t (Some []) (Some [])) (sym (n refl)) refl
left_kept (Some (Some byte)) zero j taken left after g le n l = cc
left_kept (Some (Some byte)) (suc k) zero taken left after g le n l = absurd (omega arith)
left_kept (Some (Some byte)) (suc k) (suc j) taken left after g le n l = l

first_taken : (byte : ℕ) (left : Option (List ℕ)) → LeftAfter (Some (Some byte)) (option_map (λ bytes. byte ∷ bytes) left) left
first_taken byte None = tt
first_taken byte (Some input) = (refl, refl)

-- and by the one that takes it
left_used : (hand : Option (Option ℕ)) (k : ℕ) (byte : Option ℕ) (taken : Option (Option ℕ)) (left after : Option (List ℕ)) → Some byte ≡ given_after k hand →
    taken ≡ Some byte → after ≡ left → LeftAfter taken (left_of hand k left) (left_of hand (suc k) after)
left_used None zero byte taken left after g t l = cc
left_used (Some None) zero byte taken left after g t l =
    let none : Some None ≡ taken = cc in
    subst (λ t. LeftAfter t (Some []) (Some [])) none (refl, refl)
left_used (Some (Some first)) zero byte taken left after g t l =
    let same : Some (Some first) ≡ taken = cc in
    subst (λ t. LeftAfter t (option_map (λ bytes. first ∷ bytes) left) after) same (subst (λ after. LeftAfter (Some (Some first)) (option_map (λ bytes. first ∷ bytes) left) after) (sym l) (first_taken first left))
left_used hand (suc k) byte taken left after g t l = cc

left_stepped : (given hand : Option (Option ℕ)) (k : ℕ) (taken : Option (Option ℕ)) (left after : Option (List ℕ)) → given ≡ given_after k hand →
    (hand ≡ Some None → given ≡ None → taken ≡ None) → ComesFrom given taken left after → LeftAfter taken (left_of hand k left) (left_of hand (suc k) after)
left_stepped None hand k taken left after g n l = left_kept hand k (suc k) taken left after g (omega arith) (λ h. n h refl) l
left_stepped (Some byte) hand k taken left after g n l = left_used hand k byte taken left after g l.0 l.1

-- after k instructions on these bytes, with the bytes that wait; out was called at most once for each byte that was written
abbrev pub Progress : MachineState → ℕ → List ℕ → MachineState → Option (List ℕ) → Option (List ℕ) → Option (List ℕ) → List ℕ → ℕ → ℕ → Type 0
Progress first k bytes machine left before now buffer writes_before writes =
    IsDriven first k bytes machine left before now buffer × Unwritten first k (input_for first.given bytes) buffer
    × (writes + length buffer ≤ writes_before + length (driven first k (input_for first.given bytes)).printed)

-- after k instructions from `first`, whose console told these bytes, and whatever the console tells, on some bytes that it gave
pub record Underway (first : MachineState) (told : Option (List ℕ)) (k : ℕ) (machine : MachineState) (left before now : Option (List ℕ)) (buffer : List ℕ) (calls_before calls_now writes_before writes : ℕ) : Type 0 where
  pub given : machine.given ≡ given_after k first.given
  pub by_hand : first.given ≡ Some None → (k ≡ 0) ⊎ (machine.ended ≡ Some InputEnded)
  pub waits : MayWait machine buffer
  pub here : IfSome told (λ bytes. Progress first k bytes machine left before now buffer writes_before writes)
  pub bytes : List ℕ
  pub took : Consumes told left bytes
  pub calls : calls_now ≤ calls_before + length bytes + vain machine.ended
  pub on : (rest : List ℕ) → (machine.ended ≡ Some InputEnded → rest ≡ []) → Progress first k (bytes ++ rest) machine (Some rest) before now buffer writes_before writes

left_first : (given : Option (Option ℕ)) (bytes : List ℕ) → left_of given 0 (Some bytes) ≡ Some (input_for given bytes)
left_first None bytes = refl
left_first (Some None) bytes = refl
left_first (Some (Some byte)) bytes = refl

holds_nothing : (before : Option (List ℕ)) → HoldsPrints before before [] []
holds_nothing None = tt
holds_nothing (Some old) = ([], sym (append-nil old), refl)

driven_none : (first : MachineState) (bytes : List ℕ) (before : Option (List ℕ)) → IsDriven first 0 bytes first (Some bytes) before before []
driven_none first bytes before = record { stands = record { core = refl; start_is = refl; ended = refl; depths = λ f. refl }; left_is = left_first first.given bytes; out = holds_nothing before }

progress_none : (first : MachineState) (bytes : List ℕ) (before : Option (List ℕ)) (writes : ℕ) → Progress first 0 bytes first (Some bytes) before before [] writes writes
progress_none first bytes before writes = (driven_none first bytes before, unwritten_first first (input_for first.given bytes), omega arith)

told_none : (first : MachineState) (told before : Option (List ℕ)) (writes : ℕ) → IfSome told (λ bytes. Progress first 0 bytes first told before before [] writes writes)
told_none first None before writes = tt
told_none first (Some bytes) before writes = progress_none first bytes before writes

consumes_none : (told : Option (List ℕ)) → Consumes told told []
consumes_none None = tt
consumes_none (Some bytes) = refl

-- before the first instruction
pub begins : (first : MachineState) (told before : Option (List ℕ)) (calls writes : ℕ) → Underway first told 0 first told before before [] calls calls writes writes
begins first told before calls writes =
    record {
      given = refl;
      by_hand = λ e. inl refl;
      waits = record { by_hand = inr refl; ended = λ e. refl };
      here = told_none first told before writes;
      bytes = [];
      took = consumes_none told;
      calls = omega arith;
      on = λ rest ended. progress_none first rest before writes;
    }

-- a machine that was told by hand that there is no byte asks for none
none_asked : (taken : Option (Option ℕ)) (old : MachineState) (k : ℕ) (hand : Option (Option ℕ)) → old.given ≡ given_after k hand →
    (k ≡ 0) ⊎ (old.ended ≡ Some InputEnded) → ((byte : Option ℕ) → taken ≡ Some byte → WantsAByte (record old { given = None })) → hand ≡ Some None →
    old.given ≡ None → taken ≡ None
none_asked None old k hand g b w h n = refl
none_asked (Some byte) old k hand g b w h n =
    ⊎_elim (λ e. let s : given_after k hand ≡ Some None = ap (λ k. given_after k hand) e ∙ h in cc) (λ e. let r : old.ended ≡ None = (w byte refl).running in cc) b

-- an instruction of a turn
abbrev pub Runs : Result (Option End) DriveError → MachineState → MachineState → Option (Option ℕ) → Option (List ℕ) → Option (List ℕ) → Option (List ℕ) → List ℕ → List ℕ → ℕ → ℕ → Type 0
Runs result old new taken before now later buffer waiting writes writes_now =
    (configuration : Configuration ℕ RingCells) (fits : Bool) (data_start : ℕ) (left after : Option (List ℕ)) → LeftAfter taken left after →
    IsAt configuration fits old data_start left before now buffer →
    TurnEnds result taken old buffer configuration fits new data_start after before later waiting writes writes_now

turn_runs : {result : Result (Option End) DriveError} {old new : MachineState} {left after now later : Option (List ℕ)} {buffer waiting : List ℕ}
    {calls calls' writes writes' : ℕ} (t : Turns result old new left after now later buffer waiting calls calls' writes writes') (before : Option (List ℕ)) →
    Runs result old new t.taken before now later buffer waiting writes writes'
turn_runs t before = λ configuration fits data_start input rest. t.ends configuration fits data_start before input rest

-- the calls of out, after one more instruction
few_on : (first : MachineState) (k : ℕ) (input : List ℕ) (writes_before writes writes_now : ℕ) (buffer waiting : List ℕ) →
    writes + length buffer ≤ writes_before + length (driven first k input).printed →
    WritesFew (driven first k input) (advance first.data_start (driven first k input)) buffer waiting writes writes_now →
    writes_now + length waiting ≤ writes_before + length (driven first (suc k) input).printed
few_on first k input writes_before writes writes_now buffer waiting few more =
    let next : length (driven first (suc k) input).printed ≡ length (advance first.data_start (driven first k input)).printed =
    ap (λ c. length c.printed) (run_suc k first.data_start (going_on first input)) in
    omega (arith, few, more, next)

driven_on : (first : MachineState) (k : ℕ) (bytes : List ℕ) (end : Option End) (old new : MachineState) (taken : Option (Option ℕ))
    (left after before now later : Option (List ℕ)) (buffer waiting : List ℕ) (writes_before writes writes_now : ℕ) →
    LeftAfter taken (left_of first.given k left) (left_of first.given (suc k) after) → Runs (Ok end) old new taken before now later buffer waiting writes writes_now →
    MayWait old buffer → Progress first k bytes old left before now buffer writes_before writes → Progress first (suc k) bytes new after before later waiting writes_before writes_now
driven_on first k bytes end old new taken left after before now later buffer waiting writes_before writes writes_now l runs m a =
    let w = driven first k (input_for first.given bytes) in
    let fits = driven_fits first k (input_for first.given bytes) in
    let next : driven first (suc k) (input_for first.given bytes) ≡ advance first.data_start w = run_suc k first.data_start (going_on first (input_for first.given bytes)) in
    let r = runs w fits first.data_start _ _ l a.0 in (
      subst (λ x. IsAt x (fits && counters_fit x) new first.data_start (left_of first.given (suc k) after) before later waiting) (sym next) r.0,
      unwritten_on first k (input_for first.given bytes) buffer waiting a.1 (r.1 m).0,
      few_on first k (input_for first.given bytes) writes_before writes writes_now buffer waiting a.2 r.2,
    )

waits_on : (first : MachineState) (k : ℕ) (bytes : List ℕ) (end : Option End) (old new : MachineState) (taken : Option (Option ℕ))
    (left after before now later : Option (List ℕ)) (buffer waiting : List ℕ) (writes_before writes writes_now : ℕ) →
    LeftAfter taken (left_of first.given k left) (left_of first.given (suc k) after) → Runs (Ok end) old new taken before now later buffer waiting writes writes_now →
    MayWait old buffer → Progress first k bytes old left before now buffer writes_before writes → MayWait new waiting
waits_on first k bytes end old new taken left after before now later buffer waiting writes_before writes writes_now l runs m a =
    ((runs (driven first k (input_for first.given bytes)) (driven_fits first k (input_for first.given bytes)) first.data_start _ _ l a.0).1 m).1

told_on : (told : Option (List ℕ)) (first : MachineState) (k : ℕ) (end : Option End) (old new : MachineState) (taken : Option (Option ℕ))
    (left after before now later : Option (List ℕ)) (buffer waiting : List ℕ) (writes_before writes writes_now : ℕ) →
    LeftAfter taken (left_of first.given k left) (left_of first.given (suc k) after) → Runs (Ok end) old new taken before now later buffer waiting writes writes_now →
    MayWait old buffer → IfSome told (λ bytes. Progress first k bytes old left before now buffer writes_before writes) →
    IfSome told (λ bytes. Progress first (suc k) bytes new after before later waiting writes_before writes_now)
told_on None first k end old new taken left after before now later buffer waiting writes_before writes writes_now l runs m a = tt
told_on (Some bytes) first k end old new taken left after before now later buffer waiting writes_before writes writes_now l runs m a = driven_on first k bytes end old new taken left after before now later buffer waiting writes_before writes writes_now l runs m a

-- the moment before an instruction, with the byte that it takes among the bytes
abbrev pub Before : MachineState → ℕ → List ℕ → MachineState → Option (Option ℕ) → Option (List ℕ) → Option (List ℕ) → Option (List ℕ) → List ℕ → ℕ → ℕ → Type 0
Before first k bytes old taken after before now buffer writes_before writes =
    (left : Option (List ℕ)) × LeftAfter taken (left_of first.given k left) (left_of first.given (suc k) after) × Progress first k bytes old left before now buffer writes_before writes

-- the bytes that the console has given by the end of a turn, how often it was asked, and the moment before the instruction
pub record Taking (r : Result (Option End) DriveError) (taken : Option (Option ℕ)) (first old new : MachineState) (told : Option (List ℕ)) (k : ℕ)
    (after before now : Option (List ℕ)) (buffer : List ℕ) (calls_before calls_now writes_before writes : ℕ) : Type 0 where
  pub bytes : List ℕ
  pub took : Consumes told after bytes
  pub calls : calls_now ≤ calls_before + length bytes + vain new.ended + read_failed r
  pub on : (rest : List ℕ) → (new.ended ≡ Some InputEnded → rest ≡ []) → Before first k (bytes ++ rest) old taken (Some rest) before now buffer writes_before writes

before_by : (given taken : Option (Option ℕ)) (r : Result (Option End) DriveError) (first old new : MachineState) (told : Option (List ℕ)) (k : ℕ)
    (left after before now : Option (List ℕ)) (buffer : List ℕ) (calls_before calls calls_now writes_before writes : ℕ) → old.given ≡ given →
    Underway first told k old left before now buffer calls_before calls writes_before writes → IsTaken old new taken left after → KeepsEnd old new →
    calls_now ≤ calls + asks r given taken → Taking r taken first old new told k after before now buffer calls_before calls_now writes_before writes
before_by (Some byte) taken r first old new told k left after before now buffer calls_before calls calls_now writes_before writes g u t over c =
    let from : ComesFrom (Some byte) taken left after = subst (λ g. ComesFrom g taken left after) g t.from in
    let few = asks_at_most r (Some byte) taken in
    let kept = vain_grows old.ended new.ended over in
    record {
      bytes = u.bytes;
      took = took_hand told left after u.bytes from.1 u.took;
      calls = omega (arith, u.calls, few, kept, c);
      on = λ rest ended. (Some rest, left_stepped (Some byte) first.given k taken (Some rest) (Some rest) (sym g ∙ u.given) (λ h n. cc) (from.0, refl), u.on rest (λ e. ended (over InputEnded e)));
    }
before_by None None r first old new told k left after before now buffer calls_before calls calls_now writes_before writes g u t over c =
    let from : LeftAfter None left after = subst (λ g. ComesFrom g None left after) g t.from in
    let few = asks_at_most r None None in
    let kept = vain_grows old.ended new.ended over in
    record {
      bytes = u.bytes;
      took = took_none told left after u.bytes from u.took;
      calls = omega (arith, u.calls, few, kept, c);
      on = λ rest ended. (Some rest, left_stepped None first.given k None (Some rest) (Some rest) (sym g ∙ u.given) (λ h n. refl) refl, u.on rest (λ e. ended (over InputEnded e)));
    }
before_by None (Some None) r first old new told k left after before now buffer calls_before calls calls_now writes_before writes g u t over c =
    let from : LeftAfter (Some None) left after = subst (λ g. ComesFrom g (Some None) left after) g t.from in
    let few = asks_at_most r None (Some None) in
    let running : vain old.ended ≡ 0 = ap vain (t.wanted None refl).running in
    let over_now : vain new.ended ≡ 1 = ap vain (t.none_left refl) in
    record {
      bytes = u.bytes;
      took = took_no_byte told left after u.bytes from u.took;
      calls = omega (arith, u.calls, few, running, over_now, c);
      on = λ rest ended.
          let none : rest ≡ [] = ended (t.none_left refl) in
          subst (λ rest. Before first k (u.bytes ++ rest) old (Some None) (Some rest) before now buffer writes_before writes) (sym none)
          (Some [], left_stepped None first.given k (Some None) (Some []) (Some []) (sym g ∙ u.given) (λ h n. none_asked (Some None) old k first.given u.given (u.by_hand h) t.wanted h g) (refl, refl), u.on [] (λ e. refl));
    }
before_by None (Some (Some byte)) r first old new told k left after before now buffer calls_before calls calls_now writes_before writes g u t over c =
    let from : LeftAfter (Some (Some byte)) left after = subst (λ g. ComesFrom g (Some (Some byte)) left after) g t.from in
    let few = asks_at_most r None (Some (Some byte)) in
    let running : vain old.ended ≡ 0 = ap vain (t.wanted (Some byte) refl).running in
    let one_more : length (u.bytes ++ byte ∷ []) ≡ length u.bytes + 1 = length-append u.bytes (byte ∷ []) in
    record {
      bytes = u.bytes ++ byte ∷ [];
      took = took_byte told left after u.bytes byte from u.took;
      calls = omega (arith, u.calls, few, running, one_more, c);
      on = λ rest ended.
          subst (λ bytes. Before first k bytes old (Some (Some byte)) (Some rest) before now buffer writes_before writes) (sym (append_assoc u.bytes (byte ∷ []) rest)) (
            Some (byte ∷ rest),
            left_stepped None first.given k (Some (Some byte)) (Some (byte ∷ rest)) (Some rest) (sym g ∙ u.given)
                (λ h n. none_asked (Some (Some byte)) old k first.given u.given (u.by_hand h) t.wanted h g) (refl, refl),
            u.on (byte ∷ rest) (λ e. let r : old.ended ≡ None = (t.wanted (Some byte) refl).running in cc),
          );
    }

before_it : {r : Result (Option End) DriveError} {first old new : MachineState} {told : Option (List ℕ)} {k : ℕ} {left after before now later : Option (List ℕ)}
    {buffer waiting : List ℕ} {calls_before calls calls_now writes_before writes writes_now : ℕ} → Underway first told k old left before now buffer calls_before calls writes_before writes →
    (t : Turns r old new left after now later buffer waiting calls calls_now writes writes_now) → KeepsEnd old new →
    Taking r t.taken first old new told k after before now buffer calls_before calls_now writes_before writes
before_it {r} {first} {old} {new} {told} {k} {left} {after} {before} {now} {later} {buffer} {waiting} {calls_before} {calls} {calls_now} {writes_before} {writes} {writes_now} u t over =
    before_by old.given t.taken r first old new told k left after before now buffer calls_before calls calls_now writes_before writes refl u t.takes over t.calls

-- the console's bytes before and after an instruction
told_left : (taken : Option (Option ℕ)) (first old new : MachineState) (told : Option (List ℕ)) (k : ℕ) (left after before now : Option (List ℕ))
    (buffer : List ℕ) (calls_before calls writes_before writes : ℕ) → Underway first told k old left before now buffer calls_before calls writes_before writes → IsTaken old new taken left after →
    LeftAfter taken (left_of first.given k left) (left_of first.given (suc k) after)
told_left taken first old new told k left after before now buffer calls_before calls writes_before writes u t =
    left_stepped old.given first.given k taken left after u.given (λ h n. none_asked taken old k first.given u.given (u.by_hand h) t.wanted h n) t.from

ends_by_hand : (taken : Option (Option ℕ)) (given : Option (Option ℕ)) (old new : MachineState) (k : ℕ) (left after : Option (List ℕ)) →
    old.given ≡ given_after k given → IsTaken old new taken left after → KeepsEnd old new → given ≡ Some None → (k ≡ 0) ⊎ (old.ended ≡ Some InputEnded) →
    new.ended ≡ Some InputEnded
ends_by_hand taken given old new k left after g t over h b =
    ⊎_elim (λ e.
    let s : old.given ≡ Some None = g ∙ ap (λ k. given_after k given) e ∙ h in
    let from : ComesFrom (Some None) taken left after = subst (λ g. ComesFrom g taken left after) s t.from in
    t.none_left from.0) (λ e. over InputEnded e) b

-- after one more instruction
pub drives_on : {end : Option End} {first old new : MachineState} {told : Option (List ℕ)} {k : ℕ} {left after before now later : Option (List ℕ)}
    {buffer waiting : List ℕ} {calls_before calls calls_now writes_before writes writes_now : ℕ} → Underway first told k old left before now buffer calls_before calls writes_before writes →
    Turns (Ok end) old new left after now later buffer waiting calls calls_now writes writes_now → KeepsEnd old new → new.given ≡ None →
    Underway first told (k + 1) new after before later waiting calls_before calls_now writes_before writes_now
drives_on {end} {first} {old} {new} {told} {k} {left} {after} {before} {now} {later} {buffer} {waiting} {calls_before} {calls} {calls_now} {writes_before} {writes} {writes_now} u t over g =
    let b = before_it u t over in
    let runs = turn_runs t before in
    let begun = b.on [] (λ e. refl) in
    subst (λ k. Underway first told k new after before later waiting calls_before calls_now writes_before writes_now) (sym (add-one k))
    (record {
      given = g;
      by_hand = λ h. inr (ends_by_hand t.taken first.given old new k left after u.given t.takes over h (u.by_hand h));
      waits = waits_on first k (b.bytes ++ []) end old new t.taken begun.0 (Some []) before now later buffer waiting writes_before writes writes_now begun.1 runs u.waits begun.2;
      here = told_on told first k end old new t.taken left after before now later buffer waiting writes_before writes writes_now (told_left t.taken first old new told k left after before now buffer calls_before calls writes_before writes u t.takes) runs u.waits u.here;
      bytes = b.bytes;
      took = b.took;
      calls = omega (arith, b.calls);
      on = λ rest ended. let x = b.on rest ended in driven_on first k (b.bytes ++ rest) end old new t.taken x.0 (Some rest) before now later buffer waiting writes_before writes writes_now x.1 runs u.waits x.2;
    })

-- where bytes are told
told_map : (told : Option (List ℕ)) (P Q : List ℕ → Type 0) → ((bytes : List ℕ) → P bytes → Q bytes) → IfSome told P → IfSome told Q
told_map None P Q f h = tt
told_map (Some bytes) P Q f h = f bytes h

pub told_when : (told : Option (List ℕ)) (When : Type 0) (P : List ℕ → Type 0) → (When → IfSome told P) → IfSome told (λ bytes. When → P bytes)
told_when None When P h = tt
told_when (Some bytes) When P h = h

-- the moment after all that was printed has been written out
pub flushed_here : {first machine : MachineState} {told : Option (List ℕ)} {k : ℕ} {left before now : Option (List ℕ)} {buffer : List ℕ}
    {calls_before calls writes_before writes : ℕ} (later : Option (List ℕ)) → Underway first told k machine left before now buffer calls_before calls writes_before writes → Appends now later buffer →
    IfSome told (λ bytes. IsDriven first k bytes machine left before later [])
flushed_here {first} {machine} {told} {k} {left} {before} {now} {buffer} {calls_before} {calls} {writes_before} {writes} later u bytes =
    told_map told (λ bytes. Progress first k bytes machine left before now buffer writes_before writes) (λ bytes. IsDriven first k bytes machine left before later [])
    (λ input a. flushed (driven first k (input_for first.given input)) _ machine machine first.data_start _ before now later buffer a.0 refl bytes) u.here

left_later : (hand : Option (Option ℕ)) (k n : ℕ) (left : Option (List ℕ)) → suc k ≤ n → left_of hand (suc k) left ≡ left_of hand n left
left_later None k n left le = refl
left_later (Some None) k n left le = refl
left_later (Some (Some byte)) k zero left le = absurd (omega arith)
left_later (Some (Some byte)) k (suc n) left le = refl

ended_on : (first : MachineState) (k n : ℕ) (machine : MachineState) (end : End) (bytes : List ℕ) (left before now : Option (List ℕ)) (buffer : List ℕ) →
    suc k ≤ n → machine.ended ≡ Some end → IsDriven first (suc k) bytes machine left before now buffer → IsDriven first n bytes machine left before now buffer
ended_on first k n machine end bytes left before now buffer le e a =
    let input = input_for first.given bytes in
    let stop : (driven first (suc k) input).stop ≡ Some (By end) = sym a.stands.ended ∙ ap (option_map By) e in
    let same : driven first n input ≡ driven first (suc k) input = run_over round_storage first.data_start (suc k) n (going_on first input) (By end) le stop in
    let there = narrowed (driven first (suc k) input) (driven_fits first (suc k) input) (driven_fits first n input) machine first.data_start (left_of first.given (suc k) left) before now buffer (fits_before first (suc k) n input le) a in
    subst (λ l. IsAt (driven first n input) (driven_fits first n input) machine first.data_start l before now buffer) (left_later first.given k n left le)
    (subst (λ x. IsAt x (driven_fits first n input) machine first.data_start (left_of first.given (suc k) left) before now buffer) (sym same) there)

-- the moment after a run has ended, which stays the same
pub ended_here : {first machine : MachineState} {told : Option (List ℕ)} {left before now : Option (List ℕ)} {buffer : List ℕ} {calls_before calls writes_before writes : ℕ}
    (later : Option (List ℕ)) (k : ℕ) (n : ℕ) (end : End) → k + 1 ≤ n → machine.ended ≡ Some end →
    Underway first told (k + 1) machine left before now buffer calls_before calls writes_before writes → Appends now later buffer →
    IfSome told (λ bytes. IsDriven first n bytes machine left before later [])
ended_here {first} {machine} {told} {left} {before} {now} {buffer} {calls_before} {calls} {writes_before} {writes} later k n end le e u bytes =
    told_map told (λ bytes. IsDriven first (k + 1) bytes machine left before later []) (λ bytes. IsDriven first n bytes machine left before later [])
    (λ bytes a. ended_on first k n machine end bytes left before later [] (omega arith) e (subst (λ k. IsDriven first k bytes machine left before later []) (add-one k) a)) (flushed_here later u bytes)

-- why the last bytes were to be written: the run has ended, or is to break off here
abbrev pub IsLast : MachineState → ℕ → ℕ → Type 0
IsLast machine k n = ((end : End) × (machine.ended ≡ Some end)) ⊎ (k ≡ n)

-- the moment after a failed flush
pub front_here : {first machine : MachineState} {told : Option (List ℕ)} {k : ℕ} {left before now : Option (List ℕ)} {buffer : List ℕ} {calls_before calls writes_before writes : ℕ}
    (later : Option (List ℕ)) (n : ℕ) → k ≤ n → length buffer < 512 → 0 < length buffer → IsLast machine k n →
    Underway first told k machine left before now buffer calls_before calls writes_before writes → AppendsFront now later buffer →
    IfSome told (λ bytes. IsBrokenOff n first bytes machine left before later)
front_here {first} {machine} {told} {k} {left} {before} {now} {buffer} {calls_before} {calls} {writes_before} {writes} later n le room some last u bytes =
    told_map told (λ bytes. Progress first k bytes machine left before now buffer writes_before writes) (λ bytes. IsBrokenOff n first bytes machine left before later)
    (λ input a. record {
      made = k;
      within = le;
      stands = record { stands = a.0.stands; left_is = a.0.left_is; front = holds_front before now later buffer _ a.0.out bytes };
      lacks = lacks_flush n k _ first machine (input_for first.given input) before now later buffer room some a.0.stands (inr last) u.waits.ended a.0.out a.1 (grows_front now later buffer bytes);
    }) u.here

-- all that was printed is a beginning of it
holds_all : (before now : Option (List ℕ)) (printed : List ℕ) → HoldsPrints before now [] printed → HoldsFront before now printed
holds_all None now printed h = tt
holds_all (Some old) None printed h = absurd h
holds_all (Some old) (Some new) printed h = (h.0, h.1, ([], h.2))

-- at most n instructions, with all written out
pub made_all : {first machine : MachineState} {told : Option (List ℕ)} {k : ℕ} {left before now later : Option (List ℕ)} {buffer : List ℕ}
    {calls_before calls writes_before writes writes_now : ℕ} (n : ℕ) (result : Result Finish DriveError) → k ≤ n → (result ≡ Ok StepsUsed → k ≡ n) → (result ≡ Err Read → ⊥) →
    (result ≡ Err Write → ⊥) → Underway first told k machine left before now buffer calls_before calls writes_before writes → Appends now later buffer → writes_now ≤ writes + length buffer →
    MadeAtMost n result first machine told left before later calls_before calls writes_before writes_now
made_all {first} {machine} {told} {k} {left} {before} {now} {later} {buffer} {calls_before} {calls} {writes_before} {writes} {writes_now} n result le all read write u bytes few =
    let a = u.on [] (λ e. refl) in
    let h : HoldsPrints before later [] (driven first k (input_for first.given (u.bytes ++ []))).printed = holds_flushed before now later buffer _ a.0.out bytes in
    let same : length (u.bytes ++ []) ≡ length u.bytes = ap length (append-nil u.bytes) in
    let most = vain_in result machine.ended in
    record {
      made = k;
      within = le;
      all = all;
      fewer = λ e. absurd (read e);
      bytes = u.bytes ++ [];
      took = subst (λ bytes. Consumes told left bytes) (sym (append-nil u.bytes)) u.took;
      used = a.0.left_is;
      calls = omega (arith, u.calls, same, most);
      stands = a.0.stands;
      written = λ w. h;
      front = holds_all before later _ h;
      writes = let so_far = a.2 in omega (arith, so_far, few);
      lacks = λ e. absurd (write e);
    }

-- and where the last flush failed
pub made_front : {first machine : MachineState} {told : Option (List ℕ)} {k : ℕ} {left before now later : Option (List ℕ)} {buffer : List ℕ}
    {calls_before calls writes_before writes writes_now : ℕ} (n : ℕ) (result : Result Finish DriveError) → k ≤ n → length buffer < 512 → 0 < length buffer → IsLast machine k n → result ≡ Err Write →
    Underway first told k machine left before now buffer calls_before calls writes_before writes → AppendsFront now later buffer → writes_now ≤ writes + length buffer →
    MadeAtMost n result first machine told left before later calls_before calls writes_before writes_now
made_front {first} {machine} {told} {k} {left} {before} {now} {later} {buffer} {calls_before} {calls} {writes_before} {writes} {writes_now} n result le room some last failed u bytes few =
    let a = u.on [] (λ e. refl) in
    let same : length (u.bytes ++ []) ≡ length u.bytes = ap length (append-nil u.bytes) in
    let most = vain_in result machine.ended in
    record {
      made = k;
      within = le;
      all = λ e. cc;
      fewer = λ e. cc;
      bytes = u.bytes ++ [];
      took = subst (λ bytes. Consumes told left bytes) (sym (append-nil u.bytes)) u.took;
      used = a.0.left_is;
      calls = omega (arith, u.calls, same, most);
      stands = a.0.stands;
      written = λ w. absurd (w failed);
      front = holds_front before now later buffer _ a.0.out bytes;
      writes = let so_far = a.2 in omega (arith, so_far, few);
      lacks = λ e. lacks_flush n k _ first machine (input_for first.given (u.bytes ++ [])) before now later buffer room some a.0.stands (inr last) u.waits.ended a.0.out a.1 (grows_front now later buffer bytes);
    }

stands_next : (first : MachineState) (k : ℕ) (input : List ℕ) (new : MachineState) →
    StandsAt (advance first.data_start (driven first k input)) (driven_fits first k input && counters_fit (advance first.data_start (driven first k input))) new
    first.data_start → StandsAt (driven first (suc k) input) (driven_fits first (suc k) input) new first.data_start
stands_next first k input new s = subst (λ x. StandsAt x (driven_fits first k input && counters_fit x) new first.data_start) (sym (run_suc k first.data_start (going_on first input))) s

front_next : (first : MachineState) (k : ℕ) (input : List ℕ) (before now : Option (List ℕ)) → HoldsFront before now (advance first.data_start (driven first k input)).printed → HoldsFront before now (driven first (suc k) input).printed
front_next first k input before now h = subst (λ x. HoldsFront before now x.printed) (sym (run_suc k first.data_start (going_on first input))) h

-- a turn that took nothing was given nothing
given_none : (given taken : Option (Option ℕ)) (left after : Option (List ℕ)) → ComesFrom given taken left after → taken ≡ None → given ≡ None
given_none None taken left after f e = refl
given_none (Some byte) taken left after f e = let s : taken ≡ Some byte = f.0 in cc

-- what is left before an instruction that was given nothing is what is left behind it
left_same : (hand : Option (Option ℕ)) (k : ℕ) (left : Option (List ℕ)) → None ≡ given_after k hand → left_of hand (suc k) left ≡ left_of hand k left
left_same None k left g = refl
left_same (Some None) k left g = refl
left_same (Some (Some byte)) zero left g = cc
left_same (Some (Some byte)) (suc k) left g = refl

-- at most n instructions where a read failed
made_unread : {first old new : MachineState} {told : Option (List ℕ)} {k : ℕ} {left after before now later : Option (List ℕ)} {buffer waiting : List ℕ}
    {calls_before calls calls_now writes_before writes writes_now : ℕ} (n : ℕ) (result : Result Finish DriveError) → k + 1 ≤ n → result ≡ Err Read →
    Underway first told k old left before now buffer calls_before calls writes_before writes → Turns (Err Read) old new left after now later buffer waiting calls calls_now writes writes_now →
    KeepsEnd old new → new ≡ old → WantsAByte new → MadeAtMost n result first new told after before later calls_before calls_now writes_before writes_now
made_unread {first} {old} {new} {told} {k} {left} {after} {before} {now} {later} {buffer} {waiting} {calls_before} {calls} {calls_now} {writes_before} {writes} {writes_now} n result le failed u t over kept w =
    let b = before_it u t over in
    let x = b.on [] (λ e. refl) in
    let input = input_for first.given (b.bytes ++ []) in
    let bare : old.given ≡ None = sym (ap (λ m. m.given) kept) ∙ w.not_given in
    let a = turn_runs t before (driven first k input) (driven_fits first k input) first.data_start _ _ x.1 x.2.0 in
    let same : length (b.bytes ++ []) ≡ length b.bytes = ap length (append-nil b.bytes) in
    let running : vain new.ended ≡ 0 = ap vain w.running in
    let vain_one : in_vain result new.ended ≡ 1 = ap (λ r. in_vain r new.ended) failed in
    record {
      made = k;
      within = omega arith;
      all = λ e. cc;
      fewer = λ e. omega arith;
      bytes = b.bytes ++ [];
      took = subst (λ bytes. Consumes told after bytes) (sym (append-nil b.bytes)) b.took;
      used = sym (left_same first.given k (Some []) (sym bare ∙ u.given)) ∙ a.0.left_is;
      calls = omega (arith, b.calls, same, running, vain_one);
      stands = a.0.stands;
      written = λ w. a.0.out;
      front = holds_all before later _ a.0.out;
      writes = let so_far = x.2.2 in let few = a.1 in omega (arith, so_far, few);
      lacks = λ e. cc;
    }

-- and where a write failed
made_unwritten : {first old new : MachineState} {told : Option (List ℕ)} {k : ℕ} {left after before now later : Option (List ℕ)} {buffer waiting : List ℕ}
    {calls_before calls calls_now writes_before writes writes_now : ℕ} (n : ℕ) (result : Result Finish DriveError) → k + 1 ≤ n → result ≡ Err Write → length buffer < 512 →
    HoldsAll now later [] → Underway first told k old left before now buffer calls_before calls writes_before writes →
    Turns (Err Write) old new left after now later buffer waiting calls calls_now writes writes_now → KeepsEnd old new →
    MadeAtMost n result first new told after before later calls_before calls_now writes_before writes_now
made_unwritten {first} {old} {new} {told} {k} {left} {after} {before} {now} {later} {buffer} {waiting} {calls_before} {calls} {calls_now} {writes_before} {writes} {writes_now} n result le failed room grows u t over =
    let b = before_it u t over in
    let x = b.on [] (λ e. refl) in
    let input = input_for first.given (b.bytes ++ []) in
    let next : driven first (suc k) input ≡ advance first.data_start (driven first k input) = run_suc k first.data_start (going_on first input) in
    let same : length (b.bytes ++ []) ≡ length b.bytes = ap length (append-nil b.bytes) in
    let most = vain_in result new.ended in
    let took : Consumes told after (b.bytes ++ []) = subst (λ bytes. Consumes told after bytes) (sym (append-nil b.bytes)) b.took in
    ⊎_elim
    (λ s. let bare : old.given ≡ None = given_none old.given t.taken left after t.takes.from s.0 in record {
      made = k;
      within = omega arith;
      all = λ e. cc;
      fewer = λ e. cc;
      bytes = b.bytes ++ [];
      took = took;
      used = sym (left_same first.given k (Some []) (sym bare ∙ u.given)) ∙ s.2.left_is;
      calls = omega (arith, b.calls, same, most);
      stands = s.2.stands;
      written = λ w. absurd (w failed);
      front = s.2.front;
      writes = let so_far = x.2.2 in let few = s.4 in omega (arith, so_far, few);
      lacks = λ e. lacks_flush n k _ first new input before now later buffer room s.3 s.2.stands (inl s.1) (λ ended. let running : new.ended ≡ None = s.1.running in cc) x.2.0.out x.2.1 grows;
    })
    (λ s. record {
      made = suc k;
      within = omega arith;
      all = λ e. cc;
      fewer = λ e. cc;
      bytes = b.bytes ++ [];
      took = took;
      used = s.1.left_is ∙ ap (λ c. Some c.input) (sym next);
      calls = omega (arith, b.calls, same, most);
      stands = stands_next first k input new s.1.stands;
      written = λ w. absurd (w failed);
      front = front_next first k input before later s.1.front;
      writes = let so_far = few_on first k input writes_before writes writes_now buffer [] x.2.2 s.2 in omega (arith, so_far);
      lacks = λ e. lacks_full n k _ first new input before now later buffer room (stands_next first k input new s.1.stands) s.0 x.2.0.out x.2.1 grows;
    })
    (turn_runs t before (driven first k input) (driven_fits first k input) first.data_start _ _ x.1 x.2.0)

-- at most n instructions where a turn failed
pub made_broken : {first old new : MachineState} {told : Option (List ℕ)} {k : ℕ} {left after before now later : Option (List ℕ)} {buffer waiting : List ℕ}
    {calls_before calls calls_now writes_before writes writes_now : ℕ} (error : DriveError) (r : Result (Option End) DriveError) (n : ℕ) (result : Result Finish DriveError) → k + 1 ≤ n →
    length buffer < 512 → HoldsAll now later [] → r ≡ Err error → result ≡ Err error → Underway first told k old left before now buffer calls_before calls writes_before writes →
    Turns r old new left after now later buffer waiting calls calls_now writes writes_now → KeepsEnd old new → (r ≡ Err Read → new ≡ old) → (r ≡ Err Read → WantsAByte new) →
    MadeAtMost n result first new told after before later calls_before calls_now writes_before writes_now
made_broken {first} {old} {new} {told} {k} {left} {after} {before} {now} {later} {buffer} {waiting} {calls_before} {calls} {calls_now} {writes_before} {writes} {writes_now} Read r n result le room grows failed same u t over kept wants =
    made_unread n result le same u (subst (λ r. Turns r old new left after now later buffer waiting calls calls_now writes writes_now) failed t) over (kept failed) (wants failed)
made_broken {first} {old} {new} {told} {k} {left} {after} {before} {now} {later} {buffer} {waiting} {calls_before} {calls} {calls_now} {writes_before} {writes} {writes_now} Write r n result le room grows failed same u t over kept wants =
    made_unwritten n result le same room grows u (subst (λ r. Turns r old new left after now later buffer waiting calls calls_now writes writes_now) failed t) over

-- the moment of a failed read
pub read_here : {first old new : MachineState} {told : Option (List ℕ)} {k : ℕ} {left after before now later : Option (List ℕ)} {buffer waiting : List ℕ}
    {calls_before calls calls_now writes_before writes writes_now : ℕ} (r : Result (Option End) DriveError) (n : ℕ) → k < n → r ≡ Err Read → new ≡ old → WantsAByte new →
    Underway first told k old left before now buffer calls_before calls writes_before writes → Turns r old new left after now later buffer waiting calls calls_now writes writes_now →
    IfSome told (λ bytes. (j : ℕ) × (j < n) × IsDriven first j bytes new after before later [])
read_here {first} {old} {new} {told} {k} {left} {after} {before} {now} {later} {buffer} {waiting} {calls_before} {calls} {calls_now} {writes_before} {writes} {writes_now} r n less failed same wants u t =
    let none : old.given ≡ None = sym (ap (λ m. m.given) same) ∙ wants.not_given in
    let from : LeftAfter t.taken left after = subst (λ g. ComesFrom g t.taken left after) none t.takes.from in
    let l : LeftAfter t.taken (left_of first.given k left) (left_of first.given k after) =
    left_kept first.given k k t.taken left after (sym none ∙ u.given) (omega arith)
    (λ h. none_asked t.taken old k first.given u.given (u.by_hand h) t.takes.wanted h none) from in
    let runs : Runs (Err Read) old new t.taken before now later buffer waiting writes writes_now = subst (λ r. Runs r old new t.taken before now later buffer waiting writes writes_now) failed (turn_runs t before) in
    told_map told (λ bytes. Progress first k bytes old left before now buffer writes_before writes) (λ bytes. (j : ℕ) × (j < n) × IsDriven first j bytes new after before later [])
    (λ bytes a. (k, less, (runs (driven first k (input_for first.given bytes)) (driven_fits first k (input_for first.given bytes)) first.data_start _ _ l a.0).0)) u.here

-- the input left before an instruction that was not made
left_unmade : (first old new : MachineState) (told : Option (List ℕ)) (k : ℕ) (left after before now : Option (List ℕ)) (buffer : List ℕ)
    (calls_before calls writes_before writes : ℕ) (taken : Option (Option ℕ)) (input : List ℕ) → Underway first told k old left before now buffer calls_before calls writes_before writes →
    IsTaken old new taken left after → taken ≡ None → left_of first.given k left ≡ Some input → left_of first.given k after ≡ Some input
left_unmade first old new told k left after before now buffer calls_before calls writes_before writes taken input u t none is =
    let bare : old.given ≡ None = given_none old.given taken left after t.from none in
    let from : LeftAfter taken left after = subst (λ g. ComesFrom g taken left after) bare t.from in
    let l : LeftAfter taken (left_of first.given k left) (left_of first.given k after) = left_kept first.given k k taken left after (sym bare ∙ u.given) (omega arith) (λ h. none) from in
    subst (λ x. LeftAfter None x (left_of first.given k after)) is (subst (λ x. LeftAfter x (left_of first.given k left) (left_of first.given k after)) none l)

written_next : (first : MachineState) (k : ℕ) (bytes : List ℕ) (new : MachineState) (left before now : Option (List ℕ)) →
    StandsWritten (advance first.data_start (driven first k (input_for first.given bytes)))
    (driven_fits first k (input_for first.given bytes) && counters_fit (advance first.data_start (driven first k (input_for first.given bytes)))) new
    first.data_start (left_of first.given (suc k) left) before now →
    StandsWritten (driven first (suc k) (input_for first.given bytes)) (driven_fits first (suc k) (input_for first.given bytes)) new first.data_start
    (left_of first.given (suc k) left) before now
written_next first k bytes new left before now s =
    subst
    (λ x.
    StandsWritten x (driven_fits first k (input_for first.given bytes) && counters_fit x) new first.data_start (left_of first.given (suc k) left) before
    now) (sym (run_suc k first.data_start (going_on first (input_for first.given bytes)))) s

-- the moment of a failed write
pub write_here : {first old new : MachineState} {told : Option (List ℕ)} {k : ℕ} {left after before now later : Option (List ℕ)} {buffer waiting : List ℕ}
    {calls_before calls calls_now writes_before writes writes_now : ℕ} (r : Result (Option End) DriveError) (n : ℕ) → k + 1 ≤ n → length buffer < 512 → HoldsAll now later [] → r ≡ Err Write →
    Underway first told k old left before now buffer calls_before calls writes_before writes → Turns r old new left after now later buffer waiting calls calls_now writes writes_now →
    IfSome told (λ bytes. IsBrokenOff n first bytes new after before later)
write_here {first} {old} {new} {told} {k} {left} {after} {before} {now} {later} {buffer} {waiting} {calls_before} {calls} {calls_now} {writes_before} {writes} {writes_now} r n le room grows failed u t =
    let runs : Runs (Err Write) old new t.taken before now later buffer waiting writes writes_now = subst (λ r. Runs r old new t.taken before now later buffer waiting writes writes_now) failed (turn_runs t before) in
    told_map told (λ bytes. Progress first k bytes old left before now buffer writes_before writes) (λ bytes. IsBrokenOff n first bytes new after before later)
    (λ bytes a. let input = input_for first.given bytes in ⊎_elim
    (λ s. record {
      made = k;
      within = omega arith;
      stands = record { stands = s.2.stands; left_is = left_unmade first old new told k left after before now buffer calls_before calls writes_before writes t.taken _ u t.takes s.0 a.0.left_is; front = s.2.front };
      lacks = lacks_flush n k _ first new input before now later buffer room s.3 s.2.stands (inl s.1) (λ ended. let running : new.ended ≡ None = s.1.running in cc) a.0.out a.1 grows;
    })
    (λ s. record {
      made = suc k;
      within = omega arith;
      stands = written_next first k bytes new after before later s.1;
      lacks = lacks_full n k _ first new input before now later buffer room (written_next first k bytes new after before later s.1).stands s.0 a.0.out a.1 grows;
    })
    (runs (driven first k input) (driven_fits first k input) first.data_start _ _ (told_left t.taken first old new told k left after before now buffer calls_before calls writes_before writes u t.takes) a.0)) u.here

-- a machine that was told by hand that there is no byte does not ask the console
pub no_wish : {first machine : MachineState} {told : Option (List ℕ)} {k : ℕ} {left before now : Option (List ℕ)} {buffer : List ℕ} {calls_before calls writes_before writes : ℕ} →
    Underway first told k machine left before now buffer calls_before calls writes_before writes → first.given ≡ Some None → WantsAByte machine → ⊥
no_wish {first} {machine} {told} {k} {left} {before} {now} {buffer} {calls_before} {calls} {writes_before} {writes} u h w =
    ⊎_elim
    (λ e. let given : machine.given ≡ Some None = u.given ∙ ap (λ k. given_after k first.given) e ∙ h in let none : machine.given ≡ None = w.not_given in cc)
    (λ e. let running : machine.ended ≡ None = w.running in cc) (u.by_hand h)

-- the moment after all instructions
pub run_here : {first machine : MachineState} {told : Option (List ℕ)} {k : ℕ} {left before now : Option (List ℕ)} {buffer : List ℕ} {calls_before calls writes_before writes : ℕ}
    (later : Option (List ℕ)) (n : ℕ) → k ≡ n → Underway first told k machine left before now buffer calls_before calls writes_before writes → Appends now later buffer →
    IfSome told (λ bytes. IsDriven first n bytes machine left before later [])
run_here {first} {machine} {told} {k} {left} {before} {now} {buffer} {calls_before} {calls} {writes_before} {writes} later n e u bytes =
    subst (λ k. IfSome told (λ bytes. IsDriven first k bytes machine left before later [])) e (flushed_here later u bytes)
