-- What a turn of a drive leaves.
use Rattle.std.proofs.Common.{◌≡◌, ℕ, ◌+◌, ◌<◌, ◌≤◌, arith, List, [], length, drop, Option, Some, None, refl, sym, ap, ◌∙◌, subst, inl, inr, ⊎_elim}
use Rattle.std.specs.Prelude.{Bool, ◌&&◌, IsTrue, OnOk, OnErr, Result, Ok, Err}
use Rattle.std.specs.Io.KnownBytes.{Appends}
use Rattle.outside_io.specs.Bytes.{AppendsFront}
use Rattle.j1_simulator.specs.declared.effects.Output.TheVariants.{Silent}
use Rattle.j1_simulator.specs.declared.ends.End.{End}
use Rattle.j1_simulator.specs.declared.ends.End.TheVariants as ends
use Rattle.j1_simulator.specs.declared.ends.Event.{Event}
use Rattle.j1_simulator.specs.declared.ends.Event.TheVariants.{WantsByte, Ended}
use Rattle.j1_simulator.specs.Step.{By, Missing, Transition, Advances, Takes, Terminates, step}
use Rattle.j1_simulator.specs.RoundMachine.{RingCells, round_storage}
use Rattle.j1_simulator.specs.MachineState.{MachineState, AnswersStep, Steps, IsTaking, WantsAByte, GivenIsDue}
use Rattle.j1_simulator.specs.Run.{Configuration, advance}
use Rattle.j1_simulator.specs.declared.ends.DriveError.{DriveError}
use Rattle.j1_simulator.specs.declared.ends.DriveError.TheVariants.{Read, Write}
use Rattle.j1_simulator.specs.Drive.{HoldsPrints, HoldsFront, StandsAt, IsAt, end_of_event, counters_fit, KeepsEnd}
use Rattle.j1_simulator.specs.Turn.{LeftAfter, ComesFrom, IsTaken, MayWait, Follows, Fills, WritesFew, TurnEnds}
use Rattle.j1_simulator.proofs.FlushedOutput.{holds_flushed, holds_front}
use Rattle.j1_simulator.specs.Laws.{BeginsAtStart, WantsExactly, StepIsInstruction, GivenStepIsInstruction}
use Rattle.j1_simulator.proofs.RunSteps.{Turned, turned, key_turned, kept_left, wants_not, ends_of}

answers_wants : (given : Option (Option ℕ)) (o : Transition ℕ RingCells) (event : Event) (old new : MachineState) → AnswersStep given o event old new → event ≡ WantsByte → (given ≡ None) × IsTaking o × (new ≡ old)
answers_wants given (Advances core output) event old new h e = absurd (wants_not output (sym h.0 ∙ e))
answers_wants given (Terminates (By end)) event old new h e = let q : Ended end ≡ WantsByte = sym h.0 ∙ e in cc
answers_wants given (Terminates Missing) event old new h e = absurd h
answers_wants None (Takes next) event old new h e = (refl, tt, h.1)
answers_wants (Some None) (Takes next) event old new h e = let q : Ended ends.InputEnded ≡ WantsByte = sym h.0 ∙ e in cc
answers_wants (Some (Some byte)) (Takes next) event old new h e = absurd (wants_not Silent (sym h.0 ∙ e))

answers_ended : (given : Option (Option ℕ)) (o : Transition ℕ RingCells) (event : Event) (old new : MachineState) → AnswersStep given o event old new → (event ≡ WantsByte → ⊥) → new.ended ≡ end_of_event event
answers_ended given (Advances core output) event old new h e = ap (λ s. s.ended) h.1 ∙ ends_of output ∙ ap end_of_event (sym h.0)
answers_ended given (Terminates (By end)) event old new h e = ap (λ s. s.ended) h.1 ∙ ap end_of_event (sym h.0)
answers_ended given (Terminates Missing) event old new h e = absurd h
answers_ended None (Takes next) event old new h e = absurd (e h.0)
answers_ended (Some None) (Takes next) event old new h e = ap (λ s. s.ended) h.1 ∙ ap end_of_event (sym h.0)
answers_ended (Some (Some byte)) (Takes next) event old new h e = ap (λ s. s.ended) h.1 ∙ ends_of Silent ∙ ap end_of_event (sym h.0)

steps_wants : (ended : Option End) (event : Event) (old new : MachineState) → ended ≡ old.ended → Steps ended event old new → event ≡ WantsByte → WantsAByte old × (new ≡ old)
steps_wants None event old new s h e =
    let w = answers_wants old.given (step round_storage old.data_start old.core) event old new h e in
    (record { running = sym s; not_given = w.0; taking = w.1 }, w.2)
steps_wants (Some end) event old new s h e = let q : Ended end ≡ WantsByte = sym h.0 ∙ e in cc

pub wants : (event : Event) (old new : MachineState) → Steps old.ended event old new → event ≡ WantsByte → WantsAByte old × (new ≡ old)
wants event old new h e = steps_wants old.ended event old new refl h e

steps_ended : (ended : Option End) (event : Event) (old new : MachineState) → ended ≡ old.ended → Steps ended event old new → (event ≡ WantsByte → ⊥) → new.ended ≡ end_of_event event
steps_ended None event old new s h e = answers_ended old.given (step round_storage old.data_start old.core) event old new h e
steps_ended (Some end) event old new s h e = ap (λ m. m.ended) h.1 ∙ sym s ∙ ap end_of_event (sym h.0)

pub ended_is : (event : Event) (old new : MachineState) → Steps old.ended event old new → (event ≡ WantsByte → ⊥) → new.ended ≡ end_of_event event
ended_is event old new h e = steps_ended old.ended event old new refl h e

-- a machine that waits, whose output was written
pub flushed : (configuration : Configuration ℕ RingCells) (fits : Bool) (machine new : MachineState) (data_start : ℕ) (left before now now' : Option (List ℕ))
    (buffer : List ℕ) → IsAt configuration fits machine data_start left before now buffer → new ≡ machine → Appends now now' buffer →
    IsAt configuration fits new data_start left before now' []
flushed configuration fits machine new data_start left before now now' buffer a same bytes =
    subst (λ m. IsAt configuration fits m data_start left before now' []) (sym same) (record { stands = a.stands; left_is = a.left_is; out = holds_flushed before now now' buffer configuration.printed a.out bytes })

-- the same under a stronger premise on the counters
pub narrowed : (configuration : Configuration ℕ RingCells) (fits later : Bool) (machine : MachineState) (data_start : ℕ) (left before now : Option (List ℕ))
    (buffer : List ℕ) → (IsTrue later → IsTrue fits) → IsAt configuration fits machine data_start left before now buffer →
    IsAt configuration later machine data_start left before now buffer
narrowed configuration fits later machine data_start left before now buffer f a =
    record { stands = record { core = a.stands.core; start_is = a.stands.start_is; ended = a.stands.ended; depths = λ t. a.stands.depths (f t) }; left_is = a.left_is; out = a.out }

-- a step that was noted
pub noted : (r : Result (Option End) DriveError) (taken : Option (Option ℕ)) (old : MachineState) (waited : List ℕ) (configuration : Configuration ℕ RingCells)
    (fits : Bool) (new : MachineState) (data_start : ℕ) (left before now now' : Option (List ℕ)) (buffer buffer' : List ℕ) (event : Event) →
    Turned (advance data_start configuration) (fits && counters_fit (advance data_start configuration)) new data_start left before now buffer event →
    OnErr r (r ≡ Err Write) → OnOk r (HoldsPrints before now' buffer' (advance data_start configuration).printed) →
    OnErr r (HoldsFront before now' (advance data_start configuration).printed)
    → OnOk r (MayWait old waited → Follows new configuration (advance data_start configuration) waited buffer') →
    OnErr r (Fills new configuration (advance data_start configuration) waited) → (writes writes_now : ℕ) →
    OnOk r (WritesFew configuration (advance data_start configuration) waited buffer' writes writes_now) →
    OnErr r (WritesFew configuration (advance data_start configuration) waited [] writes writes_now) →
    TurnEnds r taken old waited configuration fits new data_start left before now' buffer' writes writes_now
noted (Ok end) taken old waited configuration fits new data_start left before now now' buffer buffer' event t e h f follows fills writes writes_now few few_err = (record { stands = t.at.stands; left_is = t.at.left_is; out = h }, follows, few)
noted (Err Read) taken old waited configuration fits new data_start left before now now' buffer buffer' event t e h f follows fills writes writes_now few few_err = cc
noted (Err Write) taken old waited configuration fits new data_start left before now now' buffer buffer' event t e h f follows fills writes writes_now few few_err = inr (fills, record { stands = t.at.stands; left_is = t.at.left_is; front = f }, few_err)

-- a turn whose first flush failed
pub not_flushed : (r : Result (Option End) DriveError) (configuration : Configuration ℕ RingCells) (fits : Bool) (machine new : MachineState) (data_start : ℕ)
    (left left' before now now' : Option (List ℕ)) (buffer buffer' : List ℕ) → r ≡ Err Write → LeftAfter None left left' →
    IsAt configuration fits machine data_start left before now buffer → new ≡ machine → WantsAByte machine → AppendsFront now now' buffer →
    (writes writes_now : ℕ) → 0 < length buffer → writes_now ≤ writes + length buffer →
    TurnEnds r None machine buffer configuration fits new data_start left' before now' buffer' writes writes_now
not_flushed r configuration fits machine new data_start left left' before now now' buffer buffer' e l a same w bytes writes writes_now some few =
    subst (λ r. TurnEnds r None machine buffer configuration fits new data_start left' before now' buffer' writes writes_now) (sym e)
    (inl (
      refl,
      subst WantsAByte (sym same) w,
      record {
        stands = subst (λ m. StandsAt configuration fits m data_start) (sym same) a.stands;
        left_is = subst (λ x. LeftAfter None x left') a.left_is l;
        front = holds_front before now now' buffer configuration.printed a.out bytes;
      },
      some,
      omega (arith, few),
    ))

-- a turn whose question failed
pub not_asked : (r : Result (Option End) DriveError) (configuration : Configuration ℕ RingCells) (fits : Bool) (machine new : MachineState) (data_start : ℕ)
    (left left' before now now' : Option (List ℕ)) (buffer buffer' : List ℕ) → r ≡ Err Read → LeftAfter None left left' →
    IsAt configuration fits machine data_start left before now buffer → new ≡ machine → Appends now now' buffer →
    (writes writes_now : ℕ) → writes_now ≤ writes + length buffer →
    TurnEnds r None machine buffer configuration fits new data_start left' before now' buffer' writes writes_now
not_asked r configuration fits machine new data_start left left' before now now' buffer buffer' e l a same bytes writes writes_now few =
    subst (λ r. TurnEnds r None machine buffer configuration fits new data_start left' before now' buffer' writes writes_now) (sym e) (
      kept_left configuration fits new data_start left left' before now' [] l (flushed configuration fits machine new data_start left before now now' buffer a same bytes),
      omega (arith, few),
    )

-- no byte was asked for
pub none_taken : (old new : MachineState) (left after : Option (List ℕ)) → old.given ≡ None → LeftAfter None left after → IsTaken old new None left after
none_taken old new left after g l = record { from = subst (λ g. ComesFrom g None left after) (sym g) l; wanted = λ byte e. cc; none_left = λ e. cc }

pub stays : (left : Option (List ℕ)) → LeftAfter None left left
stays None = tt
stays (Some input) = refl

-- a byte that was not given ends the run
none_ends : (ended : Option End) (o : Transition ℕ RingCells) (event : Event) (given new : MachineState) → ended ≡ None → IsTaking o → AnswersStep (Some None) o event given new → new.ended ≡ Some ends.InputEnded
none_ends ended (Takes next) event given new e t h = ap (λ s. s.ended) h.1
none_ends ended (Advances core output) event given new e t h = absurd t
none_ends ended (Terminates stop) event given new e t h = absurd t

key_ends : (old given new : MachineState) (event : Event) (byte : Option ℕ) → WantsAByte old → given ≡ record old { given = Some byte } → Steps given.ended event given new → byte ≡ None → new.ended ≡ Some ends.InputEnded
key_ends old given new event byte w g h e =
    let running : given.ended ≡ None = ap (λ s. s.ended) g ∙ w.running in
    let key : given.given ≡ Some None = ap (λ s. s.given) g ∙ ap Some e in
    let taking : IsTaking (step round_storage given.data_start given.core) = subst (λ m. IsTaking (step round_storage m.data_start m.core)) (sym g) w.taking in
    let h1 : Steps None event given new = subst (λ e. Steps e event given new) running h in
    none_ends None (step round_storage given.data_start given.core) event given new refl taking (subst (λ k. AnswersStep k (step round_storage given.data_start given.core) event given new) key h1)

bare_wants : (old : MachineState) → WantsAByte old → WantsAByte (record old { given = None })
bare_wants old w = record { running = w.running; not_given = refl; taking = w.taking }

-- the console was asked, and told a byte or that there is none
pub asked_taken : (old machine given new : MachineState) (event : Event) (byte : Option ℕ) (left after : Option (List ℕ)) → WantsAByte old → machine ≡ old →
    given ≡ record machine { given = Some byte } → Steps given.ended event given new → LeftAfter (Some byte) left after → IsTaken old new (Some byte) left after
asked_taken old machine given new event byte left after w same g h l =
    record {
      from = subst (λ g. ComesFrom g (Some byte) left after) (sym w.not_given) l;
      wanted = λ key e. bare_wants old w;
      none_left = λ e. let b : byte ≡ None = cc in key_ends machine given new event byte (subst WantsAByte (sym same) w) g h b;
    }

-- a step that took what was given, if anything
given_by : (taken : Option (Option ℕ)) (old new : MachineState) (event : Event) (left : Option (List ℕ)) → old.given ≡ taken → GivenIsDue old → Steps old.ended event old new → IsTaken old new taken left left
given_by None old new event left g due h = none_taken old new left left g (stays left)
given_by (Some byte) old new event left g due h =
    let bare : MachineState = record old { given = None } in
    let same : old ≡ record bare { given = Some byte } = ap (λ x. let m : MachineState = record old { given = x } in m) g in
    record {
      from = subst (λ g. ComesFrom g (Some byte) left left) (sym g) (refl, refl);
      wanted = λ key e. due byte g;
      none_left = λ e. let b : byte ≡ None = cc in key_ends bare old new event byte (due byte g) same h b;
    }

pub given_taken : (old new : MachineState) (event : Event) (left : Option (List ℕ)) → GivenIsDue old → Steps old.ended event old new → IsTaken old new old.given left left
given_taken old new event left due h = given_by old.given old new event left refl due h

answers_use : (given : Option (Option ℕ)) (o : Transition ℕ RingCells) (event : Event) (old new : MachineState) → AnswersStep given o event old new → (event ≡ WantsByte → ⊥) → new.given ≡ None
answers_use given (Advances core output) event old new h e = ap (λ s. s.given) h.1
answers_use given (Terminates (By end)) event old new h e = ap (λ s. s.given) h.1
answers_use given (Terminates Missing) event old new h e = absurd h
answers_use None (Takes next) event old new h e = absurd (e h.0)
answers_use (Some None) (Takes next) event old new h e = ap (λ s. s.given) h.1
answers_use (Some (Some byte)) (Takes next) event old new h e = ap (λ s. s.given) h.1

none_due : (given : Option (Option ℕ)) (old : MachineState) (end : End) → old.given ≡ given → old.ended ≡ Some end → GivenIsDue old → given ≡ None
none_due None old end g e due = refl
none_due (Some byte) old end g e due = let r : old.ended ≡ None = (due byte g).running in cc

steps_use : (ended : Option End) (event : Event) (old new : MachineState) → ended ≡ old.ended → GivenIsDue old → Steps ended event old new → (event ≡ WantsByte → ⊥) → new.given ≡ None
steps_use None event old new s due h e = answers_use old.given (step round_storage old.data_start old.core) event old new h e
steps_use (Some end) event old new s due h e = ap (λ m. m.given) h.1 ∙ none_due old.given old end refl (sym s) due

-- a step that does not want a byte has used what was given
pub used : (event : Event) (old new : MachineState) → GivenIsDue old → Steps old.ended event old new → (event ≡ WantsByte → ⊥) → new.given ≡ None
used event old new due h e = steps_use old.ended event old new refl due h e

pub on_err : {T E : Type 0} (r : Result T E) (e : E) (P : Type 0) → OnErr r P → r ≡ Err e → P
on_err (Ok x) e P h q = cc
on_err (Err x) e P h q = h

steps_over : (ended : Option End) (event : Event) (old new : MachineState) (end : End) → Steps ended event old new → ended ≡ old.ended → ended ≡ Some end → new.ended ≡ Some end
steps_over None event old new end h s e = cc
steps_over (Some other) event old new end h s e = ap (λ m. m.ended) h.1 ∙ sym s ∙ e

pub steps_keep_end : (event : Event) (old new : MachineState) → Steps old.ended event old new → KeepsEnd old new
steps_keep_end event old new h = λ end e. steps_over old.ended event old new end h refl e

-- a machine that wants a byte has not ended
pub wanting_keeps_end : (old : MachineState) (now : Option End) → WantsAByte old → (end : End) → old.ended ≡ Some end → now ≡ Some end
wanting_keeps_end old now w end e = let r = w.running in cc

answers_taking : (given : Option (Option ℕ)) (o : Transition ℕ RingCells) (event : Event) (old new : MachineState) → given ≡ None → IsTaking o → AnswersStep given o event old new → event ≡ WantsByte
answers_taking None (Takes next) event old new none t h = h.0
answers_taking None (Advances core output) event old new none t h = absurd t
answers_taking None (Terminates stop) event old new none t h = absurd t
answers_taking (Some key) o event old new none t h = cc

pub wants_exactly : WantsExactly
wants_exactly machine new event h =
    let back : WantsAByte machine → event ≡ WantsByte = λ w. answers_taking machine.given (step round_storage machine.data_start machine.core) event machine new w.not_given w.taking (subst (λ e. Steps e event machine new) w.running h) in
    ((λ e. (wants event machine new h e).0, back), λ e. (wants event machine new h e).1)

pub begins_at_start : BeginsAtStart
begins_at_start image input = record { stands = record { core = refl; start_is = refl; ended = refl; depths = λ f. refl }; left_is = refl; out = ([], refl, refl) }

pub step_is_instruction : StepIsInstruction
step_is_instruction from fits machine new event data_start left before now buffer a none h apart =
    let t = ⊎_elim (λ w. absurd (apart w.0)) (λ t. t) (turned from fits machine new data_start event left before now buffer a none h) in
    (t.at, t.given)

pub given_step_is_instruction : GivenStepIsInstruction
given_step_is_instruction from fits machine given new byte event data_start input before now buffer a w g b h =
    let t = key_turned from fits machine given new data_start event (Some input) (Some (drop 1 input)) before now buffer byte a w g (b, refl) h in
    (t.at, t.given)

-- a machine that was given its byte does not want one
pub has_its_byte : (old given new : MachineState) (event : Event) (byte : Option ℕ) → given ≡ record old { given = Some byte } → Steps given.ended event given new → event ≡ WantsByte → ⊥
has_its_byte old given new event byte g h e =
    let none : given.given ≡ None = (wants event given new h e).0.not_given in
    let some : given.given ≡ Some byte = ap (λ s. s.given) g in
    cc
