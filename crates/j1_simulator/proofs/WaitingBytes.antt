-- The bytes that wait to be written, over one instruction.
use Rattle.std.proofs.Common.{◌≡◌, ◌⊎◌, ℕ, List, [], ◌++◌, length, Option, Some, None, refl, sym, ap, ◌∙◌, subst, inl, inr, ⊎_elim, true, false}
use Rattle.std.specs.Prelude.{⊤, Bool}
use Rattle.console_ports.specs.declared.ports.Access.{Access}
use Rattle.console_ports.specs.declared.ports.Access.TheVariants.{Data, Print, Key, Halt, Outside}
use Rattle.console_ports.specs.Ports.{access_at}
use Rattle.j1_simulator.specs.declared.effects.Effect.{Effect}
use Rattle.j1_simulator.specs.declared.effects.Output.TheVariants.{Silent, Prints, Halts}
use Rattle.j1_simulator.specs.declared.ends.End.{End}
use Rattle.j1_simulator.specs.declared.ends.End.TheVariants as ends
use Rattle.j1_simulator.specs.declared.ends.Event.{Event}
use Rattle.j1_simulator.specs.declared.ends.Event.TheVariants.{Went, Printed, WantsByte, Ended}
use Rattle.j1_simulator.specs.Step.{Core, Stop, By, Missing, Reach, Reaches, Asks, Faults, Transition, Advances, Takes, Terminates, step, accesses, fetched, stored, exchanged, goes_on, next_pc, if_known, effect_at}
use Rattle.j1_simulator.specs.RoundMachine.{RingCells, round_storage}
use Rattle.j1_simulator.specs.MachineState.{MachineState, AnswersStep, Steps, IsTaking, WantsAByte, GivenIsDue}
use Rattle.j1_simulator.specs.Run.{Configuration, advance}
use Rattle.j1_simulator.specs.Drive.{HoldsPrints, IsAt, told, end_of_event}
use Rattle.j1_simulator.specs.Turn.{LeftAfter, MayWait, Adds, Follows, Fills}
use Rattle.j1_simulator.proofs.RunSteps.{stepped}
use Rattle.j1_simulator.proofs.Turns.{ended_is, used}

-- ---- an end for want of input comes only from an instruction that takes a byte

abbrev IsOther : Stop → Type 0
IsOther stop = stop ≡ By ends.InputEnded → ⊥

abbrev ReachIsOther : Reach ℕ → Type 0
ReachIsOther (Faults stop) = IsOther stop
ReachIsOther (Reaches cell memory output) = ⊤
ReachIsOther Asks = ⊤

outside_is_other : (address : ℕ) → IsOther (By (ends.Outside address))
outside_is_other address e = cc

missing_is_other : IsOther Missing
missing_is_other e = cc

fetched_is_other : (memory : List ℕ) (access : Access) → ReachIsOther (fetched round_storage memory access)
fetched_is_other memory (Data i) = tt
fetched_is_other memory Key = tt
fetched_is_other memory (Outside address) = outside_is_other address
fetched_is_other memory Print = missing_is_other
fetched_is_other memory Halt = missing_is_other

stored_is_other : (cell value : ℕ) (memory : List ℕ) (access : Access) → ReachIsOther (stored round_storage cell value memory access)
stored_is_other cell value memory (Data i) = tt
stored_is_other cell value memory Print = tt
stored_is_other cell value memory Halt = tt
stored_is_other cell value memory (Outside address) = outside_is_other address
stored_is_other cell value memory Key = missing_is_other

exchanged_is_other : (address value : ℕ) (memory : List ℕ) (access : Access) → ReachIsOther (exchanged round_storage address value memory access)
exchanged_is_other address value memory (Data i) = tt
exchanged_is_other address value memory Print = outside_is_other _
exchanged_is_other address value memory Halt = outside_is_other _
exchanged_is_other address value memory (Outside other) = outside_is_other other
exchanged_is_other address value memory Key = missing_is_other

accesses_are_other : (data_start : ℕ) (fetches stores : Bool) (memory : List ℕ) (t n : ℕ) → ReachIsOther (accesses round_storage data_start fetches stores memory t n)
accesses_are_other data_start false false memory t n = tt
accesses_are_other data_start true false memory t n = fetched_is_other memory (access_at data_start false t)
accesses_are_other data_start false true memory t n = stored_is_other t n memory (access_at data_start true t)
accesses_are_other data_start true true memory t n = exchanged_is_other t n memory (access_at data_start true t)

abbrev OutcomeIsOther : Transition ℕ RingCells → Type 0
OutcomeIsOther (Terminates stop) = IsOther stop
OutcomeIsOther (Advances core output) = ⊤
OutcomeIsOther (Takes next) = ⊤

known_goes : (place : Option ℕ) (go : ℕ → Transition ℕ RingCells) → ((pc : ℕ) → OutcomeIsOther (go pc)) → OutcomeIsOther (if_known place (Terminates Missing) go)
known_goes None go h = missing_is_other
known_goes (Some pc) go h = h pc

goes_on_is_other : (e : Effect) (core : Core ℕ RingCells) (reach : Reach ℕ) → ReachIsOther reach → OutcomeIsOther (goes_on round_storage e core reach)
goes_on_is_other e core (Faults stop) h = h
goes_on_is_other e core (Reaches cell memory output) h = known_goes (next_pc round_storage e.next core.pc core.t (round_storage.top core.return_stack)) _ (λ pc. tt)
goes_on_is_other e core Asks h = known_goes (next_pc round_storage e.next core.pc core.t (round_storage.top core.return_stack)) _ (λ pc. tt)

step_is_other : (data_start : ℕ) (core : Core ℕ RingCells) → OutcomeIsOther (step round_storage data_start core)
step_is_other data_start core =
    let e = effect_at core in
    goes_on_is_other e core _ (accesses_are_other data_start e.fetches e.stores core.memory core.t (round_storage.top core.data_stack))

-- ---- an instruction that takes a byte prints nothing

answers_silent : (byte : Option ℕ) (o : Transition ℕ RingCells) (event : Event) (old new : MachineState) → IsTaking o → AnswersStep (Some byte) o event old new → told event ≡ []
answers_silent None (Takes next) event old new t h = ap told h.0
answers_silent (Some byte) (Takes next) event old new t h = ap told h.0
answers_silent byte (Advances core output) event old new t h = absurd t
answers_silent byte (Terminates stop) event old new t h = absurd t

-- a step of a machine that wanted a byte and was given it
pub key_silent : (old given new : MachineState) (event : Event) (byte : Option ℕ) → WantsAByte old → given ≡ record old { given = Some byte } → Steps given.ended event given new → told event ≡ []
key_silent old given new event byte w g h =
    let running : given.ended ≡ None = ap (λ s. s.ended) g ∙ w.running in
    let key : given.given ≡ Some byte = ap (λ s. s.given) g in
    let taking : IsTaking (step round_storage given.data_start given.core) = subst (λ m. IsTaking (step round_storage m.data_start m.core)) (sym g) w.taking in
    let h1 : Steps None event given new = subst (λ e. Steps e event given new) running h in
    answers_silent byte (step round_storage given.data_start given.core) event given new taking (subst (λ k. AnswersStep k (step round_storage given.data_start given.core) event given new) key h1)

hand_silent : (byte : Option ℕ) (machine new : MachineState) (event : Event) → machine.given ≡ Some byte → GivenIsDue machine → Steps machine.ended event machine new → told event ≡ []
hand_silent byte machine new event g due h =
    let bare : MachineState = record machine { given = None } in
    let same : machine ≡ record bare { given = Some byte } = ap (λ x. let m : MachineState = record machine { given = x } in m) g in
    key_silent bare machine new event byte (due byte g) same h

-- an event that ends the run prints nothing
ended_silent : (event : Event) (end : End) → end_of_event event ≡ Some end → told event ≡ []
ended_silent Went end e = refl
ended_silent WantsByte end e = refl
ended_silent (Ended other) end e = refl
ended_silent (Printed byte) end e = cc

-- what prints does not end the run
printed_goes_on : (event : Event) (end : End) → (told event ≡ [] → ⊥) → end_of_event event ≡ Some end → ⊥
printed_goes_on event end p e = p (ended_silent event end e)

-- ---- what a step prints and takes, whatever out tells

prints_of_blank : (xs ys : List ℕ) → HoldsPrints (Some []) (Some []) xs ys → ys ≡ xs
prints_of_blank xs ys h = let e : h.0 ≡ [] = sym h.1 in sym h.2 ∙ ap (λ w. w ++ xs) e

pub stepped_prints : (configuration : Configuration ℕ RingCells) (fits : Bool) (machine new : MachineState) (data_start : ℕ) (event : Event)
    (left left' before now : Option (List ℕ)) (buffer : List ℕ) → IsAt configuration fits machine data_start left before now buffer → GivenIsDue machine →
    Steps machine.ended event machine new → (event ≡ WantsByte → ⊥) → LeftAfter machine.given left left' →
    (advance data_start configuration).printed ≡ configuration.printed ++ told event
stepped_prints configuration fits machine new data_start event left left' before now buffer a due h apart l =
    let blank : IsAt configuration fits machine data_start left (Some []) (Some []) configuration.printed = record { stands = a.stands; left_is = a.left_is; out = ([], refl, refl) } in
    prints_of_blank (configuration.printed ++ told event) (advance data_start configuration).printed (stepped configuration fits machine new data_start event left left' (Some []) (Some []) configuration.printed blank due h apart l).at.out

stepped_keeps : (configuration to : Configuration ℕ RingCells) (given : Option (Option ℕ)) (left left' : Option (List ℕ)) → given ≡ None →
    left ≡ Some configuration.input → left' ≡ Some to.input → LeftAfter given left left' → to.input ≡ configuration.input
stepped_keeps configuration to given left left' none from after l =
    let kept : LeftAfter None (Some configuration.input) (Some to.input) = subst (λ x. LeftAfter None (Some configuration.input) x) after (subst (λ x. LeftAfter None x left') from (subst (λ x. LeftAfter x left left') none l)) in
    cc

-- ---- what waits after a step that was noted

-- the bytes that an instruction printed were put behind those that waited, or all were written
abbrev Noted : List ℕ → List ℕ → Event → Type 0
Noted buffer waiting event = (waiting ≡ []) ⊎ (waiting ≡ buffer ++ told event)

noted_silent : (buffer waiting : List ℕ) (event : Event) → buffer ≡ [] → told event ≡ [] → Noted buffer waiting event → waiting ≡ []
noted_silent buffer waiting event b s n = ⊎_elim (λ e. e) (λ e. e ∙ ap (λ x. x ++ told event) b ∙ s) n

given_waits : (given : Option (Option ℕ)) (configuration to : Configuration ℕ RingCells) (machine new : MachineState) (event : Event)
    (buffer waiting : List ℕ) → machine.given ≡ given → GivenIsDue machine → Steps machine.ended event machine new →
    (machine.given ≡ None → to.input ≡ configuration.input) → to.printed ≡ configuration.printed ++ told event → Noted buffer waiting event →
    MayWait machine buffer → (waiting ≡ []) ⊎ Adds configuration to buffer waiting
given_waits None configuration to machine new event buffer waiting g due h kept prints n m =
    ⊎_elim (λ e. inl e) (λ e. inr (record { untaken = kept g; printed = told event; prints = prints; waits = e })) n
given_waits (Some byte) configuration to machine new event buffer waiting g due h kept prints n m =
    let none : buffer ≡ [] = ⊎_elim (λ e. let clash : Some byte ≡ None = sym g ∙ e in cc) (λ e. e) m.by_hand in
    inl (noted_silent buffer waiting event none (hand_silent byte machine new event g due h) n)

-- a step that is not asked for its byte ends for want of input only where that was told by hand, or where it had ended so before
answers_input_ended : (given : Option (Option ℕ)) (o : Transition ℕ RingCells) (event : Event) (old new : MachineState) → OutcomeIsOther o →
    AnswersStep given o event old new → (event ≡ WantsByte → ⊥) → new.ended ≡ Some ends.InputEnded → given ≡ None → ⊥
answers_input_ended given (Advances core Silent) event old new other h apart e none = let n : new.ended ≡ None = ap (λ s. s.ended) h.1 in cc
answers_input_ended given (Advances core (Prints byte)) event old new other h apart e none = let n : new.ended ≡ None = ap (λ s. s.ended) h.1 in cc
answers_input_ended given (Advances core (Halts status)) event old new other h apart e none = let n : new.ended ≡ Some (ends.Halted status) = ap (λ s. s.ended) h.1 in cc
answers_input_ended given (Terminates (By end)) event old new other h apart e none =
    let n : new.ended ≡ Some end = ap (λ s. s.ended) h.1 in
    let same : end ≡ ends.InputEnded = cc in
    other (ap By same)
answers_input_ended given (Terminates Missing) event old new other h apart e none = absurd h
answers_input_ended None (Takes next) event old new other h apart e none = apart h.0
answers_input_ended (Some key) (Takes next) event old new other h apart e none = cc

ended_waits : (ended : Option End) (machine new : MachineState) (event : Event) (buffer : List ℕ) → machine.ended ≡ ended → Steps ended event machine new →
    (event ≡ WantsByte → ⊥) → MayWait machine buffer → new.ended ≡ Some ends.InputEnded → buffer ≡ []
ended_waits None machine new event buffer m h apart w e =
    ⊎_elim (λ none. absurd (answers_input_ended machine.given (step round_storage machine.data_start machine.core) event machine new (step_is_other machine.data_start machine.core) h apart e none)) (λ b. b) w.by_hand
ended_waits (Some end) machine new event buffer m h apart w e = w.ended (sym (ap (λ s. s.ended) h.1) ∙ e)

-- what waits after a step that takes no byte of the console
pub step_follows : (configuration : Configuration ℕ RingCells) (fits : Bool) (machine new : MachineState) (data_start : ℕ) (event : Event)
    (left left' before now : Option (List ℕ)) (buffer waiting : List ℕ) → IsAt configuration fits machine data_start left before now buffer →
    GivenIsDue machine → Steps machine.ended event machine new → (event ≡ WantsByte → ⊥) → LeftAfter machine.given left left' →
    left' ≡ Some (advance data_start configuration).input → Noted buffer waiting event → MayWait machine buffer →
    Follows new configuration (advance data_start configuration) buffer waiting
step_follows configuration fits machine new data_start event left left' before now buffer waiting a due h apart l after n m =
    let to = advance data_start configuration in
    let kept : machine.given ≡ None → to.input ≡ configuration.input = λ none. stepped_keeps configuration to machine.given left left' none a.left_is after l in
    let silent : new.ended ≡ Some ends.InputEnded → told event ≡ [] = λ e. ended_silent event ends.InputEnded (sym (ended_is event machine new h apart) ∙ e) in (
      given_waits machine.given configuration to machine new event buffer waiting refl due h kept (stepped_prints configuration fits machine new data_start event left left' before now buffer a due h apart l) n m,
      record {
        by_hand = inl (used event machine new due h apart);
        ended = λ e. noted_silent buffer waiting event (ended_waits machine.ended machine new event buffer refl h apart m e) (silent e) n;
      },
    )

none_given : (given : Option (Option ℕ)) (machine new : MachineState) (event : Event) → machine.given ≡ given → GivenIsDue machine → Steps machine.ended event machine new → (told event ≡ [] → ⊥) → machine.given ≡ None
none_given None machine new event g due h p = g
none_given (Some byte) machine new event g due h p = absurd (p (hand_silent byte machine new event g due h))

-- a step whose bytes could not be written
pub step_fills : (configuration : Configuration ℕ RingCells) (fits : Bool) (machine new : MachineState) (data_start : ℕ) (event : Event)
    (left left' before now : Option (List ℕ)) (buffer : List ℕ) → IsAt configuration fits machine data_start left before now buffer → GivenIsDue machine →
    Steps machine.ended event machine new → (event ≡ WantsByte → ⊥) → LeftAfter machine.given left left' →
    left' ≡ Some (advance data_start configuration).input → length (buffer ++ told event) ≡ 512 → (told event ≡ [] → ⊥) →
    Fills new configuration (advance data_start configuration) buffer
step_fills configuration fits machine new data_start event left left' before now buffer a due h apart l after full p =
    let to = advance data_start configuration in
    record {
      waiting = buffer ++ told event;
      adds = record {
        untaken = stepped_keeps configuration to machine.given left left' (none_given machine.given machine new event refl due h p) a.left_is after l;
        printed = told event;
        prints = stepped_prints configuration fits machine new data_start event left left' before now buffer a due h apart l;
        waits = refl;
      };
      full = full;
      goes_on = λ e. printed_goes_on event ends.InputEnded p (sym (ended_is event machine new h apart) ∙ e);
    }
