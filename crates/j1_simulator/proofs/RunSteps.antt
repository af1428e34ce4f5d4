-- A step of the machine is an instruction of the run.
use Rattle.std.proofs.Common.{◌≡◌, ◌⊎◌, ℕ, List, [], ◌∷◌, ◌++◌, drop, Option, Some, None, refl, sym, ap, ◌∙◌, subst, inl, inr, ⊎_elim}
use Rattle.std.specs.Prelude.{slice_get, option_map, IfSome, Bool, ◌&&◌, IsTrue, ◌+ℤ◌}
use Rattle.std.proofs.lemmas.List.{append-nil}
use Rattle.j1_simulator.specs.declared.effects.Output.{Output}
use Rattle.j1_simulator.specs.declared.effects.Effect.{Effect}
use Rattle.j1_simulator.specs.declared.effects.Output.TheVariants.{Silent, Prints, Halts}
use Rattle.j1_simulator.specs.declared.ends.End.{End}
use Rattle.j1_simulator.specs.declared.ends.End.TheVariants as ends
use Rattle.j1_simulator.specs.declared.ends.Event.{Event}
use Rattle.j1_simulator.specs.declared.ends.Event.TheVariants.{WantsByte, Ended}
use Rattle.j1_simulator.specs.Step.{Core, Stop, By, Missing, Transition, Advances, Takes, Terminates, step, effect_at}
use Rattle.j1_simulator.specs.RoundMachine.{RingCells, round_storage}
use Rattle.j1_simulator.specs.MachineState.{MachineState, Depths, depths_after, end_of_output, event_of, GoesOn, EndsBy, AnswersStep, Steps, IsTaking, WantsAByte, GivenIsDue}
use Rattle.j1_simulator.specs.Run.{Configuration, prints_of, printed_by, stop_of_output, counted_on, taken_on, with_outcome, advanced, advance}
use Rattle.j1_simulator.specs.Turn.{LeftAfter}
use Rattle.j1_simulator.specs.Drive.{HoldsPrints, IsAt, told, end_of_event, in_64_bits, counters_fit, depths_of}
use Rattle.j1_simulator.proofs.FlushedOutput.{holds_more}
use Rattle.j1_simulator.proofs.HeldDepths.{both_hold, held_fits}

stops : (output : Output) → option_map By (end_of_output output) ≡ stop_of_output output
stops Silent = refl
stops (Prints byte) = refl
stops (Halts status) = refl

pub printed_more : (output : Output) (printed : List ℕ) → printed_by output printed ≡ printed ++ prints_of output
printed_more Silent printed = sym (append-nil printed)
printed_more (Prints byte) printed = refl
printed_more (Halts status) printed = sym (append-nil printed)

tells : (output : Output) → prints_of output ≡ told (event_of output)
tells Silent = refl
tells (Prints byte) = refl
tells (Halts status) = refl

pub ends_of : (output : Output) → end_of_output output ≡ end_of_event (event_of output)
ends_of Silent = refl
ends_of (Prints byte) = refl
ends_of (Halts status) = refl

pub wants_not : (output : Output) → event_of output ≡ WantsByte → ⊥
wants_not Silent e = cc
wants_not (Prints byte) e = cc
wants_not (Halts status) e = cc

-- a step that went on, or ended
pub record Turned (configuration : Configuration ℕ RingCells) (fits : Bool) (new : MachineState) (data_start : ℕ) (left before now : Option (List ℕ)) (buffer : List ℕ) (event : Event) : Type 0 where
  pub at : IsAt configuration fits new data_start left before now (buffer ++ told event)
  pub given : new.given ≡ None
  pub end : new.ended ≡ end_of_event event
  pub no_wish : event ≡ WantsByte → ⊥

-- depths that were the counters before an instruction are the counters after it
counted_on_fits : (e : Effect) (configuration : Configuration ℕ RingCells) (fits : Bool) (before after : Depths) →
    (IsTrue fits → before ≡ depths_of configuration) → after ≡ depths_after before e → (core : Core ℕ RingCells) (input printed : List ℕ) (stop : Option Stop) →
    IsTrue (fits && counters_fit (counted_on e core input printed stop configuration)) → after ≡ depths_of (counted_on e core input printed stop configuration)
counted_on_fits e configuration fits before after d a core input printed stop f =
    let both = both_hold fits _ f in
    let two = both_hold (in_64_bits (configuration.data_depth +ℤ e.data_move)) (in_64_bits (configuration.return_depth +ℤ e.return_move)) both.1 in
    let here = d both.0 in
    let counts : depths_after before e ≡ depths_after (depths_of configuration) e = ap (λ x. depths_after x e) here in
    let data_is = held_fits (configuration.data_depth +ℤ e.data_move) two.0 in
    let return_is = held_fits (configuration.return_depth +ℤ e.return_move) two.1 in
    let last : depths_after (depths_of configuration) e ≡ depths_of (counted_on e core input printed stop configuration) = cc in
    a ∙ counts ∙ last

goes_at : (e : Effect) (configuration : Configuration ℕ RingCells) (fits : Bool) (machine new : MachineState) (data_start : ℕ) (event : Event)
    (left left' before now : Option (List ℕ)) (buffer : List ℕ) (core : Core ℕ RingCells) (output : Output) (input : List ℕ) → e ≡ effect_at machine.core →
    (IsTrue fits → machine.depths ≡ depths_of configuration) → machine.data_start ≡ data_start → HoldsPrints before now buffer configuration.printed →
    left' ≡ Some input → GoesOn core output event machine new →
    Turned (counted_on e core input (printed_by output configuration.printed) (stop_of_output output) configuration)
    (fits && counters_fit (counted_on e core input (printed_by output configuration.printed) (stop_of_output output) configuration)) new data_start left' before
    now buffer event
goes_at e configuration fits machine new data_start event left left' before now buffer core output input ef de st out li h =
    let t : prints_of output ≡ told event = tells output ∙ ap told (sym h.0) in
    record {
      given = ap (λ s. s.given) h.1;
      at = record {
        stands = record {
          core = ap (λ s. s.core) h.1;
          start_is = ap (λ s. s.data_start) h.1 ∙ st;
          ended = ap (λ s. option_map By s.ended) h.1 ∙ stops output;
          depths = counted_on_fits e configuration fits machine.depths new.depths de (ap (λ s. s.depths) h.1 ∙ ap (depths_after machine.depths) (sym ef)) core input (printed_by output configuration.printed) (stop_of_output output);
        };
        left_is = li;
        out =
            subst (λ p. HoldsPrints before now (buffer ++ told event) p) (sym (printed_more output configuration.printed))
            (subst (λ b. HoldsPrints before now (buffer ++ b) (configuration.printed ++ prints_of output)) t
            (holds_more before now buffer configuration.printed (prints_of output) out));
      };
      end = ap (λ s. s.ended) h.1 ∙ ends_of output ∙ ap end_of_event (sym h.0);
      no_wish = λ w. wants_not output (sym h.0 ∙ w);
    }

ends_at : (configuration : Configuration ℕ RingCells) (fits : Bool) (machine new : MachineState) (data_start : ℕ) (event : Event)
    (left before now : Option (List ℕ)) (buffer : List ℕ) (end : End) → machine.core ≡ configuration.core → machine.data_start ≡ data_start →
    (IsTrue fits → machine.depths ≡ depths_of configuration) → left ≡ Some configuration.input → HoldsPrints before now buffer configuration.printed →
    EndsBy end event machine new →
    Turned (record configuration { stop = Some (By end) }) (fits && counters_fit configuration) new data_start left before now buffer event
ends_at configuration fits machine new data_start event left before now buffer end co st de li out h =
    let t : [] ≡ told event = ap told (sym h.0) in
    record {
      given = ap (λ s. s.given) h.1;
      at = record {
        stands = record {
          core = ap (λ s. s.core) h.1 ∙ co;
          start_is = ap (λ s. s.data_start) h.1 ∙ st;
          ended = ap (λ s. option_map By s.ended) h.1;
          depths = λ f. ap (λ s. s.depths) h.1 ∙ de (both_hold fits _ f).0;
        };
        left_is = li;
        out = subst (λ b. HoldsPrints before now b configuration.printed) (sym (append-nil buffer) ∙ ap (λ b. buffer ++ b) t) out;
      };
      end = ap (λ s. s.ended) h.1 ∙ ap end_of_event (sym h.0);
      no_wish = λ w. let e : Ended end ≡ WantsByte = sym h.0 ∙ w in cc;
    }

-- either the machine wants its byte, or it made an instruction
abbrev pub TurnedOrWants : Configuration ℕ RingCells → Bool → MachineState → MachineState → ℕ → Option (List ℕ) → Option (List ℕ) → Option (List ℕ) → List ℕ → Event → Type 0
TurnedOrWants configuration fits machine new data_start left before now buffer event =
    ((event ≡ WantsByte) × (new ≡ machine) × WantsAByte machine) ⊎ Turned configuration fits new data_start left before now buffer event

answers_turned : (e : Effect) (configuration : Configuration ℕ RingCells) (fits : Bool) (machine new : MachineState) (data_start : ℕ) (event : Event)
    (left before now : Option (List ℕ)) (buffer : List ℕ) (o : Transition ℕ RingCells) → IsAt configuration fits machine data_start left before now buffer →
    e ≡ effect_at machine.core → machine.ended ≡ None → o ≡ step round_storage machine.data_start machine.core → machine.given ≡ None →
    AnswersStep None o event machine new →
    TurnedOrWants (with_outcome e o configuration) (fits && counters_fit (with_outcome e o configuration)) machine new data_start left before now buffer event
answers_turned e configuration fits machine new data_start event left before now buffer (Advances core output) a ef running s none h =
    inr (goes_at e configuration fits machine new data_start event left left before now buffer core output configuration.input ef a.stands.depths a.stands.start_is a.out a.left_is h)
answers_turned e configuration fits machine new data_start event left before now buffer (Takes next) a ef running s none h =
    inl (h.0, h.1, record { running = running; not_given = none; taking = subst IsTaking s tt })
answers_turned e configuration fits machine new data_start event left before now buffer (Terminates (By end)) a ef running s none h =
    inr (ends_at configuration fits machine new data_start event left before now buffer end a.stands.core a.stands.start_is a.stands.depths a.left_is a.out h)
answers_turned e configuration fits machine new data_start event left before now buffer (Terminates Missing) a ef running s none h = absurd h

steps_turned : (ended : Option End) (configuration : Configuration ℕ RingCells) (fits : Bool) (machine new : MachineState) (data_start : ℕ) (event : Event)
    (left before now : Option (List ℕ)) (buffer : List ℕ) → ended ≡ machine.ended → IsAt configuration fits machine data_start left before now buffer →
    machine.given ≡ None → Steps ended event machine new →
    TurnedOrWants (advanced (option_map By ended) round_storage data_start configuration)
    (fits && counters_fit (advanced (option_map By ended) round_storage data_start configuration)) machine new data_start left before now buffer event
steps_turned None configuration fits machine new data_start event left before now buffer e a none h =
    let s : step round_storage data_start configuration.core ≡ step round_storage machine.data_start machine.core =
    ap (λ n. step round_storage n configuration.core) (sym a.stands.start_is) ∙ ap (λ c. step round_storage machine.data_start c) (sym a.stands.core) in
    let h' : AnswersStep None (step round_storage data_start configuration.core) event machine new =
    subst (λ o. AnswersStep None o event machine new) (sym s)
    (subst (λ g. AnswersStep g (step round_storage machine.data_start machine.core) event machine new) none h) in
    answers_turned (effect_at configuration.core) configuration fits machine new data_start event left before now buffer (step round_storage data_start configuration.core) a (ap effect_at (sym a.stands.core)) (sym e) s none h'
steps_turned (Some end) configuration fits machine new data_start event left before now buffer e a none h =
    let t : [] ≡ told event = ap told (sym h.0) in
    let out' : HoldsPrints before now (buffer ++ told event) configuration.printed = subst (λ b. HoldsPrints before now b configuration.printed) (sym (append-nil buffer) ∙ ap (λ b. buffer ++ b) t) a.out in
    inr (record {
      at =
          subst (λ m. IsAt configuration (fits && counters_fit configuration) m data_start left before now (buffer ++ told event)) (sym h.1)
          (record {
            stands = record {
              core = a.stands.core;
              start_is = a.stands.start_is;
              ended = a.stands.ended;
              depths = λ f. a.stands.depths (both_hold fits _ f).0;
            };
            left_is = a.left_is;
            out = out';
          });
      given = ap (λ s. s.given) h.1 ∙ none;
      end = ap (λ s. s.ended) h.1 ∙ sym e ∙ ap end_of_event (sym h.0);
      no_wish = λ w. let c : Ended end ≡ WantsByte = sym h.0 ∙ w in cc;
    })

-- a step of a machine that was given no byte
pub turned : (configuration : Configuration ℕ RingCells) (fits : Bool) (machine new : MachineState) (data_start : ℕ) (event : Event)
    (left before now : Option (List ℕ)) (buffer : List ℕ) → IsAt configuration fits machine data_start left before now buffer → machine.given ≡ None →
    Steps machine.ended event machine new →
    TurnedOrWants (advance data_start configuration) (fits && counters_fit (advance data_start configuration)) machine new data_start left before now buffer
    event
turned configuration fits machine new data_start event left before now buffer a none h =
    subst
    (λ s.
    TurnedOrWants (advanced s round_storage data_start configuration) (fits && counters_fit (advanced s round_storage data_start configuration)) machine
    new data_start left before now buffer event) a.stands.ended
    (steps_turned machine.ended configuration fits machine new data_start event left before now buffer refl a none h)

given_turned : (ef : Effect) (configuration : Configuration ℕ RingCells) (fits : Bool) (machine given new : MachineState) (data_start : ℕ) (event : Event)
    (left left' before now : Option (List ℕ)) (buffer : List ℕ) (o : Transition ℕ RingCells) (byte : Option ℕ) (input : List ℕ) →
    IsAt configuration fits machine data_start left before now buffer → ef ≡ effect_at machine.core → IsTaking o →
    given ≡ record machine { given = Some byte } → configuration.input ≡ input → byte ≡ slice_get input 0 → left' ≡ Some (drop 1 input) →
    AnswersStep (Some byte) o event given new →
    Turned (with_outcome ef o configuration) (fits && counters_fit (with_outcome ef o configuration)) new data_start left' before now buffer event
given_turned ef configuration fits machine given new data_start event left left' before now buffer (Takes next) None [] a e t g i b l h =
    subst
    (λ input.
    Turned (taken_on ef next input configuration) (fits && counters_fit (taken_on ef next input configuration)) new data_start left' before now buffer
    event) (sym i)
    (ends_at configuration fits given new data_start event left' before now buffer ends.InputEnded (ap (λ s. s.core) g ∙ a.stands.core)
    (ap (λ s. s.data_start) g ∙ a.stands.start_is) (λ f. ap (λ s. s.depths) g ∙ a.stands.depths f) (l ∙ ap Some (sym i)) a.out h)
given_turned ef configuration fits machine given new data_start event left left' before now buffer (Takes next) (Some byte) (x ∷ input) a e t g i b l h =
    let same : byte ≡ x = cc in
    let after : left' ≡ Some input = l in
    subst
    (λ rest.
    Turned (taken_on ef next rest configuration) (fits && counters_fit (taken_on ef next rest configuration)) new data_start left' before now buffer
    event) (sym i)
    (subst
    (λ y.
    Turned (counted_on ef (next y) input configuration.printed None configuration)
    (fits && counters_fit (counted_on ef (next y) input configuration.printed None configuration)) new data_start left' before now buffer event) same
    (goes_at ef configuration fits given new data_start event left left' before now buffer (next byte) Silent input (e ∙ ap (λ s. effect_at s.core) (sym g))
    (λ f. ap (λ s. s.depths) g ∙ a.stands.depths f) (ap (λ s. s.data_start) g ∙ a.stands.start_is) a.out after h))
given_turned ef configuration fits machine given new data_start event left left' before now buffer (Takes next) None (x ∷ input) a e t g i b l h = cc
given_turned ef configuration fits machine given new data_start event left left' before now buffer (Takes next) (Some byte) [] a e t g i b l h = cc
given_turned ef configuration fits machine given new data_start event left left' before now buffer (Advances core output) byte input a e t g i b l h = absurd t
given_turned ef configuration fits machine given new data_start event left left' before now buffer (Terminates stop) byte input a e t g i b l h = absurd t

-- a step of a machine that was given its byte
pub key_turned : (configuration : Configuration ℕ RingCells) (fits : Bool) (machine given new : MachineState) (data_start : ℕ) (event : Event)
    (left left' before now : Option (List ℕ)) (buffer : List ℕ) (byte : Option ℕ) → IsAt configuration fits machine data_start left before now buffer →
    WantsAByte machine → given ≡ record machine { given = Some byte } → LeftAfter (Some byte) left left' → Steps given.ended event given new →
    Turned (advance data_start configuration) (fits && counters_fit (advance data_start configuration)) new data_start left' before now buffer event
key_turned configuration fits machine given new data_start event left left' before now buffer byte a w g asked h =
    let running : given.ended ≡ None = ap (λ s. s.ended) g ∙ w.running in
    let stop : None ≡ configuration.stop = sym (ap (option_map By) w.running) ∙ a.stands.ended in
    let key : given.given ≡ Some byte = ap (λ s. s.given) g in
    let o = step round_storage data_start configuration.core in
    let s : step round_storage given.data_start given.core ≡ o = ap (λ m. step round_storage m.data_start m.core) g ∙ ap (λ n. step round_storage n machine.core) a.stands.start_is ∙ ap (λ c. step round_storage data_start c) a.stands.core in
    let taking : IsTaking o = subst IsTaking (ap (λ n. step round_storage n machine.core) a.stands.start_is ∙ ap (λ c. step round_storage data_start c) a.stands.core) w.taking in
    let asked' : (byte ≡ slice_get configuration.input 0) × (left' ≡ Some (drop 1 configuration.input)) = subst (λ l. IfSome l (λ input. (byte ≡ slice_get input 0) × (left' ≡ Some (drop 1 input)))) a.left_is asked in
    let h1 : Steps None event given new = subst (λ e. Steps e event given new) running h in
    let h2 : AnswersStep (Some byte) (step round_storage given.data_start given.core) event given new = subst (λ k. AnswersStep k (step round_storage given.data_start given.core) event given new) key h1 in
    let h3 : AnswersStep (Some byte) o event given new = subst (λ q. AnswersStep (Some byte) q event given new) s h2 in
    let done : Turned (with_outcome (effect_at configuration.core) o configuration)
    (fits && counters_fit (with_outcome (effect_at configuration.core) o configuration)) new data_start left' before now buffer event =
    given_turned (effect_at configuration.core) configuration fits machine given new data_start event left left' before now buffer o byte
    configuration.input a (ap effect_at (sym a.stands.core)) taking g refl asked'.0 asked'.1 h3 in
    subst (λ t. Turned (advanced t round_storage data_start configuration) (fits && counters_fit (advanced t round_storage data_start configuration)) new data_start left' before now buffer event) stop done

-- an instruction that takes no byte leaves the input
pub kept_left : (configuration : Configuration ℕ RingCells) (fits : Bool) (machine : MachineState) (data_start : ℕ) (left left' before now : Option (List ℕ))
    (buffer : List ℕ) → LeftAfter None left left' → IsAt configuration fits machine data_start left before now buffer →
    IsAt configuration fits machine data_start left' before now buffer
kept_left configuration fits machine data_start left left' before now buffer l a =
    record { stands = a.stands; left_is = subst (λ l. LeftAfter None l left') a.left_is l; out = a.out }

-- the same moment with and without what was given
pub without_given : (configuration : Configuration ℕ RingCells) (fits : Bool) (machine : MachineState) (given : Option (Option ℕ)) (data_start : ℕ)
    (left before now : Option (List ℕ)) (buffer : List ℕ) → IsAt configuration fits machine data_start left before now buffer →
    IsAt configuration fits (record machine { given = given }) data_start left before now buffer
without_given configuration fits machine given data_start left before now buffer a =
    record { stands = record { core = a.stands.core; start_is = a.stands.start_is; ended = a.stands.ended; depths = a.stands.depths }; left_is = a.left_is; out = a.out }

by_given : (key : Option (Option ℕ)) (configuration : Configuration ℕ RingCells) (fits : Bool) (machine new : MachineState) (data_start : ℕ) (event : Event)
    (left left' before now : Option (List ℕ)) (buffer : List ℕ) → machine.given ≡ key → IsAt configuration fits machine data_start left before now buffer →
    GivenIsDue machine → Steps machine.ended event machine new → (event ≡ WantsByte → ⊥) → LeftAfter key left left' →
    Turned (advance data_start configuration) (fits && counters_fit (advance data_start configuration)) new data_start left' before now buffer event
by_given None configuration fits machine new data_start event left left' before now buffer g a due h apart l =
    ⊎_elim (λ w. absurd (apart w.0)) (λ t. t) (turned configuration fits machine new data_start event left' before now buffer (kept_left configuration fits machine data_start left left' before now buffer l a) g h)
by_given (Some byte) configuration fits machine new data_start event left left' before now buffer g a due h apart l =
    let bare : MachineState = record machine { given = None } in
    let same : machine ≡ record bare { given = Some byte } = ap (λ x. let m : MachineState = record machine { given = x } in m) g in
    key_turned configuration fits bare machine new data_start event left left' before now buffer byte (without_given configuration fits machine None data_start left before now buffer a) (due byte g) same l h

-- a step that does not want a byte
pub stepped : (configuration : Configuration ℕ RingCells) (fits : Bool) (machine new : MachineState) (data_start : ℕ) (event : Event)
    (left left' before now : Option (List ℕ)) (buffer : List ℕ) → IsAt configuration fits machine data_start left before now buffer → GivenIsDue machine →
    Steps machine.ended event machine new → (event ≡ WantsByte → ⊥) → LeftAfter machine.given left left' →
    Turned (advance data_start configuration) (fits && counters_fit (advance data_start configuration)) new data_start left' before now buffer event
stepped configuration fits machine new data_start event left left' before now buffer a due h apart l =
    by_given machine.given configuration fits machine new data_start event left left' before now buffer refl a due h apart l
