-- A step of the machine, by what the code has.
use Rattle.std.proofs.Common.{◌≡◌, ℕ, Option, Some, None, refl, sym, ap, ◌∙◌, subst}
use Rattle.j1_simulator.specs.declared.effects.Effect.{Effect}
use Rattle.j1_simulator.specs.declared.effects.Output.{Output}
use Rattle.j1_simulator.specs.declared.effects.Output.TheVariants.{Silent}
use Rattle.j1_simulator.specs.declared.ends.End.{End}
use Rattle.j1_simulator.specs.declared.ends.End.TheVariants as ends
use Rattle.j1_simulator.specs.declared.ends.Event.{Event}
use Rattle.j1_simulator.specs.declared.ends.Event.TheVariants.{WantsByte}
use Rattle.j1_simulator.specs.Step.{Core, By, Missing, Transition, Advances, Takes, Terminates, step, effect_at}
use Rattle.j1_simulator.specs.RoundMachine.{RingCells, round_storage}
use Rattle.j1_simulator.specs.MachineState.{WentOn, Wanting, Stopped, with_key, key_of, MachineState, Depths, depths_after, end_of_output, event_of, GoesOn, EndsBy, AnswersStep, Steps, IsTaking, GivenIsDue}

answers_goes : (given : Option (Option ℕ)) (o : Transition ℕ RingCells) (core : Core ℕ RingCells) (output : Output) (event : Event) (old new : MachineState) →
    WentOn core output ≡ with_key (key_of given) o → GoesOn core output event old new → AnswersStep given o event old new
answers_goes given (Advances c d) core output event old new e h =
    let same : core ≡ c = cc in
    let also : output ≡ d = cc in
    subst (λ x. GoesOn c x event old new) also (subst (λ x. GoesOn x output event old new) same h)
answers_goes given (Terminates stop) core output event old new e h = cc
answers_goes None (Takes next) core output event old new e h = cc
answers_goes (Some None) (Takes next) core output event old new e h = cc
answers_goes (Some (Some byte)) (Takes next) core output event old new e h =
    let same : core ≡ next byte = cc in
    let also : output ≡ Silent = cc in
    subst (λ x. GoesOn (next byte) x event old new) also (subst (λ x. GoesOn x output event old new) same h)

pub steps_ok : (old now : MachineState) (core : Core ℕ RingCells) (output : Output) (key : Option ℕ) (event : Event) (effect : Effect) (depths : Depths)
    (ended : Option End) → old ≡ now → old.ended ≡ None → key ≡ key_of old.given →
    WentOn core output ≡ with_key key (step round_storage old.data_start old.core) → effect ≡ effect_at old.core → depths ≡ depths_after old.depths effect →
    ended ≡ end_of_output output → event ≡ event_of output →
    Steps now.ended event now (record { core = core; data_start = old.data_start; given = None; depths = depths; ended = ended })
steps_ok old now core output key event effect depths ended same running k went f d e ev =
    let new : MachineState = record { core = core; data_start = old.data_start; given = None; depths = depths; ended = ended } in
    let w : WentOn core output ≡ with_key (key_of old.given) (step round_storage old.data_start old.core) = cc in
    let goes : GoesOn core output event old new = (ev, cc) in
    let answers = answers_goes old.given (step round_storage old.data_start old.core) core output event old new w goes in
    let steps : Steps old.ended event old new = subst (λ s. Steps s event old new) (sym running) answers in
    subst (λ o. Steps o.ended event o new) same steps

-- what was given is for an instruction that takes a byte
taking_wants : (o : Transition ℕ RingCells) (core : Core ℕ RingCells) → IsTaking o → WentOn core Silent ≡ with_key None o → ⊥
taking_wants (Takes next) core t e = cc
taking_wants (Advances c d) core t e = absurd t
taking_wants (Terminates stop) core t e = absurd t

given_unused : (given : Option (Option ℕ)) (old : MachineState) (core : Core ℕ RingCells) → old.given ≡ given → GivenIsDue old →
    WentOn core Silent ≡ with_key None (step round_storage old.data_start old.core) → given ≡ None
given_unused None old core g due went = refl
given_unused (Some key) old core g due went = absurd (taking_wants (step round_storage old.data_start old.core) core (due key g).taking went)

-- so nothing is given before an instruction that goes on without a byte
pub none_given : (old : MachineState) (core : Core ℕ RingCells) → GivenIsDue old → WentOn core Silent ≡ with_key None (step round_storage old.data_start old.core) → old.given ≡ None
none_given old core due went = given_unused old.given old core refl due went

answers_wanting : (given : Option (Option ℕ)) (o : Transition ℕ RingCells) (old new : MachineState) → given ≡ None → Wanting ≡ with_key (key_of given) o → new ≡ old → AnswersStep given o WantsByte old new
answers_wanting None (Takes next) old new none e same = (refl, same)
answers_wanting None (Advances core output) old new none e same = cc
answers_wanting None (Terminates stop) old new none e same = cc
answers_wanting (Some key) o old new none e same = cc

pub steps_wanting : (old now : MachineState) (core : Core ℕ RingCells) (key : Option ℕ) → old ≡ now → old.ended ≡ None → old.given ≡ None →
    key ≡ key_of old.given → Wanting ≡ with_key key (step round_storage old.data_start old.core) → core ≡ old.core →
    Steps now.ended WantsByte now (record old { core = core })
steps_wanting old now core key same running none k e c =
    let new : MachineState = record old { core = core } in
    let is : new ≡ old = ap (λ x. let m : MachineState = record old { core = x } in m) c in
    let w : Wanting ≡ with_key (key_of old.given) (step round_storage old.data_start old.core) = cc in
    let answers = answers_wanting old.given (step round_storage old.data_start old.core) old new none w is in
    let steps : Steps old.ended WantsByte old new = subst (λ s. Steps s WantsByte old new) (sym running) answers in
    subst (λ o. Steps o.ended WantsByte o new) same steps

answers_input_ended : (given : Option (Option ℕ)) (byte : Option ℕ) (o : Transition ℕ RingCells) (event : Event) (old new : MachineState) → given ≡ Some byte →
    Wanting ≡ with_key (key_of given) o → EndsBy ends.InputEnded event old new → AnswersStep given o event old new
answers_input_ended None byte o event old new some e h = cc
answers_input_ended (Some None) byte (Takes next) event old new some e h = h
answers_input_ended (Some (Some key)) byte (Takes next) event old new some e h = cc
answers_input_ended (Some key) byte (Advances core output) event old new some e h = cc
answers_input_ended (Some key) byte (Terminates stop) event old new some e h = cc

answers_stop : (given : Option (Option ℕ)) (o : Transition ℕ RingCells) (end : End) (event : Event) (old new : MachineState) → Stopped (By end) ≡ with_key (key_of given) o → EndsBy end event old new → AnswersStep given o event old new
answers_stop given (Advances core output) end event old new e h = cc
answers_stop given (Terminates (By other)) end event old new e h =
    let same : end ≡ other = cc in
    subst (λ x. EndsBy x event old new) same h
answers_stop given (Terminates Missing) end event old new e h = cc
answers_stop None (Takes next) end event old new e h = cc
answers_stop (Some None) (Takes next) end event old new e h = cc
answers_stop (Some (Some byte)) (Takes next) end event old new e h = cc

-- a step that ends the run leaves the core, so it may be told of the state before it
ends_before : (end : End) (event : Event) (old new : MachineState) (core : Core ℕ RingCells) → core ≡ old.core → EndsBy end event (record old { core = core }) new → EndsBy end event old new
ends_before end event old new core c h = (h.0, h.1 ∙ ap (λ x. let m : MachineState = record old { core = x; given = None; ended = Some end } in m) c)

steps_by_answers : (old now new : MachineState) (event : Event) → old ≡ now → old.ended ≡ None → AnswersStep old.given (step round_storage old.data_start old.core) event old new → Steps now.ended event now new
steps_by_answers old now new event same running answers =
    let steps : Steps old.ended event old new = subst (λ s. Steps s event old new) (sym running) answers in
    subst (λ o. Steps o.ended event o new) same steps

pub steps_input_ended : (old now new : MachineState) (core : Core ℕ RingCells) (key byte : Option ℕ) (event : Event) → old ≡ now → old.ended ≡ None →
    old.given ≡ Some byte → key ≡ key_of old.given → Wanting ≡ with_key key (step round_storage old.data_start old.core) → core ≡ old.core →
    EndsBy ends.InputEnded event (record old { core = core }) new → Steps now.ended event now new
steps_input_ended old now new core key byte event same running some k e c h =
    let w : Wanting ≡ with_key (key_of old.given) (step round_storage old.data_start old.core) = cc in
    steps_by_answers old now new event same running (answers_input_ended old.given byte _ event old new some w (ends_before ends.InputEnded event old new core c h))

pub steps_stop : (old now new : MachineState) (core : Core ℕ RingCells) (key : Option ℕ) (end : End) (event : Event) → old ≡ now → old.ended ≡ None →
    key ≡ key_of old.given → Stopped (By end) ≡ with_key key (step round_storage old.data_start old.core) → core ≡ old.core →
    EndsBy end event (record old { core = core }) new → Steps now.ended event now new
steps_stop old now new core key end event same running k e c h =
    let w : Stopped (By end) ≡ with_key (key_of old.given) (step round_storage old.data_start old.core) = cc in
    steps_by_answers old now new event same running (answers_stop old.given _ end event old new w (ends_before end event old new core c h))
