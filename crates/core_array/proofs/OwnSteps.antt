-- A step of a machine, as the array tells it.
use Rattle.std.proofs.Common.{◌≡◌, ℕ, Option, Some, None, refl, ap, ◌∙◌}
use Rattle.j1_simulator.specs.declared.effects.Output.{Output}
use Rattle.j1_simulator.specs.declared.effects.Output.TheVariants.{Silent, Prints, Halts}
use Rattle.j1_simulator.specs.declared.ends.End.{End}
use Rattle.j1_simulator.specs.declared.ends.End.TheVariants as ends
use Rattle.j1_simulator.specs.declared.ends.Event.{Event}
use Rattle.j1_simulator.specs.declared.ends.Event.TheVariants as events
use Rattle.j1_simulator.specs.Step.{Core, By, Missing, Transition, Advances, Takes, Terminates, step}
use Rattle.j1_simulator.specs.RoundMachine.{RingCells, round_storage}
use Rattle.j1_simulator.specs.MachineState.{MachineState, event_of, GoesOn, EndsBy, AnswersStep, Steps}
use Rattle.core_array.specs.declared.events.CoreEvent.{CoreEvent}
use Rattle.core_array.specs.declared.events.CoreEvent.TheVariants.{Went, Printed, Blocked, Ended}
use Rattle.core_array.specs.Network.{Alone}
use Rattle.core_array.specs.Cores.{after_instruction, with_end, output_event, own_transition, own_step, after_given}

-- what the array tells of an event of a machine
abbrev pub told_event : Event → CoreEvent
told_event events.Went = Went
told_event (events.Printed byte) = Printed byte
told_event (events.Ended end) = Ended end
told_event events.WantsByte = Blocked

tells : (output : Output) → told_event (event_of output) ≡ output_event output
tells Silent = refl
tells (Prints byte) = refl
tells (Halts status) = refl

both : (a b : MachineState) (d e : CoreEvent) → a ≡ b → d ≡ e → Alone a d ≡ Alone b e
both a b d e p q = cc

goes : (core : Core ℕ RingCells) (output : Output) (event : Event) (old new : MachineState) → GoesOn core output event old new → Alone new (told_event event) ≡ Alone (after_instruction core output old) (output_event output)
goes core output event old new a = both new (after_instruction core output old) (told_event event) (output_event output) a.1 (ap told_event a.0 ∙ tells output)

stops : (end : End) (event : Event) (old new : MachineState) → EndsBy end event old new → Alone new (told_event event) ≡ Alone (with_end end old) (Ended end)
stops end event old new a = both new (with_end end old) (told_event event) (Ended end) a.1 (ap told_event a.0)

answered : (given : Option (Option ℕ)) (o : Transition ℕ RingCells) (event : Event) (old new : MachineState) → AnswersStep given o event old new → (event ≡ events.WantsByte → ⊥) → Alone new (told_event event) ≡ own_transition given old o
answered given (Advances core output) event old new a h = goes core output event old new a
answered given (Terminates (By end)) event old new a h = stops end event old new a
answered given (Terminates Missing) event old new a h = absurd a
answered None (Takes next) event old new a h = absurd (h a.0)
answered (Some None) (Takes next) event old new a h = stops ends.InputEnded event old new a
answered (Some (Some byte)) (Takes next) event old new a h = goes (next byte) Silent event old new a

pub stepped_alone : (ended : Option End) (event : Event) (old new : MachineState) → Steps ended event old new → (event ≡ events.WantsByte → ⊥) → Alone new (told_event event) ≡ own_step ended old
stepped_alone (Some end) event old new a h = both new old (told_event event) (Ended end) a.1 (ap told_event a.0)
stepped_alone None event old new a h = answered old.given (step round_storage old.data_start old.core) event old new a h

-- the machine after an instruction whose cell was given
pub given_is : (o : Transition ℕ RingCells) (event : Event) (old new : MachineState) → AnswersStep None o event old new → new ≡ after_given old o
given_is (Advances core output) event old new a = a.1
given_is (Takes next) event old new a = a.1
given_is (Terminates (By end)) event old new a = a.1
given_is (Terminates Missing) event old new a = absurd a
