-- One instruction of a machine is the next one of its run, with the byte that it takes.
use Rattle.std.proofs.Common.{◌≡◌, ℕ, List, [], ◌++◌, refl, sym, ap, subst, ◌∙◌}
use Rattle.std.specs.Prelude.{drop, slice_get, Option, Some, None}
use Rattle.j1_simulator.specs.declared.ends.End.TheVariants.{InputEnded}
use Rattle.j1_simulator.specs.declared.ends.Event.{Event}
use Rattle.j1_simulator.specs.declared.ends.Event.TheVariants.{WantsByte}
use Rattle.j1_simulator.specs.declared.effects.Output.TheVariants.{Silent, Prints, Halts}
use Rattle.j1_simulator.specs.Step.{Transition, Advances, Takes, Terminates, By, Missing, step}
use Rattle.j1_simulator.specs.RoundMachine.{RingCells, round_storage}
use Rattle.j1_simulator.specs.MachineState.{MachineState, AnswersStep, Steps, IsTaking, WantsAByte}
use Rattle.j1_simulator.specs.Laws.{StepIsInstruction, GivenStepIsInstruction}
use Rattle.instruction_trace.specs.Trace.{outcome_text}
use Rattle.instruction_trace.specs.Turn.{bytes_of, told_text, Makes}

-- a step without a byte tells what it prints
alone : (t : Transition ℕ RingCells) (event : Event) (old new : MachineState) → AnswersStep None t event old new → (event ≡ WantsByte → ⊥) →
    ((rest : List ℕ) → outcome_text t rest ≡ told_text event None) × (new.given ≡ None)
alone (Advances core Silent) event old new a asks = (λ rest. ap (λ e. told_text e None) (sym a.0), ap (λ (m : MachineState). m.given) a.1)
alone (Advances core (Prints byte)) event old new a asks = (λ rest. ap (λ e. told_text e None) (sym a.0), ap (λ (m : MachineState). m.given) a.1)
alone (Advances core (Halts status)) event old new a asks = (λ rest. ap (λ e. told_text e None) (sym a.0), ap (λ (m : MachineState). m.given) a.1)
alone (Takes next) event old new a asks = absurd (asks a.0)
alone (Terminates (By end)) event old new a asks = (λ rest. ap (λ e. told_text e None) (sym a.0), ap (λ (m : MachineState). m.given) a.1)
alone (Terminates Missing) event old new a asks = absurd a

answers : (machine new : MachineState) (event : Event) (given : Option (Option ℕ)) → machine.ended ≡ None → machine.given ≡ given → Steps machine.ended event machine new →
    AnswersStep given (step round_storage machine.data_start machine.core) event machine new
answers machine new event given running is steps =
    subst (λ g. AnswersStep g (step round_storage machine.data_start machine.core) event machine new) is (subst (λ e. Steps e event machine new) running steps)

pub made_alone : StepIsInstruction → (old new : MachineState) (event : Event) → old.ended ≡ None → old.given ≡ None → Steps old.ended event old new →
    (event ≡ WantsByte → ⊥) → Makes old new event None
made_alone law old new event running given steps asks =
    let told = alone (step round_storage old.data_start old.core) event old new (answers old new event None running given steps) asks in
    record {
      moves = λ from fits data_start rest none at.
          let next = law from fits old new event data_start (Some rest) None None [] at given steps asks in
          record { stands = next.0.stands; left_is = next.0.left_is; out = tt };
      told = λ rest none. told.0 rest;
      given = told.1;
      vain = λ is. cc;
    }

-- a step with a byte, or with the word that none is left
taking : (t : Transition ℕ RingCells) (byte : Option ℕ) (event : Event) (old new : MachineState) → AnswersStep (Some byte) t event old new → IsTaking t →
    (new.given ≡ None) × (byte ≡ None → new.ended ≡ Some InputEnded)
taking (Advances core output) byte event old new a is = absurd is
taking (Terminates stop) byte event old new a is = absurd is
taking (Takes next) None event old new a is = (ap (λ (m : MachineState). m.given) a.1, λ same. ap (λ (m : MachineState). m.ended) a.1)
taking (Takes next) (Some byte) event old new a is = (ap (λ (m : MachineState). m.given) a.1, λ same. cc)

taken_text : (t : Transition ℕ RingCells) (byte : Option ℕ) (event : Event) (rest : List ℕ) → IsTaking t → (Some byte ≡ Some None → rest ≡ []) →
    outcome_text t (bytes_of (Some byte) ++ rest) ≡ told_text event (Some byte)
taken_text (Advances core output) byte event rest is none = absurd is
taken_text (Terminates stop) byte event rest is none = absurd is
taken_text (Takes next) (Some byte) event rest is none = refl
taken_text (Takes next) None event rest is none = ap (outcome_text (Takes next)) (none refl)

-- the input begins with the byte
begins : (byte : Option ℕ) (rest : List ℕ) → (Some byte ≡ Some None → rest ≡ []) →
    (slice_get (bytes_of (Some byte) ++ rest) 0 ≡ byte) × (drop 1 (bytes_of (Some byte) ++ rest) ≡ rest)
begins (Some byte) rest none = (refl, refl)
begins None rest none =
    let empty = none refl in
    (ap (λ bytes. slice_get bytes 0) empty, ap (λ bytes. drop 1 bytes) empty ∙ sym empty)

pub made_asking : GivenStepIsInstruction → (old given new : MachineState) (byte : Option ℕ) (event : Event) → old.ended ≡ None → WantsAByte old →
    given ≡ record old { given = Some byte } → Steps given.ended event given new → Makes old new event (Some byte)
made_asking law old given new byte event running wants is steps =
    let same_core : given.core ≡ old.core = ap (λ (m : MachineState). m.core) is in
    let same_start : given.data_start ≡ old.data_start = ap (λ (m : MachineState). m.data_start) is in
    let goes : given.ended ≡ None = ap (λ (m : MachineState). m.ended) is ∙ running in
    let has : given.given ≡ Some byte = ap (λ (m : MachineState). m.given) is in
    let taking_now : IsTaking (step round_storage given.data_start given.core) =
    subst (λ (m : MachineState). IsTaking (step round_storage m.data_start m.core)) (sym is) wants.taking in
    let after = taking (step round_storage given.data_start given.core) byte event given new (answers given new event (Some byte) goes has steps) taking_now in
    record {
      moves = λ from fits data_start rest none at.
          let input : List ℕ = bytes_of (Some byte) ++ rest in
          let front = begins byte rest none in
          let next = law from fits old given new byte event data_start input None None [] at wants is (sym front.0) steps in
          record { stands = next.0.stands; left_is = ap Some (sym front.1) ∙ next.0.left_is; out = tt };
      told = λ rest none. taken_text (step round_storage old.data_start old.core) byte event rest wants.taking none;
      given = after.0;
      vain = λ is_none. after.1 (let same : byte ≡ None = cc in same);
    }
