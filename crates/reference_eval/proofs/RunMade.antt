-- Steps of a machine one after another.
use Rattle.std.proofs.Common.{◌≡◌, ◌≤◌, ◌⊎◌, ℕ, ◌+◌, ◌-◌, List, Option, None, Some, true, refl, sym, ap, subst, ◌∙◌, inl, inr, arith}
use Rattle.std.specs.Prelude.{Result, Ok, Err}
use Rattle.forth_program.specs.State.{World, State, End, Outcome, Goes, Ends}
use Rattle.forth_program.specs.State as run
use Rattle.forth_program.specs.Program.{SourceProgram}
use Rattle.forth_program.specs.Step.{step}
use Rattle.forth_program.specs.Run.{steps, and_then, world_of}
use Rattle.forth_program.specs.RunLaws.{StepsCompose, EndStays}
use Rattle.reference_eval.specs.declared.machine.Machine.{Machine}
use Rattle.reference_eval.specs.declared.ends.Stop.{Stop}
use Rattle.reference_eval.specs.declared.ends.Stop.TheVariants as stop
use Rattle.reference_eval.specs.declared.ends.Halt.TheVariants as halt
use Rattle.reference_eval.specs.Ends.{end_of}
use Rattle.reference_eval.specs.Outside.{Input, Scene, Leads, LosesBytes, Loses, Whole, NotWritten}
use Rattle.reference_eval.specs.Answers.{reach_of, stopped}
use Rattle.reference_eval.specs.Machine.{state_of, StepsTo, Makes, RunsTo, Runs}
use Rattle.reference_eval.proofs.SceneSteps.{stays, leads_as, leads_then}

-- a machine has made so many steps
pub record Made (p : SourceProgram) (n : ℕ) (m0 m : Machine) (old new : Scene) : Type 0 where
  pub leads : Leads (λ w later. steps p n (state_of m0 w) ≡ Goes (state_of m later)) Whole old new

one_goes : (p : SourceProgram) (s : State) (o : Outcome) → step p s ≡ o → steps p 1 s ≡ o
unfolding steps
one_goes p s (Goes t) e = ap (λ o. and_then o (steps p 0)) e
one_goes p s (Ends end w) e = ap (λ o. and_then o (steps p 0)) e

one_more : (p : SourceProgram) (n : ℕ) (s t : State) (o : Outcome) → StepsCompose → steps p n s ≡ Goes t → step p t ≡ o → steps p (n + 1) s ≡ o
one_more p n s t o compose e f = compose p n 1 s ∙ ap (λ x. and_then x (steps p 1)) e ∙ one_goes p t o f

pub made_none : (p : SourceProgram) (n : ℕ) (m : Machine) (s : Scene) → n ≡ 0 → Made p n m m s s
unfolding steps
made_none p n m s e = record { leads = stays _ s (λ before w h. ap (λ n. steps p n (state_of m w)) e) }

abbrev pub okay : {U : Type 0} → U → Result U Stop
okay done = Ok done

pub made_more : {U : Type 0} (p : SourceProgram) (n k : ℕ) (m0 m m' : Machine) (done : U) (s t u : Scene) → StepsCompose → k ≡ n + 1 → Made p n m0 m s t → Makes (step p) (okay done) m m' t u → Made p k m0 m' s u
made_more p n k m0 m m' done s t u compose e made makes = record {
  leads = leads_then _ _ _ Whole s t u (λ w between later a b. ap (λ k. steps p k (state_of m0 w)) e ∙ one_more p n (state_of m0 w) (state_of m between) _ compose a b) made.leads makes.leads;
}

-- a step ended the run
ended_step : (p : SourceProgram) (n k : ℕ) (s t : State) (end : End) (later : World) → StepsCompose → EndStays → n + 1 ≤ k → steps p n s ≡ Goes t → step p t ≡ Ends end later → steps p k s ≡ Ends end later
ended_step p n k s t end later compose stay h e f =
    let i : k ≡ n + 1 + (k - (n + 1)) = omega arith in
    ap (λ k. steps p k s) i ∙ stay p (n + 1) (k - (n + 1)) s end later (one_more p n s t _ compose e f)

wanting : (p : SourceProgram) (n k : ℕ) (s t : State) (later : World) → StepsCompose → n + 1 ≤ k → steps p n s ≡ Goes t → (later ≡ t.world) ⊎ (world_of (step p t) ≡ later) → (made : ℕ) × (made ≤ k) × (world_of (steps p made s) ≡ later)
wanting p n k s t later compose h e (inl f) = (n, omega arith, ap world_of e ∙ sym f)
wanting p n k s t later compose h e (inr f) = (n + 1, h, ap world_of (one_more p n s t _ compose e refl) ∙ f)

off : (p : SourceProgram) (n k : ℕ) (x : Stop) (s : State) (m : Machine) (u : State) (between later : World) → StepsCompose → EndStays → n + 1 ≤ k → steps p n s ≡ Goes (state_of m between) →
    StepsTo {A = Unit {0}} (stopped x) (step p (state_of m between)) u between later → RunsTo {A = Unit {0}} (stopped x) p k s u later
off p n k (stop.Halt (halt.Ended end)) s m u between later compose stay h e f = ended_step p n k s _ (end_of end) later compose stay h e f
off p n k (stop.Halt halt.Read) s m u between later compose stay h e f = ended_step p n k s _ run.InputEnded later compose stay h e f
off p n k (stop.Halt halt.Write) s m u between later compose stay h e f = (n + 1, h, ap world_of (one_more p n s _ _ compose e f))
off p n k stop.Underflow s m u between later compose stay h e f = ended_step p n k s _ run.Underflow later compose stay h e f
off p n k stop.Unbalanced s m u between later compose stay h e f = ended_step p n k s _ run.Unbalanced later compose stay h e f
off p n k (stop.Left address) s m u between later compose stay h e f = ended_step p n k s _ (run.Left address) later compose stay h e f
off p n k stop.OutOfMemory s m u between later compose stay h e f = wanting p n k s _ later compose h e f

pub broken_off : (p : SourceProgram) (n k : ℕ) (m0 m m' : Machine) (r r' : Result (Unit {0}) Stop) (x : Stop) (s t u : Scene) → StepsCompose → EndStays → n + 1 ≤ k → r ≡ Err x → r' ≡ Err x →
    Made p n m0 m s t → Makes (step p) r m m' t u → Runs p k r' m0 m' s u
broken_off p n k m0 m m' r r' x s t u compose stay h e f made makes =
    let k' : Makes (step p) (Err x) m m' t u = subst (λ r. Makes (step p) r m m' t u) e makes in
    subst (λ r. Runs p k r m0 m' s u) (sym f) (record {
      leads = leads_then _ _ _ (reach_of (stopped {A = Unit {0}} x)) s t u (λ w between later a b. off p n k x (state_of m0 w) m (state_of m' later) between later compose stay h a b) made.leads k'.leads;
    })

narrow_bytes : (took : List ℕ) (old new : Option (List ℕ)) → LosesBytes Whole took old new → LosesBytes NotWritten took old new
narrow_bytes took None new h = tt
narrow_bytes took (Some old) None h = h
narrow_bytes took (Some old) (Some new) h = h

narrow_loss : (took : List ℕ) (old new : Input) → Loses Whole took old new → Loses NotWritten took old new
narrow_loss took old new h = record { bytes = narrow_bytes took old.bytes new.bytes h.bytes; calls = h.calls }

-- a write has failed
pub write_failed : (p : SourceProgram) (n k : ℕ) (m0 m : Machine) (s t : Scene) → n ≤ k → t.memory.failed ≡ true → Made p n m0 m s t → Runs {U = Unit {0}} p k (Err (stop.Halt halt.Write)) m0 m s t
write_failed p n k m0 m s t h f made = record {
  leads = record {
    took = made.leads.took;
    loses = narrow_loss made.leads.took s.input t.input made.leads.loses;
    faults = record { reads = made.leads.faults.reads; writes = made.leads.faults.writes; failed = made.leads.faults.failed; caused = f };
    meant = λ before w rest e x shows. let l = made.leads.meant before w rest e tt shows in record { world = l.world; is_reached = (n, h, ap world_of l.is_reached); shows = l.shows; left = l.left };
  };
}

-- all steps were made
pub all_made : (p : SourceProgram) (n k : ℕ) (m0 m : Machine) (s t : Scene) → n ≡ k → Made p n m0 m s t → Runs {U = Unit {0}} p k (Ok tt) m0 m s t
all_made p n k m0 m s t e made = record { leads = leads_as _ _ Whole s t (λ before w later h r. ap (λ k. steps p k (state_of m0 w)) (sym e) ∙ r) made.leads }
