-- A word of a session runs as its item does in a source.
use Rattle.std.proofs.Common.{◌≡◌, ℕ, zero, suc, ◌+◌, true, false, None, refl, ap, sym, subst, ◌∙◌, arith}
use Rattle.forth_program.specs.State.{World, State, End, Outcome, Goes, Ends}
use Rattle.forth_program.specs.Program.{SourceProgram}
use Rattle.forth_program.specs.Step.{step}
use Rattle.forth_program.specs.Run.{and_then, steps}
use Rattle.forth_program.specs.RunLaws.{SpentAdds}
use Rattle.forth_program.specs.Price.{step_price, spent, spent_after}
use Rattle.session_machine.specs.Definitions.{program_of}
use Rattle.session_machine.specs.Session.{Session, Action, StepsOn, reading_action, stepped, done, advanced, session_step, session_steps}
use Rattle.session_machine.specs.Laws.{StaysInside, InsideSteps, WordsRunAsSources}

pub inside_step : InsideSteps
unfolding session_step
inside_step s running inside =
    ap (λ o. advanced o s) running ∙ ap (λ action. done action s)
    (ap (λ b. elim b as (λ c. Action) [ true ↦ reading_action s.words s.lines s.definitions | false ↦ StepsOn ]) inside)

end_is_no_state : (end : End) (world : World) (t : State) → Ends end world ≡ Goes t → ⊥
end_is_no_state end world t e = subst (λ o. elim o as (λ x. Type 0) [ Goes s ↦ ⊥ | Ends f w ↦ Unit {0} ]) e tt

one_on : (p : SourceProgram) (j : ℕ) (s m u : State) → step p s ≡ Goes m → steps p j m ≡ Goes u → steps p (suc j) s ≡ Goes u
unfolding steps
one_on p j s m u is k = ap (λ o. and_then o (steps p j)) is ∙ k

runs_by : (adds : SpentAdds) (s : Session) (d : ℕ) (t : State) (o : Outcome) → s.end ≡ None → step (program_of s.definitions) s.state ≡ o →
    session_step s ≡ stepped o (step_price s.state) s →
    StaysInside (program_of s.definitions) (suc d) s.state → and_then o (steps (program_of s.definitions) d) ≡ Goes t →
    ((u : Session) → u.end ≡ None → StaysInside (program_of u.definitions) d u.state → steps (program_of u.definitions) d u.state ≡ Goes t →
    session_steps d u ≡ record u { state = t; price = u.price + spent (program_of u.definitions) 0 d u.state }) →
    session_steps d (session_step s) ≡ record s {
      state = t;
      price = s.price + spent_after (0 + step_price s.state) o (spent (program_of s.definitions) (0 + step_price s.state) d);
    }
runs_by adds s d t (Goes m) running is next inside e each =
    ap (session_steps d) next
    ∙ each (record s { state = m; price = s.price + step_price s.state }) running
    (λ j u lt k. inside (suc j) u (omega (arith, lt)) (one_on (program_of s.definitions) j s.state m u is k)) e
    ∙ ap (λ n. record s { state = t; price = n })
    (sum_assoc s.price (step_price s.state) (spent (program_of s.definitions) 0 d m)
    ∙ ap (λ n. s.price + n) (sym (adds (program_of s.definitions) (step_price s.state) 0 d m)
    ∙ ap (λ n. spent (program_of s.definitions) n d m) (sum_turned (step_price s.state))))
  where
    sum_assoc : (a b c : ℕ) → a + b + c ≡ a + (b + c)
    sum_assoc a b c = omega arith

    sum_turned : (a : ℕ) → a + 0 ≡ 0 + a
    sum_turned a = omega arith
runs_by adds s d t (Ends end w) running is next inside e each = absurd (end_is_no_state end w t e)

pub words_run : SpentAdds → WordsRunAsSources
unfolding steps session_steps spent
words_run adds s zero t running inside e =
    ap (λ u. record s { state = u; price = s.price }) (goes_same s.state t e)
    ∙ ap (λ n. record s { state = t; price = n }) (sum_zero s.price)
  where
    goes_same : (s t : State) → Goes s ≡ Goes t → s ≡ t
    goes_same s t e = ap (λ o. elim o as (λ x. State) [ Goes u ↦ u | Ends f w ↦ s ]) e

    sum_zero : (a : ℕ) → a ≡ a + 0
    sum_zero a = omega arith
words_run adds s (suc d) t running inside e =
    runs_by adds s d t (step (program_of s.definitions) s.state) running refl
    (inside_step s running (inside 0 s.state (omega arith) refl)) inside e (λ u r i k. words_run adds u d t r i k)
