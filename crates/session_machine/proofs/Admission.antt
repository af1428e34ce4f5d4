-- Whether lines are admitted, by computation: for a session that ends, each moment up to its end is looked at.
use Rattle.std.proofs.Common.{◌≡◌, ℕ, zero, suc, ◌&&◌, nat_le, not, Bool, true, false, IsTrue, Option, Some, None, List, length, refl, ap}
use Rattle.std.proofs.Common.{sym, ◌∙◌}
use Rattle.std.specs.List.{list_all}
use Rattle.forth_program.specs.State.{End}
use Rattle.session_machine.specs.Lines.{line_words}
use Rattle.session_machine.specs.Session.{Session, action_of, session_step, session_steps, first_session, session_run}
use Rattle.session_machine.specs.Admitted.{effects_of, name_is_free, unknown_is_free, nests_little, effect_is_small, finds_cells}
use Rattle.session_machine.specs.Admitted.{has_few_cells, bytes_of_definitions, Keeps, is_typed, Admitted}
use Rattle.session_machine.proofs.Steps.{stay_ended}

abbrev pub keeps : Session → Bool
keeps s =
    name_is_free (action_of s) && (unknown_is_free (action_of s) &&
    (nests_little (action_of s) && (effect_is_small (effects_of s.definitions) (action_of s)
    && (finds_cells (effects_of s.definitions) s.state.cells (action_of s) && (has_few_cells s.state.cells (action_of s)
    && (nat_le (length s.definitions) 64 && nat_le (bytes_of_definitions s.definitions) 4000))))))

abbrev is_some : Option End → Bool
is_some None = false
is_some (Some end) = true

-- at each of n moments, and then the session has ended
abbrev pub keeps_for : ℕ → Session → Bool
keeps_for zero s = is_some s.end
keeps_for (suc n) s = keeps s && keeps_for n (session_step s)

first_of : (a b : Bool) → IsTrue (a && b) → IsTrue a
first_of true b h = refl
first_of false b h = absurd (let g : false ≡ true = h in cc)

second_of : (a b : Bool) → IsTrue (a && b) → IsTrue b
second_of true b h = h
second_of false b h = absurd (let g : false ≡ true = h in cc)

keeps_is : (s : Session) → IsTrue (keeps s) → Keeps s
keeps_is s h =
    let h1 = second_of (name_is_free (action_of s)) _ h in
    let h2 = second_of (unknown_is_free (action_of s)) _ h1 in
    let h3 = second_of (nests_little (action_of s)) _ h2 in
    let h4 = second_of (effect_is_small (effects_of s.definitions) (action_of s)) _ h3 in
    let h5 = second_of (finds_cells (effects_of s.definitions) s.state.cells (action_of s)) _ h4 in
    let h6 = second_of (has_few_cells s.state.cells (action_of s)) _ h5 in
    record {
      name = first_of _ _ h;
      unknown = first_of _ _ h1;
      nested = first_of _ _ h2;
      effect = first_of _ _ h3;
      cells_before = first_of _ _ h4;
      cells_after = first_of _ _ h5;
      few_definitions = first_of _ _ h6;
      small_definitions = second_of (nat_le (length s.definitions) 64) _ h6;
    }

has_end : (k : ℕ) (s : Session) (o : Option End) → s.end ≡ o → IsTrue (is_some o) → (session_steps k s).end ≡ None → ⊥
has_end k s None h t e = let g : false ≡ true = t in cc
has_end k s (Some end) h t e = let g : false ≡ true = sym (ap is_some (sym h ∙ sym (ap (λ u. u.end) (stay_ended k s end h)) ∙ e)) in cc

keeps_each : (n k : ℕ) (s : Session) → IsTrue (keeps_for n s) → (session_steps k s).end ≡ None → Keeps (session_steps k s)
unfolding session_steps
keeps_each zero k s h e = absurd (has_end k s s.end refl h e)
keeps_each (suc n) zero s h e = keeps_is s (first_of (keeps s) _ h)
keeps_each (suc n) (suc k) s h e = keeps_each n k (session_step s) (second_of (keeps s) _ h) e

-- a moment of a session that still runs, at which a condition fails
abbrev pub refuses : List (List ℕ) → ℕ → Bool
refuses lines k = not (is_some (session_run lines k).end) && not (keeps (session_run lines k))

abbrev pub admits : List (List ℕ) → ℕ → Bool
admits lines n =
    list_all (λ line. nat_le (length line) 80) lines && (list_all (list_all is_typed) lines
    && (list_all (λ line. list_all (λ word. nat_le (length word) 31) (line_words line)) lines && keeps_for n (first_session lines)))

pub admitted_by : (lines : List (List ℕ)) (n : ℕ) → IsTrue (admits lines n) → Admitted lines
unfolding session_run
admitted_by lines n h =
    let h1 = second_of (list_all (λ line. nat_le (length line) 80) lines) _ h in
    let h2 = second_of (list_all (list_all is_typed) lines) _ h1 in
    record {
      short_lines = first_of _ _ h;
      typed_bytes = first_of _ _ h1;
      short_words = first_of _ _ h2;
      moments = λ k e. keeps_each n k (first_session lines)
          (second_of (list_all (λ line. list_all (λ word. nat_le (length word) 31) (line_words line)) lines) _ h2) e;
    }
