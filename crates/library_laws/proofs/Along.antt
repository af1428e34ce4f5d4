-- Along a run of a definition the stacks stay within what a walk found.
use Rattle.std.proofs.Common.{◌≡◌, ℕ, zero, suc, ◌+◌, ◌-◌, ◌≤◌, ◌<◌, Some, List, [], ◌∷◌, length, refl, ap, sym, ◌∙◌, subst, arith}
use Rattle.word_table.specs.declared.word.Word.{Word}
use Rattle.word_table.specs.Table.{entry_of}
use Rattle.forth_program.specs.Tree.{Nodes}
use Rattle.forth_program.specs.State.{Work, Frame, World, State, Outcome, Goes, Ends}
use Rattle.forth_program.specs.Program.{SourceProgram}
use Rattle.forth_program.specs.Step.{first_work, step}
use Rattle.forth_program.specs.Run.{steps, and_then}
use Rattle.forth_program.specs.Heights.{entries_height, step_peak, back_of}
use Rattle.library_laws.specs.Library.{entered, TakesNoMore}
use Rattle.library_laws.proofs.Walk.{walk, Walks, Stays, Keeps, work_first, first_fits, first_keeps, walks_before, FirstLater}

module _ (high return_high base : ℕ) (p : SourceProgram) (fs : List Frame) where
  abbrev Busy : State → Type 0
  Busy u = (work : Work) × (after : List Work) × (u.work ≡ work ∷ after)

  keeps_step : (s : State) (w : Work) (ws : List Work) → s.work ≡ w ∷ ws → Stays high return_high base p fs s → Keeps high return_high base p fs (step p s)
  unfolding step
  keeps_step s w ws same st =
      let f = subst (λ z. FirstLater high return_high (first_work z) st.cells_at st.entries_at) (sym same)
      (work_first high return_high w ws st.cells_at st.entries_at (subst (λ z. Walks high return_high z st.cells_at st.entries_at) same st.walks)) in
      let a = st.cells_within in
      let b = f.cells_least in
      let c = st.entries_within in
      let d = f.entries_least in
      first_keeps high return_high base p fs (first_work s.work) s st.callers f.cells f.entries (omega (arith, a, b)) (omega (arith, c, d)) f.walks

  along : (j : ℕ) (s u : State) → Stays high return_high base p fs s → steps p j s ≡ Goes u → ((i : ℕ) (v : State) → i < j → steps p i s ≡ Goes v → Busy v) → Stays high return_high base p fs u
  unfolding steps
  along zero s u st e busy = let same : s ≡ u = cc in subst (Stays high return_high base p fs) same st
  along (suc j) s u st e busy = through (step p s) refl (let b = busy 0 s (omega arith) refl in keeps_step s b.0 b.1 b.2 st) e (λ s' x f k g. along j s' u f k g)
    where
      through : (x : Outcome) → step p s ≡ x → Keeps high return_high base p fs x → and_then x (steps p j) ≡ Goes u →
          ((s' : State) → step p s ≡ Goes s' → Stays high return_high base p fs s' → steps p j s' ≡ Goes u →
          ((i : ℕ) (v : State) → i < j → steps p i s' ≡ Goes v → Busy v) → Stays high return_high base p fs u) → Stays high return_high base p fs u
      through (Goes s') x k f more = more s' x k f (λ i v h g. busy (suc i) v (omega (arith, h)) (ap (λ z. and_then z (steps p i)) x ∙ g))
      through (Ends end w) x k f more = let no : ⊥ = cc in absurd no

  fits : (u : State) → Stays high return_high base p fs u → (b : Busy u) → (length u.cells + step_peak (first_work u.work) ≤ base + high) × (1 + entries_height u.entries + back_of (first_work u.work) ≤ return_high)
  fits u st b =
      let f = subst (λ z. FirstLater high return_high (first_work z) st.cells_at st.entries_at) (sym b.2)
      (work_first high return_high b.0 b.1 st.cells_at st.entries_at (subst (λ z. Walks high return_high z st.cells_at st.entries_at) b.2 st.walks)) in
      let g = first_fits high return_high (first_work u.work) f.cells f.entries f.walks in
      let a = st.cells_within in
      let b' = f.cells_least in
      let c = st.entries_within in
      let d = f.entries_least in
      (let h = g.0 in omega (arith, a, b', h), let h = g.1 in omega (arith, c, d, h))

-- from the beginning of a definition
pub definition_fits : (body : Nodes) (word : Word) (p : SourceProgram) (callers : List Frame) (c : List ℕ) (w : World) (x : ℕ × ℕ) →
    walk ((entry_of word).need + (entry_of word).peak) (entry_of word).back body (entry_of word).need 1 ≡ Some x → (entry_of word).need ≤ length c →
    (j : ℕ) (s : State) → steps p j (entered body callers c w) ≡ Goes s →
    ((i : ℕ) (v : State) → i < suc j → steps p i (entered body callers c w) ≡ Goes v → (work : Work) × (after : List Work) × (v.work ≡ work ∷ after)) → TakesNoMore word (length c) callers s
definition_fits body word p callers c w x e need j s run busy =
    let high : ℕ = (entry_of word).need + (entry_of word).peak in
    let base : ℕ = length c - (entry_of word).need in
    let start = walks_before high (entry_of word).back body [] (entry_of word).need 1 x e
    (record { cells = x.0; entries = x.1; cells_least = omega arith; entries_least = omega arith; walks = tt }) in
    let a = start.cells_least in
    let b = start.entries_least in
    let st = along high (entry_of word).back base p callers j (entered body callers c w) s (record {
      cells_at = start.cells;
      entries_at = start.entries;
      cells_within = omega (arith, a, need);
      entries_within = omega (arith, b);
      walks = start.walks;
      callers = refl;
    }) run (λ i v h g. busy i v (omega (arith, h)) g) in
    let here = busy j s (omega arith) run in
    let f = fits high (entry_of word).back base p callers s st here in
    record { work = here.0; after = here.1; busy = here.2; callers = st.callers; cells = (let h = f.0 in omega (arith, h, need)); returns = f.1 }
