-- Runs of a source that go on behind GO, up to the first GO and behind it.
use Rattle.std.proofs.Common.{◌≡◌, ℕ, zero, suc, ◌+◌, ◌⊎◌, inl, inr, true, false, List, [], ◌∷◌, refl, sym, ap, ◌∙◌, subst, arith}
use Rattle.forth_program.specs.State.{World, State, End, Halted, InputEnded, Outside, Underflow, Unbalanced, Left, Outcome, Goes, Ends}
use Rattle.forth_program.specs.Program.{SourceProgram}
use Rattle.forth_program.specs.Step.{step}
use Rattle.forth_program.specs.Run.{steps, leaves}
use Rattle.forth_program.specs.Price.{step_price, spent}
use Rattle.forth_program.specs.Returns.{Return, come_back, steps_back, spent_back_after, spent_back}
use Rattle.code_layout.proofs.Runs.{steps_on, steps_end, spent_on, spent_end}

ends_so : (backs : List Return) (s : State) (end : End) (world : World) (next : List Return → State → Outcome) → leaves (Ends end world) ≡ false → come_back backs s (Ends end world) next ≡ Ends end world
ends_so [] s end world next e = refl
ends_so (back ∷ backs) s (Halted status) world next e = refl
ends_so (back ∷ backs) s InputEnded world next e = refl
ends_so (back ∷ backs) s (Outside address) world next e = refl
ends_so (back ∷ backs) s Underflow world next e = refl
ends_so (back ∷ backs) s Unbalanced world next e = refl
ends_so (back ∷ backs) s (Left address) world next e = absurd (let f : true ≡ false = e in cc)

ends_spending : (backs : List Return) (s : State) (total : ℕ) (end : End) (world : World) (next : List Return → State → ℕ) → leaves (Ends end world) ≡ false → spent_back_after backs s total (Ends end world) next ≡ total
ends_spending [] s total end world next e = refl
ends_spending (back ∷ backs) s total (Halted status) world next e = refl
ends_spending (back ∷ backs) s total InputEnded world next e = refl
ends_spending (back ∷ backs) s total (Outside address) world next e = refl
ends_spending (back ∷ backs) s total Underflow world next e = refl
ends_spending (back ∷ backs) s total Unbalanced world next e = refl
ends_spending (back ∷ backs) s total (Left address) world next e = absurd (let f : true ≡ false = e in cc)

module _ (p : SourceProgram) where
  steps_back_on : (backs : List Return) (k : ℕ) (s m : State) → step p s ≡ Goes m → steps_back p backs (suc k) s ≡ steps_back p backs k m
  unfolding steps_back
  steps_back_on backs k s m e = ap (λ o. come_back backs s o (λ rest t. steps_back p rest k t)) e

  spent_back_on : (backs : List Return) (total k : ℕ) (s m : State) → step p s ≡ Goes m → spent_back p backs total (suc k) s ≡ spent_back p backs (total + step_price s) k m
  unfolding spent_back
  spent_back_on backs total k s m e = ap (λ o. spent_back_after backs s (total + step_price s) o (λ rest t. spent_back p rest (total + step_price s) k t)) e

  -- a run that GO does not lead out is the same
  abbrev pub IsPlain : List Return → ℕ → ℕ → State → Type 0
  IsPlain backs total k s = (steps_back p backs k s ≡ steps p k s) × (spent_back p backs total k s ≡ spent p total k s)

  other_end : (backs : List Return) (total k : ℕ) (s : State) (end : End) (world : World) → leaves (Ends end world) ≡ false → step p s ≡ Ends end world → IsPlain backs total (suc k) s
  unfolding steps_back spent_back
  other_end backs total k s end world stays e =
      let spends = ends_spending backs s (total + step_price s) end world (λ rest t. spent_back p rest (total + step_price s) k t) stays in (
        ap (λ o. come_back backs s o (λ rest t. steps_back p rest k t)) e ∙ ends_so backs s end world (λ rest t. steps_back p rest k t) stays ∙ sym (steps_end p s k total end world e),
        ap (λ o. spent_back_after backs s (total + step_price s) o (λ rest t. spent_back p rest (total + step_price s) k t)) e ∙ spends ∙ sym (spent_end p s k total end world e),
      )

  plain_by : (backs : List Return) (total k : ℕ) (s : State) (o : Outcome) → step p s ≡ o → leaves (steps p (suc k) s) ≡ false →
      ((m : State) → leaves (steps p k m) ≡ false → IsPlain backs (total + step_price s) k m) → IsPlain backs total (suc k) s
  plain_by backs total k s (Goes m) e stays later =
      let h = later m (sym (ap leaves (steps_on p s k total m e)) ∙ stays) in (
        steps_back_on backs k s m e ∙ h.0 ∙ sym (steps_on p s k total m e),
        spent_back_on backs total k s m e ∙ h.1 ∙ sym (spent_on p s k total m e),
      )
  plain_by backs total k s (Ends end world) e stays later = other_end backs total k s end world (sym (ap leaves (steps_end p s k total end world e)) ∙ stays) e

  pub plain : (backs : List Return) (total k : ℕ) (s : State) → leaves (steps p k s) ≡ false → IsPlain backs total k s
  unfolding steps_back spent_back steps spent
  plain backs total zero s stays = (refl, refl)
  plain backs total (suc k) s stays = plain_by backs total k s (step p s) refl stays (λ m h. plain backs (total + step_price s) k m h)

  -- a run that GO leads out, after j steps
  pub record LeavesIn (k : ℕ) (s : State) : Type 0 where
    pub j : ℕ
    pub i : ℕ
    pub last : State
    pub address : ℕ
    pub world : World
    pub parts : k ≡ j + suc i
    pub goes : steps p j s ≡ Goes last
    pub ends : step p last ≡ Ends (Left address) world

  split_end : (k : ℕ) (s : State) (end : End) (world : World) → step p s ≡ Ends end world → (leaves (steps p (suc k) s) ≡ false) ⊎ LeavesIn (suc k) s
  unfolding steps
  split_end k s (Left address) world e = inr (record { j = 0; i = k; last = s; address = address; world = world; parts = omega arith; goes = refl; ends = e })
  split_end k s (Halted status) world e = inl (ap leaves (steps_end p s k 0 (Halted status) world e))
  split_end k s InputEnded world e = inl (ap leaves (steps_end p s k 0 InputEnded world e))
  split_end k s (Outside address) world e = inl (ap leaves (steps_end p s k 0 (Outside address) world e))
  split_end k s Underflow world e = inl (ap leaves (steps_end p s k 0 Underflow world e))
  split_end k s Unbalanced world e = inl (ap leaves (steps_end p s k 0 Unbalanced world e))

  split_by : (k : ℕ) (s : State) (o : Outcome) → step p s ≡ o → ((m : State) → (leaves (steps p k m) ≡ false) ⊎ LeavesIn k m) → (leaves (steps p (suc k) s) ≡ false) ⊎ LeavesIn (suc k) s
  split_by k s (Goes m) e later = by (later m)
    where
      by : (leaves (steps p k m) ≡ false) ⊎ LeavesIn k m → (leaves (steps p (suc k) s) ≡ false) ⊎ LeavesIn (suc k) s
      by (inl h) = inl (ap leaves (steps_on p s k 0 m e) ∙ h)
      by (inr l) = let parts = l.parts in inr (record { j = suc l.j; i = l.i; last = l.last; address = l.address; world = l.world; parts = omega (arith, parts); goes = steps_on p s l.j 0 m e ∙ l.goes; ends = l.ends })
  split_by k s (Ends end world) e later = split_end k s end world e

  pub split : (k : ℕ) (s : State) → (leaves (steps p k s) ≡ false) ⊎ LeavesIn k s
  unfolding steps
  split zero s = inl refl
  split (suc k) s = split_by k s (step p s) refl (λ m. split k m)

  -- the step of GO, and what follows it
  abbrev pub Behind : List Return → ℕ → ℕ → ℕ → State → State → ℕ → World → Type 0
  Behind backs total j i s t address world =
      (steps_back p backs (j + suc i) s ≡ come_back backs t (Ends (Left address) world) (λ rest u. steps_back p rest i u))
      × (spent_back p backs total (j + suc i) s
      ≡ spent_back_after backs t (spent p total j s + step_price t) (Ends (Left address) world) (λ rest u. spent_back p rest (spent p total j s + step_price t) i u))

  behind_now : (backs : List Return) (total i : ℕ) (t : State) (address : ℕ) (world : World) → step p t ≡ Ends (Left address) world → Behind backs total 0 i t t address world
  unfolding steps_back spent_back spent
  behind_now backs total i t address world e = (
    ap (λ n. steps_back p backs n t) (nothing_more i) ∙ ap (λ o. come_back backs t o (λ rest u. steps_back p rest i u)) e,
    ap (λ n. spent_back p backs total n t) (nothing_more i) ∙ ap (λ o. spent_back_after backs t (total + step_price t) o (λ rest u. spent_back p rest (total + step_price t) i u)) e,
  )
    where
      nothing_more : (i : ℕ) → 0 + suc i ≡ suc i
      nothing_more i = omega arith

  behind_by : (backs : List Return) (total j i : ℕ) (s t : State) (address : ℕ) (world : World) (o : Outcome) → step p s ≡ o → steps p (suc j) s ≡ Goes t →
      ((m : State) → steps p j m ≡ Goes t → Behind backs (total + step_price s) j i m t address world) → Behind backs total (suc j) i s t address world
  behind_by backs total j i s t address world (Goes m) e goes later =
      let h = later m (sym (steps_on p s j total m e) ∙ goes) in
      let same = sym (spent_on p s j total m e) in (
        ap (λ n. steps_back p backs n s) (more j i) ∙ steps_back_on backs (j + suc i) s m e ∙ h.0,
        ap (λ n. spent_back p backs total n s) (more j i) ∙ spent_back_on backs total (j + suc i) s m e ∙ h.1
            ∙ ap (λ n. spent_back_after backs t (n + step_price t) (Ends (Left address) world) (λ rest u. spent_back p rest (n + step_price t) i u)) same,
      )
    where
      more : (j i : ℕ) → suc j + suc i ≡ suc (j + suc i)
      more j i = omega arith
  behind_by backs total j i s t address world (Ends end w) e goes later = absurd (let f : Ends end w ≡ Goes t = sym (steps_end p s j total end w e) ∙ goes in cc)

  pub behind : (backs : List Return) (total j i : ℕ) (s t : State) (address : ℕ) (world : World) → steps p j s ≡ Goes t → step p t ≡ Ends (Left address) world → Behind backs total j i s t address world
  unfolding steps
  behind backs total zero i s t address world goes ends = let same : s ≡ t = cc in subst (λ x. Behind backs total 0 i x t address world) (sym same) (behind_now backs total i t address world ends)
  behind backs total (suc j) i s t address world goes ends =
      behind_by backs total j i s t address world (step p s) refl goes (λ m h. behind backs (total + step_price s) j i m t address world h ends)
