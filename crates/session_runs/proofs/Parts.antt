-- Parts of runs that go on behind GO, and one call more.
use Rattle.std.proofs.Common.{◌≡◌, ℕ, zero, suc, ◌+◌, Bool, true, false, List, [], ◌∷◌, ◌++◌, refl, ap, sym, subst, ◌∙◌, append_assoc}
use Rattle.std.proofs.Common.{arith}
use Rattle.std.proofs.lemmas.Grind.{common_steps}
use Rattle.j1_simulator.specs.Step.{Storage}
use Rattle.j1_simulator.specs.RoundMachine.{round_storage}
use Rattle.j1_simulator.specs.Run.{Configuration, run, IsPrefixOf}
use Rattle.forth_program.specs.State.{World, State, End, Halted, InputEnded, Outside, Underflow, Unbalanced, Left, Outcome, Goes, Ends}
use Rattle.forth_program.specs.Program.{SourceProgram}
use Rattle.forth_program.specs.Step.{step}
use Rattle.forth_program.specs.Run.{and_then, steps, world_of}
use Rattle.forth_program.specs.RunLaws.{WorldsGrow}
use Rattle.forth_program.specs.Price.{step_price, spent, spent_after}
use Rattle.forth_program.specs.Returns.{Return, state_back, come_back, steps_back, spent_back_after, spent_back}
use Rattle.code_layout.specs.Agreement.{code_of}
use Rattle.code_layout.specs.Returning.{is_leaving, last_of_go}
use Rattle.code_layout.specs.ReturningChip.{round_back}
use Rattle.session_runs.specs.Splicing.{CalledCode, instruction, ComesBackFirst, Which, CallsComeBack, LedOutFirst, IsLedOutTo, returns_of}
use Rattle.session_runs.specs.Parts.{QuietPartsGoFirst, ReturnsGoOn, TextsOnlyPrintMore, TextsStayEnded, OneMoreComesBack, LedOutToOnePlace}

-- ---- the text

end_is_no_state : (end : End) (world : World) (t : State) → Ends end world ≡ Goes t → ⊥
end_is_no_state end world t e = subst (λ o. elim o as (λ x. Type 0) [ Goes s ↦ ⊥ | Ends f w ↦ Unit {0} ]) e tt

quiet_by : (p : SourceProgram) (backs : List Return) (total a b : ℕ) (s t : State) (o : Outcome) → and_then o (steps p a) ≡ Goes t →
    ((m : State) → steps p a m ≡ Goes t → (steps_back p backs (a + b) m ≡ steps_back p backs b t) ×
    (spent_back p backs total (a + b) m ≡ spent_back p backs (spent p total a m) b t)) →
    (come_back backs s o (λ rest m. steps_back p rest (a + b) m) ≡ steps_back p backs b t)
    × (spent_back_after backs s total o (λ rest m. spent_back p rest total (a + b) m)
    ≡ spent_back p backs (spent_after total o (spent p total a)) b t)
quiet_by p backs total a b s t (Goes m) e each = each m e
quiet_by p backs total a b s t (Ends end w) e each = absurd (end_is_no_state end w t e)

pub quiet : QuietPartsGoFirst
unfolding steps steps_back spent spent_back
quiet p backs total zero b s t e =
    let same : s ≡ t = goes_same s t e in (
      ap (λ n. steps_back p backs n s) (zero_sum b) ∙ ap (λ x. steps_back p backs b x) same,
      ap (λ n. spent_back p backs total n s)
          (zero_sum b) ∙ ap (λ x. spent_back p backs total b x) same,
    )
  where
    zero_sum : (b : ℕ) → zero + b ≡ b
    zero_sum b = omega arith

    goes_same : (s t : State) → Goes s ≡ Goes t → s ≡ t
    goes_same s t e = ap (λ o. elim o as (λ x. State) [ Goes u ↦ u | Ends f w ↦ s ]) e
quiet p backs total (suc a) b s t e =
    let h = quiet_by p backs (total + step_price s) a b s t (step p s) e (λ m k. quiet p backs (total + step_price s) a b m t k) in
    (ap (λ n. steps_back p backs n s) (suc_sum a b) ∙ h.0, ap (λ n. spent_back p backs total n s) (suc_sum a b) ∙ h.1)
  where
    suc_sum : (a b : ℕ) → suc a + b ≡ suc (a + b)
    suc_sum a b = omega arith

pub returns_on : ReturnsGoOn
unfolding steps_back spent_back
returns_on p back backs total b address s world e = (
  ap (λ o. come_back (back ∷ backs) s o (λ rest t. steps_back p rest b t)) e,
  ap
      (λ o. spent_back_after (back ∷ backs) s (total + step_price s) o (λ rest t. spent_back p rest (total + step_price s) b t)) e,
)

-- ---- prints

whole : (xs : List ℕ) → IsPrefixOf xs xs
whole xs = ([], grind (arith, common_steps))

through : (xs ys zs : List ℕ) → IsPrefixOf xs ys → IsPrefixOf ys zs → IsPrefixOf xs zs
through xs ys zs h k = (h.0 ++ k.0, sym (append_assoc xs h.0 k.0) ∙ ap (λ v. v ++ k.0) h.1 ∙ k.1)

step_prints : WorldsGrow → (p : SourceProgram) (s : State) → IsPrefixOf s.world.printed (world_of (step p s)).printed
unfolding steps
step_prints grow p s = one_of (step p s) ((grow p 1 s).prints)
  where
    one_of : (o : Outcome) → (more : List ℕ) × ((world_of (and_then o (λ t. Goes t))).printed ≡ s.world.printed ++ more) →
        IsPrefixOf s.world.printed (world_of o).printed
    one_of (Goes t) h = (h.0, sym h.1)
    one_of (Ends end w) h = (h.0, sym h.1)

come_prints : (p : SourceProgram) (backs : List Return) (s : State) (o : Outcome) (next : List Return → State → Outcome) →
    IsPrefixOf s.world.printed (world_of o).printed →
    ((rest : List Return) (t : State) → IsPrefixOf t.world.printed (world_of (next rest t)).printed) →
    IsPrefixOf s.world.printed (world_of (come_back backs s o next)).printed
come_prints p backs s (Goes t) next h each = through s.world.printed t.world.printed (world_of (next backs t)).printed h (each backs t)
come_prints p [] s (Ends end w) next h each = h
come_prints p (back ∷ backs) s (Ends (Left address) w) next h each =
    through s.world.printed (s.world.printed ++ back.printed) (world_of (next backs (state_back back s))).printed (back.printed, refl)
    (each backs (state_back back s))
come_prints p (back ∷ backs) s (Ends (Halted status) w) next h each = h
come_prints p (back ∷ backs) s (Ends InputEnded w) next h each = h
come_prints p (back ∷ backs) s (Ends (Outside address) w) next h each = h
come_prints p (back ∷ backs) s (Ends Underflow w) next h each = h
come_prints p (back ∷ backs) s (Ends Unbalanced w) next h each = h

run_prints : WorldsGrow → (p : SourceProgram) (backs : List Return) (k : ℕ) (s : State) →
    IsPrefixOf s.world.printed (world_of (steps_back p backs k s)).printed
unfolding steps_back
run_prints grow p backs zero s = whole s.world.printed
run_prints grow p backs (suc k) s = come_prints p backs s (step p s) (λ rest t. steps_back p rest k t) (step_prints grow p s)
    (λ rest t. run_prints grow p rest k t)

-- a longer run is a shorter one that goes on where it has not ended
longer_by : (p : SourceProgram) (a b : ℕ) (backs : List Return) (s : State) (o : Outcome) →
    ((rest : List Return) (t : State) → IsPrefixOf (world_of (steps_back p rest a t)).printed
    (world_of (steps_back p rest (a + b) t)).printed) →
    IsPrefixOf (world_of (come_back backs s o (λ rest t. steps_back p rest a t))).printed
    (world_of (come_back backs s o (λ rest t. steps_back p rest (a + b) t))).printed
longer_by p a b backs s (Goes t) each = each backs t
longer_by p a b [] s (Ends end w) each = whole w.printed
longer_by p a b (back ∷ backs) s (Ends (Left address) w) each = each backs (state_back back s)
longer_by p a b (back ∷ backs) s (Ends (Halted status) w) each = whole w.printed
longer_by p a b (back ∷ backs) s (Ends InputEnded w) each = whole w.printed
longer_by p a b (back ∷ backs) s (Ends (Outside address) w) each = whole w.printed
longer_by p a b (back ∷ backs) s (Ends Underflow w) each = whole w.printed
longer_by p a b (back ∷ backs) s (Ends Unbalanced w) each = whole w.printed

pub print_more : WorldsGrow → TextsOnlyPrintMore
unfolding steps_back
print_more grow p backs zero b s = subst (λ n. IsPrefixOf s.world.printed (world_of (steps_back p backs n s)).printed) (zero_sum b)
    (run_prints grow p backs b s)
  where
    zero_sum : (b : ℕ) → b ≡ zero + b
    zero_sum b = omega arith
print_more grow p backs (suc a) b s =
    subst (λ n. IsPrefixOf (world_of (steps_back p backs (suc a) s)).printed (world_of (steps_back p backs n s)).printed) (suc_sum a b)
    (longer_by p a b backs s (step p s) (λ rest t. print_more grow p rest a b t))
  where
    suc_sum : (a b : ℕ) → suc (a + b) ≡ suc a + b
    suc_sum a b = omega arith

ends_by : (p : SourceProgram) (a b : ℕ) (backs : List Return) (s : State) (o : Outcome) (end : End) (world : World) →
    ((rest : List Return) (t : State) → steps_back p rest a t ≡ Ends end world → steps_back p rest (a + b) t ≡ Ends end world) →
    come_back backs s o (λ rest t. steps_back p rest a t) ≡ Ends end world →
    come_back backs s o (λ rest t. steps_back p rest (a + b) t) ≡ Ends end world
ends_by p a b backs s (Goes t) end world each e = each backs t e
ends_by p a b [] s (Ends f w) end world each e = e
ends_by p a b (back ∷ backs) s (Ends (Left address) w) end world each e = each backs (state_back back s) e
ends_by p a b (back ∷ backs) s (Ends (Halted status) w) end world each e = e
ends_by p a b (back ∷ backs) s (Ends InputEnded w) end world each e = e
ends_by p a b (back ∷ backs) s (Ends (Outside address) w) end world each e = e
ends_by p a b (back ∷ backs) s (Ends Underflow w) end world each e = e
ends_by p a b (back ∷ backs) s (Ends Unbalanced w) end world each e = e

pub stay_ended : TextsStayEnded
unfolding steps_back
stay_ended p backs zero b s end world e = absurd (end_is_no_state end world s (sym e))
stay_ended p backs (suc a) b s end world e =
    ap (λ n. steps_back p backs n s) (suc_sum a b) ∙ ends_by p a b backs s (step p s) end world
    (λ rest t k. stay_ended p rest a b t end world k) e
  where
    suc_sum : (a b : ℕ) → suc a + b ≡ suc (a + b)
    suc_sum a b = omega arith

-- ---- calls

module _ {V S R : Type 0} (storage : Storage V S) (comes_back : R → Configuration V S → Configuration V S) (last data_start : ℕ) where
  abbrev HasCome : CalledCode R → Configuration V S → Type 0
  HasCome call u = run storage data_start call.count u ≡ comes_back call.returned u

  first_more : (n : ℕ) (calls : List (CalledCode R)) (call : CalledCode R) (v : Configuration V S) →
      ((others : List (CalledCode R)) (x : Configuration V S) → CallsComeBack storage comes_back last data_start others n x →
      ((u : Configuration V S) → IsLedOutTo storage comes_back last data_start (returns_of others) n x u → HasCome call u) →
      CallsComeBack storage comes_back last data_start (others ++ call ∷ []) n x) →
      ((x : Configuration V S) → CallsComeBack storage comes_back last data_start [] n x) →
      ComesBackFirst storage comes_back last data_start calls v (λ others x. CallsComeBack storage comes_back last data_start others n x) →
      ((u : Configuration V S) → LedOutFirst storage comes_back last data_start (returns_of calls) v u
      (λ others x. IsLedOutTo storage comes_back last data_start others n x u) → HasCome call u) →
      ComesBackFirst storage comes_back last data_start (calls ++ call ∷ []) v
      (λ others x. CallsComeBack storage comes_back last data_start others n x)
  first_more n [] call v each none h led = (led v refl, none (comes_back call.returned v))
  first_more n (one ∷ calls) call v each none h led = (h.0, each calls (comes_back one.returned v) h.1 led)

  which_more : (b : Bool) (n : ℕ) (calls : List (CalledCode R)) (call : CalledCode R) (v : Configuration V S) →
      ((others : List (CalledCode R)) (x : Configuration V S) → CallsComeBack storage comes_back last data_start others n x →
      ((u : Configuration V S) → IsLedOutTo storage comes_back last data_start (returns_of others) n x u → HasCome call u) →
      CallsComeBack storage comes_back last data_start (others ++ call ∷ []) n x) →
      ((x : Configuration V S) → CallsComeBack storage comes_back last data_start [] n x) →
      Which storage comes_back last data_start b (ComesBackFirst storage comes_back last data_start calls v
      (λ others x. CallsComeBack storage comes_back last data_start others n x))
      (CallsComeBack storage comes_back last data_start calls n v) →
      ((u : Configuration V S) → Which storage comes_back last data_start b
      (LedOutFirst storage comes_back last data_start (returns_of calls) v u
      (λ others x. IsLedOutTo storage comes_back last data_start others n x u))
      (IsLedOutTo storage comes_back last data_start (returns_of calls) n v u) → HasCome call u) →
      Which storage comes_back last data_start b (ComesBackFirst storage comes_back last data_start (calls ++ call ∷ []) v
      (λ others x. CallsComeBack storage comes_back last data_start others n x))
      (CallsComeBack storage comes_back last data_start (calls ++ call ∷ []) n v)
  which_more true n calls call v each none h led = first_more n calls call v each none h led
  which_more false n calls call v each none h led = each calls v h led

  which_none : (b : Bool) (A : Type 0) → A → Which storage comes_back last data_start b (Unit {0}) A
  which_none true A h = tt
  which_none false A h = h

  pub no_call : (n : ℕ) (w : Configuration V S) → CallsComeBack storage comes_back last data_start [] n w
  unfolding CallsComeBack
  no_call zero w = tt
  no_call (suc n) w = which_none (is_leaving last w) (CallsComeBack storage comes_back last data_start [] n
      (instruction storage comes_back last data_start w)) (no_call n (instruction storage comes_back last data_start w))

  pub one_more : (n : ℕ) (calls : List (CalledCode R)) (call : CalledCode R) (w : Configuration V S) →
      CallsComeBack storage comes_back last data_start calls n w →
      ((u : Configuration V S) → IsLedOutTo storage comes_back last data_start (returns_of calls) n w u → HasCome call u) →
      CallsComeBack storage comes_back last data_start (calls ++ call ∷ []) n w
  unfolding CallsComeBack IsLedOutTo
  one_more zero calls call w h led = tt
  one_more (suc n) calls call w h led =
      which_more (is_leaving last w) n calls call (instruction storage comes_back last data_start w)
      (λ others x k l. one_more n others call x k l) (λ x. no_call n x) h led

  -- ---- one place

  first_one : (m n : ℕ) (returns : List R) (x u v : Configuration V S) →
      ((others : List R) (y : Configuration V S) → IsLedOutTo storage comes_back last data_start others m y u →
      IsLedOutTo storage comes_back last data_start others n y v → u ≡ v) →
      LedOutFirst storage comes_back last data_start returns x u (λ others y. IsLedOutTo storage comes_back last data_start others m y u) →
      LedOutFirst storage comes_back last data_start returns x v (λ others y. IsLedOutTo storage comes_back last data_start others n y v) →
      u ≡ v
  first_one m n [] x u v each h k = sym h ∙ k
  first_one m n (r ∷ returns) x u v each h k = each returns (comes_back r x) h k

  which_one : (b : Bool) (m n : ℕ) (returns : List R) (x u v : Configuration V S) →
      ((others : List R) (y : Configuration V S) → IsLedOutTo storage comes_back last data_start others m y u →
      IsLedOutTo storage comes_back last data_start others n y v → u ≡ v) →
      Which storage comes_back last data_start b (LedOutFirst storage comes_back last data_start returns x u
      (λ others y. IsLedOutTo storage comes_back last data_start others m y u))
      (IsLedOutTo storage comes_back last data_start returns m x u) →
      Which storage comes_back last data_start b (LedOutFirst storage comes_back last data_start returns x v
      (λ others y. IsLedOutTo storage comes_back last data_start others n y v))
      (IsLedOutTo storage comes_back last data_start returns n x v) → u ≡ v
  which_one true m n returns x u v each h k = first_one m n returns x u v each h k
  which_one false m n returns x u v each h k = each returns x h k

  pub one_place : (m n : ℕ) (returns : List R) (w u v : Configuration V S) → IsLedOutTo storage comes_back last data_start returns m w u →
      IsLedOutTo storage comes_back last data_start returns n w v → u ≡ v
  unfolding IsLedOutTo
  one_place zero n returns w u v h k = absurd h
  one_place (suc m) zero returns w u v h k = absurd k
  one_place (suc m) (suc n) returns w u v h k = which_one (is_leaving last w) m n returns
      (instruction storage comes_back last data_start w) u v (λ others y a b. one_place m n others y u v a b) h k

pub one_more_comes_back : OneMoreComesBack
one_more_comes_back library p calls call w come led n =
    one_more round_storage (round_back (code_of library p)) (last_of_go library p) p.data_start n calls call w (come n) (λ u l. led n u l)

pub led_out_to_one_place : LedOutToOnePlace
led_out_to_one_place library p returns m n w u v h k = one_place round_storage (round_back (code_of library p))
    (last_of_go library p) p.data_start m n returns w u v h k
