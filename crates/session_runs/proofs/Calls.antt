-- Where a run is: in the text behind so many calls, or in the code of the next one.
use Rattle.std.proofs.Common.{◌≡◌, ⊎_elim, ℕ, zero, suc, ◌+◌, ◌-◌, ◌<◌, ◌≤◌, Bool, true, false, if◌then◌else◌, List, [], ◌∷◌, take, drop}
use Rattle.std.proofs.Common.{refl, ap, sym, subst, ◌∙◌, arith}
use Rattle.std.proofs.lemmas.Bool.{cases_lt}
use Rattle.j1_simulator.specs.Step.{Storage}
use Rattle.j1_simulator.specs.Run.{Configuration, run}
use Rattle.code_layout.specs.Returning.{goes_back, is_leaving, run_returning}
use Rattle.session_runs.specs.Splicing.{CalledCode, instruction, ComesBackFirst, Which, CallsComeBack, first_count, with_calls, LedOutFirst}
use Rattle.session_runs.specs.Splicing.{IsLedOutTo, IsInside, total_count, returns_of}
use Rattle.session_runs.proofs.Splicing.{run_more}

module _ {V S R : Type 0} (storage : Storage V S) (comes_back : R → Configuration V S → Configuration V S) (last data_start : ℕ) where
  -- ---- the first calls alone

  first_take : (j : ℕ) (calls : List (CalledCode R)) (u : Configuration V S) (Later : List (CalledCode R) → Configuration V S → Type 0) →
      ((i : ℕ) (others : List (CalledCode R)) (v : Configuration V S) → Later others v → Later (take i others) v) →
      ComesBackFirst storage comes_back last data_start calls u Later →
      ComesBackFirst storage comes_back last data_start (take j calls) u Later
  first_take zero calls u Later each h = tt
  first_take (suc j) [] u Later each h = tt
  first_take (suc j) (call ∷ calls) u Later each h = (h.0, each j calls (comes_back call.returned u) h.1)

  which_take : (b : Bool) (j : ℕ) (calls : List (CalledCode R)) (u : Configuration V S)
      (Later : List (CalledCode R) → Configuration V S → Type 0) →
      ((i : ℕ) (others : List (CalledCode R)) (v : Configuration V S) → Later others v → Later (take i others) v) →
      Which storage comes_back last data_start b (ComesBackFirst storage comes_back last data_start calls u Later) (Later calls u) →
      Which storage comes_back last data_start b (ComesBackFirst storage comes_back last data_start (take j calls) u Later)
      (Later (take j calls) u)
  which_take true j calls u Later each h = first_take j calls u Later each h
  which_take false j calls u Later each h = each j calls u h

  pub first_come_back : (n j : ℕ) (calls : List (CalledCode R)) (w : Configuration V S) →
      CallsComeBack storage comes_back last data_start calls n w → CallsComeBack storage comes_back last data_start (take j calls) n w
  unfolding CallsComeBack
  first_come_back zero j calls w h = tt
  first_come_back (suc n) j calls w h =
      which_take (is_leaving last w) j calls (instruction storage comes_back last data_start w)
      (λ others v. CallsComeBack storage comes_back last data_start others n v)
      (λ i others v k. first_come_back n i others v k) h

  -- ---- how many instructions

  first_few : (n : ℕ) (calls : List (CalledCode R)) (u : Configuration V S) (later : List (CalledCode R) → Configuration V S → ℕ) →
      ((others : List (CalledCode R)) (v : Configuration V S) → later others v ≤ n + total_count others) →
      first_count storage comes_back last data_start calls u later ≤ n + total_count calls
  first_few n [] u later each = omega arith
  first_few n (call ∷ calls) u later each = let h : later calls (comes_back call.returned u) ≤ n + total_count calls =
      each calls (comes_back call.returned u) in omega (arith, h)

  which_few : (b : Bool) (n : ℕ) (calls : List (CalledCode R)) (u : Configuration V S)
      (later : List (CalledCode R) → Configuration V S → ℕ) →
      ((others : List (CalledCode R)) (v : Configuration V S) → later others v ≤ n + total_count others) →
      suc (elim b as (λ c. ℕ) [ true ↦ first_count storage comes_back last data_start calls u later | false ↦ later calls u ])
      ≤ suc n + total_count calls
  which_few true n calls u later each = let h = first_few n calls u later each in omega (arith, h)
  which_few false n calls u later each = let h : later calls u ≤ n + total_count calls = each calls u in omega (arith, h)

  pub few_with_calls : (n : ℕ) (calls : List (CalledCode R)) (w : Configuration V S) →
      with_calls storage comes_back last data_start calls n w ≤ n + total_count calls
  unfolding with_calls
  few_with_calls zero calls w = omega arith
  few_with_calls (suc n) calls w =
      which_few (is_leaving last w) n calls (instruction storage comes_back last data_start w)
      (λ others v. with_calls storage comes_back last data_start others n v) (λ others v. few_with_calls n others v)

  -- ---- where GO has led out, the run that goes on stays

  first_led : (returns : List R) (v u : Configuration V S) (Later : List R → Configuration V S → Type 0)
      (rest : List R → Configuration V S → Configuration V S) →
      ((others : List R) (x : Configuration V S) → Later others x → rest others x ≡ u) →
      LedOutFirst storage comes_back last data_start returns v u Later → goes_back comes_back returns v rest ≡ u
  first_led [] v u Later rest each h = h
  first_led (r ∷ returns) v u Later rest each h = each returns (comes_back r v) h

  which_led : (b : Bool) (returns : List R) (v u : Configuration V S) (Later : List R → Configuration V S → Type 0)
      (rest : List R → Configuration V S → Configuration V S) →
      ((others : List R) (x : Configuration V S) → Later others x → rest others x ≡ u) →
      Which storage comes_back last data_start b (LedOutFirst storage comes_back last data_start returns v u Later) (Later returns v) →
      (if b then goes_back comes_back returns v rest else rest returns v) ≡ u
  which_led true returns v u Later rest each h = first_led returns v u Later rest each h
  which_led false returns v u Later rest each h = each returns v h

  pub led_is : (n : ℕ) (returns : List R) (w u : Configuration V S) → IsLedOutTo storage comes_back last data_start returns n w u →
      run_returning storage comes_back last data_start returns n w ≡ u
  unfolding IsLedOutTo run_returning
  led_is zero returns w u h = absurd h
  led_is (suc n) returns w u h =
      which_led (is_leaving last w) returns (instruction storage comes_back last data_start w) u
      (λ others v. IsLedOutTo storage comes_back last data_start others n v u)
      (λ others v. run_returning storage comes_back last data_start others n v) (λ others x k. led_is n others x u k) h

  -- ---- where a run is after n instructions

  pub data WhereIs (calls : List (CalledCode R)) (w : Configuration V S) (n : ℕ) : Type 0 where
    InText : (j m : ℕ) → run storage data_start n w ≡ run_returning storage comes_back last data_start (returns_of (take j calls)) m w →
        total_count (take j calls) ≤ n → WhereIs calls w n
    InCode : (j earlier m : ℕ) (u : Configuration V S) →
        IsLedOutTo storage comes_back last data_start (returns_of (take j calls)) earlier w u →
        run storage data_start n w ≡ run storage data_start m u →
        IsInside (drop j calls) m → total_count (take j calls) + m ≤ n → WhereIs calls w n

  goes_by : (b : Bool) (returns : List R) (m : ℕ) (w : Configuration V S) → is_leaving last w ≡ b →
      run_returning storage comes_back last data_start returns (suc m) w
      ≡ (if b then goes_back comes_back returns (instruction storage comes_back last data_start w)
      (λ others v. run_returning storage comes_back last data_start others m v)
      else run_returning storage comes_back last data_start returns m (instruction storage comes_back last data_start w))
  unfolding run_returning
  goes_by b returns m w e =
      ap (λ c. if c then goes_back comes_back returns (instruction storage comes_back last data_start w)
      (λ others v. run_returning storage comes_back last data_start others m v)
      else run_returning storage comes_back last data_start returns m (instruction storage comes_back last data_start w)) e

  led_by : (b : Bool) (returns : List R) (m : ℕ) (w u : Configuration V S) → is_leaving last w ≡ b →
      Which storage comes_back last data_start b (LedOutFirst storage comes_back last data_start returns
      (instruction storage comes_back last data_start w) u (λ others v. IsLedOutTo storage comes_back last data_start others m v u))
      (IsLedOutTo storage comes_back last data_start returns m (instruction storage comes_back last data_start w) u) →
      IsLedOutTo storage comes_back last data_start returns (suc m) w u
  unfolding IsLedOutTo
  led_by b returns m w u e h =
      subst (λ c. Which storage comes_back last data_start c
      (LedOutFirst storage comes_back last data_start returns (instruction storage comes_back last data_start w) u
      (λ others v. IsLedOutTo storage comes_back last data_start others m v u))
      (IsLedOutTo storage comes_back last data_start returns m (instruction storage comes_back last data_start w) u)) (sym e) h

  come_by : (b : Bool) (calls : List (CalledCode R)) (m : ℕ) (w : Configuration V S) → is_leaving last w ≡ b →
      CallsComeBack storage comes_back last data_start calls (suc m) w →
      Which storage comes_back last data_start b (ComesBackFirst storage comes_back last data_start calls
      (instruction storage comes_back last data_start w) (λ others v. CallsComeBack storage comes_back last data_start others m v))
      (CallsComeBack storage comes_back last data_start calls m (instruction storage comes_back last data_start w))
  unfolding CallsComeBack
  come_by b calls m w e h =
      subst (λ c. Which storage comes_back last data_start c
      (ComesBackFirst storage comes_back last data_start calls (instruction storage comes_back last data_start w)
      (λ others v. CallsComeBack storage comes_back last data_start others m v))
      (CallsComeBack storage comes_back last data_start calls m (instruction storage comes_back last data_start w))) e h

  -- one instruction more before a place of the text
  not_leaving : (calls : List (CalledCode R)) (w : Configuration V S) (n : ℕ) → is_leaving last w ≡ false →
      WhereIs calls (instruction storage comes_back last data_start w) n → WhereIs calls w (suc n)
  not_leaving calls w n e (InText j m same few) = InText j (suc m) (same ∙ sym (goes_by false (returns_of (take j calls)) m w e))
      (omega (arith, few))
  not_leaving calls w n e (InCode j earlier m u led same inside few) =
      InCode j (suc earlier) m u (led_by false (returns_of (take j calls)) earlier w u e led) same inside (omega (arith, few))

  -- and behind a call
  behind_call : (call : CalledCode R) (calls : List (CalledCode R)) (w : Configuration V S) (n d : ℕ) → is_leaving last w ≡ true →
      n ≡ call.count + d →
      run storage data_start call.count (instruction storage comes_back last data_start w)
      ≡ comes_back call.returned (instruction storage comes_back last data_start w) →
      WhereIs calls (comes_back call.returned (instruction storage comes_back last data_start w)) d → WhereIs (call ∷ calls) w (suc n)
  behind_call call calls w n d e sum came (InText j m same few) =
      InText (suc j) (suc m) (there ∙ same ∙ sym (goes_by true (returns_of (take (suc j) (call ∷ calls))) m w e)) (omega (arith, few, sum))
    where
      there : run storage data_start n (instruction storage comes_back last data_start w)
          ≡ run storage data_start d (comes_back call.returned (instruction storage comes_back last data_start w))
      there = ap (λ k. run storage data_start k (instruction storage comes_back last data_start w)) sum
          ∙ run_more storage data_start call.count d (instruction storage comes_back last data_start w)
          ∙ ap (λ v. run storage data_start d v) came
  behind_call call calls w n d e sum came (InCode j earlier m u led same inside few) =
      InCode (suc j) (suc earlier) m u (led_by true (returns_of (take (suc j) (call ∷ calls))) earlier w u e led) (there ∙ same) inside
      (omega (arith, few, sum))
    where
      there : run storage data_start n (instruction storage comes_back last data_start w)
          ≡ run storage data_start d (comes_back call.returned (instruction storage comes_back last data_start w))
      there = ap (λ k. run storage data_start k (instruction storage comes_back last data_start w)) sum
          ∙ run_more storage data_start call.count d (instruction storage comes_back last data_start w)
          ∙ ap (λ v. run storage data_start d v) came

  in_first : (calls : List (CalledCode R)) (w : Configuration V S) (n : ℕ) → is_leaving last w ≡ true → IsInside calls n →
      WhereIs calls w (suc n)
  in_first calls w n e inside =
      InCode 0 1 n (instruction storage comes_back last data_start w)
      (led_by true [] 0 w (instruction storage comes_back last data_start w) e refl) refl inside (omega arith)

  stays_here : (w : Configuration V S) → w ≡ run_returning storage comes_back last data_start [] 0 w
  unfolding run_returning
  stays_here w = refl

  where_next : (fuel n : ℕ) (calls : List (CalledCode R)) (w : Configuration V S) (b : Bool) → n ≤ fuel → is_leaving last w ≡ b →
      ((i : ℕ) → CallsComeBack storage comes_back last data_start calls i w) →
      ((m : ℕ) (others : List (CalledCode R)) (v : Configuration V S) → m ≤ fuel →
      ((i : ℕ) → CallsComeBack storage comes_back last data_start others i v) → WhereIs others v m) → WhereIs calls w (suc n)
  where_next fuel n calls w false le e come later = not_leaving calls w n e
      (later n calls (instruction storage comes_back last data_start w) le (λ i. come_by false calls i w e (come (suc i))))
  where_next fuel n [] w true le e come later = in_first [] w n e tt
  where_next fuel n (call ∷ calls) w true le e come later = ⊎_elim inside beyond (cases_lt n call.count)
    where
      inside : n < call.count → WhereIs (call ∷ calls) w (suc n)
      inside lt = in_first (call ∷ calls) w n e (omega (arith, lt))

      split : (n c : ℕ) → c ≤ n → n ≡ c + (n - c)
      split n c h = omega (arith, h)

      less : (n c f : ℕ) → n ≤ f → n - c ≤ f
      less n c f h = omega (arith, h)

      beyond : call.count ≤ n → WhereIs (call ∷ calls) w (suc n)
      beyond more =
          behind_call call calls w n (n - call.count) e (split n call.count more) (come_by true (call ∷ calls) 0 w e (come 1)).0
          (later (n - call.count) calls (comes_back call.returned (instruction storage comes_back last data_start w))
          (less n call.count fuel le) (λ i. (come_by true (call ∷ calls) i w e (come (suc i))).1))

  pub where_at : (fuel n : ℕ) (calls : List (CalledCode R)) (w : Configuration V S) → n ≤ fuel →
      ((i : ℕ) → CallsComeBack storage comes_back last data_start calls i w) → WhereIs calls w n
  where_at fuel zero calls w le come = InText 0 0 (stays_here w) (omega arith)
  where_at zero (suc n) calls w le come = absurd (omega (arith, le))
  where_at (suc fuel) (suc n) calls w le come =
      where_next fuel n calls w (is_leaving last w) (omega (arith, le)) refl come (λ m others v h k. where_at fuel m others v h k)
