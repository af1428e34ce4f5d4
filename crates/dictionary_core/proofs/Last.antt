-- The last name that passes a test, and how many pass it.
use Rattle.std.proofs.Common.{◌≡◌, ℕ, suc, ◌+◌, ◌<◌, Bool, true, false, List, [], ◌∷◌, ◌++◌, length, take, Option, Some, None, refl, sym, ap, subst, ◌∙◌, arith}
use Rattle.std.specs.Prelude.{slice_index_or}
use Rattle.std.proofs.lemmas.Bool.{true≢false, false_from_ne_true}
use Rattle.dictionary_core.specs.Buckets.{place_behind, last_place, one_if, number_of_names}

module _ (P : List ℕ → Bool) where
  within_on : (xs : List (List ℕ)) (k : ℕ) → ((j : ℕ) → last_place P xs ≡ Some j → j < length xs) → (t : Bool) (o : Option ℕ) → last_place P xs ≡ o → place_behind t o ≡ Some k → k < suc (length xs)
  within_on xs k more t (Some j) f g =
      let m : suc j ≡ k = cc in
      omega (arith, more j f)
  within_on xs k more true None f g =
      let m : 0 ≡ k = cc in
      omega arith
  within_on xs k more false None f g = absurd cc

  -- it stands in the list
  pub last_within : (xs : List (List ℕ)) (k : ℕ) → last_place P xs ≡ Some k → k < length xs
  last_within [] k e = absurd cc
  last_within (x ∷ xs) k e = within_on xs k (last_within xs) (P x) (last_place P xs) refl e

  -- a name more
  pub last_more : (xs : List (List ℕ)) (x : List ℕ) → last_place P (xs ++ x ∷ []) ≡ elim (P x) [ true ↦ Some (length xs) | false ↦ last_place P xs ]
  last_more [] x = refl
  last_more (y ∷ ys) x = ap (place_behind (P y)) (last_more ys x) ∙ on (P x)
    where
      on : (t : Bool) → place_behind (P y) (elim t [ true ↦ Some (length ys) | false ↦ last_place P ys ]) ≡ elim t [ true ↦ Some (suc (length ys)) | false ↦ place_behind (P y) (last_place P ys) ]
      on true = refl
      on false = refl

  pub last_is_new : (xs : List (List ℕ)) (x : List ℕ) → P x ≡ true → last_place P (xs ++ x ∷ []) ≡ Some (length xs)
  last_is_new xs x e = last_more xs x ∙ ap (λ t. elim t as (λ t. Option ℕ) [ true ↦ Some (length xs) | false ↦ last_place P xs ]) e

  pub last_is_old : (xs : List (List ℕ)) (x : List ℕ) → P x ≡ false → last_place P (xs ++ x ∷ []) ≡ last_place P xs
  last_is_old xs x e = last_more xs x ∙ ap (λ t. elim t as (λ t. Option ℕ) [ true ↦ Some (length xs) | false ↦ last_place P xs ]) e

  none_on : (x : List ℕ) (xs : List (List ℕ)) → (last_place P xs ≡ None → number_of_names P xs ≡ 0) → (t : Bool) (o : Option ℕ) → P x ≡ t → last_place P xs ≡ o → place_behind t o ≡ None → one_if (P x) + number_of_names P xs ≡ 0
  none_on x xs more t (Some j) p f g = absurd cc
  none_on x xs more true None p f g = absurd cc
  none_on x xs more false None p f g = omega (arith, ap one_if p, more f)

  none_counted : (xs : List (List ℕ)) → last_place P xs ≡ None → number_of_names P xs ≡ 0
  none_counted [] e = refl
  none_counted (x ∷ xs) e = none_on x xs (none_counted xs) (P x) (last_place P xs) refl refl e

  module _ (Q : List ℕ → Bool) (implied : (x : List ℕ) → Q x ≡ true → P x ≡ true) where
    denied : (x : List ℕ) → P x ≡ false → Q x ≡ false
    denied x p = false_from_ne_true (Q x) (λ q. true≢false (sym (implied x q) ∙ p))

    none_of_on : (x : List ℕ) (xs : List (List ℕ)) → (last_place P xs ≡ None → last_place Q xs ≡ None) → (t : Bool) (o : Option ℕ) → P x ≡ t → last_place P xs ≡ o → place_behind t o ≡ None → place_behind (Q x) (last_place Q xs) ≡ None
    none_of_on x xs more t (Some j) p f g = absurd cc
    none_of_on x xs more true None p f g = absurd cc
    none_of_on x xs more false None p f g = ap (place_behind (Q x)) (more f) ∙ ap (λ b. place_behind b None) (denied x p)

    -- where none passes the wider test, none passes the narrower
    pub none_of : (xs : List (List ℕ)) → last_place P xs ≡ None → last_place Q xs ≡ None
    none_of [] e = refl
    none_of (x ∷ xs) e = none_of_on x xs (none_of xs) (P x) (last_place P xs) refl refl e

    -- the last that passes the wider test stands at place k
    pub record At (xs : List (List ℕ)) (k : ℕ) : Type 0 where
      pub passes : P (slice_index_or xs k []) ≡ true
      pub hit : Q (slice_index_or xs k []) ≡ true → last_place Q xs ≡ Some k
      pub miss : Q (slice_index_or xs k []) ≡ false → last_place Q xs ≡ last_place Q (take k xs)
      pub counted : number_of_names P xs ≡ suc (number_of_names P (take k xs))

    later : (x : List ℕ) (xs : List (List ℕ)) (j : ℕ) → At xs j → At (x ∷ xs) (suc j)
    later x xs j a = record {
      passes = a.passes;
      hit = λ q. ap (place_behind (Q x)) (a.hit q);
      miss = λ q. ap (place_behind (Q x)) (a.miss q);
      counted = omega (arith, a.counted);
    }

    here : (x : List ℕ) (xs : List (List ℕ)) → P x ≡ true → last_place P xs ≡ None → At (x ∷ xs) 0
    here x xs p f = record {
      passes = p;
      hit = λ q. ap (place_behind (Q x)) (none_of xs f) ∙ ap (λ b. place_behind b None) q;
      miss = λ q. ap (place_behind (Q x)) (none_of xs f) ∙ ap (λ b. place_behind b None) q;
      counted = omega (arith, ap one_if p, none_counted xs f);
    }

    at_on : (x : List ℕ) (xs : List (List ℕ)) (k : ℕ) → ((j : ℕ) → last_place P xs ≡ Some j → At xs j) → (t : Bool) (o : Option ℕ) → P x ≡ t → last_place P xs ≡ o → place_behind t o ≡ Some k → At (x ∷ xs) k
    at_on x xs k more t (Some j) p f g =
        let m : suc j ≡ k = cc in
        subst (At (x ∷ xs)) m (later x xs j (more j f))
    at_on x xs k more true None p f g =
        let m : 0 ≡ k = cc in
        subst (At (x ∷ xs)) m (here x xs p f)
    at_on x xs k more false None p f g = absurd cc

    pub at_last : (xs : List (List ℕ)) (k : ℕ) → last_place P xs ≡ Some k → At xs k
    at_last [] k e = absurd cc
    at_last (x ∷ xs) k e = at_on x xs k (at_last xs) (P x) (last_place P xs) refl refl e
