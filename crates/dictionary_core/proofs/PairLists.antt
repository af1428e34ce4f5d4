-- Pairs of names and entries.
use Rattle.std.proofs.Common.{◌≡◌, ℕ, zero, suc, ◌+◌, ◌≤◌, Bool, true, false, List, [], ◌∷◌, ◌++◌, length, take, Option, Some, None, refl, sym, ap, ◌∙◌, arith, length-append}
use Rattle.std.specs.Prelude.{slice_get}
use Rattle.std.proofs.lemmas.List.{take_at, take-take}
use Rattle.forth_reader.specs.NameList.{NameList}
use Rattle.dictionary_core.specs.declared.chain.Entry.{Entry}
use Rattle.dictionary_core.specs.Buckets.{has_bucket, is_same_name, place_behind, last_place, number_of_names}
use Rattle.dictionary_core.specs.Pairs.{Pair, DictionaryState, pair, names_of, newest_value}
use Rattle.dictionary_core.specs.Chains.{pairs_in}

module _ {V : Type 0} where
  pub pairs_names : (names : List (List ℕ)) (entries : List (Entry V)) → length entries ≡ length names → names_of (pairs_in names entries) ≡ names
  pairs_names [] entries e = refl
  pairs_names (n ∷ ns) [] e = absurd (omega arith)
  pairs_names (n ∷ ns) (x ∷ xs) e = ap (λ l. n ∷ l) (pairs_names ns xs (omega arith))

  pub pairs_length : (names : List (List ℕ)) (entries : List (Entry V)) → length entries ≡ length names → length (pairs_in names entries) ≡ length names
  pairs_length [] entries e = refl
  pairs_length (n ∷ ns) [] e = absurd (omega arith)
  pairs_length (n ∷ ns) (x ∷ xs) e = ap suc (pairs_length ns xs (omega arith))

  pub pairs_more : (names : List (List ℕ)) (entries : List (Entry V)) (name : List ℕ) (entry : Entry V) → length entries ≡ length names →
      pairs_in (names ++ name ∷ []) (entries ++ entry ∷ []) ≡ pairs_in names entries ++ pair name entry.value ∷ []
  pairs_more [] [] name entry e = refl
  pairs_more [] (x ∷ xs) name entry e = absurd (omega arith)
  pairs_more (n ∷ ns) [] name entry e = absurd (omega arith)
  pairs_more (n ∷ ns) (x ∷ xs) name entry e = ap (λ l. pair n x.value ∷ l) (pairs_more ns xs name entry (omega arith))

  pub pairs_take : (kept : ℕ) (names : List (List ℕ)) (entries : List (Entry V)) → pairs_in (take kept names) (take kept entries) ≡ take kept (pairs_in names entries)
  pairs_take zero names entries = refl
  pairs_take (suc k) [] entries = refl
  pairs_take (suc k) (n ∷ ns) [] = refl
  pairs_take (suc k) (n ∷ ns) (x ∷ xs) = ap (λ l. pair n x.value ∷ l) (pairs_take k ns xs)

  -- the dictionary that is seen
  module _ (names : List (List ℕ)) (entries : List (Entry V)) (looks : ℕ) (seen : DictionaryState V) (is : record { pairs = pairs_in names entries; looks = looks } ≡ seen) (as_many : length entries ≡ length names) where
    pub seen_names : names_of seen.pairs ≡ names
    seen_names = ap (λ (d : DictionaryState V). names_of d.pairs) (sym is) ∙ pairs_names names entries as_many

    pub seen_length : length seen.pairs ≡ length names
    seen_length = ap (λ (d : DictionaryState V). length d.pairs) (sym is) ∙ pairs_length names entries as_many

  abbrev value_by : (name asked : List ℕ) (value : V) → Option V → Option V
  value_by name asked value found = elim found [ Some v ↦ Some v | None ↦ elim (is_same_name asked name) [ true ↦ Some value | false ↦ None ] ]

  none_here : (asked n : List ℕ) (x : Entry V) (ns : List (List ℕ)) (xs : List (Entry V)) → (last_place (is_same_name asked) ns ≡ None → newest_value (pairs_in ns xs) asked ≡ None) →
      (t : Bool) (o : Option ℕ) → is_same_name asked n ≡ t → last_place (is_same_name asked) ns ≡ o → place_behind t o ≡ None → newest_value (pair n x.value ∷ pairs_in ns xs) asked ≡ None
  none_here asked n x ns xs more t (Some j) p f g = absurd cc
  none_here asked n x ns xs more true None p f g = absurd cc
  none_here asked n x ns xs more false None p f g = ap (value_by n asked x.value) (more f) ∙ ap (λ b. elim b as (λ b. Option V) [ true ↦ Some x.value | false ↦ None ]) p

  -- no name is the one that is asked
  pub none_newest : (asked : List ℕ) (names : List (List ℕ)) (entries : List (Entry V)) → length entries ≡ length names → last_place (is_same_name asked) names ≡ None → newest_value (pairs_in names entries) asked ≡ None
  none_newest asked [] entries e f = refl
  none_newest asked (n ∷ ns) [] e f = absurd (omega arith)
  none_newest asked (n ∷ ns) (x ∷ xs) e f = none_here asked n x ns xs (none_newest asked ns xs (omega arith)) (is_same_name asked n) (last_place (is_same_name asked) ns) refl refl f

  some_here : (asked n : List ℕ) (x : Entry V) (ns : List (List ℕ)) (xs : List (Entry V)) (k : ℕ) (entry : Entry V) → (last_place (is_same_name asked) ns ≡ None → newest_value (pairs_in ns xs) asked ≡ None) →
      ((j : ℕ) → last_place (is_same_name asked) ns ≡ Some j → slice_get xs j ≡ Some entry → newest_value (pairs_in ns xs) asked ≡ Some entry.value) →
      (t : Bool) (o : Option ℕ) → is_same_name asked n ≡ t → last_place (is_same_name asked) ns ≡ o → place_behind t o ≡ Some k → slice_get (x ∷ xs) k ≡ Some entry → newest_value (pair n x.value ∷ pairs_in ns xs) asked ≡ Some entry.value
  some_here asked n x ns xs k entry none more t (Some j) p f g h =
      let m : suc j ≡ k = cc in
      ap (value_by n asked x.value) (more j f (ap (slice_get (x ∷ xs)) m ∙ h))
  some_here asked n x ns xs k entry none more true None p f g h =
      let m : 0 ≡ k = cc in
      let here : Some x ≡ Some entry = ap (slice_get (x ∷ xs)) m ∙ h in
      let same : x ≡ entry = cc in
      ap (value_by n asked x.value) (none f) ∙ ap (λ b. elim b as (λ b. Option V) [ true ↦ Some x.value | false ↦ None ]) p ∙ ap (λ (y : Entry V). Some y.value) same
  some_here asked n x ns xs k entry none more false None p f g h = absurd cc

  -- the value of the last name that is the one
  pub some_newest : (asked : List ℕ) (names : List (List ℕ)) (entries : List (Entry V)) (k : ℕ) (entry : Entry V) → length entries ≡ length names →
      last_place (is_same_name asked) names ≡ Some k → slice_get entries k ≡ Some entry → newest_value (pairs_in names entries) asked ≡ Some entry.value
  some_newest asked [] entries k entry e f h = absurd cc
  some_newest asked (n ∷ ns) [] k entry e f h = absurd (omega arith)
  some_newest asked (n ∷ ns) (x ∷ xs) k entry e f h =
      some_here asked n x ns xs k entry (none_newest asked ns xs (omega arith)) (λ j g i. some_newest asked ns xs j entry (omega arith) g i) (is_same_name asked n) (last_place (is_same_name asked) ns) refl refl f h

  -- the dictionary of names and entries
  abbrev pub state_of : NameList → List (Entry V) → DictionaryState V
  state_of names entries = record { pairs = pairs_in names.names entries; looks = names.looks }

  pub state_more : (old new : NameList) (entries more : List (Entry V)) (seen : DictionaryState V) (name : List ℕ) (entry : Entry V) → state_of old entries ≡ seen → length entries ≡ length old.names →
      new ≡ record old { names = old.names ++ name ∷ [] } → more ≡ entries ++ entry ∷ [] → state_of new more ≡ record seen { pairs = seen.pairs ++ pair name entry.value ∷ [] }
  state_more old new entries more seen name entry is as_many n e =
      ap (λ l. state_of l more) n ∙ ap (λ es. state_of (record old { names = old.names ++ name ∷ [] }) es) e
      ∙ ap (λ (ps : List (Pair V)). record { pairs = ps; looks = old.looks }) (pairs_more old.names entries name entry as_many)
      ∙ ap (λ (d : DictionaryState V). record d { pairs = d.pairs ++ pair name entry.value ∷ [] }) is

  -- the value that is found, or that there is none
  pub seen_none : (names : NameList) (entries : List (Entry V)) (seen : DictionaryState V) (asked : List ℕ) → state_of names entries ≡ seen →
      length entries ≡ length names.names → last_place (is_same_name asked) names.names ≡ None → newest_value seen.pairs asked ≡ None
  seen_none names entries seen asked is as_many e = ap (λ (d : DictionaryState V). newest_value d.pairs asked) (sym is) ∙ none_newest asked names.names entries as_many e

  pub seen_some : (names : NameList) (entries : List (Entry V)) (seen : DictionaryState V) (asked : List ℕ) (k : ℕ) (entry : Entry V) →
      state_of names entries ≡ seen → length entries ≡ length names.names → last_place (is_same_name asked) names.names ≡ Some k →
      slice_get entries k ≡ Some entry → newest_value seen.pairs asked ≡ Some entry.value
  seen_some names entries seen asked k entry is as_many e f = ap (λ (d : DictionaryState V). newest_value d.pairs asked) (sym is) ∙ some_newest asked names.names entries k entry as_many e f

  pub seen_looks : (names : NameList) (entries : List (Entry V)) (seen : DictionaryState V) (b more : ℕ) → state_of names entries ≡ seen →
      length entries ≡ length names.names → more ≤ names.looks + number_of_names (has_bucket b) names.names →
      more ≤ seen.looks + number_of_names (has_bucket b) (names_of seen.pairs)
  seen_looks names entries seen b more is as_many h =
      omega (arith, h, ap (λ (d : DictionaryState V). d.looks) is, ap (number_of_names (has_bucket b)) (seen_names names.names entries names.looks seen is as_many))

  pub seen_risen : (names : NameList) (entries : List (Entry V)) (seen : DictionaryState V) (more : ℕ) → state_of names entries ≡ seen → names.looks ≤ more → seen.looks ≤ more
  seen_risen names entries seen more is h = omega (arith, h, ap (λ (d : DictionaryState V). d.looks) is)

  pairs_cut : (names : List (List ℕ)) (entries : List (Entry V)) → pairs_in (take (length entries) names) entries ≡ pairs_in names entries
  pairs_cut [] [] = refl
  pairs_cut [] (x ∷ xs) = refl
  pairs_cut (n ∷ ns) [] = refl
  pairs_cut (n ∷ ns) (x ∷ xs) = ap (λ l. pair n x.value ∷ l) (pairs_cut ns xs)

  -- the newest pair is taken off
  pub pairs_less : (names : List (List ℕ)) (old entries : List (Entry V)) (entry : Entry V) (pairs : List (Pair V)) → old ≡ entries ++ entry ∷ [] →
      pairs_in names old ≡ take (length old) pairs → pairs_in names entries ≡ take (length entries) pairs
  pairs_less names old entries entry pairs e h =
      let k = length entries in
      let longer : length old ≡ k + 1 = ap length e ∙ length-append entries (entry ∷ []) in
      sym (pairs_cut names entries)
      ∙ ap (pairs_in (take k names)) (sym (ap (take k) e ∙ take_at entries (entry ∷ []) k refl))
      ∙ pairs_take k names old ∙ ap (take k) h ∙ take-take k (length old) pairs (omega (arith, longer))

  pub pairs_kept : (names : List (List ℕ)) (entries : List (Entry V)) (kept : ℕ) (pairs : List (Pair V)) → length entries ≡ kept → pairs_in names entries ≡ take (length entries) pairs → pairs_in (take kept names) entries ≡ take kept pairs
  pairs_kept names entries kept pairs e h = ap (λ k. pairs_in (take k names) entries) (sym e) ∙ pairs_cut names entries ∙ h ∙ ap (λ k. take k pairs) e

  pub seen_pairs : (names : NameList) (present : List (List ℕ)) (entries : List (Entry V)) (seen : DictionaryState V) → state_of names entries ≡ seen → present ≡ names.names → pairs_in present entries ≡ seen.pairs
  seen_pairs names present entries seen is e = ap (λ ns. pairs_in ns entries) e ∙ ap (λ (d : DictionaryState V). d.pairs) is

  pub seen_place : (names : NameList) (entries : List (Entry V)) (seen : DictionaryState V) (asked : List ℕ) (found : Option ℕ) →
      state_of names entries ≡ seen → length entries ≡ length names.names → found ≡ last_place (is_same_name asked) names.names →
      last_place (is_same_name asked) (names_of seen.pairs) ≡ found
  seen_place names entries seen asked found is as_many e = ap (last_place (is_same_name asked)) (seen_names names.names entries names.looks seen is as_many) ∙ sym e

  pub state_cut : (old new : NameList) (entries : List (Entry V)) (kept : ℕ) (seen : DictionaryState V) → new ≡ record old { names = take kept old.names } →
      length entries ≡ kept → pairs_in old.names entries ≡ take (length entries) seen.pairs → old.looks ≡ seen.looks →
      state_of new entries ≡ record seen { pairs = take kept seen.pairs }
  state_cut old new entries kept seen n e h l =
      ap (λ names. state_of names entries) n ∙ ap (λ (ps : List (Pair V)). record { pairs = ps; looks = old.looks }) (pairs_kept old.names entries kept seen.pairs e h)
      ∙ ap (λ (k : ℕ). record { pairs = take kept seen.pairs; looks = k }) l
