-- A walk along the chain of a bucket.
use Rattle.std.proofs.Common.{◌≡◌, ℕ, ◌+◌, ◌<◌, ◌≤◌, Bool, true, false, List, [], ◌∷◌, length, map, take, Option, Some, None, refl, sym, ap, subst, ◌∙◌, arith}
use Rattle.std.specs.Prelude.{slice_index_or, ◌%◌}
use Rattle.std.specs.Char.{to_ascii_lowercase}
use Rattle.std.specs.Str.{str_eq_ignore_ascii_case, str_to_ascii_lowercase}
use Rattle.std.proofs.lemmas.Bool.{eqb-true, eq-eqb}
use Rattle.std.proofs.lemmas.Bool.Decides.{nat_tests}
use Rattle.std.proofs.lemmas.List.{get_or-take, take-take, take_all, length-take-le}
use Rattle.std.proofs.lemmas.Slice.Eq.{bytes_eq-Decides}
use Rattle.forth_reader.specs.Number.{raised_letter}
use Rattle.dictionary_core.specs.declared.chain.Entry.{Entry}
use Rattle.dictionary_core.specs.Buckets.{raised_sum, bucket, has_bucket, is_same_name, last_place, last_in, number_of_names}
use Rattle.dictionary_core.specs.Chains.{IsEntry}
use Rattle.dictionary_core.proofs.Last.{last_within, none_of, At, at_last}

-- ---- one name, letters without case, has one bucket

raised_lower : (c : ℕ) → raised_letter (to_ascii_lowercase c) ≡ raised_letter c
raised_lower c = grind (arith, nat_tests)

sum_lower : (bytes : List ℕ) → raised_sum (map to_ascii_lowercase bytes) ≡ raised_sum bytes
sum_lower [] = refl
sum_lower (c ∷ cs) = omega (arith, raised_lower c, sum_lower cs)

pub same_bucket : (asked name : List ℕ) → is_same_name asked name ≡ true → has_bucket (bucket asked) name ≡ true
same_bucket asked name e =
    let lowered : str_to_ascii_lowercase name ≡ str_to_ascii_lowercase asked = (bytes_eq-Decides (str_to_ascii_lowercase name) (str_to_ascii_lowercase asked)).0 e in
    let sums : raised_sum name ≡ raised_sum asked = sym (sum_lower name) ∙ ap raised_sum lowered ∙ sum_lower asked in
    eq-eqb (bucket name) (bucket asked) (ap (λ n. n % 64) sums)

-- ---- the walk

-- what is asked stands before a place or nowhere, and the walk goes on at the last name before it that has the bucket
pub record Walk (asked : List ℕ) (names present : List (List ℕ)) (at : Option ℕ) (looks start : ℕ) : Type 0 where
  pub upto : ℕ
  pub within : upto ≤ length names
  pub names_are : present ≡ names
  pub at_is : at ≡ last_in (bucket asked) (take upto names)
  pub same : last_place (is_same_name asked) (take upto names) ≡ last_place (is_same_name asked) names
  pub risen : start ≤ looks
  pub looked : looks + number_of_names (has_bucket (bucket asked)) (take upto names) ≤ start + number_of_names (has_bucket (bucket asked)) names

pub walk_starts : (asked : List ℕ) (names : List (List ℕ)) (head : Option ℕ) (looks : ℕ) → head ≡ last_in (bucket asked) names → Walk asked names names head looks looks
walk_starts asked names head looks e =
    let whole : take (length names) names ≡ names = take_all (length names) names (omega arith) in
    record {
      upto = length names;
      within = omega arith;
      names_are = refl;
      at_is = e ∙ ap (last_in (bucket asked)) (sym whole);
      same = ap (last_place (is_same_name asked)) whole;
      risen = omega arith;
      looked = omega (arith, ap (number_of_names (has_bucket (bucket asked))) whole);
    }

module _ (asked : List ℕ) (names present : List (List ℕ)) (at : Option ℕ) (looks start : ℕ) (w : Walk asked names present at looks start) where
  pub walk_ends : at ≡ None → last_place (is_same_name asked) names ≡ None
  walk_ends e = sym w.same ∙ none_of (has_bucket (bucket asked)) (is_same_name asked) (same_bucket asked) (take w.upto names) (sym w.at_is ∙ e)

  module _ (place : ℕ) (here : at ≡ Some place) where
    last_is : last_in (bucket asked) (take w.upto names) ≡ Some place
    last_is = sym w.at_is ∙ here

    before : place < w.upto
    before = omega (arith, last_within (has_bucket (bucket asked)) (take w.upto names) place last_is, length-take-le w.upto names w.within)

    pub walk_within : place < length names
    walk_within = omega (arith, before, w.within)

    found : At (has_bucket (bucket asked)) (is_same_name asked) (same_bucket asked) (take w.upto names) place
    found = at_last (has_bucket (bucket asked)) (is_same_name asked) (same_bucket asked) (take w.upto names) place last_is

    name_is : slice_index_or (take w.upto names) place [] ≡ slice_index_or names place []
    name_is = get_or-take w.upto names place [] before

    asked_is : (t : Bool) → str_eq_ignore_ascii_case (slice_index_or present place []) asked ≡ t → is_same_name asked (slice_index_or (take w.upto names) place []) ≡ t
    asked_is t e = ap (is_same_name asked) name_is ∙ ap (λ ns. is_same_name asked (slice_index_or ns place [])) (sym w.names_are) ∙ e

    pub walk_hits : str_eq_ignore_ascii_case (slice_index_or present place []) asked ≡ true → last_place (is_same_name asked) names ≡ Some place
    walk_hits e = sym w.same ∙ found.hit (asked_is true e)

    pub walk_looked : (more : ℕ) → more ≤ looks + 1 → more ≤ start + number_of_names (has_bucket (bucket asked)) names
    walk_looked more h = omega (arith, h, w.looked, found.counted)

    pub walk_goes_on : {V : Type 0} (entry : Entry V) (more : ℕ) (next : List (List ℕ)) → IsEntry names place entry →
        str_eq_ignore_ascii_case (slice_index_or present place []) asked ≡ false → looks ≤ more → more ≤ looks + 1 → next ≡ present →
        Walk asked names next entry.older more start
    walk_goes_on entry more next e miss up h same_names =
        let shorter : take place (take w.upto names) ≡ take place names = take-take place w.upto names (omega (arith, before)) in
        let bucket_is : entry.bucket ≡ bucket asked = e.bucket_is ∙ ap bucket (sym name_is) ∙ eqb-true (bucket (slice_index_or (take w.upto names) place [])) (bucket asked) found.passes in
        record {
          upto = place;
          within = omega (arith, walk_within);
          names_are = same_names ∙ w.names_are;
          at_is = e.older_is ∙ ap (λ b. last_in b (take place names)) bucket_is;
          same = ap (last_place (is_same_name asked)) (sym shorter) ∙ sym (found.miss (asked_is false miss)) ∙ w.same;
          risen = omega (arith, up, w.risen);
          looked = omega (arith, h, w.looked, found.counted, ap (number_of_names (has_bucket (bucket asked))) shorter);
        }

-- the older entry stands before
pub older_before : {V : Type 0} (names : List (List ℕ)) (place : ℕ) (entry : Entry V) (older : ℕ) → place ≤ length names → IsEntry names place entry → entry.older ≡ Some older → older < place
older_before names place entry older h e f =
    omega (arith, last_within (has_bucket entry.bucket) (take place names) older (sym e.older_is ∙ f), length-take-le place names h)

-- the places that are left of a walk
abbrev pub steps_left : Option ℕ → ℕ
steps_left at = elim at [ Some place ↦ place + 1 | None ↦ 0 ]

pub fewer_steps : (older at : Option ℕ) (place : ℕ) → at ≡ Some place → ((k : ℕ) → older ≡ Some k → k < place) → steps_left older < steps_left at
fewer_steps older at place e before = subst (λ o. steps_left older < steps_left o) (sym e) (on older before)
  where
    on : (o : Option ℕ) → ((k : ℕ) → o ≡ Some k → k < place) → steps_left o < place + 1
    on (Some k) h = omega (arith, h k refl)
    on None h = omega arith
