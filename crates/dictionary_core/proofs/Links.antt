-- A pair more, and a pair less.
use Rattle.std.proofs.Common.{◌≡◌, ℕ, zero, suc, ◌+◌, ◌<◌, ◌≤◌, List, [], ◌∷◌, ◌++◌, length, take, set, replicate, Option, Some, None, ◌⊎◌, inl, inr, refl, sym, ap, subst, ◌∙◌, arith, length-append, length-set}
use Rattle.std.specs.Prelude.{slice_get, slice_index_or}
use Rattle.std.proofs.lemmas.Bool.{cases_eq, eq-eqb, ne_eqb}
use Rattle.std.proofs.lemmas.List.{get_or-set_same, get_or-set_other, get_or_append_left, get_or-replicate, take-append-le, take_at, take_more, get_or_at}
use Rattle.std.proofs.lemmas.Option.{slice_get_within}
use Rattle.dictionary_core.specs.declared.chain.Entry.{Entry}
use Rattle.dictionary_core.specs.Buckets.{bucket, has_bucket, last_in}
use Rattle.dictionary_core.specs.Chains.{IsEntry, IsChained}
use Rattle.dictionary_core.proofs.Last.{last_is_new, last_is_old}

got_more : {A : Type 0} (xs : List A) (y x : A) (i : ℕ) → slice_get (xs ++ y ∷ []) i ≡ Some x → (slice_get xs i ≡ Some x) ⊎ ((i ≡ length xs) × (y ≡ x))
got_more [] y x zero e =
    let same : y ≡ x = cc in
    inr (refl, same)
got_more [] y x (suc i) e = absurd cc
got_more (z ∷ zs) y x zero e = inl e
got_more (z ∷ zs) y x (suc i) e = elim (got_more zs y x i e) [ inl f ↦ inl f | inr f ↦ inr (ap suc f.0, f.1) ]

got_left : {A : Type 0} (xs : List A) (y x : A) (i : ℕ) → slice_get xs i ≡ Some x → slice_get (xs ++ y ∷ []) i ≡ Some x
got_left [] y x i e = absurd cc
got_left (z ∷ zs) y x zero e = e
got_left (z ∷ zs) y x (suc i) e = got_left zs y x i e

got_last : {A : Type 0} (xs : List A) (y : A) → slice_get (xs ++ y ∷ []) (length xs) ≡ Some y
got_last [] y = refl
got_last (z ∷ zs) y = got_last zs y

module _ {V : Type 0} where
  pub empty_chained : (names : List (List ℕ)) (entries : List (Entry V)) (heads : List (Option ℕ)) → names ≡ [] → entries ≡ [] → heads ≡ replicate 64 None → IsChained names entries heads
  empty_chained names entries heads e f g =
      rw (e, f, g) (record {
        as_many = refl;
        few = omega arith;
        sixty_four = refl;
        heads_are = λ b h. get_or-replicate 64 b None None h;
        entries_are = λ place entry h. absurd cc;
      })

  module _ (names : List (List ℕ)) (entries : List (Entry V)) (heads : List (Option ℕ)) (name : List ℕ) (entry : Entry V) (sixty_four : length heads ≡ 64) (bucket_is : entry.bucket ≡ bucket name) where
    small : entry.bucket < 64
    small = rw bucket_is (omega arith)

    head_more : IsChained names entries heads → (b : ℕ) → b < 64 → slice_index_or (set heads entry.bucket (Some (length names))) b None ≡ last_in b (names ++ name ∷ [])
    head_more c b h = elim (cases_eq b entry.bucket) [
      | inl same ↦
          ap (λ i. slice_index_or (set heads entry.bucket (Some (length names))) i None) same
          ∙ get_or-set_same heads entry.bucket (Some (length names)) None (omega (arith, small))
          ∙ sym (last_is_new (has_bucket b) names name (eq-eqb (bucket name) b (sym bucket_is ∙ sym same)))
      | inr other ↦ get_or-set_other heads entry.bucket b (Some (length names)) None other ∙ c.heads_are b h ∙ sym (last_is_old (has_bucket b) names name (ne_eqb (bucket name) b (λ e. other (sym (bucket_is ∙ e)))))
    ]

    entry_more : IsChained names entries heads → entry.older ≡ slice_index_or heads entry.bucket None → (place : ℕ) (x : Entry V) → slice_get (entries ++ entry ∷ []) place ≡ Some x → IsEntry (names ++ name ∷ []) place x
    entry_more c older_is place x e = elim (got_more entries entry x place e) [
      | inl old ↦
          let within : place < length names = omega (arith, slice_get_within entries place x old, c.as_many) in
          record {
            bucket_is = (c.entries_are place x old).bucket_is ∙ ap bucket (sym (get_or_append_left names (name ∷ []) [] place within));
            older_is = (c.entries_are place x old).older_is ∙ ap (last_in x.bucket) (sym (take-append-le place names (name ∷ []) (omega (arith, within))));
          }
      | inr new ↦
          let at_end : length names ≡ place = omega (arith, new.0, c.as_many) in
          subst (IsEntry (names ++ name ∷ []) place) new.1 (record {
            bucket_is = bucket_is ∙ ap bucket (sym (get_or_at names name [] [] place at_end));
            older_is = older_is ∙ c.heads_are entry.bucket small ∙ ap (last_in entry.bucket) (sym (take_at names (name ∷ []) place at_end));
          })
    ]

    pub chain_more : IsChained names entries heads → length names < 512 → entry.older ≡ slice_index_or heads entry.bucket None → IsChained (names ++ name ∷ []) (entries ++ entry ∷ []) (set heads entry.bucket (Some (length names)))
    chain_more c room older_is = record {
      as_many = omega (arith, length-append entries (entry ∷ []), length-append names (name ∷ []), c.as_many);
      few = omega (arith, length-append names (name ∷ []));
      sixty_four = length-set heads entry.bucket (Some (length names)) ∙ sixty_four;
      heads_are = head_more c;
      entries_are = entry_more c older_is;
    }

  pub chain_added : (names more : List (List ℕ)) (entries more_entries : List (Entry V)) (heads : List (Option ℕ)) (name : List ℕ) (entry : Entry V) (place : ℕ) → entry.bucket ≡ bucket name →
      IsChained names entries heads → length names < 512 → entry.older ≡ slice_index_or heads entry.bucket None → more ≡ names ++ name ∷ [] →
      more_entries ≡ entries ++ entry ∷ [] → place ≡ length names → IsChained more more_entries (set heads entry.bucket (Some place))
  chain_added names more entries more_entries heads name entry place b c room o m e p = rw (m, e, p) (chain_more names entries heads name entry c.sixty_four b c room o)

  -- the newest pair is taken off
  module _ (names : List (List ℕ)) (entries : List (Entry V)) (heads : List (Option ℕ)) (name : List ℕ) (entry : Entry V) (c : IsChained (names ++ name ∷ []) (entries ++ entry ∷ []) heads) where
    as_many : length entries ≡ length names
    as_many = omega (arith, length-append entries (entry ∷ []), length-append names (name ∷ []), c.as_many)

    newest : IsEntry (names ++ name ∷ []) (length entries) entry
    newest = c.entries_are (length entries) entry (got_last entries entry)

    of_name : entry.bucket ≡ bucket name
    of_name = newest.bucket_is ∙ ap bucket (get_or_at names name [] [] (length entries) (sym as_many))

    pub newest_small : entry.bucket < 64
    newest_small = rw of_name (omega arith)

    head_less : (b : ℕ) → b < 64 → slice_index_or (set heads entry.bucket entry.older) b None ≡ last_in b names
    head_less b h = elim (cases_eq b entry.bucket) [
      | inl same ↦
          ap (λ i. slice_index_or (set heads entry.bucket entry.older) i None) same
          ∙ get_or-set_same heads entry.bucket entry.older None (omega (arith, newest_small, c.sixty_four)) ∙ newest.older_is
          ∙ ap (last_in entry.bucket) (take_at names (name ∷ []) (length entries) (sym as_many)) ∙ ap (λ b. last_in b names) (sym same)
      | inr other ↦ get_or-set_other heads entry.bucket b entry.older None other ∙ c.heads_are b h ∙ last_is_old (has_bucket b) names name (ne_eqb (bucket name) b (λ e. other (sym (of_name ∙ e))))
    ]

    entry_less : (place : ℕ) (x : Entry V) → slice_get entries place ≡ Some x → IsEntry names place x
    entry_less place x e =
        let is : IsEntry (names ++ name ∷ []) place x = c.entries_are place x (got_left entries entry x place e) in
        let within : place < length names = omega (arith, slice_get_within entries place x e, as_many) in
        record {
          bucket_is = is.bucket_is ∙ ap bucket (get_or_append_left names (name ∷ []) [] place within);
          older_is = is.older_is ∙ ap (last_in x.bucket) (take-append-le place names (name ∷ []) (omega (arith, within)));
        }

    pub chain_less : IsChained names entries (set heads entry.bucket entry.older)
    chain_less = record {
      as_many = as_many;
      few = omega (arith, length-append names (name ∷ []), c.few);
      sixty_four = length-set heads entry.bucket entry.older ∙ c.sixty_four;
      heads_are = head_less;
      entries_are = entry_less;
    }

  pub older_seen : (names seen : List (List ℕ)) (place : ℕ) (entry : Entry V) → seen ≡ names → IsEntry names place entry → entry.older ≡ last_in (bucket (slice_index_or seen place [])) (take place seen)
  older_seen names seen place entry e is = rw e (is.older_is ∙ ap (λ b. last_in b (take place names)) is.bucket_is)

  pub chain_popped : (names : List (List ℕ)) (old entries : List (Entry V)) (heads : List (Option ℕ)) (entry : Entry V) → old ≡ entries ++ entry ∷ [] → length old ≤ length names → IsChained (take (length old) names) old heads →
      (entry.bucket < 64) × IsChained (take (length entries) names) entries (set heads entry.bucket entry.older)
  chain_popped names old entries heads entry e within c =
      let longer : length old ≡ length entries + 1 = ap length e ∙ length-append entries (entry ∷ []) in
      let cut : take (length old) names ≡ take (length entries) names ++ slice_index_or names (length entries) [] ∷ [] = ap (λ k. take k names) longer ∙ take_more names (length entries) [] (omega (arith, longer, within)) in
      let d : IsChained (take (length entries) names ++ slice_index_or names (length entries) [] ∷ []) (entries ++ entry ∷ []) heads =
      subst (λ ns. IsChained ns (entries ++ entry ∷ []) heads) cut (subst (λ es. IsChained (take (length old) names) es heads) e c) in
      (newest_small _ entries heads _ entry d, chain_less _ entries heads _ entry d)
