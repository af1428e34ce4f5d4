-- Entries that are linked bucket by bucket.
use Rattle.std.specs.Prelude.{◌≡◌, ℕ, ◌<◌, ◌≤◌, List, [], ◌∷◌, length, take, slice_get, slice_index_or, Option, Some, None}
use Rattle.dictionary_core.specs.declared.chain.Entry.{Entry}
use Rattle.dictionary_core.specs.Buckets.{bucket, last_in}
use Rattle.dictionary_core.specs.Pairs.{Pair, pair}

-- the names with the values of their entries
abbrev pub pairs_in : {V : Type 0} → List (List ℕ) → List (Entry V) → List (Pair V)
pairs_in [] entries = []
pairs_in (name ∷ names) [] = []
pairs_in (name ∷ names) (entry ∷ entries) = pair name entry.value ∷ pairs_in names entries

-- the entry of the name at a place leads to the last name before it that has its bucket
pub record IsEntry {V : Type 0} (names : List (List ℕ)) (place : ℕ) (entry : Entry V) : Type 0 where
  pub bucket_is : entry.bucket ≡ bucket (slice_index_or names place [])
  pub older_is : entry.older ≡ last_in entry.bucket (take place names)

-- the head of a bucket leads to the last name that has it
pub record IsChained {V : Type 0} (names : List (List ℕ)) (entries : List (Entry V)) (heads : List (Option ℕ)) : Type 0 where
  pub as_many : length entries ≡ length names
  pub few : length names ≤ 512
  pub sixty_four : length heads ≡ 64
  pub heads_are : (b : ℕ) → b < 64 → slice_index_or heads b None ≡ last_in b names
  pub entries_are : (place : ℕ) (entry : Entry V) → slice_get entries place ≡ Some entry → IsEntry names place entry
