-- A dictionary as contracts see it: pairs of a name and a value, oldest first.
use Rattle.std.specs.Prelude.{ℕ, true, false, List, [], ◌∷◌, Option, Some, None}
use Rattle.dictionary_core.specs.Buckets.{is_same_name}

pub record Pair (V : Type 0) : Type 0 where
  pub name : List ℕ
  pub value : V

-- the pairs, and how often a name of them was asked
pub record DictionaryState (V : Type 0) : Type 0 where
  pub pairs : List (Pair V)
  pub looks : ℕ

abbrev pub pair : {V : Type 0} → List ℕ → V → Pair V
pair name value = record { name = name; value = value }

abbrev pub names_of : {V : Type 0} → List (Pair V) → List (List ℕ)
names_of [] = []
names_of (p ∷ ps) = p.name ∷ names_of ps

-- the value of the last pair of a name, letters without case
abbrev pub newest_value : {V : Type 0} → List (Pair V) → List ℕ → Option V
newest_value [] asked = None
newest_value (p ∷ ps) asked = elim (newest_value ps asked) [
  | Some value ↦ Some value
  | None ↦ elim (is_same_name asked p.name) [ true ↦ Some p.value | false ↦ None ]
]
