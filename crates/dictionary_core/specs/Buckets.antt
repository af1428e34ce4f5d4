-- Buckets of names, and the last name of a list that passes a test.
use Rattle.std.specs.Prelude.{ℕ, suc, ◌+◌, ◌%◌, ◌==◌, Bool, true, false, List, [], ◌∷◌, Option, Some, None}
use Rattle.std.specs.Str.{str_eq_ignore_ascii_case}
use Rattle.forth_reader.specs.Number.{raised_letter}

-- the sum of the bytes, letters raised
abbrev pub raised_sum : List ℕ → ℕ
raised_sum [] = 0
raised_sum (byte ∷ bytes) = raised_letter byte + raised_sum bytes

-- the bucket of a name: that sum modulo 64
abbrev pub bucket : List ℕ → ℕ
bucket name = raised_sum name % 64

abbrev pub has_bucket : ℕ → List ℕ → Bool
has_bucket b name = bucket name == b

-- whether it is the name that is asked, letters without case
abbrev pub is_same_name : List ℕ → List ℕ → Bool
is_same_name asked name = str_eq_ignore_ascii_case name asked

-- one name in front: the last that passes stands a place further on, or it is this one, or there is none
abbrev pub place_behind : Bool → Option ℕ → Option ℕ
place_behind passes found = elim found [
  | Some place ↦ Some (suc place)
  | None ↦ elim passes [ true ↦ Some 0 | false ↦ None ]
]

-- the place of the last name that passes a test
abbrev pub last_place : (List ℕ → Bool) → List (List ℕ) → Option ℕ
last_place test [] = None
last_place test (name ∷ names) = place_behind (test name) (last_place test names)

abbrev pub one_if : Bool → ℕ
one_if true = 1
one_if false = 0

-- the place of the last name in a bucket
abbrev pub last_in : ℕ → List (List ℕ) → Option ℕ
last_in b names = last_place (has_bucket b) names

-- how many names pass it
abbrev pub number_of_names : (List ℕ → Bool) → List (List ℕ) → ℕ
number_of_names test [] = 0
number_of_names test (name ∷ names) = one_if (test name) + number_of_names test names
