-- A list of names that counts its looks.
use Rattle.std.specs.Prelude.{ℕ, ◌+◌, min, List}

-- the names, and how often one was asked
pub record NameList : Type 0 where
  pub names : List (List ℕ)
  pub looks : ℕ

-- one look more, where the count has not come to its end
abbrev pub looks_after : ℕ → ℕ
looks_after looks = min (looks + 1) 18446744073709551615
