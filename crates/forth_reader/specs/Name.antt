-- The form of a name, and of each token that is read: 1 to 31 graphic ASCII bytes.
use Rattle.std.specs.Prelude.{ℕ, ◌<◌, ◌≤◌, List, length}
use Rattle.std.specs.List.{All}

-- a text that can be a name
pub record IsName (text : List ℕ) : Type 0 where
  pub some : 0 < length text
  pub short : length text ≤ 31
  pub graphic : All (λ byte. (33 ≤ byte) × (byte ≤ 126)) text
