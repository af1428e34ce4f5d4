-- A dictionary while a reference to one of its values lasts, and afterwards.
use Rattle.std.specs.Prelude.{◌≡◌, ℕ, ◌+◌, ◌≤◌, ⊤}
use Rattle.std.specs.Borrow.{Fml, RattleType, MutBor, follows_so}
use mathlib.Core.Option.{none}
use Rattle.dictionary_core.specs.Pairs.{DictionaryState}
use Rattle.dictionary_core.specs.contracts.dictionary.Dictionary.{the_row}

module _ (V : RattleType) (d : MutBor (DictionaryState V.Denot)) where
  -- it ends with the same pairs, after no look or more, and at most so many
  abbrev pub keeps_pairs : ℕ → Fml
  keeps_pairs looks = follows_so (the_row V) (the_row V) d.ghost_name none (λ _ _. ⊤) (λ n. (n.pairs ≡ d.now.pairs) × (d.now.looks ≤ n.looks) × (n.looks ≤ d.now.looks + looks))
