-- The certificate of the library.
use Rattle.std.specs.Prelude.{◌≡◌, ◌+◌, Bool, true, false, ◌&&◌, List, [], ◌∷◌, ◌++◌}
use Rattle.word_table.specs.declared.word.Word.{Word}
use Rattle.depth_certifier.specs.declared.effect.Effect.{Effect}
use Rattle.depth_certifier.specs.Effects.{table_effect}
use Rattle.depth_certifier.specs.Certificate.{Cert}
use Rattle.depth_certifier.specs.Checking.{effect_in}
use Rattle.depth_certifier.specs.Rounds.{IsLeast}
use Rattle.library_laws.specs.Bodies.{arithmetic_words, pictured_words}
use Rattle.forth_library.specs.Definitions.{library_definitions}

-- the effect of a definition, with the return address of its call
abbrev pub with_call : Effect → Effect
with_call x = record { need = x.need; peak = x.peak; back = x.back + 1; exit = x.exit }

-- the first effects lie within those that the table gives these words
abbrev pub lie_within : List Effect → List Word → Bool
lie_within effects [] = true
lie_within [] (word ∷ words) = false
lie_within (x ∷ effects) (word ∷ words) = effect_in (with_call x) (table_effect word) && lie_within effects words

-- the library has a certificate, and by the least one each definition takes no more than the table gives its word
pub record LibraryIsCertified : Type 0 where
  pub certificate : Cert
  pub least : IsLeast library_definitions certificate
  pub effects : lie_within certificate.effects (arithmetic_words ++ pictured_words) ≡ true
