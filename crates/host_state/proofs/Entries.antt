-- Words of the table are told apart by their names.
use Rattle.std.proofs.Common.{◌≡◌, Bool, true, false, Some, ap, sym, ◌∙◌, refl, rules}
use Rattle.std.specs.Str.{bytes_eq}
use Rattle.std.proofs.lemmas.Slice.Eq.{bytes_eq-Decides}
use denote.Enum.Bare.{sameb, same_true, same_false}
use Rattle.word_table.specs.declared.word.Word.{Word}
use Rattle.word_table.specs.contracts.word.Word.{the_type}
use Rattle.word_table.specs.declared.word.Vocabulary.TheVariants.{Kernel}
use Rattle.word_table.specs.Names.{name_of, word_in, EachIsFound}

names_differ : (a b : Word) → EachIsFound → (a ≡ b → ⊥) → (t : Bool) → bytes_eq (name_of a) (name_of b) ≡ t → false ≡ t
names_differ a b found other false e = refl
names_differ a b found other true e =
    let names : name_of a ≡ name_of b = (bytes_eq-Decides (name_of a) (name_of b)).0 e in
    let both : Some a ≡ Some b = sym (found a) ∙ ap (word_in Kernel) names ∙ found b in
    let same : a ≡ b = cc in
    absurd (other same)

pub same_names : (a b : Word) (result : Bool) → EachIsFound → result ≡ sameb the_type a b → result ≡ bytes_eq (name_of a) (name_of b)
same_names a b true found e = sym ((bytes_eq-Decides (name_of a) (name_of b)).1 (ap name_of (same_true the_type (search rules) a b (sym e))))
same_names a b false found e = names_differ a b found (same_false the_type a b (sym e)) (bytes_eq (name_of a) (name_of b)) refl
