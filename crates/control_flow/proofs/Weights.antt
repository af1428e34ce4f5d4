-- The weights of words.
use Rattle.std.proofs.Common.{◌≡◌, ◌≤◌, nat_le, true, refl, leb-true}
use Rattle.word_table.specs.declared.word.Word.{Word}
use Rattle.word_table.specs.declared.word.Word.TheVariants.{Dup}
use Rattle.word_table.specs.Table.{entry_of}

light_test : (word : Word) → nat_le (entry_of word).weight 60000 ≡ true
light_test Dup = refl
light_test word = refl

pub word_is_light : (word : Word) → (entry_of word).weight ≤ 60000
word_is_light word = leb-true (entry_of word).weight 60000 (light_test word)
