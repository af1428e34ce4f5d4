-- Each word is found by its name, and by no other.
use Rattle.std.proofs.Common.{◌≡◌, ℕ, Bool, true, false, not, List, [], ◌∷◌, Option, Some, None, IsNone, IfSome, IsTrue, ◌↔◌, map, refl, sym, ap, subst, ◌∙◌, rules}
use Rattle.std.specs.Str.{bytes_eq, str_to_ascii_lowercase}
use Rattle.std.specs.Char.{to_ascii_lowercase}
use Rattle.std.specs.Bool.{one_answer}
use Rattle.std.specs.List.{list_all}
use Rattle.std.proofs.lemmas.Bool.{and_parts}
use Rattle.std.proofs.lemmas.Slice.Eq.{bytes_eq-Decides}
use Rattle.word_table.specs.declared.word.Word.{Word}
use Rattle.word_table.specs.declared.word.Word.TheVariants.{Dup, Go}
use Rattle.word_table.specs.Names.{name_of, is_named, first_named, all_words, word_named, is_go, EachIsFound, SourcesLackGo}

-- std's comparison without case is the definition's
pub same_test : (b : Bool) (xs ys : List ℕ) → (IsTrue b ↔ (map to_ascii_lowercase xs ≡ map to_ascii_lowercase ys)) → b ≡ bytes_eq (str_to_ascii_lowercase xs) (str_to_ascii_lowercase ys)
same_test b xs ys h = one_answer b (bytes_eq (str_to_ascii_lowercase xs) (str_to_ascii_lowercase ys)) h (bytes_eq-Decides (str_to_ascii_lowercase xs) (str_to_ascii_lowercase ys))

pub found : EachIsFound
found Dup = refl
found word = refl

found_in_source : (word : Word) → is_go word ≡ false → word_named (name_of word) ≡ Some word
found_in_source Go e = absurd cc
found_in_source word e = refl

named_is : (text : List ℕ) (word : Word) → is_go word ≡ false → IsTrue (is_named text word) → word_named text ≡ Some word
named_is text word other h = ap (λ t. first_named t all_words) same ∙ found_in_source word other
  where
    same : str_to_ascii_lowercase text ≡ str_to_ascii_lowercase (name_of word)
    same = (bytes_eq-Decides (str_to_ascii_lowercase text) (str_to_ascii_lowercase (name_of word))).0 h

-- what is found among words is one of them
passes : (test : Word → Bool) (lowered : List ℕ) (words : List Word) (word : Word) → list_all test words ≡ true → first_named lowered words ≡ Some word → test word ≡ true
passes test lowered [] word all h = cc
passes test lowered (other ∷ words) word all h =
    elim (bytes_eq lowered (str_to_ascii_lowercase (name_of other))) as
    (λ b. elim b [ true ↦ Some other | false ↦ first_named lowered words ] ≡ Some word → test word ≡ true) [
      | true ↦ λ k. let same : other ≡ word = cc in subst (λ w. test w ≡ true) same (and_parts (test other) (list_all test words) all).0
      | false ↦ λ k. passes test lowered words word (and_parts (test other) (list_all test words) all).1 k
    ] h

pub lack_go : SourcesLackGo
lack_go text word h = not_true (is_go word) (passes (λ w. not (is_go w)) (str_to_ascii_lowercase text) all_words word refl h)
  where
    not_true : (b : Bool) → not b ≡ true → b ≡ false
    not_true true e = absurd (let f : false ≡ true = e in cc)
    not_true false e = refl

first_is : (lowered : List ℕ) (words : List Word) (word : Word) → first_named lowered words ≡ Some word → bytes_eq lowered (str_to_ascii_lowercase (name_of word)) ≡ true
first_is lowered [] word h = cc
first_is lowered (other ∷ words) word h =
    elim (bytes_eq lowered (str_to_ascii_lowercase (name_of other))) as
    (λ b.
    bytes_eq lowered (str_to_ascii_lowercase (name_of other)) ≡ b → elim b [ true ↦ Some other | false ↦ first_named lowered words ] ≡ Some word →
    bytes_eq lowered (str_to_ascii_lowercase (name_of word)) ≡ true) [
      | true ↦ λ e k. let same : other ≡ word = cc in subst (λ w. bytes_eq lowered (str_to_ascii_lowercase (name_of w)) ≡ true) same e
      | false ↦ λ e k. first_is lowered words word k
    ] refl h

pub some_is : (text : List ℕ) (found_word : Option Word) → found_word ≡ word_named text → IfSome found_word (λ word. IsTrue (is_named text word))
some_is text None e = search rules
some_is text (Some word) e = first_is (str_to_ascii_lowercase text) all_words word (sym e)

pub none_is : (text : List ℕ) (found_word : Option Word) → found_word ≡ word_named text → IsNone found_word ↔ ((word : Word) → is_go word ≡ false → ¬ IsTrue (is_named text word))
none_is text None e = (λ _ word other named. no_some (e ∙ named_is text word other named), λ _. search rules)
  where
    no_some : {word : Word} → None ≡ Some word → ⊥
    no_some h = cc
none_is text (Some word) e = (λ h. absurd cc, λ no_word. absurd (no_word word (lack_go text word (sym e)) (first_is (str_to_ascii_lowercase text) all_words word (sym e))))
