-- The names in made sources, and what is found under them.
use Rattle.std.proofs.Common.{◌≡◌, ℕ, zero, suc, ◌+◌, ◌<◌, ◌≤◌, Bool, true, false, ◌&&◌, not, ◌==◌, List, [], ◌∷◌, ◌++◌, length, Option, Some, None, refl, ap, sym, subst, ◌∙◌, arith}
use Rattle.std.specs.Prelude.{decimal}
use Rattle.std.specs.List.{list_all}
use Rattle.std.specs.Str.{bytes_eq, str_to_ascii_lowercase}
use Rattle.std.proofs.lemmas.Bool.{and_parts, eqb-true}
use Rattle.std.proofs.lemmas.Bool.Decides.{nat_tests}
use Rattle.std.proofs.lemmas.Slice.Eq.{bytes_eq-Decides}
use Rattle.std.proofs.lemmas.Fmt.{decimal_injective}
use Rattle.word_table.specs.declared.word.Word.{Word}
use Rattle.word_table.specs.Names.{name_of, all_words, first_named, word_named}
use Rattle.dictionary_core.specs.Buckets.{is_same_name}
use Rattle.dictionary_core.specs.Pairs.{Pair, pair, newest_value}
use Rattle.host_state.specs.declared.entry.Entry.{Entry}
use Rattle.host_state.specs.declared.entry.Known.TheVariants as known
use Rattle.made_sources.specs.MadeProgram.{made_name}
use Rattle.made_sources.proofs.Figures.{is_figure, figures, some, lowered}

-- ---- no word of the table

-- the name of a word, letters in lower case
abbrev low_name : Word → List ℕ
low_name word = str_to_ascii_lowercase (name_of word)

-- no word has a name that passes a test, where none of the table does
unnamed : (test : List ℕ → Bool) (text : List ℕ) (words : List Word) → test text ≡ true → list_all (λ word. not (test (low_name word))) words ≡ true → first_named text words ≡ None
unnamed test text [] passes none = refl
unnamed test text (word ∷ words) passes none =
    let parts = and_parts (not (test (low_name word))) (list_all (λ word. not (test (low_name word))) words) none in
    chosen (bytes_eq text (low_name word)) (λ same. other (test (low_name word)) parts.0 (subst (λ t. test t ≡ true) ((bytes_eq-Decides text (low_name word)).0 same) passes)) (unnamed test text words passes parts.1)
  where
    other : (b : Bool) → not b ≡ true → b ≡ true → ⊥
    other true h k = cc
    other false h k = cc

    chosen : (b : Bool) → (b ≡ true → ⊥) → first_named text words ≡ None → ◌≡◌ {A = Option Word} (elim b [ true ↦ Some word | false ↦ first_named text words ]) None
    chosen true differs rest = absurd (differs refl)
    chosen false differs rest = rest

-- a digit and more digits
abbrev is_number : List ℕ → Bool
is_number [] = false
is_number (byte ∷ bytes) = is_figure byte && list_all is_figure bytes

-- `w` and digits
abbrev pub is_numbered : List ℕ → Bool
is_numbered [] = false
is_numbered (byte ∷ bytes) = (byte == 119) && list_all is_figure bytes

number_passes : (text : List ℕ) → list_all is_figure text ≡ true → 0 < length text → is_number text ≡ true
number_passes [] h some = absurd (omega arith)
number_passes (byte ∷ bytes) h some = h

pub number_is_no_word : (n : ℕ) → n < 65536 → word_named (decimal n) ≡ None
number_is_no_word n h = rw (lowered (decimal n) (figures n h)) (unnamed is_number (decimal n) all_words (number_passes (decimal n) (figures n h) (some n h)) refl)

name_passes : (place : ℕ) → place < 65536 → is_numbered (str_to_ascii_lowercase (made_name place)) ≡ true
name_passes place h = rw (lowered (decimal place) (figures place h)) (figures place h)

pub name_is_no_word : (place : ℕ) → place < 65536 → word_named (made_name place) ≡ None
name_is_no_word place h = unnamed is_numbered (str_to_ascii_lowercase (made_name place)) all_words (name_passes place h) refl

-- ---- the entries of the first definitions

-- the names of the places from 1 to a last one, each with the number of its definition
abbrev pub entries_to : ℕ → List (Pair Entry)
entries_to zero = []
entries_to (suc place) = entries_to place ++ pair (made_name (place + 1)) (record { number = length (entries_to place); known = known.Definition place }) ∷ []

-- the entry of a definition
abbrev pub made_entry : ℕ → Entry
made_entry definition = record { number = length (entries_to definition); known = known.Definition definition }

abbrev found_or : Bool → Entry → Option Entry → Option Entry
found_or true value other = Some value
found_or false value other = other

-- the newest pair is looked at first
pub newest_behind : (pairs : List (Pair Entry)) (last : Pair Entry) (asked : List ℕ) → newest_value (pairs ++ last ∷ []) asked ≡ found_or (is_same_name asked last.name) last.value (newest_value pairs asked)
newest_behind [] last asked = either (is_same_name asked last.name)
  where
    either : (b : Bool) → ◌≡◌ {A = Option Entry} (elim b [ true ↦ Some last.value | false ↦ None ]) (found_or b last.value None)
    either true = refl
    either false = refl
newest_behind (p ∷ pairs) last asked = rw (newest_behind pairs last asked) (either (is_same_name asked last.name))
  where
    either : (b : Bool) →
        ◌≡◌ {A = Option Entry} (elim (found_or b last.value (newest_value pairs asked)) [ Some value ↦ Some value | None ↦ elim (is_same_name asked p.name) [ true ↦ Some p.value | false ↦ None ] ])
        (found_or b last.value (newest_value (p ∷ pairs) asked))
    either true = refl
    either false = refl

same_text : (text : List ℕ) → bytes_eq text text ≡ true
same_text text = (bytes_eq-Decides text text).1 refl

pub same_name : (name : List ℕ) → is_same_name name name ≡ true
same_name name = same_text (str_to_ascii_lowercase name)

pub clash : (b : Bool) → b ≡ false → b ≡ true → ⊥
clash b h k = cc

other_name : (b : Bool) (value : Entry) (rest : Option Entry) → (b ≡ true → ⊥) → rest ≡ None → found_or b value rest ≡ None
other_name true value rest differs none = absurd (differs refl)
other_name false value rest differs none = none

-- where no entry has the name that is asked
pub not_found : (asked : List ℕ) (place : ℕ) → place ≤ 200 → is_numbered (str_to_ascii_lowercase asked) ≡ false → newest_value (entries_to place) asked ≡ None
not_found asked zero small differs = refl
not_found asked (suc place) small differs =
    newest_behind (entries_to place) (pair (made_name (place + 1)) (made_entry place)) asked
    ∙ other_name (is_same_name asked (made_name (place + 1))) (made_entry place) (newest_value (entries_to place) asked)
    (λ same. clash (is_numbered (str_to_ascii_lowercase asked)) differs
    (subst (λ t. is_numbered t ≡ true) ((bytes_eq-Decides (str_to_ascii_lowercase (made_name (place + 1))) (str_to_ascii_lowercase asked)).0 same) (name_passes (place + 1) (omega arith))))
    (not_found asked place (omega arith) differs)

no_letter : (byte : ℕ) → is_figure byte ≡ true → (byte == 119) ≡ false
no_letter byte h = grind (arith, nat_tests)

figures_are_no_name : (text : List ℕ) → list_all is_figure text ≡ true → 0 < length text → is_numbered text ≡ false
figures_are_no_name [] h some = absurd (omega arith)
figures_are_no_name (byte ∷ bytes) h some = rw (no_letter byte (and_parts (is_figure byte) (list_all is_figure bytes) h).0) refl

-- a number is not the name of a definition
pub number_not_found : (n place : ℕ) → n < 65536 → place ≤ 200 → newest_value (entries_to place) (decimal n) ≡ None
number_not_found n place h small = not_found (decimal n) place small (rw (lowered (decimal n) (figures n h)) (figures_are_no_name (decimal n) (figures n h) (some n h)))

-- two names are the same where their places are
names_differ : (i j : ℕ) → i < 65536 → j < 65536 → is_same_name (made_name i) (made_name j) ≡ true → i ≡ j
names_differ i j h k same =
    let texts = (bytes_eq-Decides (str_to_ascii_lowercase (made_name j)) (str_to_ascii_lowercase (made_name i))).0 same in
    let a = lowered (decimal i) (figures i h) in
    let b = lowered (decimal j) (figures j k) in
    let e : decimal i ≡ decimal j = cc in
    decimal_injective i j (omega (arith, h)) (omega (arith, k)) e

by_name : (b : Bool) (definition place : ℕ) (rest : Option Entry) → (b ≡ true → definition ≡ place) → (b ≡ false → rest ≡ Some (made_entry definition)) → found_or b (made_entry place) rest ≡ Some (made_entry definition)
by_name true definition place rest h k = ap (λ d. Some (made_entry d)) (sym (h refl))
by_name false definition place rest h k = k refl

not_last : (definition place : ℕ) → definition < suc place → (definition ≡ place → ⊥) → definition < place
not_last definition place h differs = elim (definition == place) as (λ b. (definition == place) ≡ b → definition < place) [
  | true ↦ λ e. absurd (differs (eqb-true definition place e))
  | false ↦ λ e. grind (arith, nat_tests)
] refl

-- the entry of a definition
pub found : (definition place : ℕ) → place ≤ 200 → definition < place → newest_value (entries_to place) (made_name (definition + 1)) ≡ Some (made_entry definition)
found definition zero small inside = absurd (omega arith)
found definition (suc place) small inside =
    newest_behind (entries_to place) (pair (made_name (place + 1)) (made_entry place)) (made_name (definition + 1))
    ∙ by_name (is_same_name (made_name (definition + 1)) (made_name (place + 1))) definition place (newest_value (entries_to place) (made_name (definition + 1)))
    (λ same. let e : definition + 1 ≡ place + 1 = names_differ (definition + 1) (place + 1) (omega arith) (omega arith) same in (omega (arith, e)))
    (λ other. found definition place (omega arith)
    (not_last definition place inside (λ e. clash (is_same_name (made_name (definition + 1)) (made_name (place + 1))) other
    (subst (λ d. is_same_name (made_name (definition + 1)) (made_name (d + 1)) ≡ true) e (same_name (made_name (definition + 1)))))))
