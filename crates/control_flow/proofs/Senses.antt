-- What a token stands for, and what holds of it.
use Rattle.std.proofs.Common.{◌≡◌, ℕ, ◌<◌, ◌≤◌, nat_le, ◌==◌, Bool, true, false, ◌&&◌, List, [], ◌∷◌, ◌++◌, length, Option, Some, None, refl, ap, sym, subst, arith, leb-true}
use Rattle.std.specs.Prelude.{slice_index_or, Result, Ok, Err}
use Rattle.std.specs.List.{list_all}
use Rattle.std.proofs.lemmas.Bool.{eqb-false, and_parts, and_from, lt-ltb}
use Rattle.word_table.specs.declared.word.Vocabulary.{Vocabulary}
use Rattle.word_table.specs.declared.word.Word.{Word}
use Rattle.word_table.specs.declared.word.Word.TheVariants.{ToR, RFrom, RFetch, Index, OuterIndex, Unloop, Create, Go}
use Rattle.word_table.specs.declared.word.Class.{Class}
use Rattle.word_table.specs.declared.word.Class.TheVariants as class
use Rattle.word_table.specs.Table.{entry_of}
use Rattle.word_table.specs.Names.{word_in, is_go}
use Rattle.forth_reader.specs.Bytes.{is_graphic}
use Rattle.forth_reader.specs.declared.number.NumberRead.{NumberRead}
use Rattle.forth_reader.specs.declared.number.NumberRead.TheVariants as number
use Rattle.forth_reader.specs.Number.{is_digit, digits_value, signed_cell, digits_read, signed_read, based_read, prefix_base, unprefixed_read, number_read}
use Rattle.forth_program.specs.Tree.{Plain}
use Rattle.forth_program.specs.Form.{is_code_class, may_be_token, is_not_go}
use Rattle.dictionary_core.specs.Pairs.{Pair, newest_value}
use Rattle.dictionary_core.specs.Buckets.{is_same_name}
use Rattle.host_state.specs.declared.entry.Entry.{Entry}
use Rattle.host_state.specs.declared.entry.Known.{Known}
use Rattle.host_state.specs.declared.entry.Known.TheVariants as known
use Rattle.host_state.specs.declared.entry.Ticked.{Ticked}
use Rattle.host_state.specs.declared.entry.Ticked.TheVariants as ticked
use Rattle.control_flow.specs.declared.refusal.SourceCause.{SourceCause}
use Rattle.control_flow.specs.declared.refusal.SourceCause.TheVariants as cause
use Rattle.control_flow.specs.declared.sense.Sense.{Sense}
use Rattle.control_flow.specs.declared.sense.Sense.TheVariants as sense
use Rattle.control_flow.specs.Sense.{number_sense, structure_sense, acting_sense, class_sense, known_sense, sense_by, sense_in}
use Rattle.control_flow.specs.Ticks.{known_ticked, word_ticked, ticked_in, known_node, ticked_node}
use Rattle.control_flow.specs.SourceLaw.{is_plain, is_read_token}

-- definitions have numbers below N, constants are cells, and addresses are below 0x8000
abbrev pub IsKnown : ℕ → Known → Type 0
IsKnown N (known.Definition definition) = definition < N
IsKnown N (known.Constant x) = x < 65536
IsKnown N (known.Address address) = address < 32768
IsKnown N (known.Child part address) = (part < N) × (address < 32768)
IsKnown N (known.Defining number) = Unit {0}

known_wider : (N M : ℕ) (k : Known) → N ≤ M → IsKnown N k → IsKnown M k
known_wider N M (known.Definition definition) h k = omega (arith, k)
known_wider N M (known.Constant x) h k = k
known_wider N M (known.Address address) h k = k
known_wider N M (known.Child part address) h k = (omega (arith, k.0), k.1)
known_wider N M (known.Defining number) h k = tt

-- so does each name
abbrev pub AllBelow : ℕ → List (Pair Entry) → Type 0
AllBelow N [] = Unit {0}
AllBelow N (p ∷ ps) = IsKnown N p.value.known × AllBelow N ps

below_on : (N : ℕ) (v one : Entry) (o : Option Entry) (t : Bool) → ((one : Entry) → o ≡ Some one → IsKnown N one.known) → IsKnown N v.known →
    elim o as (λ o. Option Entry) [ Some w ↦ Some w | None ↦ elim t as (λ t. Option Entry) [ true ↦ Some v | false ↦ None ] ] ≡ Some one → IsKnown N one.known
below_on N v one (Some w) t more h e = more one e
below_on N v one None true more h e =
    let is : v ≡ one = cc in
    subst (λ (x : Entry). IsKnown N x.known) is h
below_on N v one None false more h e = absurd cc

pub newest_below : (N : ℕ) (entries : List (Pair Entry)) (asked : List ℕ) (one : Entry) → AllBelow N entries → newest_value entries asked ≡ Some one → IsKnown N one.known
newest_below N [] asked one h e = absurd cc
newest_below N (p ∷ ps) asked one h e = below_on N p.value one (newest_value ps asked) (is_same_name asked p.name) (λ one f. newest_below N ps asked one h.1 f) h.0 e

pub below_more : (N : ℕ) (entries : List (Pair Entry)) (p : Pair Entry) → AllBelow N entries → IsKnown N p.value.known → AllBelow N (entries ++ p ∷ [])
below_more N [] p h k = (k, tt)
below_more N (q ∷ qs) p h k = (h.0, below_more N qs p h.1 k)

pub below_wider : (N M : ℕ) (entries : List (Pair Entry)) → N ≤ M → AllBelow N entries → AllBelow M entries
below_wider N M [] h k = tt
below_wider N M (p ∷ ps) h k = (known_wider N M p.value.known h k.0, below_wider N M ps h k.1)

-- a number that is read is a cell, a word is plain, and definitions and children are such
abbrev pub IsSense : ℕ → Sense → Type 0
IsSense N (sense.Number value) = value < 65536
IsSense N (sense.Plain word) = is_plain word ≡ true
IsSense N (sense.Calls definition) = definition < N
IsSense N (sense.Inherits part address) = (part < N) × (address < 32768)
IsSense N s = Unit {0}

-- a token that is ticked stands for such an item
abbrev pub IsTicked : ℕ → Result Ticked SourceCause → Type 0
IsTicked N (Ok one) = is_read_token N (ticked_node one) ≡ true
IsTicked N (Err c) = Unit {0}

module _ (N : ℕ) where
  structure_is : (word : Word) → IsSense N (structure_sense word)
  structure_is ToR = refl
  structure_is RFrom = refl
  structure_is RFetch = refl
  structure_is Index = refl
  structure_is OuterIndex = refl
  structure_is Unloop = refl
  structure_is word = tt

  code_is : (word : Word) → is_code_class ((entry_of word).class) ≡ true → is_plain word ≡ true
  code_is ToR e = refl
  code_is RFrom e = refl
  code_is RFetch e = refl
  code_is Index e = refl
  code_is OuterIndex e = refl
  code_is Unloop e = refl
  code_is word e = e

  acting_is : (word : Word) → IsSense N (acting_sense word)
  acting_is Create = tt
  acting_is word = tt

  class_is : (kind : Class) (word : Word) → (entry_of word).class ≡ kind → IsSense N (class_sense kind word)
  class_is class.Inline word e = code_is word (ap is_code_class e)
  class_is class.Library word e = code_is word (ap is_code_class e)
  class_is class.Structure word e = structure_is word
  class_is class.Host word e = acting_is word

  either_is : (test : Bool) (r s : NumberRead) → (test ≡ true → IsSense N (number_sense r)) → (test ≡ false → IsSense N (number_sense s)) → IsSense N (number_sense (elim test [ true ↦ r | false ↦ s ]))
  either_is true r s h k = h refl
  either_is false r s h k = k refl

  cell_is : (is_negative : Bool) (value : ℕ) → IsSense N (number_sense (signed_cell is_negative value))
  cell_is false value = either_is (nat_le value 65535) _ _ (λ fits. omega (arith, leb-true value 65535 fits)) (λ past. tt)
  cell_is true value =
      either_is (nat_le value 32768) _ _
      (λ fits. either_is (value == 0) _ _ (λ is_zero. omega arith) (λ not_zero. omega (arith, eqb-false value 0 not_zero))) (λ past. tt)

  digits_is : (base : ℕ) (is_negative : Bool) (text : List ℕ) → IsSense N (number_sense (digits_read base is_negative text))
  digits_is base is_negative [] = tt
  digits_is base is_negative (b ∷ bs) = either_is (list_all (is_digit base) (b ∷ bs)) _ _ (λ digits. cell_is is_negative (digits_value base (b ∷ bs))) (λ others. tt)

  signed_is : (base : ℕ) (text : List ℕ) → IsSense N (number_sense (signed_read base text))
  signed_is base [] = tt
  signed_is base (b ∷ bs) = either_is (b == 45) _ _ (λ minus. digits_is base true bs) (λ none. digits_is base false (b ∷ bs))

  based_is : (base : ℕ) (text : List ℕ) → IsSense N (number_sense (based_read base text))
  based_is base text = either_is (nat_le 2 base && nat_le base 36) _ _ (λ fits. signed_is base text) (λ others. tt)

  quoted_on : (base : ℕ) (text : List ℕ) (byte : ℕ) (test : Bool) → (test ≡ true → byte < 65536) →
      IsSense N (number_sense (elim (elim test as (λ t. Option ℕ) [ true ↦ Some byte | false ↦ None ]) as (λ o. NumberRead) [ Some b ↦ number.Value b | None ↦ based_read base text ]))
  quoted_on base text byte true h = h refl
  quoted_on base text byte false h = based_is base text

  graphic_small : (byte : ℕ) → is_graphic byte ≡ true → byte < 65536
  graphic_small byte e = omega (arith, leb-true byte 126 (and_parts (nat_le 33 byte) (nat_le byte 126) e).1)

  unprefixed_is : (base : ℕ) (text : List ℕ) → IsSense N (number_sense (unprefixed_read base text))
  unprefixed_is base text =
      quoted_on base text (slice_index_or text 1 0) (length text == 3 && slice_index_or text 0 0 == 39 && slice_index_or text 2 0 == 39 && is_graphic (slice_index_or text 1 0))
      (λ e. graphic_small (slice_index_or text 1 0) (and_parts (length text == 3 && slice_index_or text 0 0 == 39 && slice_index_or text 2 0 == 39) (is_graphic (slice_index_or text 1 0)) e).1)

  prefixed_on : (base b : ℕ) (bs : List ℕ) (o : Option ℕ) → IsSense N (number_sense (elim o as (λ o. NumberRead) [ Some own ↦ signed_read own bs | None ↦ unprefixed_read base (b ∷ bs) ]))
  prefixed_on base b bs (Some own) = signed_is own bs
  prefixed_on base b bs None = unprefixed_is base (b ∷ bs)

  number_is : (base : ℕ) (text : List ℕ) → IsSense N (number_sense (number_read base text))
  number_is base [] = tt
  number_is base (b ∷ bs) = prefixed_on base b bs (prefix_base b)

  known_is : (k : Known) → IsKnown N k → IsSense N (known_sense k)
  known_is (known.Definition definition) h = h
  known_is (known.Constant x) h = h
  known_is (known.Address address) h = omega (arith, h)
  known_is (known.Child part address) h = h
  known_is (known.Defining number) h = tt

  token_is : (base : ℕ) (token : List ℕ) (found : Option Word) → IsSense N (sense_by base token found)
  token_is base token (Some word) = class_is ((entry_of word).class) word refl
  token_is base token None = number_is base token

  entry_on : (words : Vocabulary) (entries : List (Pair Entry)) (base : ℕ) (token : List ℕ) (o : Option Entry) → newest_value entries token ≡ o → AllBelow N entries →
      IsSense N (elim o as (λ o. Sense) [ Some entry ↦ known_sense entry.known | None ↦ sense_by base token (word_in words token) ])
  entry_on words entries base token (Some entry) e h = known_is entry.known (newest_below N entries token entry h e)
  entry_on words entries base token None e h = token_is base token (word_in words token)

  pub sense_is : (words : Vocabulary) (entries : List (Pair Entry)) (base : ℕ) (token : List ℕ) → AllBelow N entries → IsSense N (sense_in words entries base token)
  sense_is words entries base token h = entry_on words entries base token (newest_value entries token) refl h

  -- ---- names that are ticked

  known_token : (k : Known) → IsKnown N k → is_read_token N (known_node k) ≡ true
  known_token (known.Definition definition) h = lt-ltb definition N h
  known_token (known.Constant x) h = lt-ltb x 65536 h
  known_token (known.Address address) h = lt-ltb address 65536 (omega (arith, h))
  known_token (known.Child part address) h = and_from _ _ (lt-ltb part N h.0) (lt-ltb address 32768 h.1)
  known_token (known.Defining number) h = refl

  entry_token : (entry : Entry) (k : Known) → IsKnown N entry.known → IsTicked N (known_ticked entry k)
  entry_token entry (known.Definition definition) h = known_token entry.known h
  entry_token entry (known.Constant x) h = known_token entry.known h
  entry_token entry (known.Address address) h = known_token entry.known h
  entry_token entry (known.Child part address) h = known_token entry.known h
  entry_token entry (known.Defining number) h = tt

  word_on : (word : Word) (t : Bool) → may_be_token (Plain word) ≡ t → IsTicked N (elim t as (λ t. Result Ticked SourceCause) [ true ↦ Ok (ticked.Word word) | false ↦ Err cause.NeedsName ])
  word_on word true e = e
  word_on word false e = tt

  word_token : (found : Option Word) → IsTicked N (word_ticked found)
  word_token (Some word) = word_on word (may_be_token (Plain word)) refl
  word_token None = tt

  name_on : (words : Vocabulary) (entries : List (Pair Entry)) (name : List ℕ) (o : Option Entry) → newest_value entries name ≡ o → AllBelow N entries →
      IsTicked N (elim o as (λ o. Result Ticked SourceCause) [ Some entry ↦ known_ticked entry entry.known | None ↦ word_ticked (word_in words name) ])
  name_on words entries name (Some entry) e h = entry_token entry entry.known (newest_below N entries name entry h e)
  name_on words entries name None e h = word_token (word_in words name)

  pub ticked_is : (words : Vocabulary) (entries : List (Pair Entry)) (name : List ℕ) → AllBelow N entries → IsTicked N (ticked_in words entries name)
  ticked_is words entries name h = name_on words entries name (newest_value entries name) refl h

-- ---- words that are not GO

-- no word of a vocabulary is GO
abbrev pub LacksGo : Vocabulary → Type 0
LacksGo words = (text : List ℕ) (word : Word) → word_in words text ≡ Some word → is_go word ≡ false

pub still_lacks : {from at : Vocabulary} → at ≡ from → LacksGo from → LacksGo at
still_lacks e lacks = subst LacksGo (sym e) lacks

-- a plain word is not GO
abbrev pub IsNotGo : Sense → Type 0
IsNotGo (sense.Plain word) = is_go word ≡ false
IsNotGo s = Unit {0}

pub plain_not_go : (word : Word) → is_go word ≡ false → is_not_go (Plain word) ≡ true
plain_not_go Go e = absurd cc
plain_not_go word e = refl

structure_not_go : (word : Word) → IsNotGo (structure_sense word)
structure_not_go ToR = refl
structure_not_go RFrom = refl
structure_not_go RFetch = refl
structure_not_go Index = refl
structure_not_go OuterIndex = refl
structure_not_go Unloop = refl
structure_not_go word = tt

acting_not_go : (word : Word) → IsNotGo (acting_sense word)
acting_not_go Create = tt
acting_not_go word = tt

class_not_go : (kind : Class) (word : Word) → is_go word ≡ false → IsNotGo (class_sense kind word)
class_not_go class.Inline word e = e
class_not_go class.Library word e = e
class_not_go class.Structure word e = structure_not_go word
class_not_go class.Host word e = acting_not_go word

number_not_go : (r : NumberRead) → IsNotGo (number_sense r)
number_not_go (number.Value value) = tt
number_not_go number.Range = tt
number_not_go number.NotNumber = tt

known_not_go : (k : Known) → IsNotGo (known_sense k)
known_not_go (known.Definition definition) = tt
known_not_go (known.Constant x) = tt
known_not_go (known.Address address) = tt
known_not_go (known.Child part address) = tt
known_not_go (known.Defining number) = tt

found_not_go : (base : ℕ) (token : List ℕ) (found : Option Word) → ((word : Word) → found ≡ Some word → is_go word ≡ false) → IsNotGo (sense_by base token found)
found_not_go base token (Some word) lacks = class_not_go ((entry_of word).class) word (lacks word refl)
found_not_go base token None lacks = number_not_go (number_read base token)

entry_not_go : (words : Vocabulary) (base : ℕ) (token : List ℕ) (o : Option Entry) → LacksGo words →
    IsNotGo (elim o as (λ o. Sense) [ Some entry ↦ known_sense entry.known | None ↦ sense_by base token (word_in words token) ])
entry_not_go words base token (Some entry) lacks = known_not_go entry.known
entry_not_go words base token None lacks = found_not_go base token (word_in words token) (lacks token)

pub sense_not_go : (words : Vocabulary) (entries : List (Pair Entry)) (base : ℕ) (token : List ℕ) → LacksGo words → IsNotGo (sense_in words entries base token)
sense_not_go words entries base token lacks = entry_not_go words base token (newest_value entries token) lacks
