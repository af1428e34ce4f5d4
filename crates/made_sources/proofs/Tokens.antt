-- Tokens of made sources: what is read at a place whose next bytes are known. The place is any; what is not named here stays as it is.
use Rattle.std.proofs.Common.{◌≡◌, ℕ, suc, ◌+◌, ◌<◌, ◌≤◌, Bool, true, false, ◌==◌, List, [], ◌∷◌, ◌++◌, length, Some, None, refl, ap, sym, ◌∙◌, arith, le-leb}
use Rattle.std.specs.Prelude.{decimal}
use Rattle.std.specs.List.{list_all}
use Rattle.std.proofs.lemmas.Bool.{and_parts}
use Rattle.std.proofs.lemmas.Bool.Decides.{nat_tests}
use Rattle.word_table.specs.declared.word.Word.{Word}
use Rattle.word_table.specs.declared.word.Vocabulary.TheVariants as vocabulary
use Rattle.word_table.specs.Names.{word_named, word_in}
use Rattle.forth_program.specs.Tree.{Node, Literal, Plain, Call, Empty, Then}
use Rattle.forth_reader.specs.declared.number.NumberRead.TheVariants.{Value}
use Rattle.forth_reader.specs.Number.{number_read}
use Rattle.forth_reader.specs.Bytes.{is_graphic}
use Rattle.forth_reader.specs.Reading.{Reads, may_follow_token, next_from, name_from}
use Rattle.forth_reader.specs.Splitting.{Blank, is_read, run, NextIsComputed, NameIsComputed}
use Rattle.dictionary_core.specs.Pairs.{newest_value}
use Rattle.control_flow.specs.declared.nest.Ending.TheVariants as ending
use Rattle.control_flow.specs.ParseResult.{ParserState, ParseResult, Fine, ◌>>=◌, most_weight, weighed_as, weighed}
use Rattle.control_flow.specs.Nest.{nest_ended}
use Rattle.control_flow.specs.Sense.{number_sense, sense_by, sense_in}
use Rattle.control_flow.specs.ReadTokens.{base_at, read_token_of, token_at, spelled_of, spelled_at}
use Rattle.control_flow.specs.Items.{One, Many, nested, alone, then_items, items_by, items_at}
use Rattle.made_sources.specs.MadeProgram.{made_name}
use Rattle.made_sources.proofs.Names.{made_entry, clash}
use Rattle.made_sources.proofs.Figures.{is_figure, figures, graphic, some, short}

-- a token that opens no comment
pub record IsToken (token : List ℕ) : Type 0 where
  pub some : 0 < length token
  pub short : length token ≤ 31
  pub graphic : list_all is_graphic token ≡ true
  pub no_parenthesis : token ≡ 40 ∷ [] → ⊥
  pub no_line : token ≡ 92 ∷ [] → ⊥

abbrev first_is : ℕ → List ℕ → Bool
first_is byte [] = false
first_is byte (b ∷ bytes) = b == byte

-- a token that begins otherwise than with `(` and `\`
pub is_token : (token : List ℕ) → 0 < length token → length token ≤ 31 → list_all is_graphic token ≡ true → first_is 40 token ≡ false → first_is 92 token ≡ false → IsToken token
is_token token some short graphic parenthesis line = record {
  some = some;
  short = short;
  graphic = graphic;
  no_parenthesis = λ e. clash (first_is 40 token) parenthesis (ap (first_is 40) e);
  no_line = λ e. clash (first_is 92 token) line (ap (first_is 92) e);
}

pub name_token : (place : ℕ) → place < 65536 → IsToken (made_name place)
name_token place h = is_token (made_name place) (omega arith) (let s = short place h in omega arith) (graphic place h) refl refl

figures_begin : (text : List ℕ) (byte : ℕ) → list_all is_figure text ≡ true → is_figure byte ≡ false → first_is byte text ≡ false
figures_begin [] byte h k = refl
figures_begin (b ∷ bytes) byte h k = differ b byte (and_parts (is_figure b) (list_all is_figure bytes) h).0 k
  where
    differ : (b byte : ℕ) → is_figure b ≡ true → is_figure byte ≡ false → (b == byte) ≡ false
    differ b byte h k = grind (arith, nat_tests)

-- a text of figures is no comment
pub number_token : (n : ℕ) → n < 65536 → IsToken (decimal n)
number_token n h = is_token (decimal n) (some n h) (let s = short n h in omega arith) (graphic n h) (figures_begin (decimal n) 40 (figures n h) refl) (figures_begin (decimal n) 92 (figures n h) refl)

-- ---- the next token

-- the place behind it
abbrev pub behind : ParserState → List ℕ → ParserState
behind at rest = record at { rest = rest; count = at.count + 1 }

module _ (next : NextIsComputed) (names : NameIsComputed) where
  next_token : (k : ℕ) (token rest : List ℕ) → IsToken token → may_follow_token rest ≡ true → next_from k (32 ∷ (token ++ rest)) ≡ Reads token (k + 1) rest
  next_token k token rest is follows = sym ((next k (32 ∷ (token ++ rest)) (Reads token (k + 1) rest)).0 (record {
    pieces = Blank 32 ∷ [];
    rest = token ++ rest;
    are_pieces = (refl, tt);
    text_is = refl;
    stands = run token rest (Reads token (k + 1) rest) (record { some = is.some; graphic = is.graphic }) is.no_parenthesis is.no_line (is_read rest follows is.short);
  }))

  next_name : (k : ℕ) (token rest : List ℕ) → IsToken token → may_follow_token rest ≡ true → name_from k (32 ∷ (token ++ rest)) ≡ Reads token (k + 1) rest
  next_name k token rest is follows = sym ((names k (32 ∷ (token ++ rest)) (Reads token (k + 1) rest)).0 (record {
    blanks = 32 ∷ [];
    rest = token ++ rest;
    are_blank = refl;
    text_is = refl;
    stands = run token rest (Reads token (k + 1) rest) (record { some = is.some; graphic = is.graphic }) (is_read rest follows is.short);
  }))

  pub token_is : (at : ParserState) (token rest : List ℕ) → at.rest ≡ 32 ∷ (token ++ rest) → IsToken token → may_follow_token rest ≡ true →
      token_at at ≡ Fine (record { sense = sense_in at.words at.entries (base_at at) token; at = behind at rest })
  token_is at token rest text is follows =
      ap (λ t. read_token_of at (next_from at.count t)) text
      ∙ ap (read_token_of at) (next_token at.count token rest is follows)

  pub name_is : (at : ParserState) (token rest : List ℕ) → at.rest ≡ 32 ∷ (token ++ rest) → IsToken token → may_follow_token rest ≡ true → spelled_at at ≡ Fine (record { name = token; at = behind at rest })
  name_is at token rest text is follows =
      ap (λ t. spelled_of at (name_from at.count t)) text
      ∙ ap (spelled_of at) (next_name at.count token rest is follows)

-- ---- items

pub weighs : (number weight : ℕ) (at : ParserState) → at.weight + weight ≤ most_weight at → weighed_as number weight at ≡ Fine (record at { weight = at.weight + weight })
weighs number weight at light = rw (le-leb (at.weight + weight) (most_weight at) light, weighed_as) refl

abbrev one_with : Node → ParserState → ParseResult One
one_with node after = Fine (record { node = node; at = after })

abbrev many_with : Node → Many → ParseResult Many
many_with node many = Fine (record many { nodes = Then node many.nodes })

abbrev ended : ParserState → ParseResult Many
ended after = Fine (record { nodes = Empty; ending = ending.Semicolon; at = after })

-- an item of one token, and items behind it
pub item_then : (n : ℕ) (at seen : ParserState) (token : List ℕ) (weight : ℕ) (node : Node) (many : Many) →
    token_at at ≡ Fine (record { sense = sense_in at.words at.entries (base_at at) token; at = seen }) →
    ((go : ParserState → ParseResult Many) (m : ℕ) → items_by go m seen (sense_in at.words at.entries (base_at at) token) ≡ then_items go (alone weight node seen)) →
    seen.weight + weight ≤ most_weight seen → items_at n (record seen { weight = seen.weight + weight }) ≡ Fine many →
    items_at (suc n) at ≡ Fine (record many { nodes = Then node many.nodes })
unfolding items_at
item_then n at seen token weight node many read stands light rest =
    ap (λ r. r >>= λ seen. items_by (items_at n) n seen.at seen.sense) read
    ∙ stands (items_at n) n
    ∙ ap (λ r. then_items (items_at n) (r >>= one_with node)) (weighs seen.count weight seen light)
    ∙ ap (λ r. r >>= many_with node) rest

-- the end of a definition, where no definition is named `;`
pub items_end : (n : ℕ) (at seen : ParserState) → token_at at ≡ Fine (record { sense = sense_in at.words at.entries (base_at at) (59 ∷ []); at = seen }) →
    newest_value at.entries (59 ∷ []) ≡ None → at.words ≡ vocabulary.Source → seen.nest ≡ [] → seen.weight + 1 ≤ most_weight seen →
    items_at (suc n) at ≡ Fine (record { nodes = Empty; ending = ending.Semicolon; at = record seen { nest = []; weight = seen.weight + 1 } })
unfolding items_at
items_end n at seen read none source outside light =
    ap (λ r. r >>= λ seen. items_by (items_at n) n seen.at seen.sense) read
    ∙ stands
    ∙ ap (λ nest. nested seen (nest_ended nest ending.Semicolon) >>= weighed 1 >>= ended) outside
    ∙ ap (λ r. r >>= ended) (weighs seen.count 1 (record seen { nest = [] }) light)
  where
    stands : items_by (items_at n) n seen (sense_in at.words at.entries (base_at at) (59 ∷ [])) ≡ (nested seen (nest_ended seen.nest ending.Semicolon) >>= weighed 1 >>= ended)
    stands = rw (none, source, items_by, sense_in) refl

-- ---- what items stand for

module _ (at : ParserState) (token : List ℕ) where
  unnamed_sense : newest_value at.entries token ≡ None → sense_in at.words at.entries (base_at at) token ≡ sense_by (base_at at) token (word_in at.words token)
  unnamed_sense none = rw (none, sense_in) refl

  -- a number
  pub number_is_sense : (v : ℕ) → newest_value at.entries token ≡ None → word_in at.words token ≡ None → base_at at ≡ 10 → number_read 10 token ≡ Value v → sense_in at.words at.entries (base_at at) token ≡ number_sense (Value v)
  number_is_sense v none unnamed base reads = unnamed_sense none ∙ ap (sense_by (base_at at) token) unnamed ∙ ap (λ b. number_sense (number_read b token)) base ∙ ap number_sense reads

module _ (at seen : ParserState) (token : List ℕ) (go : ParserState → ParseResult Many) (m : ℕ) where
  -- a call of the definition that is found
  pub call_item : (definition : ℕ) → newest_value at.entries token ≡ Some (made_entry definition) → items_by go m seen (sense_in at.words at.entries (base_at at) token) ≡ then_items go (alone 1 (Call definition) seen)
  call_item definition found = rw (found, items_by, sense_in) refl

  -- a number
  pub number_item : (v : ℕ) → sense_in at.words at.entries (base_at at) token ≡ number_sense (Value v) → items_by go m seen (sense_in at.words at.entries (base_at at) token) ≡ then_items go (alone 2 (Literal v) seen)
  number_item v is = ap (items_by go m seen) is

  -- a word of the table
  pub word_item : (w : Word) (weight : ℕ) → newest_value at.entries token ≡ None → at.words ≡ vocabulary.Source → items_by go m seen (sense_by (base_at at) token (word_named token)) ≡ then_items go (alone weight (Plain w) seen) →
      items_by go m seen (sense_in at.words at.entries (base_at at) token) ≡ then_items go (alone weight (Plain w) seen)
  word_item w weight none source stands = ap (items_by go m seen) (unnamed_sense at token none ∙ ap (λ words. sense_by (base_at at) token (word_in words token)) source) ∙ stands
