-- What stands at a place of a source: its next token, the text of a string word, or why it is refused. These definitions
-- compute, byte by byte; `Splitting` says what they mean.
use Rattle.std.specs.Prelude.{ℕ, ◌+◌, nat_le, ◌==◌, ◌&&◌, Bool, true, false, List, [], ◌∷◌, length}
use Rattle.forth_reader.specs.declared.refusal.ReadCause.{ReadCause}
use Rattle.forth_reader.specs.declared.refusal.ReadCause.TheVariants as cause
use Rattle.forth_reader.specs.Bytes.{is_graphic, is_blank, is_source_byte, is_string_byte, passing_front, behind_front, graphic_front, behind_graphic}

-- what a place gives: no token, with the number of all tokens; a token with its number and the bytes behind it; or a
-- refusal with the number of its token
pub data Reading : Type 0 where
  NoMore : (tokens : ℕ) → Reading
  Reads : (token : List ℕ) (number : ℕ) (rest : List ℕ) → Reading
  Refuses : (number : ℕ) (cause : ReadCause) → Reading

-- no graphic byte comes next
abbrev pub ends_token : List ℕ → Bool
ends_token [] = true
ends_token (b ∷ bs) = elim (is_graphic b) [ true ↦ false | false ↦ true ]

-- a blank comes next, or nothing
abbrev pub may_follow_token : List ℕ → Bool
may_follow_token [] = true
may_follow_token (b ∷ rest) = is_blank b

-- the token with number k, by what stands behind it and by its length
abbrev pub whole_token : ℕ → List ℕ → List ℕ → Reading
whole_token k token rest = elim (may_follow_token rest) [
  | true ↦ elim (nat_le (length token) 31) [ true ↦ Reads token k rest | false ↦ Refuses k cause.NameTooLong ]
  | false ↦ Refuses k cause.NotText
]

-- the next token, read as a name, where k tokens stand before
abbrev pub name_from : ℕ → List ℕ → Reading
name_from k [] = NoMore k
name_from k (b ∷ bs) = elim (is_graphic b) [
  | true ↦ whole_token (k + 1) (b ∷ graphic_front bs) (behind_graphic bs)
  | false ↦ elim (is_blank b) [ true ↦ name_from k bs | false ↦ Refuses (k + 1) cause.NotText ]
]

abbrev mutual
  -- the next token that is no comment, where k tokens stand before
  pub next_from : ℕ → List ℕ → Reading
  next_from k [] = NoMore k
  next_from k (b ∷ bs) = elim (is_graphic b) [
    | true ↦ elim (ends_token bs && b == 40) [
      | true ↦ parenthesis_from (k + 1) bs
      | false ↦ elim (ends_token bs && b == 92) [
        | true ↦ line_from (k + 1) bs
        | false ↦ whole_token (k + 1) (b ∷ graphic_front bs) (behind_graphic bs)
      ]
    ]
    | false ↦ elim (is_blank b) [ true ↦ next_from k bs | false ↦ Refuses (k + 1) cause.NotText ]
  ]

  -- the same, inside the comment of a `(` with number k
  pub parenthesis_from : ℕ → List ℕ → Reading
  parenthesis_from k [] = Refuses k cause.OpenComment
  parenthesis_from k (b ∷ bs) = elim (b == 41) [
    | true ↦ next_from k bs
    | false ↦ elim (is_source_byte b) [ true ↦ parenthesis_from k bs | false ↦ Refuses k cause.NotText ]
  ]

  -- the same, inside the comment of a `\` with number k
  pub line_from : ℕ → List ℕ → Reading
  line_from k [] = NoMore k
  line_from k (b ∷ bs) = elim (b == 10) [
    | true ↦ next_from k bs
    | false ↦ elim (is_source_byte b) [ true ↦ line_from k bs | false ↦ Refuses k cause.NotText ]
  ]

-- the text of a string word and the bytes behind its quote, or why there is none
pub data StringReading : Type 0 where
  Quoted : (text : List ℕ) (rest : List ℕ) → StringReading
  Unquoted : (cause : ReadCause) → StringReading

-- a text, by the byte that ends it
abbrev pub ended_by : List ℕ → List ℕ → StringReading
ended_by text [] = Unquoted cause.OpenString
ended_by text (b ∷ rest) = elim (b == 34) [
  | true ↦ Quoted text rest
  | false ↦ elim (b == 10) [ true ↦ Unquoted cause.OpenString | false ↦ Unquoted cause.NotText ]
]

-- the text of a string word, behind one separator
abbrev pub string_from : List ℕ → StringReading
string_from [] = Unquoted cause.OpenString
string_from (b ∷ bs) = elim (b == 10) [
  | true ↦ Unquoted cause.OpenString
  | false ↦ elim (is_source_byte b) [
    | true ↦ ended_by (passing_front is_string_byte bs) (behind_front is_string_byte bs)
    | false ↦ Unquoted cause.NotText
  ]
]
