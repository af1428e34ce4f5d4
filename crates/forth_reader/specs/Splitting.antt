-- What a reading means: how the text falls into blanks and whole comments, the token, and the rest.
use Rattle.std.specs.Prelude.{◌≡◌, ℕ, ◌+◌, ◌<◌, ◌≤◌, ◌==◌, ◌&&◌, not, Bool, true, false, List, [], ◌∷◌, ◌++◌, length, ◌↔◌, ⊤}
use Rattle.std.specs.List.{list_all}
use Rattle.forth_reader.specs.declared.refusal.ReadCause.TheVariants as cause
use Rattle.forth_reader.specs.Bytes.{is_graphic, is_blank, is_source_byte, is_string_byte}
use Rattle.forth_reader.specs.Reading.{Reading, NoMore, Reads, Refuses, StringReading, Quoted, Unquoted, may_follow_token, next_from, name_from, string_from}

-- a byte that is none of a source
abbrev pub IsBadByte : ℕ → Type 0
IsBadByte byte = is_source_byte byte ≡ false

-- the bytes of a comment in parentheses, and those of a comment that is the rest of a line
abbrev pub is_parenthesis_byte : ℕ → Bool
is_parenthesis_byte byte = is_source_byte byte && not (byte == 41)

abbrev pub is_line_byte : ℕ → Bool
is_line_byte byte = is_source_byte byte && not (byte == 10)

-- the text of a comment: its `(` or `\` is a token of one byte, so a blank comes first, or nothing
pub record IsCommentText (test : ℕ → Bool) (text : List ℕ) : Type 0 where
  pub begins : may_follow_token text ≡ true
  pub bytes : list_all test text ≡ true

-- what stands between tokens: a blank, or a whole comment with its text
pub data Piece : Type 0 where
  Blank : (byte : ℕ) → Piece
  Parenthesis : (text : List ℕ) → Piece
  Line : (text : List ℕ) → Piece

-- `()` is no comment, and `\` with a line feed behind it is one
abbrev pub IsPiece : Piece → Type 0
IsPiece (Blank byte) = is_blank byte ≡ true
IsPiece (Parenthesis text) = (0 < length text) × IsCommentText is_parenthesis_byte text
IsPiece (Line text) = IsCommentText is_line_byte text

abbrev pub ArePieces : List Piece → Type 0
ArePieces [] = ⊤
ArePieces (piece ∷ pieces) = IsPiece piece × ArePieces pieces

-- the bytes of a piece, with others behind it
abbrev pub piece_then : Piece → List ℕ → List ℕ
piece_then (Blank byte) rest = byte ∷ rest
piece_then (Parenthesis text) rest = 40 ∷ (text ++ 41 ∷ rest)
piece_then (Line text) rest = 92 ∷ (text ++ 10 ∷ rest)

abbrev pub pieces_then : List Piece → List ℕ → List ℕ
pieces_then [] rest = rest
pieces_then (piece ∷ pieces) rest = piece_then piece (pieces_then pieces rest)

-- the number of tokens up to the end of the pieces, where k stand before: each comment is one
abbrev pub tokens_behind : ℕ → List Piece → ℕ
tokens_behind k [] = k
tokens_behind k (Blank byte ∷ pieces) = tokens_behind k pieces
tokens_behind k (Parenthesis text ∷ pieces) = tokens_behind (k + 1) pieces
tokens_behind k (Line text ∷ pieces) = tokens_behind (k + 1) pieces

-- one or more graphic bytes
pub record IsRun (token : List ℕ) : Type 0 where
  pub some : 0 < length token
  pub graphic : list_all is_graphic token ≡ true

-- a run with its number and what stands behind it, which is no graphic byte: the run is as long as can be
pub data RunIs (number : ℕ) (token : List ℕ) : List ℕ → Reading → Type 0 where
  is_read : (rest : List ℕ) → may_follow_token rest ≡ true → length token ≤ 31 →
      RunIs number token rest (Reads token number rest)
  is_too_long : (rest : List ℕ) → may_follow_token rest ≡ true → 31 < length token →
      RunIs number token rest (Refuses number cause.NameTooLong)
  meets_bad_byte : (byte : ℕ) (rest : List ℕ) → IsBadByte byte →
      RunIs number token (byte ∷ rest) (Refuses number cause.NotText)

-- what `name` finds behind all blanks, where k tokens stand before
pub data NameAt (k : ℕ) : List ℕ → Reading → Type 0 where
  nothing : NameAt k [] (NoMore k)
  bad_byte : (byte : ℕ) (rest : List ℕ) → IsBadByte byte →
      NameAt k (byte ∷ rest) (Refuses (k + 1) cause.NotText)
  run : (token rest : List ℕ) (reading : Reading) → IsRun token → RunIs (k + 1) token rest reading →
      NameAt k (token ++ rest) reading

-- what `next` finds behind all blanks and whole comments, where k tokens stand before
pub data NextAt (k : ℕ) : List ℕ → Reading → Type 0 where
  nothing : NextAt k [] (NoMore k)
  -- a `\` comment that the text ends
  last_line : (text : List ℕ) → IsCommentText is_line_byte text →
      NextAt k (92 ∷ text) (NoMore (k + 1))
  bad_byte : (byte : ℕ) (rest : List ℕ) → IsBadByte byte →
      NextAt k (byte ∷ rest) (Refuses (k + 1) cause.NotText)
  bad_in_line : (text : List ℕ) (byte : ℕ) (rest : List ℕ) → IsCommentText is_line_byte text → IsBadByte byte →
      NextAt k (92 ∷ (text ++ byte ∷ rest)) (Refuses (k + 1) cause.NotText)
  bad_in_parenthesis : (text : List ℕ) (byte : ℕ) (rest : List ℕ) → IsCommentText is_parenthesis_byte text → IsBadByte byte →
      NextAt k (40 ∷ (text ++ byte ∷ rest)) (Refuses (k + 1) cause.NotText)
  open_parenthesis : (text : List ℕ) → IsCommentText is_parenthesis_byte text →
      NextAt k (40 ∷ text) (Refuses (k + 1) cause.OpenComment)
  -- a token that is neither `(` nor `\`
  run : (token rest : List ℕ) (reading : Reading) → IsRun token → (token ≡ 40 ∷ [] → ⊥) → (token ≡ 92 ∷ [] → ⊥) →
      RunIs (k + 1) token rest reading → NextAt k (token ++ rest) reading

-- the text is blanks and what stands behind them
pub record NameIs (k : ℕ) (text : List ℕ) (reading : Reading) : Type 0 where
  pub blanks : List ℕ
  pub rest : List ℕ
  pub are_blank : list_all is_blank blanks ≡ true
  pub text_is : text ≡ blanks ++ rest
  pub stands : NameAt k rest reading

-- the text is blanks and whole comments, and what stands behind them
pub record NextIs (k : ℕ) (text : List ℕ) (reading : Reading) : Type 0 where
  pub pieces : List Piece
  pub rest : List ℕ
  pub are_pieces : ArePieces pieces
  pub text_is : text ≡ pieces_then pieces rest
  pub stands : NextAt (tokens_behind k pieces) rest reading

abbrev pub is_separator : ℕ → Bool
is_separator byte = is_source_byte byte && not (byte == 10)

-- a separator, and the text of a string so far
pub record IsStringText (separator : ℕ) (text : List ℕ) : Type 0 where
  pub separates : is_separator separator ≡ true
  pub bytes : list_all is_string_byte text ≡ true

-- what `string` finds directly behind a string word
pub data StringIs : List ℕ → StringReading → Type 0 where
  closed : (separator : ℕ) (text rest : List ℕ) → IsStringText separator text →
      StringIs (separator ∷ (text ++ 34 ∷ rest)) (Quoted text rest)
  no_separator : StringIs [] (Unquoted cause.OpenString)
  line_feed_first : (rest : List ℕ) → StringIs (10 ∷ rest) (Unquoted cause.OpenString)
  bad_separator : (separator : ℕ) (rest : List ℕ) → IsBadByte separator →
      StringIs (separator ∷ rest) (Unquoted cause.NotText)
  text_ends : (separator : ℕ) (text : List ℕ) → IsStringText separator text →
      StringIs (separator ∷ text) (Unquoted cause.OpenString)
  line_ends : (separator : ℕ) (text rest : List ℕ) → IsStringText separator text →
      StringIs (separator ∷ (text ++ 10 ∷ rest)) (Unquoted cause.OpenString)
  bad_in_string : (separator : ℕ) (text : List ℕ) (byte : ℕ) (rest : List ℕ) → IsStringText separator text → IsBadByte byte →
      StringIs (separator ∷ (text ++ byte ∷ rest)) (Unquoted cause.NotText)

-- a splitting gives a reading exactly where it is the one that the definition computes
abbrev pub NextIsComputed : Type 0
NextIsComputed = (k : ℕ) (text : List ℕ) (reading : Reading) → NextIs k text reading ↔ (reading ≡ next_from k text)

abbrev pub NameIsComputed : Type 0
NameIsComputed = (k : ℕ) (text : List ℕ) (reading : Reading) → NameIs k text reading ↔ (reading ≡ name_from k text)

abbrev pub StringIsComputed : Type 0
StringIsComputed = (text : List ℕ) (reading : StringReading) → StringIs text reading ↔ (reading ≡ string_from text)
