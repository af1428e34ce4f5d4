-- The tokens of a whole text: each with its place and number, the text that is skipped behind it, and the text of a string word.
use Rattle.std.specs.Prelude.{◌≡◌, ℕ, ◌+◌, ◌<◌, ◌≤◌, ◌==◌, ◌||◌, Bool, true, false, List, [], ◌∷◌, ◌++◌, length, Option, Some, None, codes}
use Rattle.std.specs.List.{list_all}
use Rattle.std.specs.Str.{str_eq_ignore_ascii_case}
use Rattle.forth_reader.specs.declared.refusal.ReadCause.{ReadCause}
use Rattle.forth_reader.specs.declared.refusal.ReadCause.TheVariants as cause
use Rattle.forth_reader.specs.declared.refusal.ReadRefusal.{ReadRefusal}
use Rattle.forth_reader.specs.Reading.{NoMore, Reads, Refuses, Quoted, Unquoted}
use Rattle.forth_reader.specs.Splitting.{IsBadByte, is_parenthesis_byte, is_line_byte, NameIs, StringIs}
use Rattle.forth_reader.specs.ReaderState.{ReaderState, next_reading, name_reading, string_reading, TookToken, Ended, Failed, TookString, FailedString}

-- a token, with the place of its first byte in the text, from 0, and its number, from 1; the text behind it that is skipped, up to
-- and with the `)` or the line feed that ends it; and the text of a string word
pub record PlacedToken : Type 0 where
  pub token : List ℕ
  pub start : ℕ
  pub number : ℕ
  pub skipped : List ℕ
  pub string : Option (List ℕ)

-- where the tokens end: the text has so many, or that token is the first that is refused
pub data TokensEnd : Type 0 where
  AllRead : (tokens : ℕ) → TokensEnd
  Faulty : (number : ℕ) (cause : ReadCause) → TokensEnd

-- ---- what a token does to the text behind it

-- nothing, or it is `(`, `\` or a string word
pub data Kind : Type 0 where
  OrdinaryToken : Kind
  OpensComment : Kind
  OpensLine : Kind
  BeforeString : Kind

-- whether a token is one byte
abbrev pub is_byte : ℕ → List ℕ → Bool
is_byte byte [] = false
is_byte byte (b ∷ []) = b == byte
is_byte byte (b ∷ c ∷ bytes) = false

-- `."`, `S"` and `ABORT"`, letters without case
abbrev pub is_string_word : List ℕ → Bool
is_string_word token =
    str_eq_ignore_ascii_case token (codes ".\"") || (str_eq_ignore_ascii_case token (codes "S\"") || str_eq_ignore_ascii_case token (codes "ABORT\""))

-- a token that is read as a name does nothing
abbrev pub kind_of : Bool → List ℕ → Kind
kind_of true token = OrdinaryToken
kind_of false token = elim (is_byte 40 token) [
  | true ↦ OpensComment
  | false ↦ elim (is_byte 92 token) [
    | true ↦ OpensLine
    | false ↦ elim (is_string_word token) [ true ↦ BeforeString | false ↦ OrdinaryToken ]
  ]
]

-- what it comes to: the skipped text, the string text, and what is left; or a refusal
pub data After : Type 0 where
  Passes : (skipped : List ℕ) (string : Option (List ℕ)) (rest : List ℕ) → After
  Fails : (cause : ReadCause) → After

-- what stands directly behind a token of a kind
pub data Behind : Kind → List ℕ → After → Type 0 where
  plain : (rest : List ℕ) → Behind OrdinaryToken rest (Passes [] None rest)
  comment : (text rest : List ℕ) → list_all is_parenthesis_byte text ≡ true →
      Behind OpensComment (text ++ 41 ∷ rest) (Passes (text ++ 41 ∷ []) None rest)
  open_comment : (text : List ℕ) → list_all is_parenthesis_byte text ≡ true →
      Behind OpensComment text (Fails cause.OpenComment)
  bad_in_comment : (text : List ℕ) (byte : ℕ) (rest : List ℕ) → list_all is_parenthesis_byte text ≡ true → IsBadByte byte →
      Behind OpensComment (text ++ byte ∷ rest) (Fails cause.NotText)
  line : (text rest : List ℕ) → list_all is_line_byte text ≡ true →
      Behind OpensLine (text ++ 10 ∷ rest) (Passes (text ++ 10 ∷ []) None rest)
  -- a line that the text ends
  line_at_end : (text : List ℕ) → list_all is_line_byte text ≡ true →
      Behind OpensLine text (Passes text None [])
  bad_line : (text : List ℕ) (byte : ℕ) (rest : List ℕ) → list_all is_line_byte text ≡ true → IsBadByte byte →
      Behind OpensLine (text ++ byte ∷ rest) (Fails cause.NotText)
  string : (behind text rest : List ℕ) → StringIs behind (Quoted text rest) →
      Behind BeforeString behind (Passes [] (Some text) rest)
  bad_string : (behind : List ℕ) (c : ReadCause) → StringIs behind (Unquoted c) →
      Behind BeforeString behind (Fails c)

-- ---- the list, where a test says which tokens, by their numbers, are read as names

-- the next token of what is left of a text of that size, where k tokens stand before, and what is left behind it
pub record IsTokenAt (named : ℕ → Bool) (size k : ℕ) (text : List ℕ) (t : PlacedToken) (rest : List ℕ) : Type 0 where
  pub behind : List ℕ
  pub reads : NameIs k text (Reads t.token t.number behind)
  pub starts : t.start + length t.token + length behind ≡ size
  pub stands : Behind (kind_of (named t.number) t.token) behind (Passes t.skipped t.string rest)

-- no token is left, or the next one is refused
pub data EndIs (named : ℕ → Bool) (k : ℕ) (text : List ℕ) : TokensEnd → Type 0 where
  all_read : NameIs k text (NoMore k) → EndIs named k text (AllRead k)
  refused : (number : ℕ) (c : ReadCause) → NameIs k text (Refuses number c) → EndIs named k text (Faulty number c)
  fails_behind : (token : List ℕ) (number : ℕ) (behind : List ℕ) (c : ReadCause) → NameIs k text (Reads token number behind) →
      Behind (kind_of (named number) token) behind (Fails c) → EndIs named k text (Faulty number c)

abbrev pub AreTokensFrom : (ℕ → Bool) → ℕ → ℕ → List ℕ → List PlacedToken → TokensEnd → Type 0
AreTokensFrom named size k text [] end = EndIs named k text end
AreTokensFrom named size k text (t ∷ tokens) end =
    (rest : List ℕ) × (IsTokenAt named size k text t rest × AreTokensFrom named size t.number rest tokens end)

abbrev pub AreTokens : (ℕ → Bool) → List ℕ → List PlacedToken → TokensEnd → Type 0
AreTokens named text tokens end = AreTokensFrom named (length text) 0 text tokens end

-- each text has a list of tokens, whichever are read as names
abbrev pub HasTokens : Type 0
HasTokens = (named : ℕ → Bool) (text : List ℕ) → (tokens : List PlacedToken) × ((end : TokensEnd) × AreTokens named text tokens end)

-- and no other
abbrev pub HasNoOtherTokens : Type 0
HasNoOtherTokens =
    (named : ℕ → Bool) (text : List ℕ) (tokens others : List PlacedToken) (end other_end : TokensEnd) →
    AreTokens named text tokens end → AreTokens named text others other_end → (tokens ≡ others) × (end ≡ other_end)

-- ---- the calls of a reader

-- a reader at the start of a text
abbrev pub reader_start : List ℕ → ReaderState
reader_start text = record { text = text; rest = text; count = 0; failed = None }

-- no token from one number to another is read as a name
abbrev pub NoneNamed : (ℕ → Bool) → ℕ → ℕ → Type 0
NoneNamed named k last = (number : ℕ) → k < number → number ≤ last → named number ≡ false

abbrev pub lone_token : List ℕ → ℕ → ℕ → Option (List ℕ) → PlacedToken
lone_token token start number quoted = record { token = token; start = start; number = number; skipped = []; string = quoted }

-- a token that a reader gave: by `name`, by `next`, or by `next` and, for a string word, then `string`
pub data Given (named : ℕ → Bool) (before after : ReaderState) : PlacedToken → Type 0 where
  by_name : (token : List ℕ) (start number : ℕ) → named number ≡ true → TookToken before after (name_reading before) token start number →
      Given named before after (lone_token token start number None)
  by_next : (token : List ℕ) (start number : ℕ) → NoneNamed named before.count number → is_string_word token ≡ false →
      TookToken before after (next_reading before) token start number → Given named before after (lone_token token start number None)
  by_string : (token : List ℕ) (start number : ℕ) (between : ReaderState) (text : List ℕ) → NoneNamed named before.count number →
      is_string_word token ≡ true → TookToken before between (next_reading before) token start number →
      TookString between after (string_reading between) text → Given named before after (lone_token token start number (Some text))

-- tokens, in their order
abbrev pub Gave : (ℕ → Bool) → ReaderState → List PlacedToken → ReaderState → Type 0
Gave named before [] after = before ≡ after
Gave named before (t ∷ tokens) after = (between : ReaderState) × (Given named before between t × Gave named between tokens after)

-- what a call answers that gives no token
pub data GaveNoToken (named : ℕ → Bool) (before : ReaderState) : TokensEnd → Type 0 where
  no_next : (new : ReaderState) → NoneNamed named before.count new.count → Ended before new (next_reading before) →
      GaveNoToken named before (AllRead new.count)
  no_name : (new : ReaderState) → Ended before new (name_reading before) → GaveNoToken named before (AllRead new.count)
  next_refused : (new : ReaderState) (refusal : ReadRefusal) → NoneNamed named before.count refusal.token →
      Failed before new (next_reading before) refusal → GaveNoToken named before (Faulty refusal.token refusal.cause)
  name_refused : (new : ReaderState) (refusal : ReadRefusal) → Failed before new (name_reading before) refusal →
      GaveNoToken named before (Faulty refusal.token refusal.cause)
  string_refused : (token : List ℕ) (start number : ℕ) (between new : ReaderState) (refusal : ReadRefusal) →
      NoneNamed named before.count number → is_string_word token ≡ true → TookToken before between (next_reading before) token start number →
      FailedString between new (string_reading between) refusal → GaveNoToken named before (Faulty refusal.token refusal.cause)

abbrev pub is_comment_kind : Kind → Bool
is_comment_kind OpensComment = true
is_comment_kind OpensLine = true
is_comment_kind kind = false

-- the tokens that are no comments
abbrev pub without_comments : (ℕ → Bool) → List PlacedToken → List PlacedToken
without_comments named [] = []
without_comments named (t ∷ tokens) = elim (is_comment_kind (kind_of (named t.number) t.token)) [
  | true ↦ without_comments named tokens
  | false ↦ t ∷ without_comments named tokens
]

-- calls on a text from its start up to one that gives no token have given the tokens of the text that are no comments, and where
-- they end
abbrev pub CallsGiveTokens : Type 0
CallsGiveTokens =
    (named : ℕ → Bool) (text : List ℕ) (tokens : List PlacedToken) (after : ReaderState) (end : TokensEnd) →
    Gave named (reader_start text) tokens after → GaveNoToken named after end →
    (all : List PlacedToken) × (AreTokens named text all end × (without_comments named all ≡ tokens))
