-- What stands behind a token is one thing, by its kind.
use Rattle.std.proofs.Common.{◌≡◌, ℕ, Bool, true, false, ◌==◌, List, [], ◌∷◌, ◌++◌, Some, None, refl, ap, sym, ◌∙◌, subst, inl, inr, append-nil}
use Rattle.std.specs.List.{list_all}
use Rattle.std.proofs.lemmas.Bool.Decides.{nat_tests}
use Rattle.std.proofs.Common.{arith}
use Rattle.forth_reader.specs.declared.refusal.ReadCause.TheVariants as cause
use Rattle.forth_reader.specs.Bytes.{is_source_byte, passing_front, behind_front}
use Rattle.forth_reader.specs.Reading.{StringReading, Quoted, Unquoted, string_from}
use Rattle.forth_reader.specs.Splitting.{is_parenthesis_byte, is_line_byte, StringIs}
use Rattle.forth_reader.specs.TokenList.{Kind, OrdinaryToken, OpensComment, OpensLine, BeforeString, is_byte, is_string_word, kind_of, After, Passes, Fails}
use Rattle.forth_reader.specs.TokenList.{Behind, plain, comment, open_comment, bad_in_comment, line, line_at_end, bad_line, string, bad_string}
use Rattle.forth_reader.proofs.Fronts.{front_joined}
use Rattle.forth_reader.proofs.Steps.{either, front_along, behind_along, front_passes, behind_fails}
use Rattle.forth_reader.proofs.SplittingToReading.{equal_when, string_computed}
use Rattle.forth_reader.proofs.ReadingToSplitting.{string_exists}

-- ---- as it computes

abbrev comment_by : List ℕ → List ℕ → After
comment_by text [] = Fails cause.OpenComment
comment_by text (b ∷ rest) = elim (b == 41) [ true ↦ Passes (text ++ 41 ∷ []) None rest | false ↦ Fails cause.NotText ]

abbrev line_by : List ℕ → List ℕ → After
line_by text [] = Passes text None []
line_by text (b ∷ rest) = elim (b == 10) [ true ↦ Passes (text ++ 10 ∷ []) None rest | false ↦ Fails cause.NotText ]

abbrev string_by : StringReading → After
string_by (Quoted text rest) = Passes [] (Some text) rest
string_by (Unquoted c) = Fails c

abbrev pub after_of : Kind → List ℕ → After
after_of OrdinaryToken rest = Passes [] None rest
after_of OpensComment rest = comment_by (passing_front is_parenthesis_byte rest) (behind_front is_parenthesis_byte rest)
after_of OpensLine rest = line_by (passing_front is_line_byte rest) (behind_front is_line_byte rest)
after_of BeforeString rest = string_by (string_from rest)

-- ---- a front of bytes that pass a test, and what stops it

module _ (test : ℕ → Bool) where
  front_is : (text : List ℕ) (b : ℕ) (rest : List ℕ) → list_all test text ≡ true → test b ≡ false → passing_front test (text ++ b ∷ rest) ≡ text
  front_is text b rest all stops = front_along test text (b ∷ rest) all ∙ ap (λ t. text ++ elim t [ true ↦ b ∷ passing_front test rest | false ↦ [] ]) stops ∙ append-nil text

  behind_is : (text : List ℕ) (b : ℕ) (rest : List ℕ) → list_all test text ≡ true → test b ≡ false → behind_front test (text ++ b ∷ rest) ≡ b ∷ rest
  behind_is text b rest all stops = behind_along test text (b ∷ rest) all ∙ ap (λ t. elim t [ true ↦ behind_front test rest | false ↦ b ∷ rest ]) stops

  front_all : (text : List ℕ) → list_all test text ≡ true → passing_front test text ≡ text
  front_all text all = ap (passing_front test) (sym (append-nil text)) ∙ front_along test text [] all ∙ append-nil text

  behind_all : (text : List ℕ) → list_all test text ≡ true → behind_front test text ≡ []
  behind_all text all = ap (behind_front test) (sym (append-nil text)) ∙ behind_along test text [] all

bad_parenthesis_byte : (b : ℕ) → is_source_byte b ≡ false → is_parenthesis_byte b ≡ false
bad_parenthesis_byte b e = grind (arith, nat_tests)

bad_line_byte : (b : ℕ) → is_source_byte b ≡ false → is_line_byte b ≡ false
bad_line_byte b e = grind (arith, nat_tests)

bad_not_41 : (b : ℕ) → is_source_byte b ≡ false → (b == 41) ≡ false
bad_not_41 b e = grind (arith, nat_tests)

bad_not_10 : (b : ℕ) → is_source_byte b ≡ false → (b == 10) ≡ false
bad_not_10 b e = grind (arith, nat_tests)

comment_stopped : (text : List ℕ) (b : ℕ) (rest : List ℕ) → list_all is_parenthesis_byte text ≡ true → is_parenthesis_byte b ≡ false → after_of OpensComment (text ++ b ∷ rest) ≡ comment_by text (b ∷ rest)
comment_stopped text b rest all stops =
    ap (λ l. comment_by l (behind_front is_parenthesis_byte (text ++ b ∷ rest))) (front_is is_parenthesis_byte text b rest all stops) ∙ ap (comment_by text) (behind_is is_parenthesis_byte text b rest all stops)

line_stopped : (text : List ℕ) (b : ℕ) (rest : List ℕ) → list_all is_line_byte text ≡ true → is_line_byte b ≡ false → after_of OpensLine (text ++ b ∷ rest) ≡ line_by text (b ∷ rest)
line_stopped text b rest all stops =
    ap (λ l. line_by l (behind_front is_line_byte (text ++ b ∷ rest))) (front_is is_line_byte text b rest all stops) ∙ ap (line_by text) (behind_is is_line_byte text b rest all stops)

pub behind_computed : {kind : Kind} {rest : List ℕ} {after : After} → Behind kind rest after → after_of kind rest ≡ after
behind_computed (plain rest) = refl
behind_computed (comment text rest all) = comment_stopped text 41 rest all refl
behind_computed (open_comment text all) = ap (λ l. comment_by l (behind_front is_parenthesis_byte text)) (front_all is_parenthesis_byte text all) ∙ ap (comment_by text) (behind_all is_parenthesis_byte text all)
behind_computed (bad_in_comment text b rest all bad) = comment_stopped text b rest all (bad_parenthesis_byte b bad) ∙ ap (λ t. elim t [ true ↦ Passes (text ++ 41 ∷ []) None rest | false ↦ Fails cause.NotText ]) (bad_not_41 b bad)
behind_computed (line text rest all) = line_stopped text 10 rest all refl
behind_computed (line_at_end text all) = ap (λ l. line_by l (behind_front is_line_byte text)) (front_all is_line_byte text all) ∙ ap (line_by text) (behind_all is_line_byte text all)
behind_computed (bad_line text b rest all bad) = line_stopped text b rest all (bad_line_byte b bad) ∙ ap (λ t. elim t [ true ↦ Passes (text ++ 10 ∷ []) None rest | false ↦ Fails cause.NotText ]) (bad_not_10 b bad)
behind_computed (string behind text rest is) = ap string_by (sym (string_computed behind (Quoted text rest) is))
behind_computed (bad_string behind c is) = ap string_by (sym (string_computed behind (Unquoted c) is))

-- ---- each text has it

comment_stop_is_bad : (b : ℕ) → is_parenthesis_byte b ≡ false → (b == 41) ≡ false → is_source_byte b ≡ false
comment_stop_is_bad b e f = grind (arith, nat_tests)

line_stop_is_bad : (b : ℕ) → is_line_byte b ≡ false → (b == 10) ≡ false → is_source_byte b ≡ false
line_stop_is_bad b e f = grind (arith, nat_tests)

comment_exists : (text rest : List ℕ) → list_all is_parenthesis_byte text ≡ true → ((c : ℕ) (cs : List ℕ) → rest ≡ c ∷ cs → is_parenthesis_byte c ≡ false) → Behind OpensComment (text ++ rest) (comment_by text rest)
comment_exists text [] all stops = subst (λ l. Behind OpensComment l (Fails cause.OpenComment)) (sym (append-nil text)) (open_comment text all)
comment_exists text (b ∷ rest) all stops = elim (either (b == 41)) [
  | inl e ↦ subst (λ x. Behind OpensComment (text ++ x ∷ rest) (comment_by text (x ∷ rest))) (sym (equal_when b 41 e)) (comment text rest all)
  | inr e ↦ subst (λ t. Behind OpensComment (text ++ b ∷ rest) (elim t [ true ↦ Passes (text ++ 41 ∷ []) None rest | false ↦ Fails cause.NotText ])) (sym e) (bad_in_comment text b rest all (comment_stop_is_bad b (stops b rest refl) e))
]

line_exists : (text rest : List ℕ) → list_all is_line_byte text ≡ true → ((c : ℕ) (cs : List ℕ) → rest ≡ c ∷ cs → is_line_byte c ≡ false) → Behind OpensLine (text ++ rest) (line_by text rest)
line_exists text [] all stops = subst (λ l. Behind OpensLine l (Passes text None [])) (sym (append-nil text)) (line_at_end text all)
line_exists text (b ∷ rest) all stops = elim (either (b == 10)) [
  | inl e ↦ subst (λ x. Behind OpensLine (text ++ x ∷ rest) (line_by text (x ∷ rest))) (sym (equal_when b 10 e)) (line text rest all)
  | inr e ↦ subst (λ t. Behind OpensLine (text ++ b ∷ rest) (elim t [ true ↦ Passes (text ++ 10 ∷ []) None rest | false ↦ Fails cause.NotText ])) (sym e) (bad_line text b rest all (line_stop_is_bad b (stops b rest refl) e))
]

string_stands : (behind : List ℕ) (reading : StringReading) → StringIs behind reading → Behind BeforeString behind (string_by reading)
string_stands behind (Quoted text rest) is = string behind text rest is
string_stands behind (Unquoted c) is = bad_string behind c is

pub behind_exists : (kind : Kind) (rest : List ℕ) → Behind kind rest (after_of kind rest)
behind_exists OrdinaryToken rest = plain rest
behind_exists OpensComment rest =
    subst (λ l. Behind OpensComment l (after_of OpensComment rest)) (front_joined is_parenthesis_byte rest)
    (comment_exists (passing_front is_parenthesis_byte rest) (behind_front is_parenthesis_byte rest) (front_passes is_parenthesis_byte rest) (behind_fails is_parenthesis_byte rest))
behind_exists OpensLine rest =
    subst (λ l. Behind OpensLine l (after_of OpensLine rest)) (front_joined is_line_byte rest)
    (line_exists (passing_front is_line_byte rest) (behind_front is_line_byte rest) (front_passes is_line_byte rest) (behind_fails is_line_byte rest))
behind_exists BeforeString rest = string_stands rest (string_from rest) (string_exists rest)

-- ---- kinds of tokens

pub byte_alone : (byte : ℕ) (token : List ℕ) → (token ≡ byte ∷ [] → ⊥) → is_byte byte token ≡ false
byte_alone byte [] other = refl
byte_alone byte (b ∷ []) other = elim (either (b == byte)) [
  | inl e ↦ absurd (other (ap (λ x. x ∷ []) (equal_when b byte e)))
  | inr e ↦ e
]
byte_alone byte (b ∷ c ∷ bytes) other = refl

-- a token that `next` gives opens no comment
pub kind_is : (token : List ℕ) (is_string : Bool) → (token ≡ 40 ∷ [] → ⊥) → (token ≡ 92 ∷ [] → ⊥) → is_string_word token ≡ is_string → kind_of false token ≡ elim is_string [ true ↦ BeforeString | false ↦ OrdinaryToken ]
kind_is token is_string p q e =
    ap (λ t. elim t [ true ↦ OpensComment | false ↦ elim (is_byte 92 token) [ true ↦ OpensLine | false ↦ elim (is_string_word token) [ true ↦ BeforeString | false ↦ OrdinaryToken ] ] ]) (byte_alone 40 token p)
    ∙ ap (λ t. elim t [ true ↦ OpensLine | false ↦ elim (is_string_word token) [ true ↦ BeforeString | false ↦ OrdinaryToken ] ]) (byte_alone 92 token q)
    ∙ ap (λ t. elim t [ true ↦ BeforeString | false ↦ OrdinaryToken ]) e
