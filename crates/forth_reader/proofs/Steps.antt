-- One step of each reading, by the byte that comes next.
use Rattle.std.proofs.Common.{◌≡◌, ℕ, ◌+◌, Bool, true, false, ◌&&◌, ◌==◌, List, [], ◌∷◌, ◌++◌, refl, ap, ◌∙◌, arith, subst, ◌⊎◌, inl, inr}
use Rattle.std.specs.List.{list_all}
use Rattle.std.proofs.lemmas.Bool.Decides.{nat_tests}
use Rattle.forth_reader.specs.declared.refusal.ReadCause.TheVariants as cause
use Rattle.forth_reader.specs.Bytes.{is_graphic, is_blank, is_source_byte, is_string_byte, passing_front, behind_front, graphic_front, behind_graphic}
use Rattle.forth_reader.specs.Reading.{Refuses, Unquoted, ends_token, may_follow_token, whole_token, name_from, next_from, parenthesis_from, line_from, ended_by, string_from}
use Rattle.forth_reader.specs.Splitting.{is_parenthesis_byte, is_line_byte, is_separator}

pub either : (b : Bool) → (b ≡ true) ⊎ (b ≡ false)
either true = inl refl
either false = inr refl

pub both_true : (x y : Bool) → (x && y) ≡ true → (x ≡ true) × (y ≡ true)
both_true true y e = (refl, e)
both_true false y e = absurd (cc)

pub blank_not_graphic : (b : ℕ) → is_blank b ≡ true → is_graphic b ≡ false
blank_not_graphic b e = grind (arith, nat_tests)

pub blank_is_source : (b : ℕ) → is_blank b ≡ true → is_source_byte b ≡ true
blank_is_source b e = grind (arith, nat_tests)

pub bad_not_graphic : (b : ℕ) → is_source_byte b ≡ false → is_graphic b ≡ false
bad_not_graphic b e = grind (arith, nat_tests)

pub bad_not_blank : (b : ℕ) → is_source_byte b ≡ false → is_blank b ≡ false
bad_not_blank b e = grind (arith, nat_tests)

pub neither_is_bad : (b : ℕ) → is_graphic b ≡ false → is_blank b ≡ false → is_source_byte b ≡ false
neither_is_bad b e f = grind (arith, nat_tests)

pub source_is_either : (b : ℕ) → is_source_byte b ≡ true → is_graphic b ≡ false → is_blank b ≡ true
source_is_either b e f = grind (arith, nat_tests)

bad_not_41 : (b : ℕ) → is_source_byte b ≡ false → (b == 41) ≡ false
bad_not_41 b e = grind (arith, nat_tests)

bad_not_10 : (b : ℕ) → is_source_byte b ≡ false → (b == 10) ≡ false
bad_not_10 b e = grind (arith, nat_tests)

bad_not_34 : (b : ℕ) → is_source_byte b ≡ false → (b == 34) ≡ false
bad_not_34 b e = grind (arith, nat_tests)

parenthesis_not_41 : (b : ℕ) → is_parenthesis_byte b ≡ true → (b == 41) ≡ false
parenthesis_not_41 b e = grind (arith, nat_tests)

pub parenthesis_source : (b : ℕ) → is_parenthesis_byte b ≡ true → is_source_byte b ≡ true
parenthesis_source b e = grind (arith, nat_tests)

line_not_10 : (b : ℕ) → is_line_byte b ≡ true → (b == 10) ≡ false
line_not_10 b e = grind (arith, nat_tests)

pub line_source : (b : ℕ) → is_line_byte b ≡ true → is_source_byte b ≡ true
line_source b e = grind (arith, nat_tests)

-- what may follow a token ends it
pub follow_ends : (bs : List ℕ) → may_follow_token bs ≡ true → ends_token bs ≡ true
follow_ends [] e = refl
follow_ends (b ∷ bs) e = ap (λ t. elim t [ true ↦ false | false ↦ true ]) (blank_not_graphic b e)

pub bad_ends : (b : ℕ) (bs : List ℕ) → is_source_byte b ≡ false → ends_token (b ∷ bs) ≡ true
bad_ends b bs e = ap (λ t. elim t [ true ↦ false | false ↦ true ]) (bad_not_graphic b e)

pub next_blank : (k b : ℕ) (bs : List ℕ) → is_blank b ≡ true → next_from k (b ∷ bs) ≡ next_from k bs
next_blank k b bs e = rw (blank_not_graphic b e, e, next_from) refl

pub next_bad : (k b : ℕ) (bs : List ℕ) → is_source_byte b ≡ false → next_from k (b ∷ bs) ≡ Refuses (k + 1) cause.NotText
next_bad k b bs e = rw (bad_not_graphic b e, bad_not_blank b e, next_from) refl

pub next_parenthesis : (k : ℕ) (bs : List ℕ) → ends_token bs ≡ true → next_from k (40 ∷ bs) ≡ parenthesis_from (k + 1) bs
next_parenthesis k bs e = rw (e, next_from) refl

pub next_line : (k : ℕ) (bs : List ℕ) → ends_token bs ≡ true → next_from k (92 ∷ bs) ≡ line_from (k + 1) bs
next_line k bs e = ap (λ t. elim (t && 92 == 40) [ true ↦ parenthesis_from (k + 1) bs | false ↦ elim (t && 92 == 92) [ true ↦ line_from (k + 1) bs | false ↦ whole_token (k + 1) (92 ∷ graphic_front bs) (behind_graphic bs) ] ]) e

pub next_run : (k b : ℕ) (bs : List ℕ) → is_graphic b ≡ true → (ends_token bs && b == 40) ≡ false → (ends_token bs && b == 92) ≡ false → next_from k (b ∷ bs) ≡ whole_token (k + 1) (b ∷ graphic_front bs) (behind_graphic bs)
next_run k b bs e p q = rw (e, p, q, next_from) refl

pub name_blank : (k b : ℕ) (bs : List ℕ) → is_blank b ≡ true → name_from k (b ∷ bs) ≡ name_from k bs
name_blank k b bs e = rw (blank_not_graphic b e, e, name_from) refl

pub name_bad : (k b : ℕ) (bs : List ℕ) → is_source_byte b ≡ false → name_from k (b ∷ bs) ≡ Refuses (k + 1) cause.NotText
name_bad k b bs e = rw (bad_not_graphic b e, bad_not_blank b e, name_from) refl

pub name_run : (k b : ℕ) (bs : List ℕ) → is_graphic b ≡ true → name_from k (b ∷ bs) ≡ whole_token (k + 1) (b ∷ graphic_front bs) (behind_graphic bs)
name_run k b bs e = rw (e, name_from) refl

pub parenthesis_more : (k b : ℕ) (bs : List ℕ) → is_parenthesis_byte b ≡ true → parenthesis_from k (b ∷ bs) ≡ parenthesis_from k bs
parenthesis_more k b bs e = rw (parenthesis_not_41 b e, parenthesis_source b e, parenthesis_from) refl

pub parenthesis_bad : (k b : ℕ) (bs : List ℕ) → is_source_byte b ≡ false → parenthesis_from k (b ∷ bs) ≡ Refuses k cause.NotText
parenthesis_bad k b bs e = rw (bad_not_41 b e, e, parenthesis_from) refl

pub line_more : (k b : ℕ) (bs : List ℕ) → is_line_byte b ≡ true → line_from k (b ∷ bs) ≡ line_from k bs
line_more k b bs e = rw (line_not_10 b e, line_source b e, line_from) refl

pub line_bad : (k b : ℕ) (bs : List ℕ) → is_source_byte b ≡ false → line_from k (b ∷ bs) ≡ Refuses k cause.NotText
line_bad k b bs e = rw (bad_not_10 b e, e, line_from) refl

-- a whole text of a comment
pub parenthesis_along : (k : ℕ) (text rest : List ℕ) → list_all is_parenthesis_byte text ≡ true → parenthesis_from k (text ++ rest) ≡ parenthesis_from k rest
parenthesis_along k [] rest e = refl
parenthesis_along k (b ∷ bs) rest e =
    let p : (is_parenthesis_byte b ≡ true) × (list_all is_parenthesis_byte bs ≡ true) = both_true (is_parenthesis_byte b) (list_all is_parenthesis_byte bs) e in
    parenthesis_more k b (bs ++ rest) p.0 ∙ parenthesis_along k bs rest p.1

pub line_along : (k : ℕ) (text rest : List ℕ) → list_all is_line_byte text ≡ true → line_from k (text ++ rest) ≡ line_from k rest
line_along k [] rest e = refl
line_along k (b ∷ bs) rest e =
    let p : (is_line_byte b ≡ true) × (list_all is_line_byte bs ≡ true) = both_true (is_line_byte b) (list_all is_line_byte bs) e in
    line_more k b (bs ++ rest) p.0 ∙ line_along k bs rest p.1

-- the longest front of bytes that pass, where the next byte does not
module _ (test : ℕ → Bool) where
  pub front_along : (text rest : List ℕ) → list_all test text ≡ true → passing_front test (text ++ rest) ≡ text ++ passing_front test rest
  front_along [] rest e = refl
  front_along (b ∷ bs) rest e =
      let p : (test b ≡ true) × (list_all test bs ≡ true) = both_true (test b) (list_all test bs) e in
      rw (p.0) (ap (λ l. b ∷ l) (front_along bs rest (p.1)))

  pub behind_along : (text rest : List ℕ) → list_all test text ≡ true → behind_front test (text ++ rest) ≡ behind_front test rest
  behind_along [] rest e = refl
  behind_along (b ∷ bs) rest e =
      let p : (test b ≡ true) × (list_all test bs ≡ true) = both_true (test b) (list_all test bs) e in
      rw (p.0) (behind_along bs rest (p.1))

  front_passes_on : (b : ℕ) (bs : List ℕ) (t : Bool) → test b ≡ t → list_all test (passing_front test bs) ≡ true → list_all test (elim t [ true ↦ b ∷ passing_front test bs | false ↦ [] ]) ≡ true
  front_passes_on b bs true e h = ap (λ t. t && list_all test (passing_front test bs)) e ∙ h
  front_passes_on b bs false e h = refl

  pub front_passes : (bs : List ℕ) → list_all test (passing_front test bs) ≡ true
  front_passes [] = refl
  front_passes (b ∷ bs) = front_passes_on b bs (test b) refl (front_passes bs)

  behind_fails_on : (b : ℕ) (bs : List ℕ) (t : Bool) → test b ≡ t → ((c : ℕ) (cs : List ℕ) → behind_front test bs ≡ c ∷ cs → test c ≡ false) →
      (c : ℕ) (cs : List ℕ) → elim t [ true ↦ behind_front test bs | false ↦ b ∷ bs ] ≡ c ∷ cs → test c ≡ false
  behind_fails_on b bs true e below c cs h = below c cs h
  behind_fails_on b bs false e below c cs h = let same : b ≡ c = cc in subst (λ x. test x ≡ false) same e

  pub behind_fails : (bs : List ℕ) (c : ℕ) (cs : List ℕ) → behind_front test bs ≡ c ∷ cs → test c ≡ false
  behind_fails [] c cs h = absurd (cc)
  behind_fails (b ∷ bs) c cs h = behind_fails_on b bs (test b) refl (behind_fails bs) c cs h

separator_not_10 : (b : ℕ) → is_separator b ≡ true → (b == 10) ≡ false
separator_not_10 b e = grind (arith, nat_tests)

separator_source : (b : ℕ) → is_separator b ≡ true → is_source_byte b ≡ true
separator_source b e = grind (arith, nat_tests)

pub bad_string_byte : (b : ℕ) → is_source_byte b ≡ false → is_string_byte b ≡ false
bad_string_byte b e = grind (arith, nat_tests)

pub string_begins : (b : ℕ) (bs : List ℕ) → is_separator b ≡ true → string_from (b ∷ bs) ≡ ended_by (passing_front is_string_byte bs) (behind_front is_string_byte bs)
string_begins b bs e = rw (separator_not_10 b e, separator_source b e, string_from) refl

pub string_bad_separator : (b : ℕ) (bs : List ℕ) → is_source_byte b ≡ false → string_from (b ∷ bs) ≡ Unquoted cause.NotText
string_bad_separator b bs e = rw (bad_not_10 b e, e, string_from) refl

pub ended_bad : (text : List ℕ) (b : ℕ) (rest : List ℕ) → is_source_byte b ≡ false → ended_by text (b ∷ rest) ≡ Unquoted cause.NotText
ended_bad text b rest e = rw (bad_not_34 b e, bad_not_10 b e, ended_by) refl
