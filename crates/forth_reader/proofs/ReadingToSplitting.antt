-- What the definitions compute is a splitting.
use Rattle.std.proofs.Common.{◌≡◌, ℕ, ◌+◌, ◌<◌, ◌≤◌, Bool, true, false, ◌&&◌, not, nat_le, ◌==◌, List, [], ◌∷◌, ◌++◌, length, refl, ap, sym, ◌∙◌, arith, subst, inl, inr, append_assoc, append-nil}
use Rattle.std.specs.List.{list_all}
use Rattle.std.proofs.lemmas.Bool.Decides.{nat_tests}
use Rattle.std.proofs.lemmas.List.Folds.{list_all-append}
use Rattle.forth_reader.specs.declared.refusal.ReadCause.TheVariants as cause
use Rattle.forth_reader.specs.Bytes.{is_graphic, is_blank, is_source_byte, is_string_byte, passing_front, behind_front, graphic_front, behind_graphic}
use Rattle.forth_reader.specs.Reading.{Reading, NoMore, Reads, Refuses, Unquoted, ends_token, may_follow_token, whole_token, name_from, next_from, parenthesis_from, line_from, ended_by, string_from}
use Rattle.forth_reader.specs.Splitting.{is_parenthesis_byte, is_line_byte, is_separator, IsCommentText, IsStringText, Blank, Parenthesis, Line, IsRun, RunIs}
use Rattle.forth_reader.specs.Splitting.{is_read, is_too_long, meets_bad_byte, NameAt, NextAt, nothing, last_line, bad_byte, bad_in_line, bad_in_parenthesis}
use Rattle.forth_reader.specs.Splitting.{open_parenthesis, run, NameIs, NextIs, StringIs, closed, no_separator, line_feed_first, bad_separator, text_ends}
use Rattle.forth_reader.specs.Splitting.{line_ends, bad_in_string}
use Rattle.forth_reader.proofs.Fronts.{front_joined}
use Rattle.forth_reader.proofs.Steps.{either, both_true, neither_is_bad, source_is_either, next_blank, next_bad, next_parenthesis, next_line, next_run}
use Rattle.forth_reader.proofs.Steps.{name_blank, name_bad, name_run, parenthesis_more, parenthesis_bad, parenthesis_source, line_more, line_bad, line_source}
use Rattle.forth_reader.proofs.Steps.{front_passes, behind_fails, string_begins, string_bad_separator, ended_bad}
use Rattle.forth_reader.proofs.SplittingToReading.{ends_not_graphic, equal_when}

long_run : (n : ℕ) → nat_le n 31 ≡ false → 31 < n
long_run n e = grind (arith, nat_tests)

short_run : (n : ℕ) → nat_le n 31 ≡ true → n ≤ 31
short_run n e = grind (arith, nat_tests)

followed_run : (number : ℕ) (token rest : List ℕ) (t : Bool) → nat_le (length token) 31 ≡ t → may_follow_token rest ≡ true → RunIs number token rest (elim t [ true ↦ Reads token number rest | false ↦ Refuses number cause.NameTooLong ])
followed_run number token rest true e f = is_read rest f (short_run (length token) e)
followed_run number token rest false e f = is_too_long rest f (long_run (length token) e)

run_before : (number : ℕ) (token : List ℕ) (c : ℕ) (cs : List ℕ) (t : Bool) → is_blank c ≡ t → is_graphic c ≡ false →
    RunIs number token (c ∷ cs)
    (elim t [
      | true ↦ elim (nat_le (length token) 31) [ true ↦ Reads token number (c ∷ cs) | false ↦ Refuses number cause.NameTooLong ]
      | false ↦ Refuses number cause.NotText
    ])
run_before number token c cs true e g = followed_run number token (c ∷ cs) (nat_le (length token) 31) refl e
run_before number token c cs false e g = meets_bad_byte c cs (neither_is_bad c g e)

run_exists : (number : ℕ) (token rest : List ℕ) → ends_token rest ≡ true → RunIs number token rest (whole_token number token rest)
run_exists number token [] e = followed_run number token [] (nat_le (length token) 31) refl refl
run_exists number token (c ∷ cs) e = run_before number token c cs (is_blank c) refl (ends_not_graphic c cs e)

ends_when : (c : ℕ) (cs : List ℕ) → is_graphic c ≡ false → ends_token (c ∷ cs) ≡ true
ends_when c cs e = ap (λ t. elim t [ true ↦ false | false ↦ true ]) e

behind_ends_on : (bs rest : List ℕ) → behind_graphic bs ≡ rest → ends_token rest ≡ true
behind_ends_on bs [] e = refl
behind_ends_on bs (c ∷ cs) e = ends_when c cs (behind_fails is_graphic bs c cs e)

behind_ends : (bs : List ℕ) → ends_token (behind_graphic bs) ≡ true
behind_ends bs = behind_ends_on bs (behind_graphic bs) refl

run_of : (b : ℕ) (bs : List ℕ) → is_graphic b ≡ true → IsRun (b ∷ graphic_front bs)
run_of b bs g = record { some = omega arith; graphic = ap (λ t. t && list_all is_graphic (graphic_front bs)) g ∙ front_passes is_graphic bs }

no_front_ends : (bs : List ℕ) → graphic_front bs ≡ [] → ends_token bs ≡ true
no_front_ends bs e =
    let joined : behind_graphic bs ≡ bs = sym (ap (λ f. f ++ behind_graphic bs) e) ∙ front_joined is_graphic bs in
    subst (λ l. ends_token l ≡ true) joined (behind_ends bs)

equal_test : (b n : ℕ) → b ≡ n → (b == n) ≡ true
equal_test b n e = grind (arith, nat_tests)

-- a byte that is no lone n has more behind it, or is another
no_lone : (b n : ℕ) (bs : List ℕ) → (ends_token bs && b == n) ≡ false → b ∷ graphic_front bs ≡ n ∷ [] → ⊥
no_lone b n bs other same =
    let alone : graphic_front bs ≡ [] = cc in
    let byte : b ≡ n = cc in
    let both : (ends_token bs && b == n) ≡ true = ap (λ t. t && b == n) (no_front_ends bs alone) ∙ equal_test b n byte in
    let clash : true ≡ false = sym both ∙ other in
    absurd (cc)

-- the text of a comment grows by a byte
module _ (test : ℕ → Bool) where
  one_more : (front : List ℕ) (b : ℕ) → list_all test front ≡ true → test b ≡ true → list_all test (front ++ b ∷ []) ≡ true
  one_more front b all e = list_all-append test front (b ∷ []) ∙ ap (λ t. t && (test b && true)) all ∙ ap (λ t. t && true) e

moved : (front : List ℕ) (b : ℕ) (bs : List ℕ) → (front ++ b ∷ []) ++ bs ≡ front ++ b ∷ bs
moved front b bs = append_assoc front (b ∷ []) bs

-- a comment's text begins with a blank, where its `(` or `\` is a whole token
text_follows : (test : ℕ → Bool) → ((c : ℕ) → test c ≡ true → is_source_byte c ≡ true) → (front rest : List ℕ) → list_all test front ≡ true → ends_token (front ++ rest) ≡ true → may_follow_token front ≡ true
text_follows test source [] rest all e = refl
text_follows test source (c ∷ cs) rest all e = source_is_either c (source c ((both_true (test c) (list_all test cs) all).0)) (ends_not_graphic c (cs ++ rest) e)

comment_text : (test : ℕ → Bool) → ((c : ℕ) → test c ≡ true → is_source_byte c ≡ true) → (front rest : List ℕ) → list_all test front ≡ true → ends_token (front ++ rest) ≡ true → IsCommentText test front
comment_text test source front rest all e = record { begins = text_follows test source front rest all e; bytes = all }

text_is_some : (front rest : List ℕ) → ends_token (front ++ 41 ∷ rest) ≡ true → 0 < length front
text_is_some [] rest e = absurd (cc)
text_is_some (c ∷ cs) rest e = omega arith

alone : {k : ℕ} {text : List ℕ} {reading : Reading} → NextAt k text reading → NextIs k text reading
alone {text = text} stands = record { pieces = []; rest = text; are_pieces = tt; text_is = refl; stands = stands }

behind_blank : {k : ℕ} {text : List ℕ} {reading : Reading} (b : ℕ) → is_blank b ≡ true → NextIs k text reading → NextIs k (b ∷ text) reading
behind_blank b e is = record { pieces = Blank b ∷ is.pieces; rest = is.rest; are_pieces = (e, is.are_pieces); text_is = ap (λ l. b ∷ l) (is.text_is); stands = is.stands }

behind_comment : {k : ℕ} {text : List ℕ} {reading : Reading} (front : List ℕ) → list_all is_parenthesis_byte front ≡ true → ends_token (front ++ 41 ∷ text) ≡ true → NextIs (k + 1) text reading → NextIs k (40 ∷ (front ++ 41 ∷ text)) reading
behind_comment {text = text} front all e is = record {
  pieces = Parenthesis front ∷ is.pieces;
  rest = is.rest;
  are_pieces = ((text_is_some front text e, comment_text is_parenthesis_byte parenthesis_source front (41 ∷ text) all e), is.are_pieces);
  text_is = ap (λ l. 40 ∷ (front ++ 41 ∷ l)) (is.text_is);
  stands = is.stands;
}

behind_line : {k : ℕ} {text : List ℕ} {reading : Reading} (front : List ℕ) → list_all is_line_byte front ≡ true → ends_token (front ++ 10 ∷ text) ≡ true → NextIs (k + 1) text reading → NextIs k (92 ∷ (front ++ 10 ∷ text)) reading
behind_line {text = text} front all e is = record {
  pieces = Line front ∷ is.pieces;
  rest = is.rest;
  are_pieces = (comment_text is_line_byte line_source front (10 ∷ text) all e, is.are_pieces);
  text_is = ap (λ l. 92 ∷ (front ++ 10 ∷ l)) (is.text_is);
  stands = is.stands;
}

-- a text, and the same text behind the beginning of a comment
AtText : List ℕ → Type 0
AtText bs = (k : ℕ) → NextIs k bs (next_from k bs)

InParenthesis : List ℕ → Type 0
InParenthesis bs = (k : ℕ) (front : List ℕ) → list_all is_parenthesis_byte front ≡ true → ends_token (front ++ bs) ≡ true → NextIs k (40 ∷ (front ++ bs)) (parenthesis_from (k + 1) bs)

InLine : List ℕ → Type 0
InLine bs = (k : ℕ) (front : List ℕ) → list_all is_line_byte front ≡ true → ends_token (front ++ bs) ≡ true → NextIs k (92 ∷ (front ++ bs)) (line_from (k + 1) bs)

at_run : (b : ℕ) (bs : List ℕ) (k : ℕ) → is_graphic b ≡ true → (ends_token bs && b == 40) ≡ false → (ends_token bs && b == 92) ≡ false → NextIs k (b ∷ bs) (next_from k (b ∷ bs))
at_run b bs k g p q =
    let token : List ℕ = b ∷ graphic_front bs in
    let rest : List ℕ = behind_graphic bs in
    let joined : token ++ rest ≡ b ∷ bs = ap (λ l. b ∷ l) (front_joined is_graphic bs) in
    let is : NextIs k (token ++ rest) (whole_token (k + 1) token rest) = alone (run token rest (whole_token (k + 1) token rest) (run_of b bs g) (no_lone b 40 bs p) (no_lone b 92 bs q) (run_exists (k + 1) token rest (behind_ends bs))) in
    subst (NextIs k (b ∷ bs)) (sym (next_run k b bs g p q)) (subst (λ l. NextIs k l (whole_token (k + 1) token rest)) joined is)

at_byte : (b : ℕ) (bs : List ℕ) → AtText bs → InParenthesis bs → InLine bs → AtText (b ∷ bs)
unfolding AtText InParenthesis InLine
at_byte b bs text parenthesis line k = elim (either (is_graphic b)) [
  | inl g ↦ elim (either (ends_token bs && b == 40)) [
    | inl p ↦
        let both : (ends_token bs ≡ true) × ((b == 40) ≡ true) = both_true (ends_token bs) (b == 40) p in
        subst (λ x. NextIs k (x ∷ bs) (next_from k (x ∷ bs))) (sym (equal_when b 40 (both.1))) (subst (NextIs k (40 ∷ bs)) (sym (next_parenthesis k bs (both.0))) (parenthesis k [] refl (both.0)))
    | inr p ↦ elim (either (ends_token bs && b == 92)) [
      | inl q ↦
          let both : (ends_token bs ≡ true) × ((b == 92) ≡ true) = both_true (ends_token bs) (b == 92) q in
          subst (λ x. NextIs k (x ∷ bs) (next_from k (x ∷ bs))) (sym (equal_when b 92 (both.1))) (subst (NextIs k (92 ∷ bs)) (sym (next_line k bs (both.0))) (line k [] refl (both.0)))
      | inr q ↦ at_run b bs k g p q
    ]
  ]
  | inr g ↦ elim (either (is_blank b)) [
    | inl e ↦ subst (NextIs k (b ∷ bs)) (sym (next_blank k b bs e)) (behind_blank b e (text k))
    | inr e ↦ subst (NextIs k (b ∷ bs)) (sym (next_bad k b bs (neither_is_bad b g e))) (alone (bad_byte b bs (neither_is_bad b g e)))
  ]
]

in_parenthesis_byte : (b : ℕ) → is_source_byte b ≡ true → (b == 41) ≡ false → is_parenthesis_byte b ≡ true
in_parenthesis_byte b e f = ap (λ t. t && not (b == 41)) e ∙ ap not f

in_line_byte : (b : ℕ) → is_source_byte b ≡ true → (b == 10) ≡ false → is_line_byte b ≡ true
in_line_byte b e f = ap (λ t. t && not (b == 10)) e ∙ ap not f

parenthesis_byte : (b : ℕ) (bs : List ℕ) → AtText bs → InParenthesis bs → InParenthesis (b ∷ bs)
unfolding AtText InParenthesis
parenthesis_byte b bs text inside k front all ends = elim (either (b == 41)) [
  | inl e ↦
      let same : b ≡ 41 = equal_when b 41 e in
      let ends' : ends_token (front ++ 41 ∷ bs) ≡ true = subst (λ x. ends_token (front ++ x ∷ bs) ≡ true) same ends in
      subst (λ x. NextIs k (40 ∷ (front ++ x ∷ bs)) (parenthesis_from (k + 1) (x ∷ bs))) (sym same) (behind_comment front all ends' (text (k + 1)))
  | inr e ↦ elim (either (is_source_byte b)) [
    | inl s ↦
        let p : is_parenthesis_byte b ≡ true = in_parenthesis_byte b s e in
        let is : NextIs k (40 ∷ ((front ++ b ∷ []) ++ bs)) (parenthesis_from (k + 1) bs) = inside k (front ++ b ∷ []) (one_more is_parenthesis_byte front b all p) (subst (λ l. ends_token l ≡ true) (sym (moved front b bs)) ends) in
        subst (NextIs k (40 ∷ (front ++ b ∷ bs))) (sym (parenthesis_more (k + 1) b bs p)) (subst (λ l. NextIs k (40 ∷ l) (parenthesis_from (k + 1) bs)) (moved front b bs) is)
    | inr s ↦ subst (NextIs k (40 ∷ (front ++ b ∷ bs))) (sym (parenthesis_bad (k + 1) b bs s)) (alone (bad_in_parenthesis front b bs (comment_text is_parenthesis_byte parenthesis_source front (b ∷ bs) all ends) s))
  ]
]

line_byte : (b : ℕ) (bs : List ℕ) → AtText bs → InLine bs → InLine (b ∷ bs)
unfolding AtText InLine
line_byte b bs text inside k front all ends = elim (either (b == 10)) [
  | inl e ↦
      let same : b ≡ 10 = equal_when b 10 e in
      let ends' : ends_token (front ++ 10 ∷ bs) ≡ true = subst (λ x. ends_token (front ++ x ∷ bs) ≡ true) same ends in
      subst (λ x. NextIs k (92 ∷ (front ++ x ∷ bs)) (line_from (k + 1) (x ∷ bs))) (sym same) (behind_line front all ends' (text (k + 1)))
  | inr e ↦ elim (either (is_source_byte b)) [
    | inl s ↦
        let p : is_line_byte b ≡ true = in_line_byte b s e in
        let is : NextIs k (92 ∷ ((front ++ b ∷ []) ++ bs)) (line_from (k + 1) bs) = inside k (front ++ b ∷ []) (one_more is_line_byte front b all p) (subst (λ l. ends_token l ≡ true) (sym (moved front b bs)) ends) in
        subst (NextIs k (92 ∷ (front ++ b ∷ bs))) (sym (line_more (k + 1) b bs p)) (subst (λ l. NextIs k (92 ∷ l) (line_from (k + 1) bs)) (moved front b bs) is)
    | inr s ↦ subst (NextIs k (92 ∷ (front ++ b ∷ bs))) (sym (line_bad (k + 1) b bs s)) (alone (bad_in_line front b bs (comment_text is_line_byte line_source front (b ∷ bs) all ends) s))
  ]
]

parenthesis_end : InParenthesis []
unfolding InParenthesis
parenthesis_end k front all ends = subst (λ l. NextIs k (40 ∷ l) (Refuses (k + 1) cause.OpenComment)) (sym (append-nil front)) (alone (open_parenthesis front (comment_text is_parenthesis_byte parenthesis_source front [] all ends)))

line_end : InLine []
unfolding InLine
line_end k front all ends = subst (λ l. NextIs k (92 ∷ l) (NoMore (k + 1))) (sym (append-nil front)) (alone (last_line front (comment_text is_line_byte line_source front [] all ends)))

text_end : AtText []
unfolding AtText
text_end k = alone nothing

record Splittings (bs : List ℕ) : Type 0 where
  text : AtText bs
  parenthesis : InParenthesis bs
  line : InLine bs

splittings : (bs : List ℕ) → Splittings bs
splittings [] = record { text = text_end; parenthesis = parenthesis_end; line = line_end }
splittings (b ∷ bs) =
    let below : Splittings bs = splittings bs in
    record { text = at_byte b bs (below.text) (below.parenthesis) (below.line); parenthesis = parenthesis_byte b bs (below.text) (below.parenthesis); line = line_byte b bs (below.text) (below.line) }

pub next_exists : (k : ℕ) (text : List ℕ) → NextIs k text (next_from k text)
unfolding AtText
next_exists k text = (splittings text).text k

pub name_alone : {k : ℕ} {text : List ℕ} {reading : Reading} → NameAt k text reading → NameIs k text reading
name_alone {text = text} stands = record { blanks = []; rest = text; are_blank = refl; text_is = refl; stands = stands }

pub name_behind : {k : ℕ} {text : List ℕ} {reading : Reading} (b : ℕ) → is_blank b ≡ true → NameIs k text reading → NameIs k (b ∷ text) reading
name_behind b e is = record { blanks = b ∷ is.blanks; rest = is.rest; are_blank = ap (λ t. t && list_all is_blank (is.blanks)) e ∙ is.are_blank; text_is = ap (λ l. b ∷ l) (is.text_is); stands = is.stands }

name_at_run : (b : ℕ) (bs : List ℕ) (k : ℕ) → is_graphic b ≡ true → NameIs k (b ∷ bs) (name_from k (b ∷ bs))
name_at_run b bs k g =
    let token : List ℕ = b ∷ graphic_front bs in
    let rest : List ℕ = behind_graphic bs in
    let joined : token ++ rest ≡ b ∷ bs = ap (λ l. b ∷ l) (front_joined is_graphic bs) in
    let is : NameIs k (token ++ rest) (whole_token (k + 1) token rest) = name_alone (run token rest (whole_token (k + 1) token rest) (run_of b bs g) (run_exists (k + 1) token rest (behind_ends bs))) in
    subst (NameIs k (b ∷ bs)) (sym (name_run k b bs g)) (subst (λ l. NameIs k l (whole_token (k + 1) token rest)) joined is)

pub name_exists : (k : ℕ) (text : List ℕ) → NameIs k text (name_from k text)
name_exists k [] = name_alone nothing
name_exists k (b ∷ bs) =
    let below : NameIs k bs (name_from k bs) = name_exists k bs in
    elim (either (is_graphic b)) [
      | inl g ↦ name_at_run b bs k g
      | inr g ↦ elim (either (is_blank b)) [
        | inl e ↦ subst (NameIs k (b ∷ bs)) (sym (name_blank k b bs e)) (name_behind b e below)
        | inr e ↦ subst (NameIs k (b ∷ bs)) (sym (name_bad k b bs (neither_is_bad b g e))) (name_alone (bad_byte b bs (neither_is_bad b g e)))
      ]
    ]

-- the byte that ends a string text
stopping_bytes : (byte : ℕ) → is_string_byte byte ≡ false → (byte == 34) ≡ false → (byte == 10) ≡ false → is_source_byte byte ≡ false
stopping_bytes byte e p q = grind (arith, nat_tests)

ended_exists : (separator : ℕ) (text rest : List ℕ) → IsStringText separator text → ((c : ℕ) (cs : List ℕ) → rest ≡ c ∷ cs → is_string_byte c ≡ false) → StringIs (separator ∷ (text ++ rest)) (ended_by text rest)
ended_exists separator text [] is stops = subst (λ l. StringIs (separator ∷ l) (Unquoted cause.OpenString)) (sym (append-nil text)) (text_ends separator text is)
ended_exists separator text (c ∷ cs) is stops = elim (either (c == 34)) [
  | inl e ↦ subst (λ x. StringIs (separator ∷ (text ++ x ∷ cs)) (ended_by text (x ∷ cs))) (sym (equal_when c 34 e)) (closed separator text cs is)
  | inr e ↦ elim (either (c == 10)) [
    | inl f ↦ subst (λ x. StringIs (separator ∷ (text ++ x ∷ cs)) (ended_by text (x ∷ cs))) (sym (equal_when c 10 f)) (line_ends separator text cs is)
    | inr f ↦
        let bad : is_source_byte c ≡ false = stopping_bytes c (stops c cs refl) e f in
        subst (StringIs (separator ∷ (text ++ c ∷ cs))) (sym (ended_bad text c cs bad)) (bad_in_string separator text c cs is bad)
  ]
]

pub string_exists : (text : List ℕ) → StringIs text (string_from text)
string_exists [] = no_separator
string_exists (b ∷ bs) = elim (either (b == 10)) [
  | inl e ↦ subst (λ x. StringIs (x ∷ bs) (string_from (x ∷ bs))) (sym (equal_when b 10 e)) (line_feed_first bs)
  | inr e ↦ elim (either (is_source_byte b)) [
    | inl s ↦
        let p : is_separator b ≡ true = in_line_byte b s e in
        let front : List ℕ = passing_front is_string_byte bs in
        let behind : List ℕ = behind_front is_string_byte bs in
        let is : StringIs (b ∷ (front ++ behind)) (ended_by front behind) = ended_exists b front behind (record { separates = p; bytes = front_passes is_string_byte bs }) (behind_fails is_string_byte bs) in
        subst (StringIs (b ∷ bs)) (sym (string_begins b bs p)) (subst (λ l. StringIs (b ∷ l) (ended_by front behind)) (front_joined is_string_byte bs) is)
    | inr s ↦ subst (StringIs (b ∷ bs)) (sym (string_bad_separator b bs s)) (bad_separator b bs s)
  ]
]
