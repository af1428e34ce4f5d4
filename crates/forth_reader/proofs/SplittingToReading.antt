-- What a splitting allows is what the definitions compute.
use Rattle.std.proofs.Common.{◌≡◌, ℕ, ◌+◌, ◌<◌, ◌≤◌, Bool, true, false, ◌&&◌, nat_le, ◌==◌, List, [], ◌∷◌, ◌++◌, length, refl, ap, sym, ◌∙◌, arith, inl, inr, append-nil}
use Rattle.std.specs.List.{list_all}
use Rattle.std.proofs.lemmas.Bool.Decides.{nat_tests}
use Rattle.forth_reader.specs.declared.refusal.ReadCause.TheVariants as cause
use Rattle.forth_reader.specs.Bytes.{is_graphic, is_blank, is_string_byte, passing_front, behind_front, graphic_front, behind_graphic}
use Rattle.forth_reader.specs.Reading.{Reading, Reads, Refuses, StringReading, ends_token, may_follow_token, whole_token, name_from, next_from, parenthesis_from, line_from, ended_by, string_from}
use Rattle.forth_reader.specs.Splitting.{IsStringText, Piece, Blank, Parenthesis, Line, ArePieces, pieces_then, tokens_behind, IsRun, RunIs, is_read}
use Rattle.forth_reader.specs.Splitting.{is_too_long, meets_bad_byte, NameAt, NextAt, nothing, last_line, bad_byte, bad_in_line, bad_in_parenthesis}
use Rattle.forth_reader.specs.Splitting.{open_parenthesis, run, NameIs, NextIs, StringIs, closed, no_separator, line_feed_first, bad_separator, text_ends}
use Rattle.forth_reader.specs.Splitting.{line_ends, bad_in_string}
use Rattle.forth_reader.proofs.Steps.{either, both_true, bad_not_blank, follow_ends, bad_ends, next_blank, next_bad, next_parenthesis, next_line, next_run}
use Rattle.forth_reader.proofs.Steps.{name_blank, name_bad, name_run, parenthesis_bad, parenthesis_along, line_bad, line_along, front_along, behind_along}
use Rattle.forth_reader.proofs.Steps.{string_begins, bad_string_byte, string_bad_separator, ended_bad}

-- a text that begins with a blank ends a token
pub ends_before : (text rest : List ℕ) → may_follow_token text ≡ true → ends_token rest ≡ true → ends_token (text ++ rest) ≡ true
ends_before [] rest e f = f
ends_before (b ∷ bs) rest e f = follow_ends (b ∷ (bs ++ rest)) e

some_ends : (text rest : List ℕ) → 0 < length text → may_follow_token text ≡ true → ends_token (text ++ rest) ≡ true
some_ends [] rest h e = absurd (omega arith)
some_ends (b ∷ bs) rest h e = follow_ends (b ∷ (bs ++ rest)) e

pieces_pass : (k : ℕ) (pieces : List Piece) (rest : List ℕ) → ArePieces pieces → next_from k (pieces_then pieces rest) ≡ next_from (tokens_behind k pieces) rest
pieces_pass k [] rest h = refl
pieces_pass k (Blank b ∷ pieces) rest h = next_blank k b (pieces_then pieces rest) (h.0) ∙ pieces_pass k pieces rest (h.1)
pieces_pass k (Parenthesis text ∷ pieces) rest h =
    let more : List ℕ = pieces_then pieces rest in
    next_parenthesis k (text ++ 41 ∷ more) (some_ends text (41 ∷ more) (h.0.0) (h.0.1.begins)) ∙ parenthesis_along (k + 1) text (41 ∷ more) (h.0.1.bytes) ∙ pieces_pass (k + 1) pieces rest (h.1)
pieces_pass k (Line text ∷ pieces) rest h =
    let more : List ℕ = pieces_then pieces rest in
    next_line k (text ++ 10 ∷ more) (ends_before text (10 ∷ more) (h.0.begins) refl) ∙ line_along (k + 1) text (10 ∷ more) (h.0.bytes) ∙ pieces_pass (k + 1) pieces rest (h.1)

not_graphic_on : (t : Bool) → elim t [ true ↦ false | false ↦ true ] ≡ true → t ≡ false
not_graphic_on true e = absurd (cc)
not_graphic_on false e = refl

pub ends_not_graphic : (c : ℕ) (cs : List ℕ) → ends_token (c ∷ cs) ≡ true → is_graphic c ≡ false
ends_not_graphic c cs e = not_graphic_on (is_graphic c) e

no_front : (rest : List ℕ) → ends_token rest ≡ true → graphic_front rest ≡ []
no_front [] e = refl
no_front (c ∷ cs) e = ap (λ t. elim t [ true ↦ c ∷ graphic_front cs | false ↦ [] ]) (ends_not_graphic c cs e)

all_behind : (rest : List ℕ) → ends_token rest ≡ true → behind_graphic rest ≡ rest
all_behind [] e = refl
all_behind (c ∷ cs) e = ap (λ t. elim t [ true ↦ behind_graphic cs | false ↦ c ∷ cs ]) (ends_not_graphic c cs e)

pub equal_when : (b n : ℕ) → (b == n) ≡ true → b ≡ n
equal_when b n e = grind (arith, nat_tests)

-- a token that is no lone byte n is none
not_lone : (b n : ℕ) (bs rest : List ℕ) → (b ∷ bs ≡ n ∷ [] → ⊥) → list_all is_graphic bs ≡ true → ends_token rest ≡ true → (ends_token (bs ++ rest) && b == n) ≡ false
not_lone b n [] rest other g e = elim (either (b == n)) [
  | inl same ↦ absurd (other (ap (λ x. x ∷ []) (equal_when b n same)))
  | inr differs ↦ ap (λ t. t && b == n) e ∙ differs
]
not_lone b n (c ∷ cs) rest other g e = ap (λ t. elim t [ true ↦ false | false ↦ true ] && b == n) ((both_true (is_graphic c) (list_all is_graphic cs) g).0)

next_of_run : (k : ℕ) (token rest : List ℕ) → IsRun token → (token ≡ 40 ∷ [] → ⊥) → (token ≡ 92 ∷ [] → ⊥) → ends_token rest ≡ true → next_from k (token ++ rest) ≡ whole_token (k + 1) token rest
next_of_run k [] rest is p q e = absurd (omega (arith, is.some))
next_of_run k (b ∷ bs) rest is p q e =
    let g : (is_graphic b ≡ true) × (list_all is_graphic bs ≡ true) = both_true (is_graphic b) (list_all is_graphic bs) (is.graphic) in
    let front : graphic_front (bs ++ rest) ≡ bs = front_along is_graphic bs rest (g.1) ∙ ap (λ l. bs ++ l) (no_front rest e) ∙ append-nil bs in
    let behind : behind_graphic (bs ++ rest) ≡ rest = behind_along is_graphic bs rest (g.1) ∙ all_behind rest e in
    next_run k b (bs ++ rest) (g.0) (not_lone b 40 bs rest p (g.1) e) (not_lone b 92 bs rest q (g.1) e) ∙ ap (λ l. whole_token (k + 1) (b ∷ l) (behind_graphic (bs ++ rest))) front ∙ ap (λ l. whole_token (k + 1) (b ∷ bs) l) behind

name_of_run : (k : ℕ) (token rest : List ℕ) → IsRun token → ends_token rest ≡ true → name_from k (token ++ rest) ≡ whole_token (k + 1) token rest
name_of_run k [] rest is e = absurd (omega (arith, is.some))
name_of_run k (b ∷ bs) rest is e =
    let g : (is_graphic b ≡ true) × (list_all is_graphic bs ≡ true) = both_true (is_graphic b) (list_all is_graphic bs) (is.graphic) in
    let front : graphic_front (bs ++ rest) ≡ bs = front_along is_graphic bs rest (g.1) ∙ ap (λ l. bs ++ l) (no_front rest e) ∙ append-nil bs in
    let behind : behind_graphic (bs ++ rest) ≡ rest = behind_along is_graphic bs rest (g.1) ∙ all_behind rest e in
    name_run k b (bs ++ rest) (g.0) ∙ ap (λ l. whole_token (k + 1) (b ∷ l) (behind_graphic (bs ++ rest))) front ∙ ap (λ l. whole_token (k + 1) (b ∷ bs) l) behind

short_test : (n : ℕ) → n ≤ 31 → nat_le n 31 ≡ true
short_test n h = grind (arith, nat_tests)

long_test : (n : ℕ) → 31 < n → nat_le n 31 ≡ false
long_test n h = grind (arith, nat_tests)

abbrev by_tests : ℕ → List ℕ → List ℕ → Bool → Bool → Reading
by_tests number token rest follows short = elim follows [
  | true ↦ elim short [ true ↦ Reads token number rest | false ↦ Refuses number cause.NameTooLong ]
  | false ↦ Refuses number cause.NotText
]

run_computed : {number : ℕ} {token rest : List ℕ} {reading : Reading} → RunIs number token rest reading → whole_token number token rest ≡ reading
run_computed {number = number} {token = token} (is_read rest follows short) = ap (λ t. by_tests number token rest t (nat_le (length token) 31)) follows ∙ ap (λ t. by_tests number token rest true t) (short_test (length token) short)
run_computed {number = number} {token = token} (is_too_long rest follows long) = ap (λ t. by_tests number token rest t (nat_le (length token) 31)) follows ∙ ap (λ t. by_tests number token rest true t) (long_test (length token) long)
run_computed {number = number} {token = token} (meets_bad_byte byte rest bad) = ap (λ t. by_tests number token (byte ∷ rest) t (nat_le (length token) 31)) (bad_not_blank byte bad)

run_ends : {number : ℕ} {token rest : List ℕ} {reading : Reading} → RunIs number token rest reading → ends_token rest ≡ true
run_ends (is_read rest follows short) = follow_ends rest follows
run_ends (is_too_long rest follows long) = follow_ends rest follows
run_ends (meets_bad_byte byte rest bad) = bad_ends byte rest bad

next_stands : (k : ℕ) {rest : List ℕ} {reading : Reading} → NextAt k rest reading → next_from k rest ≡ reading
next_stands k nothing = refl
next_stands k (last_line text is) = next_line k text (follow_ends text (is.begins)) ∙ ap (line_from (k + 1)) (sym (append-nil text)) ∙ line_along (k + 1) text [] (is.bytes)
next_stands k (bad_byte byte rest bad) = next_bad k byte rest bad
next_stands k (bad_in_line text byte rest is bad) = next_line k (text ++ byte ∷ rest) (ends_before text (byte ∷ rest) (is.begins) (bad_ends byte rest bad)) ∙ line_along (k + 1) text (byte ∷ rest) (is.bytes) ∙ line_bad (k + 1) byte rest bad
next_stands k (bad_in_parenthesis text byte rest is bad) =
    next_parenthesis k (text ++ byte ∷ rest) (ends_before text (byte ∷ rest) (is.begins) (bad_ends byte rest bad))
    ∙ parenthesis_along (k + 1) text (byte ∷ rest) (is.bytes) ∙ parenthesis_bad (k + 1) byte rest bad
next_stands k (open_parenthesis text is) = next_parenthesis k text (follow_ends text (is.begins)) ∙ ap (parenthesis_from (k + 1)) (sym (append-nil text)) ∙ parenthesis_along (k + 1) text [] (is.bytes)
next_stands k (run token rest reading is p q of_run) = next_of_run k token rest is p q (run_ends of_run) ∙ run_computed of_run

name_stands : (k : ℕ) {rest : List ℕ} {reading : Reading} → NameAt k rest reading → name_from k rest ≡ reading
name_stands k nothing = refl
name_stands k (bad_byte byte rest bad) = name_bad k byte rest bad
name_stands k (run token rest reading is of_run) = name_of_run k token rest is (run_ends of_run) ∙ run_computed of_run

blanks_pass : (k : ℕ) (blanks rest : List ℕ) → list_all is_blank blanks ≡ true → name_from k (blanks ++ rest) ≡ name_from k rest
blanks_pass k [] rest e = refl
blanks_pass k (b ∷ bs) rest e =
    let p : (is_blank b ≡ true) × (list_all is_blank bs ≡ true) = both_true (is_blank b) (list_all is_blank bs) e in
    name_blank k b (bs ++ rest) (p.0) ∙ blanks_pass k bs rest (p.1)

pub next_computed : (k : ℕ) (text : List ℕ) (reading : Reading) → NextIs k text reading → reading ≡ next_from k text
next_computed k text reading is = sym (ap (next_from k) (is.text_is) ∙ pieces_pass k (is.pieces) (is.rest) (is.are_pieces) ∙ next_stands (tokens_behind k (is.pieces)) (is.stands))

pub name_computed : (k : ℕ) (text : List ℕ) (reading : Reading) → NameIs k text reading → reading ≡ name_from k text
name_computed k text reading is = sym (ap (name_from k) (is.text_is) ∙ blanks_pass k (is.blanks) (is.rest) (is.are_blank) ∙ name_stands k (is.stands))

-- a string text with a byte behind it that is none of it
ended : (separator : ℕ) (text : List ℕ) (byte : ℕ) (rest : List ℕ) → IsStringText separator text → is_string_byte byte ≡ false → string_from (separator ∷ (text ++ byte ∷ rest)) ≡ ended_by text (byte ∷ rest)
ended separator text byte rest is stops =
    let front : passing_front is_string_byte (text ++ byte ∷ rest) ≡ text =
    front_along is_string_byte text (byte ∷ rest) (is.bytes)
    ∙ ap (λ t. text ++ elim t [ true ↦ byte ∷ passing_front is_string_byte rest | false ↦ [] ]) stops ∙ append-nil text in
    let behind : behind_front is_string_byte (text ++ byte ∷ rest) ≡ byte ∷ rest = behind_along is_string_byte text (byte ∷ rest) (is.bytes) ∙ ap (λ t. elim t [ true ↦ behind_front is_string_byte rest | false ↦ byte ∷ rest ]) stops in
    string_begins separator (text ++ byte ∷ rest) (is.separates) ∙ ap (λ l. ended_by l (behind_front is_string_byte (text ++ byte ∷ rest))) front ∙ ap (λ l. ended_by text l) behind

string_stands : {text : List ℕ} {reading : StringReading} → StringIs text reading → string_from text ≡ reading
string_stands (closed separator text rest is) = ended separator text 34 rest is refl
string_stands no_separator = refl
string_stands (line_feed_first rest) = refl
string_stands (bad_separator separator rest bad) = string_bad_separator separator rest bad
string_stands (text_ends separator text is) =
    let front : passing_front is_string_byte text ≡ text = ap (passing_front is_string_byte) (sym (append-nil text)) ∙ front_along is_string_byte text [] (is.bytes) ∙ append-nil text in
    let behind : behind_front is_string_byte text ≡ [] = ap (behind_front is_string_byte) (sym (append-nil text)) ∙ behind_along is_string_byte text [] (is.bytes) in
    string_begins separator text (is.separates) ∙ ap (λ l. ended_by l (behind_front is_string_byte text)) front ∙ ap (λ l. ended_by text l) behind
string_stands (line_ends separator text rest is) = ended separator text 10 rest is refl
string_stands (bad_in_string separator text byte rest is bad) = ended separator text byte rest is (bad_string_byte byte bad) ∙ ended_bad text byte rest bad

pub string_computed : (text : List ℕ) (reading : StringReading) → StringIs text reading → reading ≡ string_from text
string_computed text reading is = sym (string_stands is)
