-- Texts as lines, and lines as fields.
use Rattle.std.proofs.Common.{◌≡◌, ℕ, ◌-◌, ◌<◌, ◌≤◌, Bool, true, false, not, List, [], ◌∷◌, ◌++◌, length, take, drop, nat_eq, refl, ap, sym, ◌∙◌, arith, length-append}
use Rattle.std.specs.List.{filter, slice_split, onto_first}
use Rattle.std.specs.Str.{bytes_eq}
use Rattle.std.proofs.lemmas.List.Splits.{slice_split-cons_yes, slice_split-cons_no}
use Rattle.std.proofs.lemmas.List.{length-drop}
use Rattle.std.proofs.Math.Seq.{take-append_seam}
use Rattle.j1_assembler.specs.Text.{lines_of, is_blank, has_bytes, words_of, before_comment, fields_of, from_first, from_line_feed, from_blank, from_word, before_first, first_word, behind_word, behind_line}

module _ (test : ℕ → Bool) where
  pub joined : (bs : List ℕ) → before_first test bs ++ from_first test bs ≡ bs
  joined [] = refl
  joined (b ∷ bs) = elim (test b) as (λ g. elim g [ true ↦ [] | false ↦ b ∷ before_first test bs ] ++ elim g [ true ↦ b ∷ bs | false ↦ from_first test bs ] ≡ b ∷ bs) [ true ↦ refl | false ↦ ap (λ t. b ∷ t) (joined bs) ]

  pub from_shorter : (bs : List ℕ) → length (from_first test bs) ≤ length bs
  from_shorter bs = omega (arith, ap length (joined bs), length-append (before_first test bs) (from_first test bs))

  pub before_is : (bs : List ℕ) → take (length bs - length (from_first test bs)) bs ≡ before_first test bs
  before_is bs =
      let e : length bs - length (from_first test bs) ≡ length (before_first test bs) = omega (arith, ap length (joined bs), length-append (before_first test bs) (from_first test bs)) in
      ap (λ n. take n bs) e ∙ ap (take (length (before_first test bs))) (sym (joined bs)) ∙ take-append_seam (before_first test bs) (from_first test bs)

onto_next : (b : ℕ) (bs : List ℕ) (g : Bool) → (0 < length bs → lines_of bs ≡ before_first (λ b. nat_eq b 10) bs ∷ lines_of (drop 1 (from_line_feed bs))) →
    elim g [ true ↦ [] ∷ lines_of bs | false ↦ onto_first b (lines_of bs) ]
    ≡ elim g [ true ↦ [] | false ↦ b ∷ before_first (λ b. nat_eq b 10) bs ] ∷ lines_of (drop 1 (elim g [ true ↦ b ∷ bs | false ↦ from_line_feed bs ]))
onto_next b bs true h = refl
onto_next b [] false h = refl
onto_next b (c ∷ cs) false h = ap (onto_first b) (h (omega arith))

-- the first line of a text, and what is behind it
pub lines_begin : (text : List ℕ) → 0 < length text → lines_of text ≡ before_first (λ b. nat_eq b 10) text ∷ lines_of (drop 1 (from_line_feed text))
lines_begin [] h = absurd (omega arith)
lines_begin (b ∷ bs) h = onto_next b bs (nat_eq b 10) (lines_begin bs)

words_blank : (b : ℕ) (bs : List ℕ) → is_blank b ≡ true → words_of (b ∷ bs) ≡ words_of bs
words_blank b bs e = ap (filter has_bytes) (slice_split-cons_yes is_blank b bs e)

words_step : (b : ℕ) (bs : List ℕ) (g : Bool) → words_of bs ≡ words_of (from_word bs) → is_blank b ≡ g → words_of (b ∷ bs) ≡ words_of (elim (not g) [ true ↦ b ∷ bs | false ↦ from_word bs ])
words_step b bs true h e = words_blank b bs e ∙ h
words_step b bs false h e = refl

-- blanks in front are no words
pub words_from : (line : List ℕ) → words_of line ≡ words_of (from_word line)
words_from [] = refl
words_from (b ∷ bs) = words_step b bs (is_blank b) (words_from bs) refl

-- the parts behind the first
abbrev parts_behind : List ℕ → List (List ℕ)
parts_behind [] = []
parts_behind (b ∷ bs) = slice_split is_blank bs

split_step : (b : ℕ) (bs : List ℕ) (g : Bool) → slice_split is_blank bs ≡ before_first is_blank bs ∷ parts_behind (from_blank bs) → is_blank b ≡ g →
    slice_split is_blank (b ∷ bs)
    ≡ elim g [ true ↦ [] | false ↦ b ∷ before_first is_blank bs ] ∷ parts_behind (elim g [ true ↦ b ∷ bs | false ↦ from_blank bs ])
split_step b bs true h e = slice_split-cons_yes is_blank b bs e
split_step b bs false h e = slice_split-cons_no is_blank b bs e ∙ ap (onto_first b) h

-- the first part ends before the first blank
split_first : (line : List ℕ) → slice_split is_blank line ≡ before_first is_blank line ∷ parts_behind (from_blank line)
split_first [] = refl
split_first (b ∷ bs) = split_step b bs (is_blank b) (split_first bs) refl

-- the byte at which a rest begins passes the test
begins_by : (test : ℕ → Bool) (b : ℕ) (bs : List ℕ) (g : Bool) (y : ℕ) (ys : List ℕ) → test b ≡ g → (from_first test bs ≡ y ∷ ys → test y ≡ true) → elim g [ true ↦ b ∷ bs | false ↦ from_first test bs ] ≡ y ∷ ys → test y ≡ true
begins_by test b bs true y ys e h f = let s : b ≡ y = cc in ap test (sym s) ∙ e
begins_by test b bs false y ys e h f = h f

pub begins : (test : ℕ → Bool) (bs : List ℕ) (y : ℕ) (ys : List ℕ) → from_first test bs ≡ y ∷ ys → test y ≡ true
begins test [] y ys f = absurd (cc)
begins test (b ∷ bs) y ys f = begins_by test b bs (test b) y ys refl (begins test bs y ys) f

behind_words : (rest : List ℕ) → ((y : ℕ) (ys : List ℕ) → rest ≡ y ∷ ys → is_blank y ≡ true) → filter has_bytes (parts_behind rest) ≡ words_of rest
behind_words [] h = refl
behind_words (y ∷ ys) h = sym (words_blank y ys (h y ys refl))

some_word : (word : List ℕ) (fs : List (List ℕ)) → 0 < length word → filter has_bytes (word ∷ fs) ≡ word ∷ filter has_bytes fs
some_word [] fs h = absurd (omega arith)
some_word (b ∷ bs) fs h = refl

-- the first word of a line, and what is behind it
pub words_begin : (line : List ℕ) → 0 < length (before_first is_blank (from_word line)) → words_of line ≡ before_first is_blank (from_word line) ∷ words_of (from_blank (from_word line))
words_begin line h =
    let w : List ℕ = from_word line in
    words_from line ∙ (ap (filter has_bytes) (split_first w) ∙ (some_word (before_first is_blank w) (parts_behind (from_blank w)) h ∙ ap (λ t. before_first is_blank w ∷ t) (behind_words (from_blank w) (begins is_blank w))))

not_true : (g : Bool) → not g ≡ true → g ≡ false
not_true true e = absurd (cc)
not_true false e = refl

empty_by : (line w : List ℕ) → from_word line ≡ w → length (before_first is_blank w) ≡ 0 → w ≡ []
empty_by line [] e h = refl
empty_by line (b ∷ bs) e h =
    let n : is_blank b ≡ false = not_true (is_blank b) (begins (λ b. not (is_blank b)) line b bs e) in
    let l : before_first is_blank (b ∷ bs) ≡ b ∷ before_first is_blank bs = ap (λ g. elim g [ true ↦ [] | false ↦ b ∷ before_first is_blank bs ]) n in
    absurd (omega (arith, ap length l))

-- a line without a first word has none
pub no_word : (line : List ℕ) → length (before_first is_blank (from_word line)) ≡ 0 → words_of line ≡ []
no_word line h = words_from line ∙ ap words_of (empty_by line (from_word line) refl h)

-- the first field of a line
pub no_field : (line : List ℕ) → length (first_word line) ≡ 0 → fields_of line ≡ []
no_field line h = ap before_comment (no_word line h)

pub comment_field : (line : List ℕ) → 0 < length (first_word line) → bytes_eq (first_word line) (92 ∷ []) ≡ true → fields_of line ≡ []
comment_field line h e = ap before_comment (words_begin line h) ∙ ap (λ g. elim g [ true ↦ [] | false ↦ first_word line ∷ before_comment (words_of (behind_word line)) ]) e

pub some_field : (line : List ℕ) → 0 < length (first_word line) → bytes_eq (first_word line) (92 ∷ []) ≡ false → fields_of line ≡ first_word line ∷ fields_of (behind_word line)
some_field line h e = ap before_comment (words_begin line h) ∙ ap (λ g. elim g [ true ↦ [] | false ↦ first_word line ∷ before_comment (words_of (behind_word line)) ]) e

-- behind the first line less is left
pub behind_line_shorter : (text : List ℕ) → 0 < length text → length (behind_line text) < length text
behind_line_shorter text h = omega (arith, length-drop 1 (from_line_feed text), from_shorter (λ b. nat_eq b 10) text)

-- behind the first word less is left
pub behind_word_shorter : (line : List ℕ) → 0 < length (first_word line) → length (behind_word line) < length line
behind_word_shorter line h = omega (arith, ap length (joined is_blank (from_word line)), length-append (first_word line) (behind_word line), from_shorter (λ b. not (is_blank b)) line)
