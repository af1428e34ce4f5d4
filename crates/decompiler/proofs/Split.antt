-- Lines of fields, which are split into these lines and fields again.
use Rattle.std.proofs.Common.{◌≡◌, ℕ, ◌*◌, ◌≤◌, nat_le, nat_eq, ◌&&◌, not, Bool, true, false, List, [], ◌∷◌, ◌++◌, length, refl, ap, ◌∙◌, arith, append_assoc, append-nil, length-append}
use Rattle.std.specs.List.{list_all, filter, slice_split, onto_first, flat_map}
use Rattle.std.specs.Str.{bytes_eq}
use Rattle.std.proofs.lemmas.Bool.Decides.{nat_tests}
use Rattle.std.proofs.lemmas.Bool.{le-leb}
use Rattle.std.proofs.lemmas.List.Splits.{slice_split-cons_no}
use Rattle.j1_assembler.specs.Text.{lines_of, is_blank, has_bytes, words_of, before_comment, fields_of, is_line_byte, is_formed}
use Rattle.decompiler.specs.Listing.{spaced, line_of, line_text}
use Rattle.decompiler.proofs.Back.{both_left, both_right}
use Rattle.decompiler.proofs.Instructions.{is_good, is_graphic, is_operand}

-- a space or a byte from 33 to 126
abbrev is_plain : ℕ → Bool
is_plain b = nat_le 32 b && nat_le b 126

graphic_plain : (b : ℕ) → is_graphic b ≡ true → is_plain b ≡ true
graphic_plain b e = grind (arith, nat_tests)

graphic_no_blank : (b : ℕ) → is_graphic b ≡ true → is_blank b ≡ false
graphic_no_blank b e = grind (arith, nat_tests)

plain_line_byte : (b : ℕ) → is_plain b ≡ true → is_line_byte b ≡ true
plain_line_byte b e = grind (arith, nat_tests)

plain_no_feed : (b : ℕ) → is_plain b ≡ true → nat_eq b 10 ≡ false
plain_no_feed b e = grind (arith, nat_tests)

pub all_weaker : {X : Type 0} (p q : X → Bool) → ((b : X) → p b ≡ true → q b ≡ true) → (bs : List X) → list_all p bs ≡ true → list_all q bs ≡ true
all_weaker p q f [] e = refl
all_weaker p q f (b ∷ bs) e = ap (λ g. g && list_all q bs) (f b (both_left (p b) (list_all p bs) e)) ∙ all_weaker p q f bs (both_right (p b) (list_all p bs) e)

pub all_append : {X : Type 0} (p : X → Bool) (a b : List X) → list_all p a ≡ true → list_all p b ≡ true → list_all p (a ++ b) ≡ true
all_append p [] b e f = f
all_append p (x ∷ xs) b e f = ap (λ g. g && list_all p (xs ++ b)) (both_left (p x) (list_all p xs) e) ∙ all_append p xs b (both_right (p x) (list_all p xs) e) f

-- the parts of a good field
good_graphic : (field : List ℕ) → is_good field ≡ true → list_all is_graphic field ≡ true
good_graphic field e = both_right (nat_le (length field) 6) (list_all is_graphic field) (both_right (nat_le 1 (length field)) (nat_le (length field) 6 && list_all is_graphic field) e)

good_some : (field : List ℕ) → is_good field ≡ true → 1 ≤ length field
good_some field e = let g = both_left (nat_le 1 (length field)) (nat_le (length field) 6 && list_all is_graphic field) e in grind (arith, nat_tests)

good_short : (field : List ℕ) → is_good field ≡ true → length field ≤ 6
good_short field e = let g = both_left (nat_le (length field) 6) (list_all is_graphic field) (both_right (nat_le 1 (length field)) (nat_le (length field) 6 && list_all is_graphic field) e) in grind (arith, nat_tests)

-- a field without blanks is one part
split_alone : (field : List ℕ) → list_all is_graphic field ≡ true → slice_split is_blank field ≡ field ∷ []
split_alone [] e = refl
split_alone (b ∷ bs) e =
    slice_split-cons_no is_blank b bs (graphic_no_blank b (both_left (is_graphic b) (list_all is_graphic bs) e))
    ∙ ap (onto_first b) (split_alone bs (both_right (is_graphic b) (list_all is_graphic bs) e))

-- the part before a space
split_spaced : (field rest : List ℕ) → list_all is_graphic field ≡ true → slice_split is_blank (field ++ 32 ∷ rest) ≡ field ∷ slice_split is_blank rest
split_spaced [] rest e = refl
split_spaced (b ∷ bs) rest e =
    slice_split-cons_no is_blank b (bs ++ 32 ∷ rest) (graphic_no_blank b (both_left (is_graphic b) (list_all is_graphic bs) e))
    ∙ ap (onto_first b) (split_spaced bs rest (both_right (is_graphic b) (list_all is_graphic bs) e))

kept : (field : List ℕ) (parts : List (List ℕ)) → 1 ≤ length field → filter has_bytes (field ∷ parts) ≡ field ∷ filter has_bytes parts
kept [] parts h = absurd (omega arith)
kept (b ∷ bs) parts h = refl

-- the words of good fields are these fields
pub words_back : (field : List ℕ) (fields : List (List ℕ)) → list_all is_good (field ∷ fields) ≡ true → words_of (line_of (field ∷ fields)) ≡ field ∷ fields
words_back field [] e =
    let good : is_good field ≡ true = both_left (is_good field) true e in
    ap (λ t. filter has_bytes (slice_split is_blank t)) (append-nil field) ∙ (ap (filter has_bytes) (split_alone field (good_graphic field good)) ∙ kept field [] (good_some field good))
words_back field (next ∷ fields) e =
    let good : is_good field ≡ true = both_left (is_good field) (list_all is_good (next ∷ fields)) e in
    let more : list_all is_good (next ∷ fields) ≡ true = both_right (is_good field) (list_all is_good (next ∷ fields)) e in
    ap (filter has_bytes) (split_spaced field (line_of (next ∷ fields)) (good_graphic field good))
    ∙ (kept field (slice_split is_blank (line_of (next ∷ fields))) (good_some field good) ∙ ap (λ t. field ∷ t) (words_back next fields more))

spaced_plain : (fields : List (List ℕ)) → list_all is_good fields ≡ true → list_all is_plain (flat_map spaced fields) ≡ true
spaced_plain [] e = refl
spaced_plain (field ∷ fields) e =
    all_append is_plain (32 ∷ field) (flat_map spaced fields)
    (all_weaker is_graphic is_plain graphic_plain field (good_graphic field (both_left (is_good field) (list_all is_good fields) e)))
    (spaced_plain fields (both_right (is_good field) (list_all is_good fields) e))

line_plain : (fields : List (List ℕ)) → list_all is_good fields ≡ true → list_all is_plain (line_of fields) ≡ true
line_plain [] e = refl
line_plain (field ∷ fields) e =
    all_append is_plain field (flat_map spaced fields)
    (all_weaker is_graphic is_plain graphic_plain field (good_graphic field (both_left (is_good field) (list_all is_good fields) e)))
    (spaced_plain fields (both_right (is_good field) (list_all is_good fields) e))

spaced_short : (fields : List (List ℕ)) → list_all is_good fields ≡ true → length (flat_map spaced fields) ≤ 7 * length fields
spaced_short [] e = omega arith
spaced_short (field ∷ fields) e =
    omega (arith, length-append (32 ∷ field) (flat_map spaced fields), good_short field (both_left (is_good field) (list_all is_good fields) e), spaced_short fields (both_right (is_good field) (list_all is_good fields) e))

line_short : (fields : List (List ℕ)) → list_all is_good fields ≡ true → length (line_of fields) ≤ 7 * length fields
line_short [] e = omega arith
line_short (field ∷ fields) e =
    omega (arith, length-append field (flat_map spaced fields), good_short field (both_left (is_good field) (list_all is_good fields) e), spaced_short fields (both_right (is_good field) (list_all is_good fields) e))

-- a line of few good fields is formed
pub line_formed : (fields : List (List ℕ)) → list_all is_good fields ≡ true → length fields ≤ 36 → is_formed (line_of fields) ≡ true
line_formed fields e h =
    ap (λ g. g && list_all is_line_byte (line_of fields)) (le-leb (length (line_of fields)) 256 (omega (arith, line_short fields e)))
    ∙ all_weaker is_plain is_line_byte plain_line_byte (line_of fields) (line_plain fields e)

no_comment : (g : Bool) → not g ≡ true → g ≡ false
no_comment true e = absurd (cc)
no_comment false e = refl

feed_step : (g : Bool) (b : ℕ) (bs line more : List ℕ) → g ≡ false → lines_of bs ≡ line ∷ lines_of more → elim g [ true ↦ [] ∷ lines_of bs | false ↦ onto_first b (lines_of bs) ] ≡ (b ∷ line) ∷ lines_of more
feed_step true b bs line more e h = absurd (cc)
feed_step false b bs line more e h = ap (onto_first b) h

-- a line without line feeds, and then one
lines_behind : (line more : List ℕ) → list_all is_plain line ≡ true → lines_of (line ++ 10 ∷ more) ≡ line ∷ lines_of more
lines_behind [] more e = refl
lines_behind (b ∷ bs) more e =
    feed_step (nat_eq b 10) b (bs ++ 10 ∷ more) bs more (plain_no_feed b (both_left (is_plain b) (list_all is_plain bs) e)) (lines_behind bs more (both_right (is_plain b) (list_all is_plain bs) e))

-- the lines of a listing
pub first_row_line : (fields : List (List ℕ)) (more : List ℕ) → list_all is_good fields ≡ true → lines_of (line_text fields ++ more) ≡ line_of fields ∷ lines_of more
first_row_line fields more e = ap lines_of (append_assoc (line_of fields) (10 ∷ []) more) ∙ lines_behind (line_of fields) more (line_plain fields e)

-- the first fields of a line, up to a comment
pub before_back : (fields comment : List (List ℕ)) → list_all is_operand fields ≡ true → before_comment comment ≡ [] → before_comment (fields ++ comment) ≡ fields
before_back [] comment e h = h
before_back (field ∷ fields) comment e h =
    let o : is_operand field ≡ true = both_left (is_operand field) (list_all is_operand fields) e in
    let n : bytes_eq field (92 ∷ []) ≡ false = no_comment (bytes_eq field (92 ∷ [])) (both_right (is_good field) (not (bytes_eq field (92 ∷ []))) o) in
    ap (λ g. elim g [ true ↦ [] | false ↦ field ∷ before_comment (fields ++ comment) ]) n
    ∙ ap (λ t. field ∷ t) (before_back fields comment (both_right (is_operand field) (list_all is_operand fields) e) h)

pub operands_good : (fields : List (List ℕ)) → list_all is_operand fields ≡ true → list_all is_good fields ≡ true
operands_good fields e = all_weaker is_operand is_good (λ f g. both_left (is_good f) (not (bytes_eq f (92 ∷ []))) g) fields e

-- the fields of a line
pub fields_back : (field : List ℕ) (fields comment : List (List ℕ)) → list_all is_operand (field ∷ fields) ≡ true → list_all is_good comment ≡ true →
    before_comment comment ≡ [] → fields_of (line_of (field ∷ (fields ++ comment))) ≡ field ∷ fields
fields_back field fields comment e g h =
    ap before_comment (words_back field (fields ++ comment) (all_append is_good (field ∷ fields) comment (operands_good (field ∷ fields) e) g))
    ∙ before_back (field ∷ fields) comment e h
