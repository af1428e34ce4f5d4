-- First bad offsets.
use Rattle.std.proofs.Common.{◌≡◌, ◌≢◌, ℕ, zero, suc, ◌+◌, ◌-◌, ◌*◌, ◌/◌, ◌%◌, ◌<◌, ◌≤◌, List, [], ◌∷◌, ◌++◌, length, take, drop, slice_index, refl, ap, sym}
use Rattle.std.proofs.Common.{◌∙◌, arith, append_assoc, length-append, append-nil, zero-add, subst, lit<, inl, inr, ◌⊎◌, Bool, true, false, nat_eq, IsTrue, ◌↔◌}
use Rattle.std.proofs.lemmas.List.{take-append-drop, length-take, length-take-le, length-drop, get_or-drop, take_more, take_all}
use Rattle.std.proofs.lemmas.Bool.{cases_lt}
use Rattle.std.proofs.lemmas.Bool.Decides.{nat_tests}
use Rattle.j1_table.specs.Image.{Content}
use Rattle.console_ports.specs.DataSpace.{IsDataStart}
use Rattle.image_file.specs.File.{pair, letters, front_of, front, image_bytes, IsFile, Begins, FirstBad}
use Rattle.image_file.specs.Reading.{StartsAt, IsBadNumber, IsHead}
use Rattle.image_file.proofs.Fronts.{front_one, head_one, body_length, file_letters, Version, One, Two, version, file_long}
use Rattle.image_file.proofs.Beginnings.{HaveRoom, shorter, file_begins, whole_file, body_begins, cells_begin, front_begins, cells_low_begins, bytes_low_begins}

-- the bytes agree with a beginning up to an offset, and with none that goes on
pub bad_at : (bytes before : List ℕ) (offset : ℕ) → take offset bytes ≡ before → offset ≤ length bytes → Begins before →
    (offset ≡ length bytes → IsFile before → ⊥) → (offset < length bytes → Begins (before ++ slice_index bytes offset ∷ []) → ⊥) → FirstBad bytes offset
bad_at bytes before offset same within begins short worse = (
  subst Begins (sym same) begins,
  elim (cases_lt offset (length bytes)) [
    | inl inside ↦ inl (inside, λ b. worse inside (subst Begins (take_more bytes offset 0 inside ∙ ap (λ t. t ++ slice_index bytes offset ∷ []) same) b))
    | inr outside ↦ inr (omega arith, λ file. short (omega arith) (subst IsFile (sym (take_all offset bytes outside) ∙ same) file))
  ],
)

short_is_no_file : (bytes : List ℕ) → length bytes < 10 → IsFile bytes → ⊥
short_is_no_file bytes short file = omega (arith, file_long file.0, ap length file.2)

start_one : IsDataStart 8192
start_one = record { is_even = refl; at_least = omega arith; at_most = omega arith }

letters_begin : (k : ℕ) → k ≤ 4 → Begins (take k letters)
letters_begin k h =
    shorter (take k letters) (drop k letters ++ 1 ∷ 0 ∷ [])
    (subst Begins (ap (λ t. t ++ 1 ∷ 0 ∷ []) (sym (take-append-drop k letters)) ∙ append_assoc (take k letters) (drop k letters) (1 ∷ 0 ∷ []))
    (front_begins 8192 start_one))

not_letter : (k x : ℕ) → k < 4 → x ≢ slice_index letters k → Begins (take k letters ++ x ∷ []) → ⊥
not_letter zero x h d b = let f = file_letters b.1.0 in let e = b.1.2 ∙ f.1 in d (cc)
not_letter (suc zero) x h d b = let f = file_letters b.1.0 in let e = b.1.2 ∙ f.1 in d (cc)
not_letter (suc (suc zero)) x h d b = let f = file_letters b.1.0 in let e = b.1.2 ∙ f.1 in d (cc)
not_letter (suc (suc (suc zero))) x h d b = let f = file_letters b.1.0 in let e = b.1.2 ∙ f.1 in d (cc)
not_letter (suc (suc (suc (suc k)))) x h d b = omega arith

pub bad_letter : (bytes : List ℕ) (k : ℕ) → k < 4 → k ≤ length bytes → take k bytes ≡ take k letters → (k < length bytes → slice_index bytes k ≢ slice_index letters k) → FirstBad bytes k
bad_letter bytes k h within same differs =
    bad_at bytes (take k letters) k same within (letters_begin k (omega arith))
    (λ _. short_is_no_file (take k letters) (omega (arith, length-take-le k letters (omega arith))))
    (λ inside. not_letter k (slice_index bytes k) h (differs inside))

front_two_by : (u : Bool) (s : ℕ) → s ≢ 8192 → u ≡ nat_eq s 8192 → front_of u s ≡ letters ++ 2 ∷ 0 ∷ pair s
front_two_by true s d e = absurd (grind (arith, nat_tests))
front_two_by false s d e = refl

front_two : (s : ℕ) → s ≢ 8192 → front s ≡ letters ++ 2 ∷ 0 ∷ pair s
front_two s d = front_two_by (nat_eq s 8192) s d refl

two_begins : (s : ℕ) → IsDataStart s → s ≢ 8192 → Begins (letters ++ 2 ∷ 0 ∷ pair s)
two_begins s ok d = subst Begins (front_two s d) (front_begins s ok)

low_start : (l : ℕ) → l < 256 → l % 2 ≡ 0 → IsDataStart (4096 + l)
low_start l h e = record { is_even = omega arith; at_least = omega arith; at_most = omega arith }

low_of_start : (l : ℕ) → l < 256 → (4096 + l) % 256 ≡ l
low_of_start l h = omega arith

low_begins : (l : ℕ) → l < 256 → l % 2 ≡ 0 → Begins (letters ++ 2 ∷ 0 ∷ l ∷ [])
low_begins l h e =
    let b = shorter (letters ++ 2 ∷ 0 ∷ (4096 + l) % 256 ∷ []) ((4096 + l) / 256 ∷ []) (two_begins (4096 + l) (low_start l h e) (omega arith)) in
    subst (λ x. Begins (letters ++ 2 ∷ 0 ∷ x ∷ [])) (low_of_start l h) b

version_begins : (v : ℕ) → (v ≡ 1) ⊎ (v ≡ 2) → Begins (letters ++ v ∷ [])
version_begins v (inl e) = subst (λ x. Begins (letters ++ x ∷ [])) (sym e) (shorter (letters ++ 1 ∷ []) (0 ∷ []) (front_begins 8192 start_one))
version_begins v (inr e) = subst (λ x. Begins (letters ++ x ∷ [])) (sym e) (shorter (letters ++ 2 ∷ []) (0 ∷ 0 ∷ []) (low_begins 0 (omega arith) refl))

zero_begins : (v : ℕ) → (v ≡ 1) ⊎ (v ≡ 2) → Begins (letters ++ v ∷ 0 ∷ [])
zero_begins v (inl e) = subst (λ x. Begins (letters ++ x ∷ 0 ∷ [])) (sym e) (front_begins 8192 start_one)
zero_begins v (inr e) = subst (λ x. Begins (letters ++ x ∷ 0 ∷ [])) (sym e) (shorter (letters ++ 2 ∷ 0 ∷ []) (0 ∷ []) (low_begins 0 (omega arith) refl))

versions : (v : ℕ) (rest : List ℕ) (image : Content) → Version image → letters ++ v ∷ rest ≡ image_bytes image → (v ≡ 1) ⊎ (v ≡ 2)
versions v rest image (One more s f) e = let g = e ∙ f in inl (cc)
versions v rest image (Two more s f) e = let g = e ∙ f in inr (cc)

zeros : (v x : ℕ) (rest : List ℕ) (image : Content) → Version image → letters ++ v ∷ x ∷ rest ≡ image_bytes image → x ≡ 0
zeros v x rest image (One more s f) e = let g = e ∙ f in cc
zeros v x rest image (Two more s f) e = let g = e ∙ f in cc

lows : (l : ℕ) (rest : List ℕ) (image : Content) → Version image → letters ++ 2 ∷ 0 ∷ l ∷ rest ≡ image_bytes image → l ≡ image.data_start % 256
lows l rest image (One more s f) e = let g = e ∙ f in absurd (cc)
lows l rest image (Two more s f) e = let g = e ∙ f in cc

highs : (l h : ℕ) (rest : List ℕ) (image : Content) → Version image → letters ++ 2 ∷ 0 ∷ l ∷ h ∷ rest ≡ image_bytes image → (image.data_start ≢ 8192) × (h ≡ image.data_start / 256)
highs l h rest image (One more s f) e = let g = e ∙ f in absurd (cc)
highs l h rest image (Two more s f) e = let g = e ∙ f in (s, cc)

same_start : (l h s : ℕ) → l ≡ s % 256 → h ≡ s / 256 → l + 256 * h ≡ s
same_start l h s e f = omega arith

even_low : (s l : ℕ) → s % 2 ≡ 0 → l ≡ s % 256 → l % 2 ≡ 0
even_low s l e f = omega arith

taken : (k : ℕ) (bytes before : List ℕ) → k ≤ length bytes → take k bytes ≡ before → length before ≡ k
taken k bytes before h e = omega (arith, length-take-le k bytes h, ap length e)

next_taken : (k : ℕ) (bytes before : List ℕ) → k < length bytes → take k bytes ≡ before → take (k + 1) bytes ≡ before ++ slice_index bytes k ∷ []
next_taken k bytes before h e = take_more bytes k 0 h ∙ ap (λ t. t ++ slice_index bytes k ∷ []) e

pub bad_version : (bytes : List ℕ) → take 4 bytes ≡ letters → 4 ≤ length bytes → (4 < length bytes → slice_index bytes 4 ≢ 1) → (4 < length bytes → slice_index bytes 4 ≢ 2) → FirstBad bytes 4
bad_version bytes same within one two =
    bad_at bytes letters 4 same within (letters_begin 4 (omega arith)) (λ _. short_is_no_file letters (omega arith))
    (λ inside b. elim (versions (slice_index bytes 4) b.0 b.1.0 (version b.1.0) b.1.2) [ inl e ↦ one inside e | inr e ↦ two inside e ])

pub bad_zero : (bytes : List ℕ) (v : ℕ) → (v ≡ 1) ⊎ (v ≡ 2) → take 5 bytes ≡ letters ++ v ∷ [] → 5 ≤ length bytes → (5 < length bytes → slice_index bytes 5 ≢ 0) → FirstBad bytes 5
bad_zero bytes v known same within other =
    bad_at bytes (letters ++ v ∷ []) 5 same within (version_begins v known) (λ _. short_is_no_file (letters ++ v ∷ []) (omega arith))
    (λ inside b. other inside (zeros v (slice_index bytes 5) b.0 b.1.0 (version b.1.0) b.1.2))

pub bad_low : (bytes : List ℕ) → take 6 bytes ≡ letters ++ 2 ∷ 0 ∷ [] → 6 ≤ length bytes → (6 < length bytes → slice_index bytes 6 % 2 ≢ 0) → FirstBad bytes 6
bad_low bytes same within odd =
    bad_at bytes (letters ++ 2 ∷ 0 ∷ []) 6 same within (zero_begins 2 (inr refl)) (λ _. short_is_no_file (letters ++ 2 ∷ 0 ∷ []) (omega arith))
    (λ inside b. odd inside (even_low b.1.0.data_start (slice_index bytes 6) b.1.1.room.splits.is_even (lows (slice_index bytes 6) b.0 b.1.0 (version b.1.0) b.1.2)))

pub bad_high : (bytes : List ℕ) → take 6 bytes ≡ letters ++ 2 ∷ 0 ∷ [] → 7 ≤ length bytes → slice_index bytes 6 < 256 → slice_index bytes 6 % 2 ≡ 0 →
    (7 < length bytes → (slice_index bytes 6 + 256 * slice_index bytes 7 ≢ 8192) → 4096 ≤ slice_index bytes 6 + 256 * slice_index bytes 7 →
    slice_index bytes 6 + 256 * slice_index bytes 7 ≤ 16000 → ⊥) → FirstBad bytes 7
bad_high bytes same within small even no_start =
    let before : List ℕ = letters ++ 2 ∷ 0 ∷ slice_index bytes 6 ∷ [] in
    let same7 : take 7 bytes ≡ before = next_taken 6 bytes (letters ++ 2 ∷ 0 ∷ []) within same in
    bad_at bytes before 7 same7 within (low_begins (slice_index bytes 6) small even) (λ _. short_is_no_file before (omega arith))
    (λ inside b.
    let image = b.1.0 in
    let l : slice_index bytes 6 ≡ image.data_start % 256 = lows (slice_index bytes 6) (slice_index bytes 7 ∷ b.0) image (version image) b.1.2 in
    let h = highs (slice_index bytes 6) (slice_index bytes 7) b.0 image (version image) b.1.2 in
    let e : slice_index bytes 6 + 256 * slice_index bytes 7 ≡ image.data_start = same_start (slice_index bytes 6) (slice_index bytes 7) image.data_start l h.1 in
    no_start inside (λ f. h.0 (sym e ∙ f)) (omega (arith, b.1.1.room.splits.at_least)) (omega (arith, b.1.1.room.splits.at_most)))

-- bytes that begin with so many reach so far
pub reaches : (k : ℕ) (bytes before : List ℕ) → take k bytes ≡ before → length before ≡ k → k ≤ length bytes
reaches k bytes before e n = omega (arith, length-take k bytes, ap length e)

pub untrue : (b : Bool) (P : Type 0) → (IsTrue b ↔ P) → b ≡ false → P → ⊥
untrue true P both e p = cc
untrue false P both e p = let t : IsTrue false = both.1 p in cc

abbrev pub AreBytes : List ℕ → Type 0
AreBytes bytes = (k : ℕ) → slice_index bytes k < 256

-- a number of two bytes behind a beginning: it is not whole, or too large
module _ (bytes before : List ℕ) (offset most : ℕ) (same : take offset bytes ≡ before) (within : offset ≤ length bytes) (small : AreBytes bytes)
    (begins : Begins before) (no_file : IsFile before → ⊥) (low_begins' : (l : ℕ) → l < 256 → Begins (before ++ l ∷ []))
    (no_file_low : (l : ℕ) → IsFile (before ++ l ∷ []) → ⊥)
    (too_large : (l h : ℕ) → l < 256 → h < 256 → most < l + 256 * h → Begins (before ++ l ∷ h ∷ []) → ⊥) where
  bad_first : offset ≡ length bytes → FirstBad bytes offset
  bad_first e = bad_at bytes before offset same within begins (λ _. no_file) (λ inside. absurd (omega arith))

  bad_second : offset < length bytes → (offset + 1 < length bytes → most < slice_index bytes offset + 256 * slice_index bytes (offset + 1)) → FirstBad bytes (offset + 1)
  bad_second inside large =
      let l : ℕ = slice_index bytes offset in
      bad_at bytes (before ++ l ∷ []) (offset + 1) (next_taken offset bytes before inside same) (omega arith) (low_begins' l (small offset)) (λ _. no_file_low l)
      (λ further b. too_large l (slice_index bytes (offset + 1)) (small offset) (small (offset + 1)) (large further) (subst Begins (append_assoc before (l ∷ []) (slice_index bytes (offset + 1) ∷ [])) b))

  pub bad_number : (bad : ℕ) → IsBadNumber bytes offset most bad → FirstBad bytes bad
  bad_number bad (inl h) = elim (cases_lt offset (length bytes)) [
    | inl inside ↦ subst (FirstBad bytes) (omega (arith, h.1)) (bad_second inside (λ further. absurd (omega (arith, h.0))))
    | inr outside ↦ subst (FirstBad bytes) (omega (arith, h.1)) (bad_first (omega arith))
  ]
  bad_number bad (inr h) = subst (FirstBad bytes) (sym h.2) (bad_second (omega (arith, h.0)) (λ further. h.1))

-- fronts and counts alone are no file
front_no_file : (s : ℕ) → IsFile (front s) → ⊥
front_no_file s file =
    let f = front_one s file.0.data_start [] _ (append-nil (front s) ∙ file.2) in
    let e = f.1 in cc

front_low_no_file : (s l : ℕ) → IsFile (front s ++ l ∷ []) → ⊥
front_low_no_file s l file =
    let f = front_one s file.0.data_start (l ∷ []) _ file.2 in
    let e = f.1 in cc

cells_no_file : (s c : ℕ) → IsFile (front s ++ pair c) → ⊥
cells_no_file s c file =
    let f = front_one s file.0.data_start (pair c) _ file.2 in
    let e = f.1 in cc

cells_low_no_file : (s c l : ℕ) → IsFile ((front s ++ pair c) ++ l ∷ []) → ⊥
cells_low_no_file s c l file =
    let f = front_one s file.0.data_start (pair c ++ l ∷ []) _ (sym (append_assoc (front s) (pair c) (l ∷ [])) ∙ file.2) in
    let e = f.1 in cc

number_is : (l h n : ℕ) → l ≡ n % 256 → h ≡ n / 256 → l + 256 * h ≡ n
number_is l h n e f = omega arith

many_cells : (s l h : ℕ) → s / 2 < l + 256 * h → Begins (front s ++ l ∷ h ∷ []) → ⊥
many_cells s l h large b =
    let image = b.1.0 in
    let f = front_one s image.data_start (l ∷ h ∷ b.0) _ (sym (append_assoc (front s) (l ∷ h ∷ []) b.0) ∙ b.1.2) in
    let e = f.1 in
    let low : l ≡ length image.cells % 256 = cc in
    let high : h ≡ length image.cells / 256 = cc in
    let n : l + 256 * h ≡ length image.cells = number_is l h (length image.cells) low high in
    omega (arith, b.1.1.room.code, f.0)

many_bytes : (s c l h : ℕ) → 16384 - s < l + 256 * h → Begins ((front s ++ pair c) ++ l ∷ h ∷ []) → ⊥
many_bytes s c l h large b =
    let image = b.1.0 in
    let e0 : front s ++ (pair c ++ (l ∷ h ∷ b.0)) ≡ image_bytes image = sym (append_assoc (front s) (pair c) (l ∷ h ∷ b.0)) ∙ (sym (append_assoc (front s ++ pair c) (l ∷ h ∷ []) b.0) ∙ b.1.2) in
    let f = front_one s image.data_start (pair c ++ (l ∷ h ∷ b.0)) _ e0 in
    let e = f.1 in
    let low : l ≡ length image.bytes % 256 = cc in
    let high : h ≡ length image.bytes / 256 = cc in
    let n : l + 256 * h ≡ length image.bytes = number_is l h (length image.bytes) low high in
    omega (arith, b.1.1.room.space, f.0)

-- a bad number of cells
pub bad_cells : (bytes : List ℕ) (s offset bad : ℕ) → AreBytes bytes → StartsAt bytes s offset → IsBadNumber bytes offset (s / 2) bad → FirstBad bytes bad
bad_cells bytes s offset bad small at h =
    bad_number bytes (front s) offset (s / 2) at.stands at.within small (front_begins s at.fits) (front_no_file s) (cells_low_begins s at.fits) (front_low_no_file s)
    (λ l h _ _ large. many_cells s l h large) bad h

-- a bad number of data bytes
pub bad_bytes : (bytes : List ℕ) (s c offset bad : ℕ) → AreBytes bytes → IsDataStart s → c ≤ s / 2 → take offset bytes ≡ front s ++ pair c → offset ≤ length bytes → IsBadNumber bytes offset (16384 - s) bad → FirstBad bytes bad
bad_bytes bytes s c offset bad small ok few stands within h =
    bad_number bytes (front s ++ pair c) offset (16384 - s) stands within small (cells_begin s ok c few) (cells_no_file s c)
    (λ l g. subst Begins (sym (append_assoc (front s) (pair c) (l ∷ []))) (bytes_low_begins s ok c l few g)) (cells_low_no_file s c)
    (λ l h _ _ large. many_bytes s c l h large) bad h

joined : (a b c d : List ℕ) → ((a ++ b) ++ c) ++ d ≡ a ++ (b ++ (c ++ d))
joined a b c d = append_assoc (a ++ b) c d ∙ append_assoc a b (c ++ d)

pub dropped_bytes : (n : ℕ) (bytes : List ℕ) → AreBytes bytes → AreBytes (drop n bytes)
dropped_bytes n bytes b k = rw (get_or-drop n bytes k 0) (b (n + k))

pub taken_bytes : (n : ℕ) (bytes : List ℕ) → AreBytes bytes → AreBytes (take n bytes)
taken_bytes zero bytes b k = lit< tt
taken_bytes (suc n) [] b k = lit< tt
taken_bytes (suc n) (x ∷ xs) b zero = b 0
taken_bytes (suc n) (x ∷ xs) b (suc k) = taken_bytes n xs (λ k. b (suc k)) k

head_room : (bytes : List ℕ) (s c d len : ℕ) → IsHead bytes s c d len → HaveRoom c d s
head_room bytes s c d len h = record { splits = h.fits; code = h.code; space = h.space }

-- a file with these counts has so many bytes
body_size : (s c d : ℕ) (body : List ℕ) (image : Content) → front s ++ (pair c ++ (pair d ++ body)) ≡ image_bytes image → length body ≡ 2 * c + d
body_size s c d body image e =
    let h = head_one s c d body image e in
    omega (arith, ap length h.rest, body_length image, h.code, h.space)

regroup : (f p q r y z : List ℕ) → f ++ (p ++ (q ++ (r ++ (y ++ z)))) ≡ ((f ++ (p ++ (q ++ r))) ++ y) ++ z
regroup f p q r y z = simp append_assoc

take_add : (m n : ℕ) (xs : List ℕ) → m ≤ length xs → take (m + n) xs ≡ take m xs ++ take n (drop m xs)
take_add zero n xs h = ap (λ k. take k xs) (zero-add n)
take_add (suc m) n [] h = absurd (omega arith)
take_add (suc m) n (x ∷ xs) h =
    let e : suc m + n ≡ suc (m + n) = omega arith in
    ap (λ k. take k (x ∷ xs)) e ∙ ap (λ t. x ∷ t) (take_add m n xs (omega arith))

module _ (bytes : List ℕ) (s c d len : ℕ) (head : IsHead bytes s c d len) (small : AreBytes bytes) where
  pub whole : bytes ≡ front s ++ (pair c ++ (pair d ++ drop len bytes))
  whole = sym (take-append-drop len bytes) ∙ ap (λ t. t ++ drop len bytes) head.stands ∙ joined (front s) (pair c) (pair d) (drop len bytes)

  body_len : length (drop len bytes) ≡ length bytes - len
  body_len = length-drop len bytes

  pub too_short : length bytes < len + (2 * c + d) → FirstBad bytes (length bytes)
  too_short less =
      bad_at bytes bytes (length bytes) (take_all (length bytes) bytes (omega arith)) (omega arith)
      (subst Begins (sym whole) (body_begins s c d (head_room bytes s c d len head) (drop len bytes) (omega (arith, body_len)) (dropped_bytes len bytes small)))
      (λ _ file. omega (arith, body_size s c d (drop len bytes) file.0 (sym whole ∙ file.2), body_len, head.within))
      (λ inside. absurd (omega arith))

  front_part : take (len + (2 * c + d)) bytes ≡ front s ++ (pair c ++ (pair d ++ take (2 * c + d) (drop len bytes)))
  front_part =
      take_add len (2 * c + d) bytes head.within ∙ ap (λ t. t ++ take (2 * c + d) (drop len bytes)) head.stands ∙ joined (front s) (pair c) (pair d) (take (2 * c + d) (drop len bytes))

  pub too_long : len + (2 * c + d) < length bytes → FirstBad bytes (len + (2 * c + d))
  too_long more =
      let end : ℕ = len + (2 * c + d) in
      let part : List ℕ = take (2 * c + d) (drop len bytes) in
      let part_len : length part ≡ 2 * c + d = length-take-le (2 * c + d) (drop len bytes) (omega (arith, body_len)) in
      let before : List ℕ = front s ++ (pair c ++ (pair d ++ part)) in
      bad_at bytes before end front_part (omega arith)
      (file_begins before (whole_file s c d (head_room bytes s c d len head) part part_len (taken_bytes (2 * c + d) (drop len bytes) (dropped_bytes len bytes small))))
      (λ same. absurd (omega arith))
      (λ inside b.
      let x : ℕ = slice_index bytes end in
      let e : front s ++ (pair c ++ (pair d ++ (part ++ x ∷ b.0))) ≡ image_bytes b.1.0 = regroup (front s) (pair c) (pair d) part (x ∷ []) b.0 ∙ b.1.2 in
      omega (arith, body_size s c d (part ++ x ∷ b.0) b.1.0 e, length-append part (x ∷ b.0)))
