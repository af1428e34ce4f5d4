-- The bytes of a source, cut into words.
use Rattle.std.proofs.Common.{◌≡◌, ◌⊎◌, inl, inr, ℕ, zero, suc, ◌+◌, ◌-◌, ◌≤◌, Bool, true, false, ◌==◌, List, [], ◌∷◌, length, refl, ap}
use Rattle.std.proofs.Common.{ap₂, sym, ◌∙◌, subst, arith, lt-ltb, le-ltb, eqb-true, eq-eqb}
use Rattle.std.specs.Prelude.{if◌then◌else◌, nat_lt}
use Rattle.std.specs.List.{filter, slice_split, onto_first}
use Rattle.std.proofs.lemmas.List.Splits.{slice_split-cons_yes, slice_split-cons_no}
use Rattle.forth_program.specs.State.{World}
use Rattle.kernel_words.specs.Memory.{data_byte, data_bytes, leading_bytes, bytes_before}
use Rattle.kernel_words.specs.Laws.{kept_size}
use Rattle.kernel_words.proofs.Cases.{by_cases, by_less, unequal}
use Rattle.kernel_lines.specs.Laws.{WordsAreWhole}
use Rattle.kernel_lines.specs.Words.{has_byte, words_of, front, first_kept, behind_first}

abbrev is_blank : ℕ → Bool
is_blank b = b == 32

turned : (b : ℕ) (t : Bool) → (32 == b) ≡ t → is_blank b ≡ t
turned b true e = eq-eqb b 32 (sym (eqb-true 32 b e))
turned b false e = unequal b 32 (λ f. let t : (32 == b) ≡ true = eq-eqb 32 b (sym f) in let no : ⊥ = cc in absurd no)

module _ (w : World) where
  blank_first : (b : ℕ) (text : List ℕ) → is_blank b ≡ true → words_of (b ∷ text) ≡ words_of text
  blank_first b text e = ap (filter has_byte) (slice_split-cons_yes is_blank b text e)

  -- without the blanks in front
  pub leading_skipped : (n a : ℕ) → words_of (data_bytes w n a)
      ≡ words_of (data_bytes w (n - leading_bytes w 32 n a) (a + leading_bytes w 32 n a))
  leading_skipped zero a = refl
  leading_skipped (suc n) a = by_cases (32 == data_byte w a)
      (λ e. blank_first (data_byte w a) (data_bytes w n (suc a)) (turned (data_byte w a) true e) ∙ leading_skipped n (suc a)
      ∙ ap₂ (λ m b. words_of (data_bytes w m b)) (less n (leading_bytes w 32 n (suc a))) (more a (leading_bytes w 32 n (suc a)))
      ∙ rw e refl)
      (λ e. rw e (ap₂ (λ m b. words_of (data_bytes w m b)) (all n) (none a)))
    where
      less : (n l : ℕ) → n - l ≡ suc n - suc l
      less n l = omega arith

      more : (a l : ℕ) → suc a + l ≡ a + suc l
      more a l = omega arith

      all : (n : ℕ) → suc n ≡ suc n - 0
      all n = omega arith

      none : (a : ℕ) → a ≡ a + 0
      none a = omega arith

  -- behind them there is nothing, or no blank
  pub leading_ends : (n a : ℕ) → (n - leading_bytes w 32 n a ≡ 0) ⊎ ((32 == data_byte w (a + leading_bytes w 32 n a)) ≡ false)
  leading_ends zero a = inl refl
  leading_ends (suc n) a = by_cases (32 == data_byte w a)
      (λ e. rw e (subst (λ m. (m ≡ 0) ⊎ ((32 == data_byte w (a + suc (leading_bytes w 32 n (suc a)))) ≡ false))
      (less n (leading_bytes w 32 n (suc a)))
      (subst (λ b. (n - leading_bytes w 32 n (suc a) ≡ 0) ⊎ ((32 == data_byte w b) ≡ false)) (more a (leading_bytes w 32 n (suc a)))
      (leading_ends n (suc a)))))
      (λ e. inr (rw e (ap (λ b. 32 == data_byte w b) (none a) ∙ e)))
    where
      less : (n l : ℕ) → n - l ≡ suc n - suc l
      less n l = omega arith

      more : (a l : ℕ) → suc a + l ≡ a + suc l
      more a l = omega arith

      none : (a : ℕ) → a + 0 ≡ a
      none a = omega arith

  -- the parts behind the first, of which s bytes of m are
  abbrev parts_behind : ℕ → ℕ → ℕ → List (List ℕ)
  parts_behind m s f = if nat_lt s m then slice_split is_blank (data_bytes w (m - suc s) (suc (f + s))) else []

  parts : (m f : ℕ) → slice_split is_blank (data_bytes w m f)
      ≡ data_bytes w (bytes_before w 32 m f) f ∷ parts_behind m (bytes_before w 32 m f) f
  parts zero f = refl
  parts (suc m) f = by_cases (32 == data_byte w f)
      (λ e. slice_split-cons_yes is_blank (data_byte w f) (data_bytes w m (suc f)) (turned (data_byte w f) true e) ∙ rw e (now m f))
      (λ e. slice_split-cons_no is_blank (data_byte w f) (data_bytes w m (suc f)) (turned (data_byte w f) false e)
      ∙ ap (onto_first (data_byte w f)) (parts m (suc f))
      ∙ rw e (ap (λ ps. (data_byte w f ∷ data_bytes w (bytes_before w 32 m (suc f)) (suc f)) ∷ ps)
      (later m (bytes_before w 32 m (suc f)) f)))
    where
      one : (m : ℕ) → m ≡ suc m - 1
      one m = omega arith

      none : (f : ℕ) → suc f ≡ suc (f + 0)
      none f = omega arith

      now : (m f : ℕ) → [] ∷ slice_split is_blank (data_bytes w m (suc f)) ≡ [] ∷ parts_behind (suc m) 0 f
      now m f = ap₂ (λ n a. [] ∷ slice_split is_blank (data_bytes w n a)) (one m) (none f)
          ∙ ap (λ t. [] ∷ (if t then slice_split is_blank (data_bytes w (suc m - 1) (suc (f + 0))) else []))
          (sym (lt-ltb 0 (suc m) (omega arith)))

      next_less : (s m : ℕ) → nat_lt s m ≡ nat_lt (suc s) (suc m)
      next_less s m = by_less s m (λ less. lt-ltb s m less ∙ sym (lt-ltb (suc s) (suc m) (omega (arith, less))))
          (λ all. le-ltb s m all ∙ sym (le-ltb (suc s) (suc m) (omega (arith, all))))

      size : (m s : ℕ) → m - suc s ≡ suc m - suc (suc s)
      size m s = omega arith

      start : (f s : ℕ) → suc (suc f + s) ≡ suc (f + suc s)
      start f s = omega arith

      later : (m s f : ℕ) → parts_behind m s (suc f) ≡ parts_behind (suc m) (suc s) f
      later m s f = ap (λ t. if t then slice_split is_blank (data_bytes w (m - suc s) (suc (suc f + s))) else []) (next_less s m)
          ∙ ap₂ (λ n a. if nat_lt (suc s) (suc m) then slice_split is_blank (data_bytes w n a) else []) (size m s) (start f s)

  words_behind : (m s f : ℕ) → filter has_byte (parts_behind m s f) ≡ words_of (data_bytes w (m - suc s) (suc (f + s)))
  words_behind m s f = by_less s m (λ less. rw (lt-ltb s m less) refl)
      (λ all. rw (le-ltb s m all) (ap (λ n. words_of (data_bytes w n (suc (f + s)))) (nothing m s all)))
    where
      nothing : (m s : ℕ) → m ≤ s → 0 ≡ m - suc s
      nothing m s f = omega (arith, f)

  -- the first of m bytes is no blank: a word of s bytes, and the words behind it, or no word
  abbrev pub cut_words : ℕ → ℕ → ℕ → List (List ℕ)
  cut_words zero f r = []
  cut_words (suc s) f r = data_bytes w (suc s) f ∷ words_of (data_bytes w r (suc (f + suc s)))

  pub words_are_cut : (m f : ℕ) → (m ≡ 0) ⊎ ((32 == data_byte w f) ≡ false) →
      words_of (data_bytes w m f) ≡ cut_words (bytes_before w 32 m f) f (m - suc (bytes_before w 32 m f))
  words_are_cut zero f e = refl
  words_are_cut (suc m) f (inl e) = absurd (omega (arith, e))
  words_are_cut (suc m) f (inr e) = ap (filter has_byte) (parts (suc m) f)
      ∙ some (suc m) (bytes_before w 32 (suc m) f) (bytes_before w 32 m (suc f)) (rw e refl)
    where
      some : (n s t : ℕ) → s ≡ suc t → filter has_byte (data_bytes w s f ∷ parts_behind n s f) ≡ cut_words s f (n - suc s)
      some n s t q = subst (λ s. filter has_byte (data_bytes w s f ∷ parts_behind n s f) ≡ cut_words s f (n - suc s)) (sym q)
          (ap (λ ws. data_bytes w (suc t) f ∷ ws) (words_behind n (suc t) f))

  -- what a buffer keeps of the first
  pub front_bytes : (n s f : ℕ) → front n (data_bytes w s f) ≡ data_bytes w (if nat_lt s n then s else n) f
  front_bytes zero s f = rw (le-ltb s 0 (omega arith)) refl
  front_bytes (suc n) zero f = ap (λ t. data_bytes w (if t then 0 else suc n) f) (sym (lt-ltb 0 (suc n) (omega arith)))
  front_bytes (suc n) (suc s) f = ap (λ t. data_byte w f ∷ t) (front_bytes n s (suc f)) ∙ by_less s n
      (λ less. rw (lt-ltb s n less, lt-ltb (suc s) (suc n) (omega (arith, less))) refl)
      (λ all. rw (le-ltb s n all, le-ltb (suc s) (suc n) (omega (arith, all))) refl)

  pub first_of_cut : (s f r : ℕ) → first_kept (cut_words s f r) ≡ data_bytes w (kept_size s) f
  first_of_cut zero f r = refl
  first_of_cut (suc s) f r = front_bytes 80 (suc s) f

  pub behind_cut : (s f r : ℕ) → (s ≡ 0 → r ≡ 0) → behind_first (cut_words s f r) ≡ words_of (data_bytes w r (suc (f + s)))
  behind_cut zero f r e = ap (λ n. words_of (data_bytes w n (suc (f + 0)))) (sym (e refl))
  behind_cut (suc s) f r e = refl

-- ---- no word is longer than the text
AreShort : ℕ → List (List ℕ) → Type 0
AreShort n [] = Unit {0}
AreShort n (part ∷ others) = (length part ≤ n) × AreShort n others

short_in_more : (n m : ℕ) (words : List (List ℕ)) → n ≤ m → AreShort n words → AreShort m words
unfolding AreShort
short_in_more n m [] f s = tt
short_in_more n m (part ∷ others) f s = let g = s.0 in (omega (arith, f, g), short_in_more n m others f s.1)

short_onto : (n c : ℕ) (words : List (List ℕ)) → AreShort n words → AreShort (suc n) (onto_first c words)
unfolding AreShort
short_onto n c [] s = (omega arith, tt)
short_onto n c (part ∷ others) s = let g = s.0 in (omega (arith, g), short_in_more n (suc n) others (omega arith) s.1)

short_parts : (text : List ℕ) → AreShort (length text) (slice_split is_blank text)
unfolding AreShort
short_parts [] = (omega arith, tt)
short_parts (c ∷ text) = by_cases (is_blank c)
    (λ e. subst (AreShort (suc (length text))) (sym (slice_split-cons_yes is_blank c text e))
    (omega arith, short_in_more (length text) (suc (length text)) (slice_split is_blank text) (omega arith) (short_parts text)))
    (λ e. subst (AreShort (suc (length text))) (sym (slice_split-cons_no is_blank c text e))
    (short_onto (length text) c (slice_split is_blank text) (short_parts text)))

short_words : (n : ℕ) (words : List (List ℕ)) → AreShort n words → AreShort n (filter has_byte words)
unfolding AreShort
short_words n [] s = tt
short_words n ([] ∷ others) s = short_words n others s.1
short_words n ((c ∷ part) ∷ others) s = (s.0, short_words n others s.1)

front_is_whole : (n : ℕ) (text : List ℕ) → length text ≤ n → front n text ≡ text
front_is_whole zero [] f = refl
front_is_whole zero (c ∷ text) f = absurd (omega (arith, f))
front_is_whole (suc n) [] f = refl
front_is_whole (suc n) (c ∷ text) f = ap (λ t. c ∷ t) (front_is_whole n text (omega (arith, f)))

pub words_are_whole : WordsAreWhole
unfolding AreShort
words_are_whole text word words f e =
    let s : AreShort (length text) (word ∷ words) = subst (AreShort (length text)) e
    (short_words (length text) (slice_split is_blank text) (short_parts text)) in
    let g = s.0 in
    front_is_whole 80 word (omega (arith, f, g))
