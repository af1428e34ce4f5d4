-- Reading goes on behind a line feed as if the text had ended there.
use Rattle.std.proofs.Common.{◌≡◌, ℕ, suc, ◌+◌, ◌≤◌, nat_le, ◌==◌, ◌&&◌, Bool, true, false, List, [], ◌∷◌, ◌++◌, length, refl, sym, ap, subst, arith}
use Rattle.forth_reader.specs.declared.refusal.ReadCause.TheVariants as read
use Rattle.forth_reader.specs.Bytes.{is_graphic, is_blank, is_source_byte, is_string_byte, passing_front, behind_front, graphic_front, behind_graphic}
use Rattle.forth_reader.specs.Reading.{Reading, NoMore, Reads, Refuses, ends_token, whole_token, name_from, next_from, parenthesis_from, line_from, StringReading, Quoted, Unquoted, ended_by, string_from}
use Rattle.control_flow.proofs.Readings.{behind_short}

-- a front of bytes that pass a test ends before a line feed that does not
module _ (test : ℕ → Bool) (ends : test 10 ≡ false) (piece : List ℕ) where
  pub front_more : (bs : List ℕ) → passing_front test (bs ++ 10 ∷ piece) ≡ passing_front test bs
  front_more [] = ap (λ t. elim t as (λ t. List ℕ) [ true ↦ 10 ∷ passing_front test piece | false ↦ [] ]) ends
  front_more (b ∷ bs) = ap (λ front. elim (test b) as (λ t. List ℕ) [ true ↦ b ∷ front | false ↦ [] ]) (front_more bs)

  behind_on : (t : Bool) (b : ℕ) (bs behind more : List ℕ) → more ≡ behind ++ 10 ∷ piece →
      elim t as (λ t. List ℕ) [ true ↦ more | false ↦ b ∷ bs ++ 10 ∷ piece ] ≡ elim t as (λ t. List ℕ) [ true ↦ behind | false ↦ b ∷ bs ] ++ 10 ∷ piece
  behind_on true b bs behind more e = e
  behind_on false b bs behind more e = refl

  pub behind_more : (bs : List ℕ) → behind_front test (bs ++ 10 ∷ piece) ≡ behind_front test bs ++ 10 ∷ piece
  behind_more [] = ap (λ t. elim t as (λ t. List ℕ) [ true ↦ behind_front test piece | false ↦ 10 ∷ piece ]) ends
  behind_more (b ∷ bs) = behind_on (test b) b bs (behind_front test bs) (behind_front test (bs ++ 10 ∷ piece)) (behind_more bs)

ends_more : (piece bs : List ℕ) → ends_token (bs ++ 10 ∷ piece) ≡ ends_token bs
ends_more piece [] = refl
ends_more piece (b ∷ bs) = refl

-- what is read where more stands behind a line feed: the same token, with more behind it; where none is left, reading goes on in what
-- follows. Each token takes a byte, so its number is within a bound for both.
module _ (bound : ℕ) (piece : List ℕ) (on : ℕ → Reading) where
  abbrev pub GoesOn : Reading → Reading → Type 0
  GoesOn (NoMore k) r = (r ≡ on k) × (k ≤ bound)
  GoesOn (Reads token k rest) r = (r ≡ Reads token k (rest ++ 10 ∷ piece)) × (k + length rest ≤ bound)
  GoesOn (Refuses k c) r = k ≤ bound

  one_of : (t u : Bool) (r s r2 s2 : Reading) → u ≡ t → GoesOn r r2 → GoesOn s s2 → GoesOn (elim t [ true ↦ r | false ↦ s ]) (elim u [ true ↦ r2 | false ↦ s2 ])
  one_of true true r s r2 s2 e h k = h
  one_of false false r s r2 s2 e h k = k
  one_of true false r s r2 s2 e h k = absurd cc
  one_of false true r s r2 s2 e h k = absurd cc

  whole_short : (k : ℕ) (token rest : List ℕ) (short : Bool) → k + length rest ≤ bound →
      GoesOn (elim short [ true ↦ Reads token k rest | false ↦ Refuses k read.NameTooLong ]) (elim short [ true ↦ Reads token k (rest ++ 10 ∷ piece) | false ↦ Refuses k read.NameTooLong ])
  whole_short k token rest true h = (refl, h)
  whole_short k token rest false h = omega (arith, h)

  whole_on : (k : ℕ) (token rest : List ℕ) → k + length rest ≤ bound → GoesOn (whole_token k token rest) (whole_token k token (rest ++ 10 ∷ piece))
  whole_on k token [] h = whole_short k token [] (nat_le (length token) 31) h
  whole_on k token (b ∷ rest) h = one_of (is_blank b) (is_blank b) _ _ _ _ refl (whole_short k token (b ∷ rest) (nat_le (length token) 31) h) (omega (arith, h))

  whole_goes : (k b : ℕ) (bs : List ℕ) → k + suc (length bs) ≤ bound →
      GoesOn (whole_token (k + 1) (b ∷ graphic_front bs) (behind_graphic bs)) (whole_token (k + 1) (b ∷ graphic_front (bs ++ 10 ∷ piece)) (behind_graphic (bs ++ 10 ∷ piece)))
  whole_goes k b bs h =
      subst (λ front. GoesOn (whole_token (k + 1) (b ∷ graphic_front bs) (behind_graphic bs)) (whole_token (k + 1) (b ∷ front) (behind_graphic (bs ++ 10 ∷ piece)))) (sym (front_more is_graphic refl piece bs))
      (subst (λ behind. GoesOn (whole_token (k + 1) (b ∷ graphic_front bs) (behind_graphic bs)) (whole_token (k + 1) (b ∷ graphic_front bs) behind)) (sym (behind_more is_graphic refl piece bs))
      (whole_on (k + 1) (b ∷ graphic_front bs) (behind_graphic bs) (omega (arith, behind_short bs, h))))

pub name_goes : (bound : ℕ) (piece : List ℕ) (k : ℕ) (bs : List ℕ) → k + length bs ≤ bound → GoesOn bound piece (λ n. name_from n (10 ∷ piece)) (name_from k bs) (name_from k (bs ++ 10 ∷ piece))
name_goes bound piece k [] h = (refl, omega (arith, h))
name_goes bound piece k (b ∷ bs) h =
    one_of bound piece _ (is_graphic b) (is_graphic b) _ _ _ _ refl (whole_goes bound piece _ k b bs h)
    (one_of bound piece _ (is_blank b) (is_blank b) _ _ _ _ refl (name_goes bound piece k bs (omega (arith, h))) (omega (arith, h)))

module _ (bound : ℕ) (piece : List ℕ) where
  abbrev pub NextGoesOn : Reading → Reading → Type 0
  NextGoesOn r s = GoesOn bound piece (λ n. next_from n (10 ∷ piece)) r s

  mutual
    pub next_goes : (k : ℕ) (bs : List ℕ) → k + length bs ≤ bound → NextGoesOn (next_from k bs) (next_from k (bs ++ 10 ∷ piece))
    next_goes k [] h = (refl, omega (arith, h))
    next_goes k (b ∷ bs) h =
        one_of bound piece _ (is_graphic b) (is_graphic b) _ _ _ _ refl
        (one_of bound piece _ (ends_token bs && b == 40) (ends_token (bs ++ 10 ∷ piece) && b == 40) _ _ _ _ (ap (λ t. t && b == 40) (ends_more piece bs)) (parenthesis_goes (k + 1) bs (omega (arith, h)))
        (one_of bound piece _ (ends_token bs && b == 92) (ends_token (bs ++ 10 ∷ piece) && b == 92) _ _ _ _ (ap (λ t. t && b == 92) (ends_more piece bs)) (line_goes (k + 1) bs (omega (arith, h)))
        (whole_goes bound piece _ k b bs h)))
        (one_of bound piece _ (is_blank b) (is_blank b) _ _ _ _ refl (next_goes k bs (omega (arith, h))) (omega (arith, h)))

    parenthesis_goes : (k : ℕ) (bs : List ℕ) → k + length bs ≤ bound → NextGoesOn (parenthesis_from k bs) (parenthesis_from k (bs ++ 10 ∷ piece))
    parenthesis_goes k [] h = omega (arith, h)
    parenthesis_goes k (b ∷ bs) h =
        one_of bound piece _ (b == 41) (b == 41) _ _ _ _ refl (next_goes k bs (omega (arith, h)))
        (one_of bound piece _ (is_source_byte b) (is_source_byte b) _ _ _ _ refl (parenthesis_goes k bs (omega (arith, h))) (omega (arith, h)))

    line_goes : (k : ℕ) (bs : List ℕ) → k + length bs ≤ bound → NextGoesOn (line_from k bs) (line_from k (bs ++ 10 ∷ piece))
    line_goes k [] h = (refl, omega (arith, h))
    line_goes k (b ∷ bs) h =
        one_of bound piece _ (b == 10) (b == 10) _ _ _ _ refl (next_goes k bs (omega (arith, h)))
        (one_of bound piece _ (is_source_byte b) (is_source_byte b) _ _ _ _ refl (line_goes k bs (omega (arith, h))) (omega (arith, h)))

  -- the text of a string word
  abbrev pub TextGoesOn : StringReading → StringReading → Type 0
  TextGoesOn (Quoted text rest) r = r ≡ Quoted text (rest ++ 10 ∷ piece)
  TextGoesOn (Unquoted c) r = Unit {0}

  text_one : (t : Bool) (r s r2 s2 : StringReading) → TextGoesOn r r2 → TextGoesOn s s2 → TextGoesOn (elim t [ true ↦ r | false ↦ s ]) (elim t [ true ↦ r2 | false ↦ s2 ])
  text_one true r s r2 s2 h k = h
  text_one false r s r2 s2 h k = k

  ended_goes : (text rest : List ℕ) → TextGoesOn (ended_by text rest) (ended_by text (rest ++ 10 ∷ piece))
  ended_goes text [] = tt
  ended_goes text (b ∷ rest) = text_one (b == 34) _ _ _ _ refl (text_one (b == 10) _ _ _ _ tt tt)

  pub string_goes : (bs : List ℕ) → TextGoesOn (string_from bs) (string_from (bs ++ 10 ∷ piece))
  string_goes [] = tt
  string_goes (b ∷ bs) =
      text_one (b == 10) _ _ _ _ tt
      (text_one (is_source_byte b) _ _ _ _
      (subst (λ front. TextGoesOn (ended_by (passing_front is_string_byte bs) (behind_front is_string_byte bs)) (ended_by front (behind_front is_string_byte (bs ++ 10 ∷ piece)))) (sym (front_more is_string_byte refl piece bs))
      (subst (λ behind. TextGoesOn (ended_by (passing_front is_string_byte bs) (behind_front is_string_byte bs)) (ended_by (passing_front is_string_byte bs) behind)) (sym (behind_more is_string_byte refl piece bs))
      (ended_goes (passing_front is_string_byte bs) (behind_front is_string_byte bs)))) tt)
