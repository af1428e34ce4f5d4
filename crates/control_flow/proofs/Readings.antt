-- A token that is read is counted, and takes a byte at least.
use Rattle.std.proofs.Common.{◌≡◌, ℕ, suc, ◌+◌, ◌<◌, ◌≤◌, nat_le, ◌==◌, ◌&&◌, Bool, true, false, List, [], ◌∷◌, length, refl, arith, leb-true}
use Rattle.std.proofs.lemmas.Bool.{and_parts}
use Rattle.forth_reader.specs.declared.refusal.ReadCause.TheVariants as read
use Rattle.forth_reader.specs.Bytes.{is_graphic, is_blank, is_source_byte, is_string_byte, passing_front, behind_front, graphic_front, behind_graphic}
use Rattle.control_flow.specs.ReadTokens.{first_byte}
use Rattle.forth_reader.specs.Reading.{Reading, NoMore, Reads, Refuses, ends_token, may_follow_token, whole_token, name_from, next_from, parenthesis_from, line_from, StringReading, Quoted, Unquoted, ended_by, string_from}

-- behind so many tokens: where one was read, its number is greater, fewer than so many bytes are left behind it, and it begins with a byte
abbrev pub Passes : ℕ → ℕ → Reading → Type 0
Passes before bound (NoMore k) = before ≤ k
Passes before bound (Reads token k rest) = (before < k) × (length rest < bound) × (first_byte token < 65536)
Passes before bound (Refuses k c) = Unit {0}

front_on : (g : Bool) (b : ℕ) (bs rest : List ℕ) → length rest ≤ length bs → length (elim g as (λ g. List ℕ) [ true ↦ rest | false ↦ b ∷ bs ]) ≤ suc (length bs)
front_on true b bs rest h = omega arith
front_on false b bs rest h = omega arith

front_short : (test : ℕ → Bool) (bs : List ℕ) → length (behind_front test bs) ≤ length bs
front_short test [] = omega arith
front_short test (b ∷ bs) = front_on (test b) b bs (behind_front test bs) (front_short test bs)

pub behind_short : (bs : List ℕ) → length (behind_graphic bs) ≤ length bs
behind_short bs = front_short is_graphic bs

-- a text that is read leaves no more bytes than there were
abbrev pub Leaves : ℕ → StringReading → Type 0
Leaves bound (Quoted text rest) = length rest ≤ bound
Leaves bound (Unquoted c) = Unit {0}

quoted_on : (bound : ℕ) (text rest : List ℕ) (quote line : Bool) → length rest ≤ bound →
    Leaves bound (elim quote [ true ↦ Quoted text rest | false ↦ elim line [ true ↦ Unquoted read.OpenString | false ↦ Unquoted read.NotText ] ])
quoted_on bound text rest true line h = h
quoted_on bound text rest false true h = tt
quoted_on bound text rest false false h = tt

ended_leaves : (bound : ℕ) (text bs : List ℕ) → length bs ≤ bound → Leaves bound (ended_by text bs)
ended_leaves bound text [] h = tt
ended_leaves bound text (b ∷ rest) h = quoted_on bound text rest (b == 34) (b == 10) (omega arith)

separated_on : (bound : ℕ) (line fits : Bool) (reading : StringReading) → Leaves bound reading →
    Leaves bound (elim line [ true ↦ Unquoted read.OpenString | false ↦ elim fits [ true ↦ reading | false ↦ Unquoted read.NotText ] ])
separated_on bound true fits reading h = tt
separated_on bound false true reading h = h
separated_on bound false false reading h = tt

pub string_leaves : (bs : List ℕ) → Leaves (length bs) (string_from bs)
string_leaves [] = tt
string_leaves (b ∷ bs) = separated_on (suc (length bs)) (b == 10) (is_source_byte b) _
    (ended_leaves (suc (length bs)) (passing_front is_string_byte bs) (behind_front is_string_byte bs) (omega (arith, front_short is_string_byte bs)))

module _ (before bound : ℕ) where
  whole_on : (k : ℕ) (token rest : List ℕ) (follows short : Bool) → Passes before bound (Reads token k rest) →
      Passes before bound (elim follows [ true ↦ elim short [ true ↦ Reads token k rest | false ↦ Refuses k read.NameTooLong ] | false ↦ Refuses k read.NotText ])
  whole_on k token rest true true h = h
  whole_on k token rest true false h = tt
  whole_on k token rest false short h = tt

  graphic_small : (byte : ℕ) → is_graphic byte ≡ true → byte < 65536
  graphic_small byte e = omega (arith, leb-true byte 126 (and_parts (nat_le 33 byte) (nat_le byte 126) e).1)

  whole_passes : (k b : ℕ) (bs : List ℕ) → before ≤ k → suc (length bs) ≤ bound → is_graphic b ≡ true → Passes before bound (whole_token (k + 1) (b ∷ graphic_front bs) (behind_graphic bs))
  whole_passes k b bs n h g =
      whole_on (k + 1) (b ∷ graphic_front bs) (behind_graphic bs) (may_follow_token (behind_graphic bs)) (nat_le (length (b ∷ graphic_front bs)) 31) (omega arith, omega (arith, behind_short bs), graphic_small b g)

  one_of : (test : Bool) (r s : Reading) → Passes before bound r → Passes before bound s → Passes before bound (elim test [ true ↦ r | false ↦ s ])
  one_of true r s h k = h
  one_of false r s h k = k

  where_graphic : (test : Bool) (r s : Reading) → (test ≡ true → Passes before bound r) → Passes before bound s → Passes before bound (elim test [ true ↦ r | false ↦ s ])
  where_graphic true r s h k = h refl
  where_graphic false r s h k = k

  pub name_passes : (k : ℕ) (bs : List ℕ) → before ≤ k → length bs ≤ bound → Passes before bound (name_from k bs)
  name_passes k [] n h = n
  name_passes k (b ∷ bs) n h = where_graphic (is_graphic b) _ _ (λ g. whole_passes k b bs n h g) (one_of (is_blank b) _ _ (name_passes k bs n (omega arith)) tt)

  mutual
    pub next_passes : (k : ℕ) (bs : List ℕ) → before ≤ k → length bs ≤ bound → Passes before bound (next_from k bs)
    next_passes k [] n h = n
    next_passes k (b ∷ bs) n h =
        where_graphic (is_graphic b) _ _
        (λ g. one_of (ends_token bs && b == 40) _ _ (parenthesis_passes (k + 1) bs (omega arith) (omega arith))
        (one_of (ends_token bs && b == 92) _ _ (line_passes (k + 1) bs (omega arith) (omega arith)) (whole_passes k b bs n h g)))
        (one_of (is_blank b) _ _ (next_passes k bs n (omega arith)) tt)

    parenthesis_passes : (k : ℕ) (bs : List ℕ) → before ≤ k → length bs ≤ bound → Passes before bound (parenthesis_from k bs)
    parenthesis_passes k [] n h = tt
    parenthesis_passes k (b ∷ bs) n h =
        one_of (b == 41) _ _ (next_passes k bs n (omega arith)) (one_of (is_source_byte b) _ _ (parenthesis_passes k bs n (omega arith)) tt)

    line_passes : (k : ℕ) (bs : List ℕ) → before ≤ k → length bs ≤ bound → Passes before bound (line_from k bs)
    line_passes k [] n h = n
    line_passes k (b ∷ bs) n h = one_of (b == 10) _ _ (next_passes k bs n (omega arith)) (one_of (is_source_byte b) _ _ (line_passes k bs n (omega arith)) tt)
