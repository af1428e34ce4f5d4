-- The longest front of bytes that pass a test, and what stands behind it.
use Rattle.std.proofs.Common.{◌≡◌, ℕ, ◌+◌, ◌-◌, ◌<◌, ◌≤◌, Bool, true, false, ◌&&◌, List, [], ◌∷◌, ◌++◌, length, take, refl, ap, sym, ◌∙◌, arith, subst, length-append}
use Rattle.std.specs.List.{All}
use Rattle.std.proofs.Math.Seq.{take-append_seam}
use Rattle.std.proofs.lemmas.List.Elements.{All-cons, All-nil}
use Rattle.std.proofs.lemmas.Bool.Decides.{nat_tests}
use Rattle.forth_reader.specs.Name.{IsName}
use Rattle.forth_reader.specs.Bytes.{is_graphic, is_source_byte, is_string_byte, passing_front, behind_front}
use Rattle.forth_reader.specs.Reading.{ends_token}

module _ (test : ℕ → Bool) where
  pub front_joined : (bs : List ℕ) → passing_front test bs ++ behind_front test bs ≡ bs
  front_joined [] = refl
  front_joined (b ∷ bs) = elim (test b) as (λ g. elim g [ true ↦ b ∷ passing_front test bs | false ↦ [] ] ++ elim g [ true ↦ behind_front test bs | false ↦ b ∷ bs ] ≡ b ∷ bs) [ true ↦ ap (λ t. b ∷ t) (front_joined bs) | false ↦ refl ]

  pub front_lengths : (bs : List ℕ) → length (passing_front test bs) + length (behind_front test bs) ≡ length bs
  front_lengths bs = sym (length-append (passing_front test bs) (behind_front test bs)) ∙ ap length (front_joined bs)

  pub behind_shorter : (bs : List ℕ) → length (behind_front test bs) ≤ length bs
  behind_shorter bs = omega (arith, front_lengths bs)

  pub front_take : (bs : List ℕ) → take (length bs - length (behind_front test bs)) bs ≡ passing_front test bs
  front_take bs =
      let e : length bs - length (behind_front test bs) ≡ length (passing_front test bs) = omega (arith, front_lengths bs) in
      ap (λ n. take n bs) e ∙ ap (take (length (passing_front test bs))) (sym (front_joined bs)) ∙ take-append_seam (passing_front test bs) (behind_front test bs)

module _ (test : ℕ → Bool) (ascii : (b : ℕ) → test b ≡ true → b < 128) where
  front_ascii_on : (b : ℕ) (bs : List ℕ) (g : Bool) → test b ≡ g → All (λ b. b < 128) (passing_front test bs) → All (λ b. b < 128) (elim g [ true ↦ b ∷ passing_front test bs | false ↦ [] ])
  front_ascii_on b bs true e all = All-cons (λ b. b < 128) b (passing_front test bs) (ascii b e) all
  front_ascii_on b bs false e all = All-nil (λ b. b < 128)

  front_ascii : (bs : List ℕ) → All (λ b. b < 128) (passing_front test bs)
  front_ascii [] = All-nil (λ b. b < 128)
  front_ascii (b ∷ bs) = front_ascii_on b bs (test b) refl (front_ascii bs)

graphic_ascii : (b : ℕ) → is_graphic b ≡ true → b < 128
graphic_ascii b e = grind (arith, nat_tests)

source_ascii : (b : ℕ) → is_source_byte b ≡ true → b < 128
source_ascii b e = grind (arith, nat_tests)

both : (x y : Bool) → (x && y) ≡ true → x ≡ true
both true y e = refl
both false y e = e

string_ascii : (b : ℕ) → is_string_byte b ≡ true → b < 128
string_ascii b e = source_ascii b (both _ _ e)

pub graphic_front_ascii : (bs : List ℕ) → All (λ b. b < 128) (passing_front is_graphic bs)
graphic_front_ascii bs = front_ascii is_graphic graphic_ascii bs

pub string_front_ascii : (bs : List ℕ) → All (λ b. b < 128) (passing_front is_string_byte bs)
string_front_ascii bs = front_ascii is_string_byte string_ascii bs

behind_graphic_less_on : (b : ℕ) (bs : List ℕ) (g : Bool) → is_graphic b ≡ g → elim g [ true ↦ false | false ↦ true ] ≡ false → length {A = ℕ} (elim g [ true ↦ behind_front is_graphic bs | false ↦ b ∷ bs ]) < length (b ∷ bs)
behind_graphic_less_on b bs true e f = omega (arith, behind_shorter is_graphic bs)
behind_graphic_less_on b bs false e f = absurd (cc)

-- behind a graphic byte less is left
pub behind_graphic_less : (bs : List ℕ) → ends_token bs ≡ false → length (behind_front is_graphic bs) < length bs
behind_graphic_less [] e = absurd (cc)
behind_graphic_less (b ∷ bs) e = behind_graphic_less_on b bs (is_graphic b) refl e

within_low : (b : ℕ) → is_graphic b ≡ true → 33 ≤ b
within_low b e = grind (arith, nat_tests)

within_high : (b : ℕ) → is_graphic b ≡ true → b ≤ 126
within_high b e = grind (arith, nat_tests)

within : (b : ℕ) → is_graphic b ≡ true → (33 ≤ b) × (b ≤ 126)
within b e = (within_low b e, within_high b e)

front_graphic_on : (b : ℕ) (bs : List ℕ) (g : Bool) → is_graphic b ≡ g → All (λ b. (33 ≤ b) × (b ≤ 126)) (passing_front is_graphic bs) → All (λ b. (33 ≤ b) × (b ≤ 126)) (elim g [ true ↦ b ∷ passing_front is_graphic bs | false ↦ [] ])
front_graphic_on b bs true e all = All-cons (λ b. (33 ≤ b) × (b ≤ 126)) b (passing_front is_graphic bs) (within b e) all
front_graphic_on b bs false e all = All-nil (λ b. (33 ≤ b) × (b ≤ 126))

front_graphic : (bs : List ℕ) → All (λ b. (33 ≤ b) × (b ≤ 126)) (passing_front is_graphic bs)
front_graphic [] = All-nil (λ b. (33 ≤ b) × (b ≤ 126))
front_graphic (b ∷ bs) = front_graphic_on b bs (is_graphic b) refl (front_graphic bs)

-- graphic bytes in front, of which there are few, are a token
pub front_is_token : (token bs : List ℕ) → token ≡ passing_front is_graphic bs → ends_token bs ≡ false → length token ≤ 31 → IsName token
front_is_token token bs e begins short = record {
  some = omega (arith, ap length e, front_lengths is_graphic bs, behind_graphic_less bs begins);
  short = short;
  graphic = subst (All (λ b. (33 ≤ b) × (b ≤ 126))) (sym e) (front_graphic bs);
}
