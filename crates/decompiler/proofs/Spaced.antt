-- Fields and lines one after the other.
use Rattle.std.proofs.Common.{◌≡◌, ℕ, suc, ◌+◌, ◌-◌, ◌/◌, ◌<◌, min, List, [], ◌∷◌, ◌++◌, length, take, drop, map, refl, ap, sym, ◌∙◌, arith, append_assoc, length-drop, inl, inr}
use Rattle.std.proofs.lemmas.Bool.{cases_lt}
use Rattle.std.proofs.lemmas.List.{take_all, drop_all}
use Rattle.std.specs.List.{flat_map}
use Rattle.std.proofs.lemmas.Grind.{flat_map-append}
use Rattle.decompiler.specs.Listing.{hex2, spaced, place, data_rows, line_text}

pub spaced_append : (a b : List (List ℕ)) → flat_map spaced (a ++ b) ≡ flat_map spaced a ++ flat_map spaced b
spaced_append a b = flat_map-append spaced a b

pub lines_append : (a b : List (List (List ℕ))) → flat_map line_text (a ++ b) ≡ flat_map line_text a ++ flat_map line_text b
lines_append a b = flat_map-append line_text a b

-- two parts appended one after the other
pub two_parts : (old first new : List ℕ) (a b : List (List ℕ)) → first ≡ old ++ flat_map spaced a → new ≡ first ++ flat_map spaced b → new ≡ old ++ flat_map spaced (a ++ b)
two_parts old first new a b e f = f ∙ (ap (λ t. t ++ flat_map spaced b) e ∙ (append_assoc old (flat_map spaced a) (flat_map spaced b) ∙ ap (λ t. old ++ t) (sym (spaced_append a b))))

row_count : (n : ℕ) → 0 < n → (n + 15) / 16 ≡ suc ((n - 16 + 15) / 16)
row_count n h = omega arith

-- the first data line of some bytes
pub first_row : (address : ℕ) (bytes : List ℕ) → 0 < length bytes →
    data_rows ((length bytes + 15) / 16) address bytes
    ≡ (place address ∷ map hex2 (take 16 bytes)) ∷ data_rows ((length (drop 16 bytes) + 15) / 16) (address + 16) (drop 16 bytes)
first_row address bytes h =
    ap (λ n. data_rows n address bytes) (row_count (length bytes) h)
    ∙ ap (λ n. (place address ∷ map hex2 (take 16 bytes)) ∷ data_rows ((n + 15) / 16) (address + 16) (drop 16 bytes)) (sym (length-drop 16 bytes))

pub no_row : (address : ℕ) (bytes : List ℕ) → length bytes ≡ 0 → data_rows ((length bytes + 15) / 16) address bytes ≡ []
no_row address [] h = refl
no_row address (b ∷ bs) h = absurd (omega arith)

up_to_16 : (rest : List ℕ) (n : ℕ) → n ≡ min (length rest) 16 → (take n rest ≡ take 16 rest) × (drop n rest ≡ drop 16 rest)
up_to_16 rest n e = elim (cases_lt (length rest) 16) [
  | inl less ↦ (take_all n rest (omega arith) ∙ sym (take_all 16 rest (omega arith)), drop_all n rest (omega arith) ∙ sym (drop_all 16 rest (omega arith)))
  | inr more ↦ let f : n ≡ 16 = omega arith in (ap (λ k. take k rest) f, ap (λ k. drop k rest) f)
]

-- one data line more
pub next_row : (old new rest row behind whole : List ℕ) (address n : ℕ) → 0 < length rest → n ≡ min (length rest) 16 → row ≡ take n rest →
    behind ≡ drop n rest → new ≡ old ++ line_text (place address ∷ map hex2 row) →
    old ++ flat_map line_text (data_rows ((length rest + 15) / 16) address rest) ≡ whole →
    new ++ flat_map line_text (data_rows ((length behind + 15) / 16) (address + 16) behind) ≡ whole
next_row old new rest row behind whole address n h e f g added same =
    let u = up_to_16 rest n e in
    let r : row ≡ take 16 rest = f ∙ u.0 in
    let b : behind ≡ drop 16 rest = g ∙ u.1 in
    let later : List ℕ = flat_map line_text (data_rows ((length (drop 16 rest) + 15) / 16) (address + 16) (drop 16 rest)) in
    ap (λ t. t ++ flat_map line_text (data_rows ((length behind + 15) / 16) (address + 16) behind)) added
    ∙ (ap (λ t. (old ++ line_text (place address ∷ map hex2 row)) ++ flat_map line_text (data_rows ((length t + 15) / 16) (address + 16) t)) b
    ∙ (ap (λ t. (old ++ line_text (place address ∷ map hex2 t)) ++ later) r
    ∙ (append_assoc old (line_text (place address ∷ map hex2 (take 16 rest))) later
    ∙ (ap (λ t. old ++ flat_map line_text t) (sym (first_row address rest h)) ∙ same))))
