-- Whole files, and what first bad offsets say of them.
use Rattle.std.proofs.Common.{◌≡◌, ℕ, ◌+◌, ◌*◌, ◌<◌, ◌≤◌, List, ◌++◌, length, take, drop, ap, sym, ◌∙◌, arith, subst, inl, inr}
use Rattle.std.specs.List.{flat_map}
use Rattle.std.proofs.lemmas.List.{take-append-drop, length-take-le, length-drop, take-take}
use Rattle.std.proofs.lemmas.Bool.{cases_lt}
use Rattle.j1_table.specs.Image.{Content}
use Rattle.image_file.specs.File.{pair, front, image_bytes, IsFile, Begins, FirstBad}
use Rattle.image_file.specs.Reading.{IsHead, cells_of}
use Rattle.image_file.proofs.Pairs.{cells_back, cells_length}
use Rattle.image_file.proofs.Beginnings.{shorter}
use Rattle.image_file.proofs.Bad.{AreBytes, whole, taken_bytes, dropped_bytes}

module _ (bytes : List ℕ) (s c d len : ℕ) (head : IsHead bytes s c d len) (small : AreBytes bytes) (all : length bytes ≡ len + (2 * c + d))
    (code space cells : List ℕ) (code_is : code ≡ take (2 * c) (drop len bytes)) (space_is : space ≡ drop (2 * c) (drop len bytes))
    (cells_are : cells ≡ cells_of code) where
  body_len : length (drop len bytes) ≡ 2 * c + d
  body_len = omega (arith, length-drop len bytes)

  code_len : length code ≡ 2 * c
  code_len = ap length code_is ∙ length-take-le (2 * c) (drop len bytes) (omega (arith, body_len))

  pub space_len : length space ≡ d
  space_len = omega (arith, ap length space_is, length-drop (2 * c) (drop len bytes), body_len)

  pub cells_count : length cells ≡ c
  cells_count = ap length cells_are ∙ cells_length c code code_len

  code_small : AreBytes code
  code_small = subst AreBytes (sym code_is) (taken_bytes (2 * c) (drop len bytes) (dropped_bytes len bytes small))

  body_is : drop len bytes ≡ flat_map pair cells ++ space
  body_is =
      let parts : drop len bytes ≡ code ++ space = sym (take-append-drop (2 * c) (drop len bytes)) ∙ (ap (λ t. t ++ drop (2 * c) (drop len bytes)) (sym code_is) ∙ ap (λ t. code ++ t) (sym space_is)) in
      let back : code ≡ flat_map pair cells = sym (cells_back c code code_len code_small) ∙ ap (flat_map pair) (sym cells_are) in
      parts ∙ ap (λ t. t ++ space) back

  pub is_file : (image : Content) → image ≡ record { cells = cells; bytes = space; data_start = s } → bytes ≡ image_bytes image
  is_file image e =
      whole bytes s c d len head small
      ∙ (ap (λ t. front s ++ (pair c ++ (pair d ++ t))) body_is
      ∙ (ap (λ k. front s ++ (pair k ++ (pair d ++ (flat_map pair cells ++ space)))) (sym cells_count)
      ∙ (ap (λ k. front s ++ (pair (length cells) ++ (pair k ++ (flat_map pair cells ++ space)))) (sym space_len)
      ∙ sym (ap image_bytes e))))

-- what has a first bad offset is no file
pub bad_no_file : (bytes : List ℕ) (offset : ℕ) → FirstBad bytes offset → IsFile bytes → ⊥
bad_no_file bytes offset (begins, inl worse) file = worse.1 (drop (offset + 1) bytes, (file.0, file.1, take-append-drop (offset + 1) bytes ∙ file.2))
bad_no_file bytes offset (begins, inr short) file = short.1 file

not_past : (bytes : List ℕ) (offset : ℕ) → FirstBad bytes offset → offset ≤ length bytes
not_past bytes offset (begins, inl worse) = omega (arith, worse.0)
not_past bytes offset (begins, inr short) = omega (arith, short.0)

not_less : (bytes : List ℕ) (one other : ℕ) → FirstBad bytes one → FirstBad bytes other → one < other → ⊥
not_less bytes one other (begins, inl worse) bad less =
    worse.1
    (shorter (take (one + 1) bytes) (drop (one + 1) (take other bytes))
    (subst Begins
    (sym (take-append-drop (one + 1) (take other bytes)) ∙ ap (λ t. t ++ drop (one + 1) (take other bytes)) (take-take (one + 1) other bytes (omega arith)))
    bad.0))
not_less bytes one other (begins, inr short) bad less = omega (arith, short.0, not_past bytes other bad)

pub one_first_bad : (bytes : List ℕ) (one other : ℕ) → FirstBad bytes one → FirstBad bytes other → one ≡ other
one_first_bad bytes one other f g = elim (cases_lt one other) [
  | inl less ↦ absurd (not_less bytes one other f g less)
  | inr more ↦ elim (cases_lt other one) [
    | inl less ↦ absurd (not_less bytes other one g f less)
    | inr same ↦ omega arith
  ]
]
