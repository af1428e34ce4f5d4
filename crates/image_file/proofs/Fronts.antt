-- What stands in front of every image file.
use Rattle.std.proofs.Common.{◌≡◌, ◌≢◌, ℕ, ◌+◌, ◌*◌, ◌≤◌, Bool, true, false, List, [], ◌∷◌, ◌++◌, length, refl, ap, sym, ◌∙◌, arith, nat_eq, append_assoc, length-append}
use Rattle.std.specs.List.{flat_map}
use Rattle.std.proofs.lemmas.Bool.Decides.{nat_tests}
use Rattle.j1_table.specs.Image.{Content}
use Rattle.image_file.specs.File.{pair, letters, front_of, front, image_bytes}
use Rattle.image_file.proofs.Pairs.{pair_one, pairs_one, pairs_length}

test_yes : (s : ℕ) → true ≡ nat_eq s 8192 → s ≡ 8192
test_yes s e = grind (arith, nat_tests)

both_start : (s t : ℕ) → true ≡ nat_eq s 8192 → true ≡ nat_eq t 8192 → s ≡ t
both_start s t e f = test_yes s e ∙ sym (test_yes t f)

front_of_one : (u v : Bool) (s t : ℕ) (a b : List ℕ) → u ≡ nat_eq s 8192 → v ≡ nat_eq t 8192 → front_of u s ++ a ≡ front_of v t ++ b → (s ≡ t) × (a ≡ b)
front_of_one true true s t a b e f h = (both_start s t e f, cc)
front_of_one true false s t a b e f h = absurd (cc)
front_of_one false true s t a b e f h = absurd (cc)
front_of_one false false s t a b e f h =
    let g : pair s ++ a ≡ pair t ++ b = cc in
    pair_one s t a b g

-- a front and what follows it stand for themselves
pub front_one : (s t : ℕ) (a b : List ℕ) → front s ++ a ≡ front t ++ b → (s ≡ t) × (a ≡ b)
front_one s t a b e = front_of_one (nat_eq s 8192) (nat_eq t 8192) s t a b refl refl e

-- the numbers in front of a file are those of its image, and what follows is its cells and bytes
pub record SameHead (s c d : ℕ) (body : List ℕ) (image : Content) : Type 0 where
  pub start : s ≡ image.data_start
  pub code : c ≡ length image.cells
  pub space : d ≡ length image.bytes
  pub rest : body ≡ flat_map pair image.cells ++ image.bytes

pub head_one : (s c d : ℕ) (body : List ℕ) (image : Content) → front s ++ (pair c ++ (pair d ++ body)) ≡ image_bytes image → SameHead s c d body image
head_one s c d body image e =
    let f = front_one s image.data_start _ _ e in
    let g = pair_one c (length image.cells) _ _ f.1 in
    let h = pair_one d (length image.bytes) _ _ g.1 in
    record { start = f.0; code = g.0; space = h.0; rest = h.1 }

pub body_length : (image : Content) → length (flat_map pair image.cells ++ image.bytes) ≡ 2 * length image.cells + length image.bytes
body_length image = omega (arith, length-append (flat_map pair image.cells) image.bytes, pairs_length image.cells)

abbrev made : List ℕ → List ℕ → ℕ → Content
made cells bytes start = record { cells = cells; bytes = bytes; data_start = start }

same_content : (one other : Content) → one.cells ≡ other.cells → one.bytes ≡ other.bytes → one.data_start ≡ other.data_start → one ≡ other
same_content one other e f g =
    ap (λ x. made x one.bytes one.data_start) e ∙ ap (λ x. made other.cells x one.data_start) f ∙ ap (λ x. made other.cells other.bytes x) g

-- two images with one file are the same
pub files_one : (one other : Content) → image_bytes one ≡ image_bytes other → one ≡ other
files_one one other e =
    let h = head_one one.data_start (length one.cells) (length one.bytes) (flat_map pair one.cells ++ one.bytes) other e in
    let p = pairs_one one.cells other.cells one.bytes other.bytes h.code h.rest in
    same_content one other p.0 p.1 h.start

front_of_letters : (u : Bool) (s : ℕ) → (more : List ℕ) × (front_of u s ≡ letters ++ more)
front_of_letters true s = (1 ∷ 0 ∷ [], refl)
front_of_letters false s = (2 ∷ 0 ∷ pair s, refl)

-- every file begins with the letters
pub file_letters : (image : Content) → (more : List ℕ) × (image_bytes image ≡ letters ++ more)
file_letters image =
    let f = front_of_letters (nat_eq image.data_start 8192) image.data_start in
    let rest : List ℕ = pair (length image.cells) ++ (pair (length image.bytes) ++ (flat_map pair image.cells ++ image.bytes)) in
    (f.0 ++ rest, ap (λ t. t ++ rest) f.1 ∙ append_assoc letters f.0 rest)

-- what follows the letters
pub data Version (image : Content) : Type 0 where
  One : (more : List ℕ) → image.data_start ≡ 8192 → image_bytes image ≡ letters ++ 1 ∷ 0 ∷ more → Version image
  Two : (more : List ℕ) → image.data_start ≢ 8192 → image_bytes image ≡ letters ++ 2 ∷ 0 ∷ (pair image.data_start ++ more) → Version image

version_by : (u : Bool) (image : Content) → u ≡ nat_eq image.data_start 8192 → (rest : List ℕ) → image_bytes image ≡ front_of u image.data_start ++ rest → Version image
version_by true image e rest f = One rest (test_yes image.data_start e) f
version_by false image e rest f = Two rest (grind (arith, nat_tests)) f

pub version : (image : Content) → Version image
version image = version_by (nat_eq image.data_start 8192) image refl (pair (length image.cells) ++ (pair (length image.bytes) ++ (flat_map pair image.cells ++ image.bytes))) refl

front_long : (u : Bool) (s : ℕ) → 6 ≤ length (front_of u s)
front_long true s = omega arith
front_long false s = omega arith

-- every file has ten bytes or more
pub file_long : (image : Content) → 10 ≤ length (image_bytes image)
file_long image =
    let rest : List ℕ = flat_map pair image.cells ++ image.bytes in
    omega (arith, length-append (front image.data_start) (pair (length image.cells) ++ (pair (length image.bytes) ++ rest)), front_long (nat_eq image.data_start 8192) image.data_start)
