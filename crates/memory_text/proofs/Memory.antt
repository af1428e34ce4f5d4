-- The cells of the memory that an image begins with.
use Rattle.std.proofs.Common.{◌≡◌, ℕ, zero, suc, ◌+◌, ◌-◌, ◌*◌, ◌/◌, ◌<◌, ◌≤◌, List, [], ◌∷◌, ◌++◌, length, get_or, replicate, inl, inr, refl, sym, ap, ◌∙◌, arith, length-append}
use Rattle.std.proofs.lemmas.Bool.{cases_lt}
use Rattle.std.proofs.lemmas.List.{length-replicate}
use Rattle.cell_math.specs.Bytes.{cells_of_bytes, filled}
use Rattle.j1_table.specs.Image.{Content, HasRoom}
use Rattle.j1_simulator.specs.Run.{memory_of}
use Rattle.memory_text.specs.Laws.{BeginsWith}

-- what two lists have one behind the other
before : (xs ys : List ℕ) (i : ℕ) → i < length xs → get_or (xs ++ ys) i 0 ≡ get_or xs i 0
before [] ys i h = absurd (omega arith)
before (x ∷ xs) ys zero h = refl
before (x ∷ xs) ys (suc i) h = before xs ys i (omega arith)

behind : (xs ys : List ℕ) (i : ℕ) → get_or (xs ++ ys) (length xs + i) 0 ≡ get_or ys i 0
behind [] ys i = ap (λ k. get_or ys k 0) (omega arith)
behind (x ∷ xs) ys i = ap (λ k. get_or (x ∷ (xs ++ ys)) k 0) (let n : suc (length xs) + i ≡ suc (length xs + i) = omega arith in n) ∙ behind xs ys i

past : (xs : List ℕ) (i : ℕ) → length xs ≤ i → get_or xs i 0 ≡ 0
past [] i h = refl
past (x ∷ xs) zero h = absurd (omega arith)
past (x ∷ xs) (suc i) h = past xs i (omega arith)

zeros : (z n i : ℕ) → get_or (replicate n z) i z ≡ z
zeros z zero i = refl
zeros z (suc n) zero = refl
zeros z (suc n) (suc i) = zeros z n i

-- zeros behind cells are as if nothing were there
with_zeros : (n i : ℕ) (xs : List ℕ) → get_or (filled n xs) i 0 ≡ get_or xs i 0
with_zeros n i xs = elim (cases_lt i (length xs)) [
  | inl less ↦ before xs (replicate (n - length xs) 0) i less
  | inr more ↦
      let at : length xs + (i - length xs) ≡ i = omega arith in
      ap (λ k. get_or (filled n xs) k 0) (sym at) ∙ behind xs (replicate (n - length xs) 0) (i - length xs) ∙ zeros 0 (n - length xs) (i - length xs) ∙ sym (past xs i more)
]

two_more : (low high i : ℕ) (bytes : List ℕ) → (get_or bytes (2 * i) 0 ≡ get_or (low ∷ high ∷ bytes) (2 * suc i) 0) × (get_or bytes (2 * i + 1) 0 ≡ get_or (low ∷ high ∷ bytes) (2 * suc i + 1) 0)
two_more low high i bytes =
    let even : 2 * suc i ≡ suc (suc (2 * i)) = omega arith in
    let odd : 2 * suc i + 1 ≡ suc (suc (2 * i + 1)) = omega arith in
    (ap (λ k. get_or (low ∷ high ∷ bytes) k 0) (sym even), ap (λ k. get_or (low ∷ high ∷ bytes) k 0) (sym odd))

cell_at : (bytes : List ℕ) (i : ℕ) → get_or (cells_of_bytes bytes) i 0 ≡ get_or bytes (2 * i) 0 + 256 * get_or bytes (2 * i + 1) 0
cell_at [] i = refl
cell_at (low ∷ []) zero = omega arith
cell_at (low ∷ []) (suc i) =
    let even : get_or (low ∷ []) (2 * suc i) 0 ≡ 0 = past (low ∷ []) (2 * suc i) (omega arith) in
    let odd : get_or (low ∷ []) (2 * suc i + 1) 0 ≡ 0 = past (low ∷ []) (2 * suc i + 1) (omega arith) in
    omega (arith, even, odd)
cell_at (low ∷ high ∷ bytes) zero = refl
cell_at (low ∷ high ∷ bytes) (suc i) =
    let same = two_more low high i bytes in
    let rest = cell_at bytes i in
    rest ∙ omega (arith, same.0, same.1)

cells_few : (bytes : List ℕ) → 2 * length (cells_of_bytes bytes) ≤ length bytes + 1
cells_few [] = omega arith
cells_few (low ∷ []) = omega arith
cells_few (low ∷ high ∷ bytes) = let h = cells_few bytes in omega (arith, h)

filled_size : (n : ℕ) (xs : List ℕ) → length xs ≤ n → length (filled n xs) ≡ n
filled_size n xs h = simp (length-append, length-replicate) (omega arith)

pub begins_with : (image : Content) → HasRoom image → BeginsWith image (memory_of image)
begins_with image room =
    let half : ℕ = image.data_start / 2 in
    let code : List ℕ = filled half image.cells in
    let space : List ℕ = filled (0x2000 - half) (cells_of_bytes image.bytes) in
    let even = room.splits.is_even in
    let most = room.splits.at_most in
    let few = cells_few image.bytes in
    let fits = room.space in
    let first : length code ≡ half = filled_size half image.cells room.code in
    let second : length space ≡ 0x2000 - half = filled_size (0x2000 - half) (cells_of_bytes image.bytes) (omega (arith, even, most, few, fits)) in
    record {
      size = let both : length code + length space ≡ 8192 = omega (arith, first, second, most) in length-append code space ∙ both;
      code = λ i h. before code space i (omega (arith, first, h)) ∙ with_zeros half i image.cells;
      space = λ i h.
          ap (λ n. get_or (code ++ space) (n + i) 0) (sym first) ∙ behind code space i ∙ with_zeros (0x2000 - half) i (cells_of_bytes image.bytes) ∙ cell_at image.bytes i;
    }
