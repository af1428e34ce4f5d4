-- Numbers in two bytes.
use Rattle.std.proofs.Common.{◌≡◌, ℕ, zero, suc, ◌+◌, ◌*◌, ◌/◌, ◌%◌, ◌<◌, ◌≤◌, ◌^◌, List, [], ◌∷◌, ◌++◌, length, drop, slice_index, refl, ap, ◌∙◌, arith, lit<}
use Rattle.std.specs.List.{flat_map}
use Rattle.byteorder.specs.Endian.{little_bytes}
use Rattle.image_file.specs.File.{pair}
use Rattle.image_file.specs.Reading.{cells_of}

high_fits : (n : ℕ) → n < 2 ^ 16 → n / 256 % 256 ≡ n / 256
high_fits n h = omega arith

pub pair_is : (n : ℕ) → n < 2 ^ 16 → little_bytes 2 n ≡ pair n
pair_is n h = ap (λ x. n % 256 ∷ x ∷ []) (high_fits n h)

heads : (a b x y : ℕ) (xs ys : List ℕ) → a ∷ x ∷ xs ≡ b ∷ y ∷ ys → (a ≡ b) × (x ≡ y) × (xs ≡ ys)
heads a b x y xs ys e = (cc, cc, cc)

same_number : (m n : ℕ) → m % 256 ≡ n % 256 → m / 256 ≡ n / 256 → m ≡ n
same_number m n low high = omega arith

-- a number and what follows it stand for themselves
pub pair_one : (m n : ℕ) (a b : List ℕ) → pair m ++ a ≡ pair n ++ b → (m ≡ n) × (a ≡ b)
pair_one m n a b e = let h = heads _ _ _ _ _ _ e in (same_number m n h.0 h.1, h.2)

pub pairs_length : (cells : List ℕ) → length (flat_map pair cells) ≡ 2 * length cells
pairs_length [] = refl
pairs_length (cell ∷ cells) = omega (arith, pairs_length cells)

-- as many cells and what follows them stand for themselves
pub pairs_one : (xs ys a b : List ℕ) → length xs ≡ length ys → flat_map pair xs ++ a ≡ flat_map pair ys ++ b → (xs ≡ ys) × (a ≡ b)
pairs_one [] [] a b n e = (refl, e)
pairs_one [] (y ∷ ys) a b n e = absurd (omega arith)
pairs_one (x ∷ xs) [] a b n e = absurd (omega arith)
pairs_one (x ∷ xs) (y ∷ ys) a b n e =
    let h = pair_one x y (flat_map pair xs ++ a) (flat_map pair ys ++ b) e in
    let t = pairs_one xs ys a b (omega arith) h.1 in
    let heads : x ≡ y = h.0 in
    let tails : xs ≡ ys = t.0 in
    (cc, t.1)

low_of : (low high : ℕ) → low < 256 → (low + 256 * high) % 256 ≡ low
low_of low high h = omega arith

high_of : (low high : ℕ) → low < 256 → (low + 256 * high) / 256 ≡ high
high_of low high h = omega arith

-- bytes in front of others are the pair of their number
pub pair_back : (low high : ℕ) (rest : List ℕ) → low < 256 → pair (low + 256 * high) ++ rest ≡ low ∷ high ∷ rest
pair_back low high rest h = cc (low_of low high h, high_of low high h)

pub cells_back : (n : ℕ) (bytes : List ℕ) → length bytes ≡ 2 * n → ((k : ℕ) → slice_index bytes k < 256) → flat_map pair (cells_of bytes) ≡ bytes
cells_back n [] e b = refl
cells_back zero (low ∷ []) e b = absurd (omega arith)
cells_back (suc n) (low ∷ []) e b = absurd (omega arith)
cells_back zero (low ∷ high ∷ bytes) e b = absurd (omega arith)
cells_back (suc n) (low ∷ high ∷ bytes) e b =
    pair_back low high (flat_map pair (cells_of bytes)) (b 0) ∙ ap (λ t. low ∷ high ∷ t) (cells_back n bytes (omega arith) (λ k. b (suc (suc k))))

pub cells_length : (n : ℕ) (bytes : List ℕ) → length bytes ≡ 2 * n → length (cells_of bytes) ≡ n
cells_length zero [] e = refl
cells_length (suc n) [] e = absurd (omega arith)
cells_length zero (low ∷ []) e = absurd (omega arith)
cells_length (suc n) (low ∷ []) e = absurd (omega arith)
cells_length zero (low ∷ high ∷ bytes) e = absurd (omega arith)
cells_length (suc n) (low ∷ high ∷ bytes) e = ap suc (cells_length n bytes (omega arith))

cell_small : (low high : ℕ) → low < 256 → high < 256 → low + 256 * high < 2 ^ 16
cell_small low high l h = omega arith

pub cells_small : (bytes : List ℕ) → ((k : ℕ) → slice_index bytes k < 256) → (k : ℕ) → slice_index (cells_of bytes) k < 2 ^ 16
cells_small [] b k = lit< tt
cells_small (low ∷ []) b k = lit< tt
cells_small (low ∷ high ∷ bytes) b zero = cell_small low high (b 0) (b 1)
cells_small (low ∷ high ∷ bytes) b (suc k) = cells_small bytes (λ k. b (suc (suc k))) k

-- the next cell of bytes
pub cells_next : (bytes : List ℕ) (cell : ℕ) → 2 ≤ length bytes → cell ≡ slice_index bytes 0 + 256 * (slice_index bytes 1 + 256 * 0) → cells_of bytes ≡ cell ∷ cells_of (drop 2 bytes)
cells_next [] cell h e = absurd (omega arith)
cells_next (low ∷ []) cell h e = absurd (omega arith)
cells_next (low ∷ high ∷ bytes) cell h e =
    let f : low + 256 * high ≡ cell = omega arith in
    ap (λ x. x ∷ cells_of bytes) f

-- less than two bytes have no cell
pub cells_none : (bytes : List ℕ) → length bytes < 2 → cells_of bytes ≡ []
cells_none [] h = refl
cells_none (low ∷ []) h = refl
cells_none (low ∷ high ∷ bytes) h = absurd (omega arith)
