-- The lines of a memory text, one a cell.
use Rattle.std.proofs.Common.{◌≡◌, ℕ, zero, suc, ◌+◌, ◌*◌, ◌/◌, ◌%◌, ◌<◌, List, [], ◌∷◌, ◌++◌, length, take, drop, get_or, inl, inr, refl, sym, ap, ◌∙◌, arith}
use Rattle.std.proofs.lemmas.Bool.{cases_lt}
use Rattle.std.proofs.lemmas.Bool.Decides.{nat_tests}
use Rattle.std.specs.List.{flat_map}
use Rattle.decompiler.specs.Listing.{digit, hex2, hex4}
use Rattle.memory_text.specs.MemoryText.{cell_line}

-- each number has a digit of its own, also from 16 on
digit_alone : (m n : ℕ) → digit m ≡ digit n → m ≡ n
digit_alone m n e = grind (arith, nat_tests)

hex4_alone : (m n : ℕ) → digit (m / 256 / 16) ≡ digit (n / 256 / 16) → digit (m / 256 % 16) ≡ digit (n / 256 % 16) →
    digit (m % 256 / 16) ≡ digit (n % 256 / 16) → digit (m % 256 % 16) ≡ digit (n % 256 % 16) → m ≡ n
hex4_alone m n a b c d =
    let first = digit_alone (m / 256 / 16) (n / 256 / 16) a in
    let second = digit_alone (m / 256 % 16) (n / 256 % 16) b in
    let third = digit_alone (m % 256 / 16) (n % 256 / 16) c in
    let last = digit_alone (m % 256 % 16) (n % 256 % 16) d in
    omega (arith, first, second, third, last)

heads : {A : Type 0} (x y : A) (xs ys : List A) → x ∷ xs ≡ y ∷ ys → (x ≡ y) × (xs ≡ ys)
heads x y xs ys e = (cc, cc)

-- the cells of two texts that are the same
pub cells_alone : (xs ys : List ℕ) → flat_map cell_line xs ≡ flat_map cell_line ys → xs ≡ ys
cells_alone [] [] e = refl
cells_alone [] (y ∷ ys) e = cc
cells_alone (x ∷ xs) [] e = cc
cells_alone (x ∷ xs) (y ∷ ys) e =
    let one = heads _ _ _ _ e in
    let two = heads _ _ _ _ one.1 in
    let three = heads _ _ _ _ two.1 in
    let four = heads _ _ _ _ three.1 in
    let five = heads _ _ _ _ four.1 in
    let rest = cells_alone xs ys five.1 in
    let same = hex4_alone x y one.0 two.0 three.0 four.0 in
    cc

pub lines_size : (cells : List ℕ) → length (flat_map cell_line cells) ≡ 5 * length cells
lines_size [] = refl
lines_size (cell ∷ cells) = let rest = lines_size cells in omega (arith, rest)

drop_five : (i : ℕ) (cell : ℕ) (rest : List ℕ) → drop (5 * suc i) (cell_line cell ++ rest) ≡ drop (5 * i) rest
drop_five i cell rest = let n : 5 * suc i ≡ suc (suc (suc (suc (suc (5 * i))))) = omega arith in ap (λ k. drop k (cell_line cell ++ rest)) n

-- line i is that of cell i
pub line_at : (cells : List ℕ) (i : ℕ) → i < length cells → take 5 (drop (5 * i) (flat_map cell_line cells)) ≡ cell_line (get_or cells i 0)
line_at [] i h = absurd (omega arith)
line_at (cell ∷ cells) zero h = refl
line_at (cell ∷ cells) (suc i) h = ap (take 5) (drop_five i cell (flat_map cell_line cells)) ∙ line_at cells i (omega arith)
