-- Return entries as the code has them.
use Rattle.std.proofs.Common.{◌≡◌, ◌≢◌, ℕ, zero, suc, ◌-◌, ◌<◌, ◌≤◌, List, [], ◌∷◌, ◌++◌, length, reverse, take, get_or, true, false, refl, sym, ap, ◌∙◌, arith}
use Rattle.std.proofs.Math.Seq.{take-suc}
use Rattle.std.proofs.lemmas.List.{reverse-append, reverse-reverse, length-reverse, length-take-le}
use Rattle.depth_certifier.specs.declared.shape.Slot.{Slot}
use Rattle.depth_certifier.specs.declared.shape.Slot.TheVariants.{OfCell, OfLoop}
use Rattle.depth_certifier.specs.Place.{size}
use Rattle.depth_certifier.specs.Entries.{older_of}
use Rattle.depth_certifier.specs.Walk.{same_slot, same_shape}
use Rattle.depth_certifier.proofs.Tests.{same_shape_is, true_same_slot}

last_first : (xs : List Slot) (x : Slot) → older_of (reverse (xs ++ x ∷ [])) ≡ reverse xs
last_first xs x = ap older_of (reverse-append xs (x ∷ []))

pub below_is : (slots : List Slot) (n : ℕ) → n ≢ 0 → n ≤ length slots → reverse (take (n - 1) slots) ≡ older_of (reverse (take n slots))
below_is slots zero some few = absurd (some refl)
below_is slots (suc n) some few =
    let less : suc n - 1 ≡ n = omega arith in
    ap (λ k. reverse (take k slots)) less ∙ sym (ap (λ xs. older_of (reverse xs)) (take-suc slots n OfCell few) ∙ last_first (take n slots) (get_or slots n OfCell))

take_apart : (xs ys : List Slot) (n i : ℕ) → i < n → take n xs ≡ take n ys → n ≤ length xs → n ≤ length ys → get_or xs i OfCell ≡ get_or ys i OfCell
take_apart xs ys zero i less same a b = absurd (omega arith)
take_apart [] ys (suc n) i less same a b = absurd (omega arith)
take_apart (x ∷ xs) [] (suc n) i less same a b = absurd (omega arith)
take_apart (x ∷ xs) (y ∷ ys) (suc n) zero less same a b = cc (same)
take_apart (x ∷ xs) (y ∷ ys) (suc n) (suc i) less same a b = take_apart xs ys n i (omega arith) (let rest : take n xs ≡ take n ys = cc (same) in rest) (omega arith) (omega arith)

unreversed : (xs ys : List Slot) → reverse xs ≡ reverse ys → xs ≡ ys
unreversed xs ys h = sym (reverse-reverse xs) ∙ ap reverse h ∙ reverse-reverse ys

taken_length : (xs : List Slot) (n : ℕ) → n ≤ length xs → length (take n xs) ≡ n
taken_length xs n h = length-take-le n xs h

pub other_counts : (xs ys : List Slot) (n m : ℕ) → n ≤ length xs → m ≤ length ys → n ≢ m → false ≡ same_shape (reverse (take n xs)) (reverse (take m ys))
other_counts xs ys n m a b other =
    same_shape_is (reverse (take n xs)) (reverse (take m ys)) false (λ h. cc (h)) (λ _ same. other (sym (taken_length xs n a) ∙ ap length (unreversed (take n xs) (take m ys) same) ∙ taken_length ys m b))

differ : (x y : Slot) → same_slot x y ≡ false → x ≡ y → ⊥
differ x y h same = (let both : false ≡ true = sym h ∙ ap (λ z. same_slot x z) (sym same) ∙ true_same_slot x in cc (both))

pub other_slot : (xs ys : List Slot) (n i : ℕ) → i < n → n ≤ length xs → n ≤ length ys → same_slot (get_or xs i OfCell) (get_or ys i OfCell) ≡ false → false ≡ same_shape (reverse (take n xs)) (reverse (take n ys))
other_slot xs ys n i less a b other =
    same_shape_is (reverse (take n xs)) (reverse (take n ys)) false (λ h. cc (h))
    (λ _ same. differ (get_or xs i OfCell) (get_or ys i OfCell) other (take_apart xs ys n i less (unreversed (take n xs) (take n ys) same) a b))

pub same_slots : (xs ys : List Slot) (n m : ℕ) → n ≡ m → take n xs ≡ take n ys → true ≡ same_shape (reverse (take n xs)) (reverse (take m ys))
same_slots xs ys n m count same = same_shape_is (reverse (take n xs)) (reverse (take m ys)) true (λ _. ap reverse (same ∙ ap (λ k. take k ys) count)) (λ h. cc (h))

size_least : (xs : List Slot) → length xs ≤ size xs
size_least [] = omega arith
size_least (OfCell ∷ xs) = omega (arith, size_least xs)
size_least (OfLoop ∷ xs) = omega (arith, size_least xs)

-- few cells are few entries
pub few_entries : (slots : List Slot) (n : ℕ) → n ≤ length slots → size (reverse (take n slots)) ≤ 31 → n < 32
few_entries slots n few small = omega (arith, size_least (reverse (take n slots)), length-reverse (take n slots), taken_length slots n few, small)
