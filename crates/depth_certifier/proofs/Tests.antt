-- Numbers, tests and places.
use Rattle.std.proofs.Common.{◌≡◌, ℕ, zero, suc, ◌≤◌, List, [], ◌∷◌, ◌++◌, length, Option, Some, None, Ok, Err, Bool, true, false, refl, sym, subst, arith, inl}
use Rattle.std.specs.Prelude.{int_le, pos, negsuc, ℤ, ◌+ℤ◌, ◌-ℤ◌, ◌≤ℤ◌, slice_index_or}
use Rattle.std.specs.Int.{int_max, int_min}
use Rattle.std.proofs.lemmas.Int.{ints, clamps}
use Rattle.std.proofs.lemmas.Bool.{and_parts, and_from}
use Rattle.depth_certifier.specs.declared.effect.Effect.{Effect}
use Rattle.depth_certifier.specs.declared.effect.CertCause.{CertCause}
use Rattle.depth_certifier.specs.Place.{Slot, OfCell, OfLoop, Shape, Stand, Place, Unreachable, At, Doubled, InsideBy, BelowBy, from_zero}
use Rattle.depth_certifier.specs.Certificate.{no_interval, ExitIn, EffectIn}
use Rattle.depth_certifier.specs.Walk.{Walk, Walked, then_do, checked, same_slot, same_shape}
use Rattle.depth_certifier.specs.Rounds.{HeadIn}

pub from_zero_le : (z : ℤ) (n : ℕ) → z ≤ℤ pos n → from_zero z ≤ n
from_zero_le (pos m) n h = omega (arith, ints)
from_zero_le (negsuc m) n h = omega arith

pub le_from_zero : (z : ℤ) (n : ℕ) → from_zero z ≤ n → z ≤ℤ pos n
le_from_zero (pos m) n h = omega (arith, ints)
le_from_zero (negsuc m) n h = omega (arith, ints)

pub from_zero_up : (z : ℤ) → pos 0 ≤ℤ z → pos (from_zero z) ≡ z
from_zero_up (pos m) h = refl
from_zero_up (negsuc m) h = absurd (omega (arith, ints))

pub int_le_true : (a b : ℤ) → int_le a b ≡ true → a ≤ℤ b
int_le_true a b h = grind (arith, ints)

pub int_true_le : (a b : ℤ) → a ≤ℤ b → int_le a b ≡ true
int_true_le a b h = grind (arith, ints)

same_slot_true : (x y : Slot) → same_slot x y ≡ true → x ≡ y
same_slot_true OfCell OfCell h = refl
same_slot_true OfLoop OfLoop h = refl
same_slot_true OfCell OfLoop h = cc
same_slot_true OfLoop OfCell h = cc

pub true_same_slot : (x : Slot) → same_slot x x ≡ true
true_same_slot OfCell = refl
true_same_slot OfLoop = refl

pub same_shape_true : (xs ys : Shape) → same_shape xs ys ≡ true → xs ≡ ys
same_shape_true [] [] h = refl
same_shape_true [] (y ∷ ys) h = cc
same_shape_true (x ∷ xs) [] h = cc
same_shape_true (x ∷ xs) (y ∷ ys) h =
    let p = and_parts (same_slot x y) (same_shape xs ys) h in
    let e = same_slot_true x y p.0 in
    let r = same_shape_true xs ys p.1 in
    cc (e, r)

pub true_same_shape : (xs : Shape) → same_shape xs xs ≡ true
true_same_shape [] = refl
true_same_shape (x ∷ xs) = and_from (same_slot x x) (same_shape xs xs) (true_same_slot x) (true_same_shape xs)

-- a test of equality is this one
pub same_shape_is : (xs ys : Shape) (b : Bool) → (b ≡ true → xs ≡ ys) → (b ≡ false → xs ≡ ys → ⊥) → b ≡ same_shape xs ys
same_shape_is xs ys true f g = sym (subst (λ zs. same_shape xs zs ≡ true) (f refl) (true_same_shape xs))
same_shape_is xs ys false f g = not_same (same_shape xs ys) (λ h. g refl (same_shape_true xs ys h))
  where
    not_same : (b : Bool) → (b ≡ true → ⊥) → false ≡ b
    not_same false h = refl
    not_same true h = absurd (h refl)

-- what an Ok says of the test before it
pub checked_ok : (b : Bool) (c : CertCause) (r : Walked) (w : Walk) → checked b c r ≡ Ok w → (b ≡ true) × (r ≡ Ok w)
checked_ok true c r w h = (refl, h)
checked_ok false c r w h = cc

pub then_ok : (r : Walked) (go : Walk → Walked) (w : Walk) → then_do r go ≡ Ok w → (m : Walk) × (r ≡ Ok m) × (go m ≡ Ok w)
then_ok (Ok m) go w h = (m, refl, h)
then_ok (Err c) go w h = cc

pub need_within : (k n a : ℕ) (lo low : ℤ) → pos k ≤ℤ (pos n +ℤ low) → (low +ℤ pos a) ≤ℤ lo → from_zero (pos k -ℤ lo) ≤ n
need_within k n a lo low h i = from_zero_le (pos k -ℤ lo) n (omega (arith, ints))

pub peak_within : (k n b : ℕ) (hi high : ℤ) → (high +ℤ pos k) ≤ℤ pos n → (hi +ℤ pos b) ≤ℤ high → from_zero (hi +ℤ pos k) ≤ n
peak_within k n b hi high h i = from_zero_le (hi +ℤ pos k) n (omega (arith, ints))

pub min_from : (a : ℕ) (x y z : ℤ) → (z +ℤ pos a) ≤ℤ x → (z +ℤ pos a) ≤ℤ y → (z +ℤ pos a) ≤ℤ int_min x y
min_from a x y z h i = grind (arith, ints, clamps)

pub max_from : (a : ℕ) (x y z : ℤ) → (x +ℤ pos a) ≤ℤ z → (y +ℤ pos a) ≤ℤ z → (int_max x y +ℤ pos a) ≤ℤ z
max_from a x y z h i = grind (arith, ints, clamps)

pub min_left : (x y : ℤ) → int_min x y ≤ℤ x
min_left x y = grind (arith, ints, clamps)

pub min_right : (x y : ℤ) → int_min x y ≤ℤ y
min_right x y = grind (arith, ints, clamps)

pub max_left : (x y : ℤ) → x ≤ℤ int_max x y
max_left x y = grind (arith, ints, clamps)

pub max_right : (x y : ℤ) → y ≤ℤ int_max x y
max_right x y = grind (arith, ints, clamps)

pub min_within : (x y z : ℤ) → z ≤ℤ x → z ≤ℤ y → z ≤ℤ int_min x y
min_within x y z h i = grind (arith, ints, clamps)

pub max_within : (x y z : ℤ) → x ≤ℤ z → y ≤ℤ z → int_max x y ≤ℤ z
max_within x y z h i = grind (arith, ints, clamps)

pub min_max : (a b c d : ℤ) → a ≤ℤ b → int_min a c ≤ℤ int_max b d
min_max a b c d h = grind (arith, ints, clamps)

weaker_stand : (a b a' b' : ℕ) (p q : Stand) → a' ≤ a → b' ≤ b → InsideBy a b p q → InsideBy a' b' p q
weaker_stand a b a' b' p q h i r = record { low = omega (arith, ints, r.low); high = omega (arith, ints, r.high); same = r.same }

pub weaker : (a b a' b' : ℕ) (s t : Place) → a' ≤ a → b' ≤ b → BelowBy a b s t → BelowBy a' b' s t
weaker a b a' b' Unreachable t h i r = tt
weaker a b a' b' (At p) (At q) h i r = weaker_stand a b a' b' p q h i r
weaker a b a' b' (At p) Unreachable h i r = r
weaker a b a' b' (At p) (Doubled q) h i r = r
weaker a b a' b' (Doubled p) (Doubled q) h i r = weaker_stand a b a' b' p q h i r
weaker a b a' b' (Doubled p) Unreachable h i r = r
weaker a b a' b' (Doubled p) (At q) h i r = r

-- ---- effects

pub exit_in_same : (x : Option (ℤ × ℤ)) → ExitIn x x
exit_in_same None = tt
exit_in_same (Some x) = (omega (arith, ints), omega (arith, ints))

pub effect_in_same : (x : Effect) → EffectIn x x
effect_in_same x = record { need = omega arith; peak = omega arith; back = omega arith; exit = exit_in_same x.exit }

pub exit_in_then : (x y z : Option (ℤ × ℤ)) → ExitIn x y → ExitIn y z → ExitIn x z
exit_in_then None y z h i = tt
exit_in_then (Some x) None z h i = absurd h
exit_in_then (Some x) (Some y) None h i = i
exit_in_then (Some x) (Some y) (Some z) h i = (omega (arith, ints, h.0, i.0), omega (arith, ints, h.1, i.1))

pub effect_in_then : (x y z : Effect) → EffectIn x y → EffectIn y z → EffectIn x z
effect_in_then x y z h i = record { need = omega (arith, h.need, i.need); peak = omega (arith, h.peak, i.peak); back = omega (arith, h.back, i.back); exit = exit_in_then x.exit y.exit z.exit h.exit i.exit }

-- ---- heads

abbrev pub HeadsIn : List (ℤ × ℤ) → List (ℤ × ℤ) → Type 0
HeadsIn xs hs = (j : ℕ) → HeadIn (slice_index_or xs j no_interval) (slice_index_or hs j no_interval)

pub noted : (xs hs : List (ℤ × ℤ)) (x : ℤ × ℤ) → HeadsIn xs hs → HeadIn x (slice_index_or hs (length xs) no_interval) → HeadsIn (xs ++ x ∷ []) hs
noted [] hs x h i zero = i
noted [] hs x h i (suc j) = inl refl
noted (y ∷ xs) [] x h i zero = h 0
noted (y ∷ xs) [] x h i (suc j) = noted xs [] x (λ j. h (suc j)) i j
noted (y ∷ xs) (z ∷ hs) x h i zero = h 0
noted (y ∷ xs) (z ∷ hs) x h i (suc j) = noted xs hs x (λ j. h (suc j)) i j
