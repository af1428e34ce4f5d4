-- Where a source stands at a place of a certificate.
use Rattle.std.proofs.Common.{◌≡◌, ℕ, zero, suc, ◌+◌, List, [], ◌∷◌, length, Option, Some, None, refl, ap, ◌∙◌, arith}
use Rattle.std.specs.Prelude.{pos, ℤ, ◌+ℤ◌, ◌≤ℤ◌}
use Rattle.std.proofs.lemmas.Int.{ints}
use Rattle.forth_program.specs.State.{Entry, Cell, Loop}
use Rattle.depth_certifier.specs.Place.{OfCell, OfLoop, Shape, size, Stand, Place, Unreachable, At, Doubled, InsideBy, BelowBy, Below}
use Rattle.depth_certifier.specs.Certificate.{after}
use Rattle.forth_program.specs.Heights.{entries_height}

abbrev pub shape_of : List Entry → Shape
shape_of [] = []
shape_of (Cell value ∷ entries) = OfCell ∷ shape_of entries
shape_of (Loop limit index ∷ entries) = OfLoop ∷ shape_of entries

pub shape_size : (entries : List Entry) → size (shape_of entries) ≡ entries_height entries
shape_size [] = refl
shape_size (Cell value ∷ entries) = ap (λ n. 1 + n) (shape_size entries)
shape_size (Loop limit index ∷ entries) = ap (λ n. 2 + n) (shape_size entries)

-- n data cells, over those at the entry
pub record Inside (base : ℕ) (p : Stand) (n : ℕ) (entries : List Entry) : Type 0 where
  pub low : (pos base +ℤ p.low) ≤ℤ pos n
  pub high : pos n ≤ℤ (pos base +ℤ p.high)
  pub same : shape_of entries ≡ p.shape

abbrev pub Stood : ℕ → Place → List ℕ → List Entry → Type 0
Stood base Unreachable c entries = ⊥
Stood base (At p) c entries = Inside base p (length c) entries
Stood base (Doubled p) [] entries = ⊥
Stood base (Doubled p) (zero ∷ c) entries = Inside base p (suc (length c)) entries
Stood base (Doubled p) (suc x ∷ c) entries = Inside base p (length c) entries

inside_more : (base n : ℕ) (p q : Stand) (entries : List Entry) → InsideBy 0 0 p q → Inside base p n entries → Inside base q n entries
inside_more base n p q entries h i = record { low = omega (arith, ints, h.low, i.low); high = omega (arith, ints, h.high, i.high); same = i.same ∙ h.same }

-- what stands at a place stands at each one above it
pub stood_more : (base : ℕ) (s t : Place) (c : List ℕ) (entries : List Entry) → Below s t → Stood base s c entries → Stood base t c entries
stood_more base Unreachable t c entries h i = absurd i
stood_more base (At p) Unreachable c entries h i = absurd h
stood_more base (At p) (At q) c entries h i = inside_more base (length c) p q entries h i
stood_more base (At p) (Doubled q) c entries h i = absurd h
stood_more base (Doubled p) Unreachable c entries h i = absurd h
stood_more base (Doubled p) (At q) c entries h i = absurd h
stood_more base (Doubled p) (Doubled q) [] entries h i = absurd i
stood_more base (Doubled p) (Doubled q) (zero ∷ c) entries h i = inside_more base (suc (length c)) p q entries h i
stood_more base (Doubled p) (Doubled q) (suc x ∷ c) entries h i = inside_more base (length c) p q entries h i

-- the change of a number of cells lies in an exit
abbrev pub LeavesWithin : Option (ℤ × ℤ) → ℕ → ℕ → Type 0
LeavesWithin None before after = ⊥
LeavesWithin (Some exit) before after = ((pos before +ℤ exit.0) ≤ℤ pos after) × (pos after ≤ℤ (pos before +ℤ exit.1))

pub stood_after : (base : ℕ) (p : Stand) (exit : Option (ℤ × ℤ)) (shape : Shape) (n : ℕ) (c : List ℕ) (before entries : List Entry) → Inside base p n before → LeavesWithin exit n (length c) → shape_of entries ≡ shape →
    Stood base (after exit p shape) c entries
stood_after base p None shape n c before entries i h e = absurd h
stood_after base p (Some exit) shape n c before entries i h e = record { low = omega (arith, ints, i.low, h.0); high = omega (arith, ints, i.high, h.1); same = e }

pub below_same : (s : Place) → Below s s
below_same Unreachable = tt
below_same (At p) = record { low = omega (arith, ints); high = omega (arith, ints); same = refl }
below_same (Doubled p) = record { low = omega (arith, ints); high = omega (arith, ints); same = refl }

inside_then : (a b : ℕ) (p q r : Stand) → InsideBy a b p q → InsideBy 0 0 q r → InsideBy a b p r
inside_then a b p q r h i = record { low = omega (arith, ints, h.low, i.low); high = omega (arith, ints, h.high, i.high); same = h.same ∙ i.same }

pub below_then : (a b : ℕ) (s t u : Place) → BelowBy a b s t → Below t u → BelowBy a b s u
below_then a b Unreachable t u h i = tt
below_then a b (At p) (At q) (At r) h i = inside_then a b p q r h i
below_then a b (At p) (At q) Unreachable h i = absurd i
below_then a b (At p) (At q) (Doubled r) h i = absurd i
below_then a b (At p) Unreachable u h i = absurd h
below_then a b (At p) (Doubled q) u h i = absurd h
below_then a b (Doubled p) (Doubled q) (Doubled r) h i = inside_then a b p q r h i
below_then a b (Doubled p) (Doubled q) Unreachable h i = absurd i
below_then a b (Doubled p) (Doubled q) (At r) h i = absurd i
below_then a b (Doubled p) Unreachable u h i = absurd h
below_then a b (Doubled p) (At q) u h i = absurd h

-- the place of a loop, with a loop on top
abbrev pub OnLoop : Place → Type 0
OnLoop Unreachable = Unit {0}
OnLoop (At p) = (shape : Shape) × (p.shape ≡ OfLoop ∷ shape)
OnLoop (Doubled p) = Unit {0}
