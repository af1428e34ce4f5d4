-- Cases by tests.
use Rattle.std.proofs.Common.{◌≡◌, ◌≢◌, ℕ, suc, ◌≤◌, ◌<◌, ◌==◌, Bool, true, false, refl, leb-true, ltb-false, eqb-true}
use Rattle.std.specs.Prelude.{nat_lt, if◌then◌else◌}

pub by_cases : {C : Type 0} (b : Bool) → (b ≡ true → C) → (b ≡ false → C) → C
by_cases true f g = f refl
by_cases false f g = g refl

pub by_less : {C : Type 0} (x y : ℕ) → (x < y → C) → (y ≤ x → C) → C
by_less x y f g = by_cases (nat_lt x y) (λ e. f (leb-true (suc x) y e)) (λ e. g (ltb-false x y e))

pub if_true : {A : Type 0} (b : Bool) (x y : A) → b ≡ true → (if b then x else y) ≡ x
if_true true x y e = refl
if_true false x y e = let no : ⊥ = cc in absurd no

pub if_false : {A : Type 0} (b : Bool) (x y : A) → b ≡ false → (if b then x else y) ≡ y
if_false true x y e = let no : ⊥ = cc in absurd no
if_false false x y e = refl

pub unequal : (x y : ℕ) → x ≢ y → (x == y) ≡ false
unequal x y f = by_cases (x == y) (λ e. absurd (f (eqb-true x y e))) (λ e. e)
