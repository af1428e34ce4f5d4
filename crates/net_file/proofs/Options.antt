-- Options that are bound, and lines that are read one behind the other.
use Rattle.std.proofs.Common.{◌≡◌, ℕ, Bool, true, false, List, [], ◌∷◌, ◌++◌, Option, Some, None, refl, sym, ap, ◌∙◌}
use Rattle.j1_assembler.specs.Numbers.{◌>>=◌}
use Rattle.net_file.specs.Net.{NetRow}
use Rattle.net_file.specs.Reading.{NetReading, after_row, after_line}

-- where something is bound and found, it was found first
pub bound : {A B : Type 0} (o : Option A) (f : A → Option B) (y : B) → (o >>= f) ≡ Some y → (x : A) × (o ≡ Some x) × (f x ≡ Some y)
bound None f y e = cc
bound (Some x) f y e = (x, refl, e)

pub bind_none : {A B : Type 0} (o : Option A) (f : A → Option B) → o ≡ None → (o >>= f) ≡ None
bind_none None f e = refl
bind_none (Some x) f e = cc

pub bind_some : {A B : Type 0} (o : Option A) (x : A) (f : A → Option B) → o ≡ Some x → (o >>= f) ≡ f x
bind_some o x f e = ap (λ p. p >>= f) e

pub bind_same : {A B : Type 0} (o : Option A) (f g : A → Option B) → ((x : A) → f x ≡ g x) → (o >>= f) ≡ (o >>= g)
bind_same None f g h = refl
bind_same (Some x) f g h = h x

pub bind_assoc : {A B C : Type 0} (o : Option A) (f : A → Option B) (g : B → Option C) → ((o >>= f) >>= g) ≡ (o >>= (λ x. f x >>= g))
bind_assoc None f g = refl
bind_assoc (Some x) f g = refl

-- a test that chooses between something and nothing
pub chosen : {A : Type 0} (test : Bool) (x : Option A) (y : A) → (elim test [ true ↦ x | false ↦ None ]) ≡ Some y → (test ≡ true) × (x ≡ Some y)
chosen true x y e = (refl, e)
chosen false x y e = cc

-- the reading after lines, and after rows
abbrev pub after_lines : NetReading → List (List ℕ) → Option NetReading
after_lines reading [] = Some reading
after_lines reading (line ∷ lines) = after_line reading line >>= λ next. after_lines next lines

abbrev pub after_rows : NetReading → List NetRow → Option NetReading
after_rows reading [] = Some reading
after_rows reading (row ∷ rows) = after_row reading row >>= λ next. after_rows next rows

pub lines_append : (a b : List (List ℕ)) (reading : NetReading) → after_lines reading (a ++ b) ≡ (after_lines reading a >>= λ next. after_lines next b)
lines_append [] b reading = refl
lines_append (line ∷ a) b reading =
    bind_same (after_line reading line) (λ next. after_lines next (a ++ b)) (λ next. after_lines next a >>= λ last. after_lines last b) (lines_append a b)
    ∙ sym (bind_assoc (after_line reading line) (λ next. after_lines next a) (λ last. after_lines last b))
