-- The counters, the reach of what is known and the number of places, after one instruction.
use Rattle.std.proofs.Common.{◌≡◌, ℕ, zero, suc, pred, max, ◌+◌, ◌-◌, ◌≤◌, ⊎_elim, cond, Bool, true, false, List, [], ◌∷◌, length, Option, Some, None, ℤ, pos, negsuc, ◌+ℤ◌, refl, sym, ap, ◌∙◌, subst, arith, eqb-true}
use Rattle.std.proofs.lemmas.Bool.Decides.{leb_tells}
use Rattle.j1_simulator.specs.declared.effects.NewTop.{NewTop}
use Rattle.j1_simulator.specs.declared.effects.NewTop.TheVariants.{Number, Operation}
use Rattle.j1_simulator.specs.declared.effects.ReturnWrite.{ReturnWrite}
use Rattle.j1_simulator.specs.declared.effects.ReturnWrite.TheVariants.{Nothing, OldTop, ReturnTo}
use Rattle.j1_simulator.specs.Step.{operated, new_top_of, data_after, return_after}
use Rattle.j1_simulator.specs.OpenMachine.{Tape, top_cell, rest, open_storage}
use Rattle.word_laws.specs.Rings.{KnownWithin, WritesAbove, writes_return}
use Rattle.word_laws.proofs.Walk.{counted_to, pops, data_height, return_height, has_place}

-- counters
pub counter_moves : (move : ℤ) (r k k' : ℕ) → counted_to move k ≡ Some k' → pos (r + k) +ℤ move ≡ pos (r + k')
counter_moves (pos m) r k k' e = let q : k + m ≡ k' = cc in ap pos (omega arith)
counter_moves (negsuc m) r k k' e =
    ⊎_elim
    (λ t. let q : Some (k - suc m) ≡ Some k' = ap (λ b. cond b (Some (k - suc m)) None) (sym t.0) ∙ e in
    let q' : k - suc m ≡ k' = cc in
    ⊎_elim (λ u. absurd (omega (arith, t.1, u.1))) (λ u. ap (λ b. cond b (negsuc (suc m - suc (r + k))) (pos (r + k - suc m))) u.0 ∙ ap pos (omega (arith, t.1, q'))) (leb_tells (suc (r + k)) (suc m)))
    (λ t. let q : None ≡ Some k' = ap (λ b. cond b (Some (k - suc m)) None) (sym t.0) ∙ e in cc)
    (leb_tells (suc m) k)

-- how far down known cells reach
pub height_le : (h h' : ℕ) (cells : List (Option ℕ)) → h ≤ h' → KnownWithin h cells → KnownWithin h' cells
height_le h zero [] le k = tt
height_le h (suc h') [] le k = tt
height_le zero zero (c ∷ cells) le k = k
height_le zero (suc h') (c ∷ cells) le k = height_le zero h' cells (omega arith) k.1
height_le (suc h) zero (c ∷ cells) le k = absurd (omega arith)
height_le (suc h) (suc h') (c ∷ cells) le k = height_le h h' cells (omega arith) k

height_rest : (h : ℕ) (cells : List (Option ℕ)) → KnownWithin h cells → KnownWithin (pred h) (rest cells)
height_rest zero [] k = tt
height_rest (suc zero) [] k = tt
height_rest (suc (suc h)) [] k = tt
height_rest zero (c ∷ cells) k = k.1
height_rest (suc h) (c ∷ cells) k = k

height_cons : (h : ℕ) (c : Option ℕ) (cells : List (Option ℕ)) → KnownWithin h cells → KnownWithin (suc h) (c ∷ cells)
height_cons h c cells k = k

height_first : (h : ℕ) (cells : List (Option ℕ)) → KnownWithin h cells → KnownWithin h (top_cell cells ∷ rest cells)
height_first zero [] k = (refl, tt)
height_first (suc zero) [] k = tt
height_first (suc (suc h)) [] k = tt
height_first h (c ∷ cells) k = k

pub data_moves : (pop writes : Bool) (move : ℤ) (r x x' : ℕ) (t v : Option ℕ) (tape : Tape) → data_height pop writes move x ≡ Some x' →
    (pop ≡ true → v ≡ top_cell tape.below) → KnownWithin (r + x) (t ∷ tape.below) →
    KnownWithin (r + x') (v ∷ (data_after open_storage writes move t tape).below)
data_moves pop true (pos (suc zero)) r x x' t v tape e n h =
    let q : suc x ≡ x' = cc in height_le (suc (r + x)) (r + x') (v ∷ t ∷ tape.below) (omega arith) (height_cons (r + x) v (t ∷ tape.below) h)
data_moves true true (pos zero) r x x' t v tape e n h = stay_write r x x' t v tape (some_is (max 2 x) x' e) h
  where
    some_is : (a b : ℕ) → Some a ≡ Some b → a ≡ b
    some_is a b q = cc

    stay_write : (r x x' : ℕ) (t v : Option ℕ) (tape : Tape) → max 2 x ≡ x' → KnownWithin (r + x) (t ∷ tape.below) → KnownWithin (r + x') (v ∷ t ∷ rest tape.below)
    stay_write r x x' t v tape q h = height_le (suc (suc (pred (pred (r + x))))) (r + x') (v ∷ t ∷ rest tape.below) (omega arith) (height_rest (pred (r + x)) tape.below (height_rest (r + x) (t ∷ tape.below) h))
data_moves false true (pos zero) r x x' t v tape e n h =
    let q : max 2 x ≡ x' = cc in height_le (suc (suc (pred (pred (r + x))))) (r + x') (v ∷ t ∷ rest tape.below) (omega arith) (height_rest (pred (r + x)) tape.below (height_rest (r + x) (t ∷ tape.below) h))
data_moves true false (pos zero) r x x' t v tape e n h =
    let q : max 1 x ≡ x' = cc in height_le (suc (pred (r + x))) (r + x') (v ∷ tape.below) (omega arith) (height_rest (r + x) (t ∷ tape.below) h)
data_moves false false (pos zero) r x x' t v tape e n h =
    let q : max 1 x ≡ x' = cc in height_le (suc (pred (r + x))) (r + x') (v ∷ tape.below) (omega arith) (height_rest (r + x) (t ∷ tape.below) h)
data_moves true false (negsuc zero) r x x' t v tape e n h =
    let q : pred x ≡ x' = cc in
    subst (λ z. KnownWithin (r + x') (z ∷ rest tape.below)) (sym (n refl))
    (height_le (pred (r + x)) (r + x') (top_cell tape.below ∷ rest tape.below) (omega arith) (height_first (pred (r + x)) tape.below (height_rest (r + x) (t ∷ tape.below) h)))
data_moves false false (negsuc zero) r x x' t v tape e n h =
    let q : max 1 (pred x) ≡ x' = cc in height_le (suc (pred (pred (r + x)))) (r + x') (v ∷ rest tape.below) (omega arith) (height_rest (pred (r + x)) tape.below (height_rest (r + x) (t ∷ tape.below) h))
data_moves pop writes move r x x' t v tape e n h = let q : None ≡ Some x' = e in cc

pub data_covers : (pop writes : Bool) (move : ℤ) (x x' : ℕ) → data_height pop writes move x ≡ Some x' → WritesAbove move writes
data_covers true true (pos (suc zero)) x x' e = refl
data_covers false true (pos (suc zero)) x x' e = refl
data_covers true true (pos zero) x x' e = tt
data_covers false true (pos zero) x x' e = tt
data_covers true false (pos zero) x x' e = tt
data_covers false false (pos zero) x x' e = tt
data_covers true false (negsuc zero) x x' e = tt
data_covers false false (negsuc zero) x x' e = tt
data_covers true writes move x x' e = let q : None ≡ Some x' = e in cc
data_covers false writes move x x' e = let q : None ≡ Some x' = e in cc

writes_move : (writes : Bool) (move : ℤ) (r y y' : ℕ) (t : Option ℕ) (tape : Tape) → return_height writes move y ≡ Some y' → KnownWithin (r + y) tape.below → KnownWithin (r + y') (data_after open_storage writes move t tape).below
writes_move true (pos (suc zero)) r y y' t tape e h = let q : suc y ≡ y' = cc in height_le (suc (r + y)) (r + y') (t ∷ tape.below) (omega arith) (height_cons (r + y) t tape.below h)
writes_move true (pos zero) r y y' t tape e h = let q : max 1 y ≡ y' = cc in height_le (suc (pred (r + y))) (r + y') (t ∷ rest tape.below) (omega arith) (height_rest (r + y) tape.below h)
writes_move false (pos zero) r y y' t tape e h = let q : y ≡ y' = cc in height_le (r + y) (r + y') tape.below (omega arith) h
writes_move false (negsuc zero) r y y' t tape e h = let q : pred y ≡ y' = cc in height_le (pred (r + y)) (r + y') (rest tape.below) (omega arith) (height_rest (r + y) tape.below h)
writes_move writes move r y y' t tape e h = let q : None ≡ Some y' = e in cc

pub return_moves : (w : ReturnWrite) (move : ℤ) (r y y' : ℕ) (t : Option ℕ) (tape : Tape) → return_height (writes_return w) move y ≡ Some y' →
    KnownWithin (r + y) tape.below → KnownWithin (r + y') (return_after open_storage w move t tape).below
return_moves Nothing move r y y' t tape e h = writes_move false move r y y' t tape e h
return_moves OldTop move r y y' t tape e h = writes_move true move r y y' t tape e h
return_moves (ReturnTo a) move r y y' t tape e h = writes_move true move r y y' (Some a) tape e h

pub return_covers : (writes : Bool) (move : ℤ) (y y' : ℕ) → return_height writes move y ≡ Some y' → WritesAbove move writes
return_covers true (pos (suc zero)) y y' e = refl
return_covers true (pos zero) y y' e = tt
return_covers false (pos zero) y y' e = tt
return_covers false (negsuc zero) y y' e = tt
return_covers writes move y y' e = let q : None ≡ Some y' = e in cc

-- how many places there are
counted_down : (k k' : ℕ) → counted_to (negsuc zero) k ≡ Some k' → k ≡ suc k'
counted_down k k' e =
    ⊎_elim
    (λ t. let q : Some (k - 1) ≡ Some k' = ap (λ b. cond b (Some (k - 1)) None) (sym t.0) ∙ e in
    let q' : k - 1 ≡ k' = cc in omega (arith, t.1, q'))
    (λ t. let q : None ≡ Some k' = ap (λ b. cond b (Some (k - 1)) None) (sym t.0) ∙ e in cc)
    (leb_tells 1 k)

size_rest : (cells : List (Option ℕ)) (n : ℕ) → length cells ≡ suc n → length (rest cells) ≡ n
size_rest [] n e = omega arith
size_rest (c ∷ cells) n e = omega arith

pub size_moves : (writes : Bool) (move : ℤ) (r k k' : ℕ) (y y' : ℕ) (t : Option ℕ) (tape : Tape) → return_height writes move y ≡ Some y' →
    counted_to move k ≡ Some k' → has_place writes move k ≡ true → length tape.below ≡ r + k →
    length (data_after open_storage writes move t tape).below ≡ r + k'
size_moves true (pos (suc zero)) r k k' y y' t tape h e p s = let q : k + 1 ≡ k' = cc in omega (arith, s)
size_moves true (pos zero) r zero k' y y' t tape h e p s = cc
size_moves true (pos zero) r (suc k) k' y y' t tape h e p s = let q : suc k + 0 ≡ k' = cc in omega (arith, size_rest tape.below (r + k) (omega (arith, s)))
size_moves false (pos zero) r k k' y y' t tape h e p s = let q : k + 0 ≡ k' = cc in omega (arith, s)
size_moves false (negsuc zero) r k k' y y' t tape h e p s = size_rest tape.below (r + k') (omega (arith, s, counted_down k k' e))
size_moves writes move r k k' y y' t tape h e p s = let q : None ≡ Some y' = h in cc

-- what is asked of the data stack is asked of the return stack
pub as_return : (pop writes : Bool) (move : ℤ) (x x' : ℕ) → data_height pop writes move x ≡ Some x' → (y' : ℕ) × (return_height writes move x ≡ Some y')
as_return true true (pos (suc zero)) x x' e = (_, refl)
as_return false true (pos (suc zero)) x x' e = (_, refl)
as_return true true (pos zero) x x' e = (_, refl)
as_return false true (pos zero) x x' e = (_, refl)
as_return true false (pos zero) x x' e = (_, refl)
as_return false false (pos zero) x x' e = (_, refl)
as_return true false (negsuc zero) x x' e = (_, refl)
as_return false false (negsuc zero) x x' e = (_, refl)
as_return true writes move x x' e = let q : None ≡ Some x' = e in cc
as_return false writes move x x' e = let q : None ≡ Some x' = e in cc

pub return_size_moves : (w : ReturnWrite) (move : ℤ) (r k k' y y' : ℕ) (t : Option ℕ) (tape : Tape) → return_height (writes_return w) move y ≡ Some y' →
    counted_to move k ≡ Some k' → has_place (writes_return w) move k ≡ true → length tape.below ≡ r + k →
    length (return_after open_storage w move t tape).below ≡ r + k'
return_size_moves Nothing move r k k' y y' t tape h e p s = size_moves false move r k k' y y' t tape h e p s
return_size_moves OldTop move r k k' y y' t tape h e p s = size_moves true move r k k' y y' t tape h e p s
return_size_moves (ReturnTo a) move r k k' y y' t tape h e p s = size_moves true move r k k' y y' (Some a) tape h e p s

-- a pop takes N
pub pop_takes : (a : NewTop) (t n r c : Option ℕ) (depth : ℕ) → pops a ≡ true → new_top_of open_storage a t n r c depth ≡ n
pop_takes (Number x) t n r c depth e = cc
pop_takes (Operation op) t n r c depth e = sym (subst (λ o. n ≡ operated open_storage o t n r c depth) (sym (eqb-true op 1 e)) refl)
