-- A tape and a ring, moved and written alike.
use Rattle.std.proofs.Common.{◌≡◌, ℕ, zero, suc, ◌+◌, ◌-◌, ◌%◌, ◌<◌, ◌≤◌, ◌==◌, Bool, true, false, ◌⊎◌, inl, inr, ⊎_elim, cond, List, [], ◌∷◌, length, get_or, Option, None, ℤ, pos, negsuc, ◌+ℤ◌, refl, sym, ap, ◌∙◌, subst, arith, length-set}
use Rattle.std.specs.Prelude.{slice_index, slice_set}
use Rattle.std.proofs.Math.IntN.{sub_ℕ}
use Rattle.std.proofs.lemmas.Bool.{cases_lt}
use Rattle.std.proofs.lemmas.Bool.Decides.{leb_tells, nat_tests}
use Rattle.std.proofs.lemmas.List.{get_or-set_same, get_or-set_other}
use Rattle.j1_simulator.specs.OpenMachine.{Tape, top_cell, rest, tape_moved, tape_put}
use Rattle.j1_simulator.specs.RoundMachine.{RingCells, around, ring_moved, ring_put}
use Rattle.word_laws.specs.Rings.{KnownWithin, CellAgrees, StackAgrees, place_below, kept_below}

-- a difference of numbers modulo 32
around_sub : (a b : ℕ) → ((a < b) × (around (sub_ℕ a b) ≡ 31 - (b - suc a) % 32)) ⊎ ((b ≤ a) × (around (sub_ℕ a b) ≡ (a - b) % 32))
around_sub a b =
    ⊎_elim
    (λ t. inl (omega (arith, t.1), ap (λ x. around (cond x (negsuc (b - suc a)) (pos (a - b)))) t.0))
    (λ t. inr (omega (arith, t.1), ap (λ x. around (cond x (negsuc (b - suc a)) (pos (a - b)))) t.0))
    (leb_tells (suc a) b)

-- moves modulo 32
around_down : (z : ℤ) → around (z +ℤ negsuc 0) ≡ (around z + 31) % 32
around_down (pos n) = ⊎_elim (λ t. t.1 ∙ omega (arith, t.0)) (λ t. t.1 ∙ omega (arith, t.0)) (around_sub n 1)
around_down (negsuc n) = omega arith

around_down_twice : (z : ℤ) → around (z +ℤ negsuc 1) ≡ (around z + 30) % 32
around_down_twice (pos n) = ⊎_elim (λ t. t.1 ∙ omega (arith, t.0)) (λ t. t.1 ∙ omega (arith, t.0)) (around_sub n 2)
around_down_twice (negsuc n) = omega arith

around_up : (z : ℤ) → around (z +ℤ pos 1) ≡ (around z + 1) % 32
around_up (pos n) = omega arith
around_up (negsuc n) = ⊎_elim (λ t. t.1 ∙ omega (arith, t.0)) (λ t. t.1 ∙ omega (arith, t.0)) (around_sub 1 (suc n))

around_still : (z : ℤ) → around (z +ℤ pos 0) ≡ around z
around_still (pos n) = omega arith
around_still (negsuc n) = ⊎_elim (λ t. t.1 ∙ omega (arith, t.0)) (λ t. t.1 ∙ omega (arith, t.0)) (around_sub 0 (suc n))

pub nth_first : (cells : List (Option ℕ)) → get_or cells 0 None ≡ top_cell cells
nth_first [] = refl
nth_first (c ∷ cells) = refl

nth_rest : (cells : List (Option ℕ)) (j : ℕ) → get_or (rest cells) j None ≡ get_or cells (suc j) None
nth_rest [] zero = refl
nth_rest [] (suc j) = refl
nth_rest (c ∷ cells) j = refl

none_at : (h : ℕ) (cells : List (Option ℕ)) (j : ℕ) → KnownWithin h cells → h ≤ j → get_or cells j None ≡ None
none_at h [] zero k le = refl
none_at h [] (suc j) k le = refl
none_at zero (c ∷ cells) zero k le = k.0
none_at zero (c ∷ cells) (suc j) k le = none_at zero cells j k.1 (omega arith)
none_at (suc h) (c ∷ cells) zero k le = absurd (omega arith)
none_at (suc h) (c ∷ cells) (suc j) k le = none_at h cells j k (omega arith)

pub is_or_none : (x y : Option ℕ) (n m : ℕ) → x ≡ y → n ≡ m → CellAgrees x n → CellAgrees y m
is_or_none x y n m e f h = subst (λ a. CellAgrees a m) e (subst (λ b. CellAgrees x b) f h)

-- the pointer goes down
pub down_agrees : (tape : Tape) (ring : RingCells) → StackAgrees tape ring → KnownWithin 32 tape.below → StackAgrees (tape_moved (negsuc 0) tape) (ring_moved (negsuc 0) ring)
down_agrees tape ring s h =
    let a : around (pos ring.at +ℤ negsuc 0) ≡ (ring.at + 31) % 32 = around_down (pos ring.at) ∙ omega (arith, s.low) in
    let b : around (tape.at +ℤ negsuc 0) ≡ (ring.at + 31) % 32 = around_down tape.at ∙ omega (arith, s.at) in
    record {
      at = a ∙ sym b;
      size = s.size;
      low = omega (arith, a);
      cells = λ j lt. ⊎_elim
          (λ small. is_or_none _ _ _ _ (sym (nth_rest tape.below j)) (ap (slice_index ring.cells) (omega (arith, a, s.low))) (s.cells (suc j) small))
          (λ last. subst (λ x. CellAgrees x (slice_index ring.cells (place_below j (ring_moved (negsuc 0) ring)))) (sym (none_at 32 tape.below (suc j) h last) ∙ sym (nth_rest tape.below j)) tt)
          (cases_lt (suc j) 32);
    }

-- the pointer goes down by two
pub down_twice_agrees : (tape : Tape) (ring : RingCells) → StackAgrees tape ring → KnownWithin 32 tape.below → StackAgrees (tape_moved (negsuc 1) tape) (ring_moved (negsuc 1) ring)
down_twice_agrees tape ring s h =
    let a : around (pos ring.at +ℤ negsuc 1) ≡ (ring.at + 30) % 32 = around_down_twice (pos ring.at) ∙ omega (arith, s.low) in
    let b : around (tape.at +ℤ negsuc 1) ≡ (ring.at + 30) % 32 = around_down_twice tape.at ∙ omega (arith, s.at) in
    record {
      at = a ∙ sym b;
      size = s.size;
      low = omega (arith, a);
      cells = λ j lt. ⊎_elim
          (λ small. is_or_none _ _ _ _ (sym (nth_rest tape.below (suc j)) ∙ sym (nth_rest (rest tape.below) j)) (ap (slice_index ring.cells) (omega (arith, a, s.low))) (s.cells (suc (suc j)) small))
          (λ last.
          subst (λ x. CellAgrees x (slice_index ring.cells (place_below j (ring_moved (negsuc 1) ring))))
          (sym (none_at 32 tape.below (suc (suc j)) h last) ∙ sym (nth_rest tape.below (suc j)) ∙ sym (nth_rest (rest tape.below) j)) tt)
          (cases_lt (suc (suc j)) 32);
    }

-- the pointer stays
pub still_agrees : (tape : Tape) (ring : RingCells) → StackAgrees tape ring → StackAgrees (tape_moved (pos 0) tape) (ring_moved (pos 0) ring)
still_agrees tape ring s =
    let a : around (pos ring.at +ℤ pos 0) ≡ ring.at = around_still (pos ring.at) ∙ omega (arith, s.low) in
    record { at = a ∙ s.at ∙ sym (around_still tape.at); size = s.size; low = omega (arith, a, s.low); cells = λ j lt. is_or_none _ _ _ _ refl (ap (slice_index ring.cells) (omega (arith, a))) (s.cells j lt) }

-- a write at the pointer
pub put_agrees : (tape : Tape) (ring : RingCells) (c : Option ℕ) (x : ℕ) → CellAgrees c x → StackAgrees tape ring → StackAgrees (tape_put c tape) (ring_put x ring)
put_agrees tape ring c x k s =
    record {
      at = s.at;
      size = length-set ring.cells ring.at x ∙ s.size;
      low = s.low;
      cells = cells;
    }
  where
    cells : (j : ℕ) → j < 32 → CellAgrees (get_or (c ∷ rest tape.below) j None) (slice_index (slice_set ring.cells ring.at x) (place_below j ring))
    cells zero lt = is_or_none _ _ _ _ refl (sym (get_or-set_same ring.cells ring.at x 0 (omega (arith, s.low, s.size))) ∙ ap (slice_index (slice_set ring.cells ring.at x)) (omega (arith, s.low))) k
    cells (suc j) lt = is_or_none _ _ _ _ (sym (nth_rest tape.below j)) (sym (get_or-set_other ring.cells ring.at (place_below (suc j) ring) x 0 (λ e. omega (arith, s.low, e, lt)))) (s.cells (suc j) lt)

-- the pointer goes up to a place that is written
pub up_agrees : (tape : Tape) (ring : RingCells) (c : Option ℕ) (x : ℕ) → CellAgrees c x → StackAgrees tape ring → StackAgrees (tape_put c (tape_moved (pos 1) tape)) (ring_put x (ring_moved (pos 1) ring))
up_agrees tape ring c x k s =
    let a : around (pos ring.at +ℤ pos 1) ≡ (ring.at + 1) % 32 = around_up (pos ring.at) ∙ omega (arith, s.low) in
    let b : around (tape.at +ℤ pos 1) ≡ (ring.at + 1) % 32 = around_up tape.at ∙ omega (arith, s.at) in
    record {
      at = a ∙ sym b;
      size = length-set ring.cells _ x ∙ s.size;
      low = omega (arith, a);
      cells = cells a;
    }
  where
    cells : around (pos ring.at +ℤ pos 1) ≡ (ring.at + 1) % 32 → (j : ℕ) → j < 32 →
        CellAgrees (get_or (c ∷ tape.below) j None)
        (slice_index (slice_set ring.cells (around (pos ring.at +ℤ pos 1)) x) ((around (pos ring.at +ℤ pos 1) + 32 - j) % 32))
    cells a zero lt =
        is_or_none _ _ _ _ refl
        (sym (get_or-set_same ring.cells (around (pos ring.at +ℤ pos 1)) x 0 (omega (arith, a, s.low, s.size)))
        ∙ ap (slice_index (slice_set ring.cells (around (pos ring.at +ℤ pos 1)) x)) (omega (arith, a, s.low))) k
    cells a (suc j) lt =
        is_or_none _ _ _ _ refl
        (ap (slice_index ring.cells) (omega (arith, a, s.low, lt)) ∙ sym (get_or-set_other ring.cells (around (pos ring.at +ℤ pos 1)) ((around (pos ring.at +ℤ pos 1) + 32 - suc j) % 32) x 0 (λ e. omega (arith, a, s.low, e, lt))))
        (s.cells j (omega arith))

-- ---- other cells in the places that are not kept

kept_size : (kept : ℕ) (ring : RingCells) (others : List ℕ) → length (kept_below kept ring others) ≡ length others
kept_size zero ring others = refl
kept_size (suc k) ring others = length-set (kept_below k ring others) (place_below k ring) (slice_index ring.cells (place_below k ring)) ∙ kept_size k ring others

is_kept : (kept : ℕ) (ring : RingCells) (others : List ℕ) (j : ℕ) → length others ≡ 32 → j < kept → slice_index (kept_below kept ring others) (place_below j ring) ≡ slice_index ring.cells (place_below j ring)
is_kept zero ring others j size lt = absurd (omega arith)
is_kept (suc k) ring others j size lt = by (place_below k ring == place_below j ring) refl (λ less. is_kept k ring others j size less)
  where
    before : List ℕ
    before = kept_below k ring others

    value : ℕ
    value = slice_index ring.cells (place_below k ring)

    by : (b : Bool) → (place_below k ring == place_below j ring) ≡ b → (j < k → slice_index before (place_below j ring) ≡ slice_index ring.cells (place_below j ring)) →
        slice_index (slice_set before (place_below k ring) value) (place_below j ring) ≡ slice_index ring.cells (place_below j ring)
    by true e later =
        let same : place_below k ring ≡ place_below j ring = grind (arith, nat_tests) in
        let inside : place_below k ring < length before = omega (arith, size, kept_size k ring others) in
        ap (slice_index (slice_set before (place_below k ring) value)) (sym same) ∙ get_or-set_same before (place_below k ring) value 0 inside ∙ ap (slice_index ring.cells) same
    by false e later =
        let other : place_below k ring ≡ place_below j ring → ⊥ = λ same. let f : (place_below k ring == place_below j ring) ≡ true = grind (arith, nat_tests) in let g : true ≡ false = sym f ∙ e in cc in
        let less : j < k = ⊎_elim (λ small. small) (λ large. absurd (other (ap (λ i. place_below i ring) (let is : k ≡ j = omega (arith, lt, large) in is)))) (cases_lt j k) in
        get_or-set_other before (place_below k ring) (place_below j ring) value 0 (λ same. other (sym same)) ∙ later less

pub others_agree : (kept : ℕ) (tape : Tape) (ring : RingCells) (above : List (Option ℕ)) (others : List ℕ) → length others ≡ 32 → KnownWithin kept tape.below → StackAgrees tape ring →
    StackAgrees (record tape { above = above }) (record ring { cells = kept_below kept ring others })
others_agree kept tape ring above others size within s = record {
  at = s.at;
  size = kept_size kept ring others ∙ size;
  low = s.low;
  cells = λ j lt. ⊎_elim
      (λ small. is_or_none _ _ _ _ refl (sym (is_kept kept ring others j size small)) (s.cells j lt))
      (λ large. subst (λ x. CellAgrees x (slice_index (kept_below kept ring others) (place_below j ring))) (sym (none_at kept tape.below j within large)) tt)
      (cases_lt j kept);
}
