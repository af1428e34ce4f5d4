-- The kernel's state behind a store, and where only some bytes have changed.
use Rattle.std.proofs.Common.{◌≡◌, ℕ, zero, suc, ◌+◌, ◌%◌, ◌≤◌, ◌<◌, Bool, true, false, ◌&&◌, ◌||◌, ◌==◌, if◌then◌else◌, List, [], ◌∷◌}
use Rattle.std.proofs.Common.{◌++◌, refl, ap₂, sym, ◌∙◌, arith, leb-true, eqb-true, eq-eqb}
use Rattle.std.specs.Prelude.{nat_lt, nat_le}
use Rattle.std.proofs.lemmas.Bool.{and_parts}
use Rattle.forth_program.specs.State.{World}
use Rattle.kernel_words.specs.Places.{base_cell, here_cell, length_cell, reached_cell, latest_cell, source_cell, error_cell}
use Rattle.kernel_words.specs.Memory.{IsDataSpace, data_cell, data_byte, data_bytes, with_data_cell}
use Rattle.kernel_words.proofs.Cases.{by_cases, if_true, if_false}
use Rattle.kernel_words.proofs.Memory.{after_store, cell_stored, cell_kept, byte_kept, cell_alike}
use Rattle.kernel_lines.specs.Places.{state_cell, new_cell, kept_here_cell, kept_latest_cell, first_here_cell, user_count_cell}
use Rattle.kernel_lines.specs.Places.{open_count_cell, leaves_cell, loops_cell, level_cell}
use Rattle.kernel_lines.specs.Places.{unknown_text, stack_text, long_text, full_text, well_text}
use Rattle.kernel_lines.specs.State.{KernelState, kernel_state, is_outside, is_cell_outside, are_outside, are_others_outside}
use Rattle.kernel_lines.specs.State.{is_state_outside, OnlyChanges}
use Rattle.kernel_lines.specs.Laws.{BytesStay, CellsStay, ChangesFollow, StatesStay, TextsStay}

-- a state by its cells
pub state_by : (w v : World) (s : KernelState) → data_cell v base_cell ≡ s.base → data_cell v here_cell ≡ s.here →
    data_cell v length_cell ≡ s.size → data_cell v reached_cell ≡ s.reached →
    data_cell v latest_cell ≡ s.latest → data_cell v source_cell ≡ s.start → data_cell v error_cell ≡ s.error →
    data_cell v state_cell ≡ s.compiling → data_cell v new_cell ≡ s.new →
    data_cell v kept_here_cell ≡ s.kept_here → data_cell v kept_latest_cell ≡ s.kept_latest → data_cell v first_here_cell ≡ s.first_here →
    data_cell v user_count_cell ≡ s.users →
    data_cell v open_count_cell ≡ s.opened → data_cell v leaves_cell ≡ s.leaves → data_cell v loops_cell ≡ s.loops →
    data_cell v level_cell ≡ s.level → kernel_state v ≡ s
state_by w v s a b c d e f g h i j k l m n o q r = rw (a, b, c, d, e, f, g, h, i, j, k, l, m, n, o, q, r) refl

-- ---- a store of a cell

-- an even address in data space
abbrev pub is_place : ℕ → Bool
is_place a = nat_le 8192 a && (nat_lt a 16384 && a % 2 == 0)

record Place (a : ℕ) : Type 0 where
  low : 8192 ≤ a
  high : a < 16384
  aligned : a % 2 ≡ 0

place_of : (a : ℕ) → is_place a ≡ true → Place a
place_of a e =
    let x = and_parts (nat_le 8192 a) _ e in
    let y = and_parts (nat_lt a 16384) _ x.1 in
    record { low = leb-true 8192 a x.0; high = leb-true (suc a) 16384 y.0; aligned = eqb-true _ _ y.1 }

pub field : (w : World) (a b x : ℕ) → IsDataSpace w → is_place a ≡ true → is_place b ≡ true →
    data_cell (with_data_cell a x w) b ≡ (if a == b then x else data_cell w b)
field w a b x h p q =
    let pa = place_of a p in
    let pb = place_of b q in
    let la = pa.low in
    let lb = pb.low in
    let ea = pa.aligned in
    let eb = pb.aligned in
    by_cases (a == b)
    (λ e. let same : a ≡ b = eqb-true a b e in cell_stored w a b x h la pa.high (omega (arith, same))
    ∙ sym (if_true (a == b) x (data_cell w b) e))
    (λ e. cell_kept w a b x la lb (λ f. let t : (a == b) ≡ true = eq-eqb a b (omega (arith, f, ea, eb)) in let no : ⊥ = cc in absurd no)
    ∙ sym (if_false (a == b) x (data_cell w b) e))

abbrev pub stored_state : ℕ → ℕ → KernelState → KernelState
stored_state a x s = record {
  base = if a == base_cell then x else s.base;
  here = if a == here_cell then x else s.here;
  size = if a == length_cell then x else s.size;
  reached = if a == reached_cell then x else s.reached;
  latest = if a == latest_cell then x else s.latest;
  start = if a == source_cell then x else s.start;
  error = if a == error_cell then x else s.error;
  compiling = if a == state_cell then x else s.compiling;
  new = if a == new_cell then x else s.new;
  kept_here = if a == kept_here_cell then x else s.kept_here;
  kept_latest = if a == kept_latest_cell then x else s.kept_latest;
  first_here = if a == first_here_cell then x else s.first_here;
  users = if a == user_count_cell then x else s.users;
  opened = if a == open_count_cell then x else s.opened;
  leaves = if a == leaves_cell then x else s.leaves;
  loops = if a == loops_cell then x else s.loops;
  level = if a == level_cell then x else s.level;
}

pub state_stored : (w : World) (a x : ℕ) → IsDataSpace w → is_place a ≡ true →
    kernel_state (with_data_cell a x w) ≡ stored_state a x (kernel_state w)
state_stored w a x h p = state_by w (with_data_cell a x w) (stored_state a x (kernel_state w))
    (field w a base_cell x h p refl) (field w a here_cell x h p refl) (field w a length_cell x h p refl) (field w a reached_cell x h p refl)
    (field w a latest_cell x h p refl)
    (field w a source_cell x h p refl) (field w a error_cell x h p refl) (field w a state_cell x h p refl) (field w a new_cell x h p refl)
    (field w a kept_here_cell x h p refl)
    (field w a kept_latest_cell x h p refl) (field w a first_here_cell x h p refl) (field w a user_count_cell x h p refl)
    (field w a open_count_cell x h p refl)
    (field w a leaves_cell x h p refl) (field w a loops_cell x h p refl) (field w a level_cell x h p refl)

-- ---- ranges

pub record OutOf (a first size : ℕ) (ranges : List (ℕ × ℕ)) : Type 0 where
  pub here : (first + size ≤ a → ⊥) → a < first
  pub rest : is_outside a ranges ≡ true

or_parts : (x y : Bool) → (x || y) ≡ true → (y ≡ true → ⊥) → x ≡ true
or_parts true y e f = refl
or_parts false true e f = absurd (f refl)
or_parts false false e f = absurd cc

pub out_of : (a first size : ℕ) (ranges : List (ℕ × ℕ)) → is_outside a ((first, size) ∷ ranges) ≡ true → OutOf a first size ranges
out_of a first size ranges e =
    let x = and_parts (nat_lt a first || nat_le (first + size) a) (is_outside a ranges) e in
    record {
      here = λ no. leb-true (suc a) first (or_parts (nat_lt a first) (nat_le (first + size) a) x.0
          (λ f. no (leb-true (first + size) a f)));
      rest = x.1;
    }

pub outside_first : (a : ℕ) (xs ys : List (ℕ × ℕ)) → is_outside a (xs ++ ys) ≡ true → is_outside a xs ≡ true
outside_first a [] ys e = refl
outside_first a (x ∷ xs) ys e =
    let both = and_parts (nat_lt a x.0 || nat_le (x.0 + x.1) a) (is_outside a (xs ++ ys)) e in
    ap₂ (λ s t. s && t) both.0 (outside_first a xs ys both.1)

pub outside_rest : (a : ℕ) (xs ys : List (ℕ × ℕ)) → is_outside a (xs ++ ys) ≡ true → is_outside a ys ≡ true
outside_rest a [] ys e = e
outside_rest a (x ∷ xs) ys e = outside_rest a xs ys (and_parts (nat_lt a x.0 || nat_le (x.0 + x.1) a) (is_outside a (xs ++ ys)) e).1

-- nothing has changed
pub unchanged : (ranges : List (ℕ × ℕ)) (w : World) → IsDataSpace w → OnlyChanges ranges w w
unchanged ranges w h = record { space = h; kept = λ a low out. refl }

-- one change and then another
pub changes_then : (xs ys : List (ℕ × ℕ)) (u v w : World) → OnlyChanges xs u v → OnlyChanges ys v w → OnlyChanges (xs ++ ys) u w
changes_then xs ys u v w f g = record {
  space = g.space;
  kept = λ a low out. g.kept a low (outside_rest a xs ys out) ∙ f.kept a low (outside_first a xs ys out);
}

-- what may change in more ranges
pub changes_before : (xs ys : List (ℕ × ℕ)) (v w : World) → OnlyChanges xs v w → OnlyChanges (xs ++ ys) v w
changes_before xs ys v w f = record { space = f.space; kept = λ a low out. f.kept a low (outside_first a xs ys out) }

pub changes_behind : (xs ys : List (ℕ × ℕ)) (v w : World) → OnlyChanges ys v w → OnlyChanges (xs ++ ys) v w
changes_behind xs ys v w f = record { space = f.space; kept = λ a low out. f.kept a low (outside_rest a xs ys out) }

-- the same changes within the ranges, one behind the other
pub changes_more : (xs : List (ℕ × ℕ)) (u v w : World) → OnlyChanges xs u v → OnlyChanges xs v w → OnlyChanges xs u w
changes_more xs u v w f g = record { space = g.space; kept = λ a low out. g.kept a low out ∙ f.kept a low out }

-- a store of a cell
pub cell_changes : (w : World) (a x : ℕ) → IsDataSpace w → x < 65536 → is_place a ≡ true →
    OnlyChanges ((a, 2) ∷ []) w (with_data_cell a x w)
cell_changes w a x h f p = record {
  space = (after_store w a x h f).space;
  kept = λ b low out.
      let pa = place_of a p in
      let la = pa.low in
      let ea = pa.aligned in
      let o = out_of b a 2 [] out in
      byte_kept w a b x la low (λ e. let less = o.here (λ more. omega (arith, more, e, ea)) in omega (arith, less, e, ea));
}

-- ---- what is outside is kept

pub cell_outside : (ranges : List (ℕ × ℕ)) (w v : World) (a : ℕ) → OnlyChanges ranges w v → is_cell_outside a ranges ≡ true →
    data_cell v a ≡ data_cell w a
cell_outside ranges w v a f e =
    let x = and_parts (nat_le 8192 a) _ e in
    let y = and_parts (a % 2 == 0) _ x.1 in
    let z = and_parts (is_outside a ranges) _ y.1 in
    let low : 8192 ≤ a = leb-true 8192 a x.0 in
    cell_alike v w a (eqb-true _ _ y.0) (f.kept a low z.0) (f.kept (suc a) (omega (arith, low)) z.1)

pub bytes_outside : (ranges : List (ℕ × ℕ)) (w v : World) (n a : ℕ) → OnlyChanges ranges w v → are_outside n a ranges ≡ true →
    data_bytes v n a ≡ data_bytes w n a
bytes_outside ranges w v zero a f e = refl
bytes_outside ranges w v (suc n) a f e =
    let x = and_parts (nat_le 8192 a) _ e in
    let y = and_parts (is_outside a ranges) _ x.1 in
    ap₂ (λ b bs. b ∷ bs) (f.kept a (leb-true 8192 a x.0) y.0) (bytes_outside ranges w v n (suc a) f y.1)

-- bytes that are alike one by one
pub bytes_alike : (w v : World) (n a : ℕ) → ((b : ℕ) → a ≤ b → b < a + n → data_byte v b ≡ data_byte w b) →
    data_bytes v n a ≡ data_bytes w n a
bytes_alike w v zero a f = refl
bytes_alike w v (suc n) a f = ap₂ (λ b bs. b ∷ bs) (f a (omega arith) (omega arith))
    (bytes_alike w v n (suc a) (λ b low high. f b (omega (arith, low)) (omega (arith, high))))

-- the state where >IN alone may have changed
pub state_but_reached : (ranges : List (ℕ × ℕ)) (w v : World) (x : ℕ) → OnlyChanges ((reached_cell, 2) ∷ ranges) w v →
    data_cell v reached_cell ≡ x → are_others_outside ranges ≡ true →
    kernel_state v ≡ record (kernel_state w) { reached = x }
state_but_reached ranges w v x f e o =
    let a1 = and_parts _ _ o in let a2 = and_parts _ _ a1.1 in let a3 = and_parts _ _ a2.1 in let a5 = and_parts _ _ a3.1 in
    let a6 = and_parts _ _ a5.1 in let a7 = and_parts _ _ a6.1 in let a8 = and_parts _ _ a7.1 in let a9 = and_parts _ _ a8.1 in
    let a10 = and_parts _ _ a9.1 in
    let a11 = and_parts _ _ a10.1 in let a12 = and_parts _ _ a11.1 in let a13 = and_parts _ _ a12.1 in let a14 = and_parts _ _ a13.1 in
    let a15 = and_parts _ _ a14.1 in
    let a16 = and_parts _ _ a15.1 in
    state_by w v (record (kernel_state w) { reached = x })
    (at base_cell refl a1.0) (at here_cell refl a2.0) (at length_cell refl a3.0) e (at latest_cell refl a5.0) (at source_cell refl a6.0)
    (at error_cell refl a7.0)
    (at state_cell refl a8.0) (at new_cell refl a9.0) (at kept_here_cell refl a10.0) (at kept_latest_cell refl a11.0)
    (at first_here_cell refl a12.0) (at user_count_cell refl a13.0)
    (at open_count_cell refl a14.0) (at leaves_cell refl a15.0) (at loops_cell refl a16.0) (at level_cell refl a16.1)
  where
    at : (a : ℕ) → is_cell_outside a ((reached_cell, 2) ∷ []) ≡ true → is_cell_outside a ranges ≡ true → data_cell v a ≡ data_cell w a
    at a t q =
        let x1 = and_parts (nat_le 8192 a) _ q in
        let x2 = and_parts (a % 2 == 0) _ x1.1 in
        let x3 = and_parts (is_outside a ranges) _ x2.1 in
        let y1 = and_parts (nat_le 8192 a) _ t in
        let y2 = and_parts (a % 2 == 0) _ y1.1 in
        let y3 = and_parts (is_outside a ((reached_cell, 2) ∷ [])) _ y2.1 in
        let low : 8192 ≤ a = leb-true 8192 a x1.0 in
        cell_alike v w a (eqb-true _ _ x2.0) (f.kept a low (ap₂ (λ s t. s && t) (and_parts _ _ y3.0).0 x3.0))
        (f.kept (suc a) (omega (arith, low)) (ap₂ (λ s t. s && t) (and_parts _ _ y3.1).0 x3.1))

pub state_outside : (ranges : List (ℕ × ℕ)) (w v : World) → OnlyChanges ranges w v → is_state_outside ranges ≡ true →
    kernel_state v ≡ kernel_state w
state_outside ranges w v f o =
    let both = and_parts (is_cell_outside reached_cell ranges) (are_others_outside ranges) o in
    state_but_reached ranges w v (data_cell w reached_cell)
    (record { space = f.space; kept = λ a low out. f.kept a low (out_of a reached_cell 2 ranges out).rest })
    (cell_outside ranges w v reached_cell f both.0) both.1

-- ---- the laws of what stays
pub cells_stay : CellsStay
cells_stay ranges w v a f e = cell_outside ranges w v a f e

pub bytes_stay : BytesStay
bytes_stay ranges w v n a f e = bytes_outside ranges w v n a f e

pub states_stay : StatesStay
states_stay ranges w v f e = state_outside ranges w v f e

pub changes_follow : ChangesFollow
changes_follow xs ys u v w f g = changes_then xs ys u v w f g

pub texts_stay : TextsStay
texts_stay ranges w v f e t =
    let a1 = and_parts (are_outside 2 unknown_text ranges) _ e in
    let a2 = and_parts (are_outside 8 stack_text ranges) _ a1.1 in
    let a3 = and_parts (are_outside 15 long_text ranges) _ a2.1 in
    let a4 = and_parts (are_outside 7 full_text ranges) _ a3.1 in
    record {
      unknown = bytes_outside ranges w v 2 unknown_text f a1.0 ∙ t.unknown;
      stack = bytes_outside ranges w v 8 stack_text f a2.0 ∙ t.stack;
      long = bytes_outside ranges w v 15 long_text f a3.0 ∙ t.long;
      full = bytes_outside ranges w v 7 full_text f a4.0 ∙ t.full;
      well = bytes_outside ranges w v 3 well_text f a4.1 ∙ t.well;
    }
