-- <# HOLD SIGN # #>
use Rattle.std.proofs.Common.{◌≡◌, ℕ, suc, ◌+◌, ◌*◌, ◌/◌, ◌%◌, ◌≤◌, ◌<◌, Bool, true, false, ◌&&◌, nat_le, if◌then◌else◌, List, [], ◌∷◌, refl, ap, sym, ◌∙◌, arith, leb-true, leb-false, ltb-false, lt-ltb, le-ltb}
use Rattle.std.specs.Prelude.{nat_lt, int_lt, pos, Some}
use Rattle.std.proofs.Math.Nat.{div-add-mod, mod-lt}
use Rattle.cell_math.specs.Cell.{sum_of, difference_of, signed, double}
use Rattle.cell_math.specs.Divisions.{unsigned_division}
use Rattle.word_table.specs.declared.word.Word.TheVariants.{LessSharp, Hold, Sign, Sharp, SharpGreater}
use Rattle.forth_program.specs.State.{Entry, Cell, State, World, Frame, Gives, Stops, ◌▸◌, Goes, Halted, Outcome, Reply}
use Rattle.forth_program.specs.Program.{SourceProgram}
use Rattle.forth_program.specs.Step.{step, before, on_cells}
use Rattle.forth_program.specs.Access.{fetch, store, store_byte}
use Rattle.forth_program.specs.Meaning.{put, both}
use Rattle.forth_program.specs.PicturedOutput.{hold, digit_char, radix}
use Rattle.library_laws.specs.Bodies.{body_of_word}
use Rattle.library_laws.specs.Library.{finished, DefinitionDoes}
use Rattle.library_laws.proofs.BodySteps.{body_steps, body_spent}
use Rattle.library_laws.proofs.Cells.{by_cases, signed_small}
use Rattle.library_laws.proofs.Comes.{Comes, by_way, by_reply, by_step, at_once, last_reply, renamed, meant_by}
use Rattle.library_laws.proofs.Replies.{giving_any, GivesCell, GivesNothing, regrouped, fetch_gives, store_gives}
use Rattle.library_laws.proofs.Products.{as_double}
use Rattle.library_laws.proofs.Loops.{skip}
use Rattle.library_laws.proofs.Quotients.{division_is, division_gives}

address : (d n : ℕ) → d + 128 ≤ 16384 → n ≤ 128 → sum_of d n ≡ d + n
address d n h k = omega (arith, h, k)

-- an unsigned test of a range
pub in_range : (x low n : ℕ) → x < 65536 → low + n < 65536 → nat_lt (difference_of x low) (suc n) ≡ (nat_le low x && nat_le x (low + n))
in_range x low n h k = by_cases (nat_le low x)
    (λ t. by_cases (nat_le x (low + n))
    (λ u. rw (t, u) (lt-ltb (difference_of x low) (suc n) (let a : low ≤ x = leb-true low x t in let b : x ≤ low + n = leb-true x (low + n) u in omega (arith, h, k, a, b))))
    (λ u. rw (t, u) (le-ltb (difference_of x low) (suc n) (let a : low ≤ x = leb-true low x t in let b : low + n < x = leb-false x (low + n) u in omega (arith, h, k, a, b)))))
    (λ t. rw t (le-ltb (difference_of x low) (suc n) (let a : x < low = leb-false low x t in omega (arith, h, k, a))))

pub less_sharp : DefinitionDoes (body_of_word LessSharp) LessSharp
unfolding step body_steps body_spent
less_sharp p callers c w need cells world = meant_by 9 (omega arith) refl need (by_way p 5 2 refl (omega arith)
    (last_reply p callers _ _ _ _ _ _ 2 refl
    (ap (λ a. store a (sum_of w.data_start 96) w ▸ λ _. Gives c) (address w.data_start 2 world.data_start (omega arith))
    ∙ ap (λ x. store (w.data_start + 2) x w ▸ λ _. Gives c) (address w.data_start 96 world.data_start (omega arith))) refl (omega arith)))

-- where the hold pointer is h
abbrev pub hold_at : ℕ → ℕ → World → Reply (Unit {0})
hold_at x h w = if nat_le (w.data_start + 16) (difference_of h 1) && nat_le (difference_of h 1) (w.data_start + 95) then (store (w.data_start + 2) (difference_of h 1) w ▸ λ _. store_byte (difference_of h 1) x) else Stops (Halted 12) w

pub holds : DefinitionDoes (body_of_word Hold) Hold
unfolding step body_steps body_spent
holds p callers (x ∷ c) w need cells world = meant_by 82 (omega arith) refl need (by_way p 2 78 refl (omega arith) (rw (address w.data_start 2 world.data_start (omega arith))
    (renamed p (ap (λ r. on_cells r (finished callers (x ∷ c) w)) (sym (regrouped (fetch (w.data_start + 2) w) (hold_at x) (λ _. Gives c))))
    (by_reply p _ _ _ (fetch (w.data_start + 2) w) (GivesCell w) 1 77 (fetch_gives w world (w.data_start + 2)) refl refl (omega arith) (λ h v k.
    let d = k.1.world.data_start in
    let range : nat_lt (difference_of (difference_of h 1) (sum_of v.data_start 16)) 80 ≡ (nat_le (v.data_start + 16) (difference_of h 1) && nat_le (difference_of h 1) (v.data_start + 95)) =
    ap (λ z. nat_lt (difference_of (difference_of h 1) z) 80) (address v.data_start 16 d (omega arith)) ∙ in_range (difference_of h 1) (v.data_start + 16) 79 (omega arith) (omega (arith, d))
    ∙ ap (λ z. nat_le (v.data_start + 16) (difference_of h 1) && nat_le (difference_of h 1) z) (assoc v.data_start) in
    by_way p 9 62 refl (omega arith)
    (renamed p
    (ap
    (λ b.
    on_cells
    ((if b then (store (v.data_start + 2) (difference_of h 1) v ▸ λ _. store_byte (difference_of h 1) x) else Stops (Halted 12) v) ▸ λ _. Gives c)
    (finished callers (x ∷ c) w)) range)
    (by_cases (nat_lt (difference_of (difference_of h 1) (sum_of v.data_start 16)) 80)
    (λ e. rw e (by_way p 4 56 refl (omega arith) (rw (address v.data_start 2 d (omega arith))
    (renamed p (ap (λ r. on_cells r (finished callers (x ∷ c) w)) (sym (regrouped (store (v.data_start + 2) (difference_of h 1) v) (λ _. store_byte (difference_of h 1) x) (λ _. Gives c))))
    (by_reply p _ _ _ (store (v.data_start + 2) (difference_of h 1) v) (GivesNothing v) 2 48 (store_gives v k.1.world (v.data_start + 2) (difference_of h 1) (omega arith)) refl refl (omega arith) (λ u w k.
    last_reply p callers _ _ _ _ _ _ 48 refl refl refl (omega arith)))))))
    (λ e. rw e (at_once p 4 refl (omega arith))))))))))
  where
    assoc : (d : ℕ) → d + 16 + 79 ≡ d + 95
    assoc d = omega arith
holds p callers [] w need cells world = let no : ⊥ = omega (arith, need) in absurd no

pub signs : DefinitionDoes (body_of_word Sign) Sign
unfolding step body_steps body_spent
signs p callers (n ∷ c) w need cells world = meant_by 145 (omega arith) refl need (by_way p 1 143 refl (omega arith) (by_cases (int_lt (signed n) (pos 0))
    (λ e. rw e (by_way p 2 140 refl (omega arith) (last_reply p callers _ _ _ _ _ _ 140 refl refl refl (omega arith))))
    (λ e. rw e (at_once p 1 refl (omega arith)))))
signs p callers [] w need cells world = let no : ⊥ = omega (arith, need) in absurd no

pub sharp_greater : DefinitionDoes (body_of_word SharpGreater) SharpGreater
unfolding step body_steps body_spent
sharp_greater p callers (h ∷ l ∷ c) w need cells world = meant_by 15 (omega arith) refl need (by_way p 3 10 refl (omega arith) (rw (address w.data_start 2 world.data_start (omega arith))
    (renamed p (ap (λ r. on_cells r (finished callers (h ∷ l ∷ c) w)) (sym (regrouped (fetch (w.data_start + 2) w) (λ a w. Gives (a, difference_of (w.data_start + 96) a) w) (λ q. Gives (q.1 ∷ q.0 ∷ c)))))
    (by_reply p _ _ _ (fetch (w.data_start + 2) w) (GivesCell w) 1 9 (fetch_gives w world (w.data_start + 2)) refl refl (omega arith) (λ a w k.
    at_once p 5 (ap (λ z. Goes (finished callers (difference_of z a ∷ a ∷ c) w)) (address w.data_start 96 k.1.world.data_start (omega arith))) (omega arith))))))
sharp_greater p callers c w need cells world = let no : ⊥ = omega (arith, need) in absurd no

-- ---- #

-- the digit of a double, and what is left of it
record Digit (h l b q1 q0 r1 r0 : ℕ) : Type 0 where
  first : unsigned_division (double h 0) b ≡ Some (r1, q1)
  second : unsigned_division (double l r1) b ≡ Some (r0, q0)
  left : double l h / b ≡ q0 + 65536 * q1
  rest : double l h % b ≡ r0
  digit : r0 < b
  high : q1 < 65536
  low : q0 < 65536

digit_of : (h l b : ℕ) → h < 65536 → l < 65536 → 2 ≤ b → Digit h l b (h / b) (double l (h % b) / b) (h % b) (double l (h % b) % b)
digit_of h l b fh fl fb =
    let less : h % b < b = mod-lt h (omega (arith, fb)) in
    let less' : double l (h % b) % b < b = mod-lt (double l (h % b)) (omega (arith, fb)) in
    let parts : b * (h / b) + h % b ≡ h = div-add-mod h b in
    let parts' : b * (double l (h % b) / b) + double l (h % b) % b ≡ double l (h % b) = div-add-mod (double l (h % b)) b in
    let small : h / b < 65536 = quotient_small (h / b) (h % b) parts in
    let small' : double l (h % b) / b < 65536 = low_small (double l (h % b) / b) (double l (h % b) % b) (h % b) parts' less in
    let whole = division_is (double l h) b (double l (h % b) / b + 65536 * (h / b)) (double l (h % b) % b) (joined (h / b) (h % b) (double l (h % b) / b) (double l (h % b) % b) parts parts') less' in
    record {
      first = division_gives (double h 0) b (h / b) (h % b) (omega (arith, parts)) less small;
      second = division_gives (double l (h % b)) b (double l (h % b) / b) (double l (h % b) % b) (omega (arith, parts')) less' small';
      left = whole.0;
      rest = whole.1;
      digit = less';
      high = small;
      low = small';
    }
  where
    quotient_small : (q r : ℕ) → b * q + r ≡ h → q < 65536
    quotient_small q r e = by_cases (nat_lt q 65536) (λ t. leb-true (suc q) 65536 t) (λ t. let le : 65536 ≤ q = ltb-false q 65536 t in let m : 2 * q ≤ b * q = (grind arith) in absurd (let no : ⊥ = omega (arith, e, le, m, fh) in no))

    low_small : (q r x : ℕ) → b * q + r ≡ l + 65536 * x → x < b → q < 65536
    low_small q r x e k = by_cases (nat_lt q 65536) (λ t. leb-true (suc q) 65536 t) (λ t. let le : 65536 ≤ q = ltb-false q 65536 t in let m : b * 65536 ≤ b * q = (grind arith) in absurd (let no : ⊥ = omega (arith, e, k, m, fl) in no))

    joined : (q1 r1 q0 r0 : ℕ) → b * q1 + r1 ≡ h → b * q0 + r0 ≡ l + 65536 * r1 → (q0 + 65536 * q1) * b + r0 ≡ l + 65536 * h
    joined q1 r1 q0 r0 e f = omega (arith, e, f)

pub and_left : (a b : Bool) → (a && b) ≡ true → a ≡ true
and_left true b e = refl
and_left false b e = let no : ⊥ = cc in absurd no

pub and_right : (a b : Bool) → (a && b) ≡ true → b ≡ true
and_right true b e = e
and_right false b e = let no : ⊥ = cc in absurd no

-- the byte of a digit
small_digit : (r : ℕ) → r < 10 → (int_lt (signed 9) (signed r) ≡ false) × (sum_of r 48 ≡ digit_char r)
small_digit r h = (rw (signed_small r (omega (arith, h))) (le-ltb 9 r (omega (arith, h))), rw (lt-ltb r 10 h) (omega (arith, h)))

large_digit : (r : ℕ) → 10 ≤ r → r < 36 → (int_lt (signed 9) (signed r) ≡ true) × (sum_of (sum_of r 7) 48 ≡ digit_char r)
large_digit r h k = (rw (signed_small r (omega (arith, k))) (lt-ltb 9 r (omega (arith, h))), rw (le-ltb r 10 h) (omega (arith, h, k)))

module _ (p : SourceProgram) (callers : List Frame) (h l : ℕ) (fh : h < 65536) (fl : l < 65536) (c : List ℕ) (c' : List ℕ) (w' : World) where
  abbrev from : ℕ → List Entry → List ℕ → World → State
  from k es cells w = record { work = before (skip k (body_of_word Sharp)) []; entries = es; callers = callers; cells = cells; world = w }

  -- with this radix
  abbrev in_radix : ℕ → World → Reply ℕ
  in_radix b w = if nat_le 2 b && nat_le b 36 then Gives b w else Stops (Halted 11) w

  abbrev digit_in : ℕ → World → Reply ℕ
  digit_in b w = hold (digit_char (double l h % b)) w ▸ λ _. Gives (double l h / b)

  abbrev leaves : Reply ℕ → Outcome
  leaves r = on_cells (r ▸ λ d. Gives (put d c)) (finished callers c' w')

  -- the digit is held
  held : (b q1 q0 r1 r0 x : ℕ) (v : World) → Digit h l b q1 q0 r1 r0 → x ≡ digit_char r0 → Comes p 141 (from 24 (Cell q1 ∷ []) (x ∷ q0 ∷ c) v) (leaves (digit_in b v))
  unfolding step body_steps body_spent
  held b q1 q0 r1 r0 x v d e =
      renamed p (ap (λ z. leaves (hold z v ▸ λ _. Gives (double l h / b))) (e ∙ sym (ap digit_char d.rest)))
      (renamed p (ap (λ r. on_cells r (finished callers c' w')) (sym (regrouped (hold x v) (λ _. Gives (double l h / b)) (λ d. Gives (put d c)))))
      (by_reply p _ _ _ (hold x v) (λ _ _. Unit {0}) 140 1 (giving_any (hold x v)) refl refl (omega arith) (λ u v k.
      at_once p 1 (ap (λ z. Goes (finished callers z v)) (as_double (double l h / b) q1 q0 c d.high d.low (sym d.left))) (omega arith))))

  divided : (b q1 q0 r1 r0 : ℕ) (v : World) → 2 ≤ b → b ≤ 36 → Digit h l b q1 q0 r1 r0 → Comes p 4969 (from 9 [] (b ∷ h ∷ l ∷ c) v) (leaves (digit_in b v))
  unfolding step body_steps body_spent
  divided b q1 q0 r1 r0 v fb gb d = by_way p 3 4965 refl (omega arith)
      (by_step p 2400 2565 (ap (λ z. on_cells (both z (l ∷ c) v) (from 13 (Cell b ∷ []) (b ∷ 0 ∷ h ∷ l ∷ c) v)) d.first) refl (omega arith) (by_way p 3 2562 refl (omega arith)
      (by_step p 2400 162 (ap (λ z. on_cells (both z c v) (from 17 (Cell q1 ∷ []) (b ∷ r1 ∷ l ∷ c) v)) d.second) refl (omega arith) (by_way p 4 156 refl (omega arith) (by_cases (nat_lt r0 10)
      (λ t. let s = small_digit r0 (leb-true (suc r0) 10 t) in rw s.0 (by_way p 3 141 refl (omega arith) (held b q1 q0 r1 r0 _ v d s.1)))
      (λ t. let s = large_digit r0 (ltb-false r0 10 t) (let a = d.digit in omega (arith, a, gb)) in rw s.0 (by_way p 5 141 refl (omega arith) (held b q1 q0 r1 r0 _ v d s.1))))))))

pub sharp : DefinitionDoes (body_of_word Sharp) Sharp
unfolding step body_steps body_spent
sharp p callers (h ∷ l ∷ c) w need cells world = meant_by 4990 (omega arith) refl need (by_way p 1 4989 refl (omega arith)
    (renamed p (ap (λ r. on_cells r (finished callers (h ∷ l ∷ c) w)) (sym (regrouped (radix w) (digit_in p callers h l cells.0 cells.1.0 c (h ∷ l ∷ c) w) (λ d. Gives (put d c))
    ∙ regrouped (fetch w.data_start w) (in_radix p callers h l cells.0 cells.1.0 c (h ∷ l ∷ c) w) (λ b v. digit_in p callers h l cells.0 cells.1.0 c (h ∷ l ∷ c) w b v ▸ λ d. Gives (put d c)))))
    (by_reply p _ _ _ (fetch w.data_start w) (GivesCell w) 1 4988 (fetch_gives w world w.data_start) refl refl (omega arith) (λ b v k. by_way p 6 4976 refl (omega arith)
    (renamed p
    (ap
    (λ t.
    on_cells
    ((if t then Gives b v else Stops (Halted 11) v) ▸ λ b v. (digit_in p callers h l cells.0 cells.1.0 c (h ∷ l ∷ c) w b v ▸ λ d. Gives (put d c)))
    (finished callers (h ∷ l ∷ c) w)) (in_range b 2 34 k.0 (omega arith)))
    (by_cases (nat_lt (difference_of b 2) 35)
    (λ e. let range = small_radix b (in_range b 2 34 k.0 (omega arith)) e in
    rw e (by_way p 1 4969 refl (omega arith) (divided p callers h l cells.0 cells.1.0 c (h ∷ l ∷ c) w b _ _ _ _ v range.0 range.1 (digit_of h l b cells.0 cells.1.0 range.0))))
    (λ e. rw e (at_once p 4 refl (omega arith)))))))))
  where
    small_radix : (b : ℕ) → nat_lt (difference_of b 2) 35 ≡ (nat_le 2 b && nat_le b 36) → nat_lt (difference_of b 2) 35 ≡ true → (2 ≤ b) × (b ≤ 36)
    small_radix b e f = (leb-true 2 b (and_left (nat_le 2 b) (nat_le b 36) (sym e ∙ f)), leb-true b 36 (and_right (nat_le 2 b) (nat_le b 36) (sym e ∙ f)))
sharp p callers c w need cells world = let no : ⊥ = omega (arith, need) in absurd no
