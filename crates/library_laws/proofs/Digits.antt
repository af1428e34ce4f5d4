-- #S . U.
use Rattle.std.proofs.Common.{◌≡◌, ℕ, zero, suc, ◌+◌, ◌*◌, ◌/◌, ◌%◌, ◌^◌, ◌≤◌, ◌<◌, Bool, true, false, ◌==◌, Some, List, [], ◌∷◌, refl, ap, sym, ◌∙◌, subst, arith, ne_eqb}
use Rattle.std.specs.Prelude.{bit_or, pos, int_lt, unsigned_abs}
use Rattle.std.proofs.lemmas.Nat.{le_or_l, le_or_r}
use Rattle.cell_math.specs.Cell.{signed, difference_of, double, high_cell, low_cell}
use Rattle.word_table.specs.declared.word.Word.TheVariants.{SharpS, Dot, UDot}
use Rattle.forth_program.specs.Tree.{Nodes, Until}
use Rattle.forth_program.specs.State.{State, World, Frame, Work, Todo, UntilTest, Gives, ◌▸◌, Outcome, Reply}
use Rattle.forth_program.specs.Program.{SourceProgram}
use Rattle.forth_program.specs.Step.{step, before, on_cells}
use Rattle.forth_program.specs.Meaning.{put}
use Rattle.forth_program.specs.PicturedOutput.{open_picture, hold, hold_sign, hold_digit, hold_digits, hold_all, picture}
use Rattle.forth_program.specs.Access.{emit}
use Rattle.forth_program.specs.ByteWords.{type_out}
use Rattle.library_laws.specs.Bodies.{body_of_word}
use Rattle.forth_program.specs.Cells.{IsWorld}
use Rattle.library_laws.specs.Library.{finished, DefinitionDoes}
use Rattle.library_laws.proofs.BodySteps.{body_steps, body_spent, next_price}
use Rattle.library_laws.proofs.Comes.{Comes, by_way, by_reply, at_once, renamed, cheaper, meant_by}
use Rattle.library_laws.proofs.Replies.{Giving, giving_any, giving_both, giving_weaker, same_rest, GivesNothing, IsLike, like_like, regrouped, store_gives}
use Rattle.library_laws.proofs.Loops.{skip, until_of, doubled}
use Rattle.library_laws.proofs.HoldBuffer.{pointer, pointer_stored, fetch_pointer, Digits, digit_lowers, Lowers, hold_lowers}
use Rattle.library_laws.proofs.Signs.{abs_fits}

-- the body of a loop # 2DUP OR 0= UNTIL
abbrev digits : Nodes
digits = until_of (body_of_word SharpS)

-- the cells of a double are 0 exactly where it is
nonzero : (x : ℕ) → suc x < 4294967296 → (bit_or (low_cell (suc x)) (high_cell (suc x)) == 0) ≡ false
nonzero x h = ne_eqb (bit_or (low_cell (suc x)) (high_cell (suc x))) 0 (λ e. absurd (no (low_cell (suc x)) (high_cell (suc x)) (le_or_l (low_cell (suc x)) (high_cell (suc x))) (le_or_r (low_cell (suc x)) (high_cell (suc x))) e refl refl))
  where
    no : (l k : ℕ) → l ≤ bit_or l k → k ≤ bit_or l k → bit_or l k ≡ 0 → l ≡ suc x % 65536 → k ≡ suc x / 65536 % 65536 → ⊥
    no l k a b e f g = omega (arith, h, a, b, e, f, g)

double_back : (x : ℕ) → x < 4294967296 → double (low_cell x) (high_cell x) ≡ x
double_back x h = omega (arith, h)

module _ (p : SourceProgram) (callers : List Frame) (c c' : List ℕ) (w' : World) (after : List Work) (more : ℕ → World → Reply (List ℕ)) where
  abbrev state_of : List Work → List ℕ → World → State
  state_of work cells w = record { work = work; entries = []; callers = callers; cells = cells; world = w }

  abbrev head : ℕ → World → State
  head ud w = state_of (before digits (UntilTest digits ∷ after)) (put ud c) w

  abbrev past_digit : ℕ → World → State
  past_digit ud w = state_of (before (skip 1 digits) (UntilTest digits ∷ after)) (put ud c) w

  abbrev leaves : Reply ℕ → Outcome
  leaves r = on_cells (r ▸ more) (finished callers c' w')

  -- what follows a digit, of which so much is left
  abbrev next : ℕ → ℕ → World → Reply ℕ
  next n left w = elim left [ zero ↦ Gives zero w | suc m ↦ hold_digits n (suc m) w ]

  after_digit : (n left b : ℕ) (v : World) → left < 4294967296 → (left ≡ 0 → Comes p b (state_of after (0 ∷ 0 ∷ c) v) (on_cells (more 0 v) (finished callers c' w'))) →
      ((x : ℕ) → left ≡ suc x → Comes p b (head (suc x) v) (leaves (hold_digits n (suc x) v))) → Comes p (6 + b) (past_digit left v) (leaves (next n left v))
  unfolding step body_steps body_spent
  after_digit n zero b v h f g = by_way p 4 b refl (omega arith) (f refl)
  after_digit n (suc x) b v h f g = by_way p 3 (1 + b) refl (omega arith) (rw (nonzero x h) (by_way p 1 b refl (omega arith) (g x refl)))

  module _ (m : ℕ) (base : World) where
    -- where at most so many places were taken
    abbrev Taken : ℕ → World → Type 0
    Taken used v = IsLike base v × (pointer base ≤ pointer v + used) × (pointer v ≤ pointer base)

    digits_from : (n used ud : ℕ) (w : World) (s : State) (z : List ℕ) (u : World) → ud < 2 ^ suc n → ud < 4294967296 → Taken used w →
        step p s ≡ on_cells (hold_digit ud w ▸ λ d. Gives (put d c)) (state_of (before (skip 1 digits) (UntilTest digits ∷ after)) z u) → next_price s ≡ Some 6000 →
        ((v : World) → Taken (used + suc n) v → Comes p m (state_of after (0 ∷ 0 ∷ c) v) (on_cells (more 0 v) (finished callers c' w'))) →
        Comes p (6006 * suc n + m) s (leaves (hold_digits (suc n) ud w))
    unfolding step body_steps body_spent
    digits_from zero used ud w s z u small fits taken e paid rest =
        renamed p (ap (λ r. on_cells r (finished callers c' w')) (sym (regrouped (hold_digit ud w) (next 0) more)))
        (by_reply p _ _ _ (hold_digit ud w) (Digits w ud) 6000 (6 + m) (digit_lowers w ud taken.0.world) e paid (omega arith) (λ left v q. let less = q.0 in
        after_digit 0 left m v (omega (arith, less, fits)) (λ f. rest v (like_like base w v taken.0 q.1.0, (let a = taken.1 in let b = q.1.1 in omega (arith, a, b)), (let a = taken.2 in let b = q.1.1 in omega (arith, a, b))))
        (λ x f. absurd (omega (arith, less, f, small)))))
    digits_from (suc n) used ud w s z u small fits taken e paid rest =
        renamed p (ap (λ r. on_cells r (finished callers c' w')) (sym (regrouped (hold_digit ud w) (next (suc n)) more)))
        (by_reply p _ _ _ (hold_digit ud w) (Digits w ud) 6000 (6 + (6006 * suc n + m)) (digit_lowers w ud taken.0.world) e paid (price n m) (λ left v q.
        let less = q.0 in
        let like = like_like base w v taken.0 q.1.0 in
        let a = taken.1 in
        let b = q.1.1 in
        let k = taken.2 in
        after_digit (suc n) left (6006 * suc n + m) v (omega (arith, less, fits))
        (λ f. cheaper p m (omega arith) (rest v (like, omega (arith, a, b), omega (arith, b, k))))
        (λ x f. digits_from n (suc used) (suc x) v (head (suc x) v) _ _ (half n left x small less f) (omega (arith, less, fits, f)) (like, omega (arith, a, b), omega (arith, b, k))
        (ap (λ z. on_cells (hold_digit z v ▸ λ d. Gives (put d c)) (past_digit (suc x) v)) (double_back (suc x) (omega (arith, less, fits, f)))) refl
        (λ u t. rest u (t.0, (let z = t.1 in omega (arith, z)), t.2)))))
      where
        price : (n m : ℕ) → 6000 + (6 + (6006 * suc n + m)) ≤ 6006 * suc (suc n) + m
        price n m = omega arith

        half : (n left x : ℕ) → ud < 2 ^ suc (suc n) → 2 * left ≤ ud → left ≡ suc x → suc x < 2 ^ suc n
        half n left x g h f = let e : 2 * 2 ^ suc n ≡ 2 ^ suc (suc n) = doubled (suc n) in omega (arith, e, g, h, f)

pub sharp_s : DefinitionDoes (body_of_word SharpS) SharpS
unfolding step body_steps body_spent
sharp_s p callers (h ∷ l ∷ c) w need cells world = meant_by 192192 (omega arith) refl need
    (digits_from p callers c (h ∷ l ∷ c) w [] (λ d. Gives (put d c)) 0 w 31 0 (double l h) w _ _ _ (let a = cells.0 in let b = cells.1.0 in omega (arith, a, b)) (let a = cells.0 in let b = cells.1.0 in omega (arith, a, b))
    (record { world = world; start = refl }, omega arith, omega arith) refl refl (λ v t. at_once p 0 refl (omega arith)))
sharp_s p callers c w need cells world = let no : ⊥ = omega (arith, need) in absurd no

-- ---- as many digits as there may be

enough : (n k ud : ℕ) (w : World) → ud < 2 ^ suc n → IsWorld w → hold_digits (suc (n + k)) ud w ≡ hold_digits (suc n) ud w
enough zero k ud w small h = same_rest (hold_digit ud w) (Digits w ud) _ _ (digit_lowers w ud h) (λ left v q. on_left left v q.0)
  where
    on_left : (left : ℕ) (v : World) → 2 * left ≤ ud → (elim left as (λ _. Reply ℕ) [ zero ↦ Gives zero v | suc m ↦ hold_digits (0 + k) (suc m) v ]) ≡ (elim left as (λ _. Reply ℕ) [ zero ↦ Gives zero v | suc m ↦ hold_digits 0 (suc m) v ])
    on_left zero v less = refl
    on_left (suc x) v less = absurd (omega (arith, less, small))
enough (suc n) k ud w small h = ap (λ z. hold_digits z ud w) (plus n k) ∙ same_rest (hold_digit ud w) (Digits w ud) _ _ (digit_lowers w ud h) (λ left v q. on_left left v q.0 (λ x f. enough n k (suc x) v (half x f) q.1.0.world))
  where
    plus : (n k : ℕ) → suc (suc n + k) ≡ suc (suc (n + k))
    plus n k = omega arith

    half : (x : ℕ) → 2 * suc x ≤ ud → suc x < 2 ^ suc n
    half x f = let e : 2 * 2 ^ suc n ≡ 2 ^ suc (suc n) = doubled (suc n) in omega (arith, e, small, f)

    on_left : (left : ℕ) (v : World) → 2 * left ≤ ud → ((x : ℕ) → 2 * suc x ≤ ud → hold_digits (suc (n + k)) (suc x) v ≡ hold_digits (suc n) (suc x) v) →
        (elim left as (λ _. Reply ℕ) [ zero ↦ Gives zero v | suc m ↦ hold_digits (suc (n + k)) (suc m) v ]) ≡ (elim left as (λ _. Reply ℕ) [ zero ↦ Gives zero v | suc m ↦ hold_digits (suc n) (suc m) v ])
    on_left zero v less more = refl
    on_left (suc x) v less more = more x less

-- ---- printing
module _ (p : SourceProgram) (callers : List Frame) (c c' : List ℕ) (w' : World) where
  abbrev work_left : List Work
  work_left = before (skip 3 (body_of_word UDot)) []

  abbrev print_held : World → Reply (Unit {0})
  print_held w = picture w ▸ λ q w. type_out q.1 q.0 w ▸ λ _. emit 32

  printed : (v : World) → IsWorld v → v.data_start + 79 ≤ pointer v → pointer v ≤ v.data_start + 96 →
      Comes p 1424 (record { work = work_left; entries = []; callers = callers; cells = 0 ∷ 0 ∷ c; world = v }) (on_cells (print_held v ▸ λ _. Gives c) (finished callers c' w'))
  unfolding step body_steps body_spent
  printed v h low high =
      renamed p (ap (λ r. on_cells r (finished callers c' w')) (sym (regrouped (picture v) (λ q w. type_out q.1 q.0 w ▸ λ _. emit 32) (λ _. Gives c))))
      (by_reply p _ _ _ (picture v) (λ q z. q.1 ≤ 17) 20 1404
      (subst (λ r. Giving {A = ℕ × ℕ} (r ▸ λ a w. Gives (a, difference_of (w.data_start + 96) a) w) (λ q z. q.1 ≤ 17)) (sym (fetch_pointer v h)) (let d = h.data_start in omega (arith, low, high, d))) refl refl (omega arith) (λ q z k.
      renamed p (ap (λ r. on_cells r (finished callers c' w')) (sym (regrouped (type_out q.1 q.0 z) (λ _. emit 32) (λ _. Gives c))))
      (by_reply p _ _ _ (type_out q.1 q.0 z) (λ _ _. Unit {0}) (40 + 80 * q.1) 4 (giving_any (type_out q.1 q.0 z)) refl refl (omega (arith, k)) (λ u z k. at_once p 1 refl (omega arith)))))

-- the hold buffer is empty
opened : (w : World) → IsWorld w → Giving (open_picture w) (λ _ v. IsLike w v × (pointer v ≡ v.data_start + 96))
opened w h = let d = h.data_start in
    giving_weaker (open_picture w) (λ _ v. IsLike w v × ((pointer v ≡ w.data_start + 96) × (v.data_start ≡ w.data_start))) (λ _ v. IsLike w v × (pointer v ≡ v.data_start + 96))
    (giving_both (open_picture w) (GivesNothing w) (λ _ v. (pointer v ≡ w.data_start + 96) × (v.data_start ≡ w.data_start))
    (store_gives w h (w.data_start + 2) (w.data_start + 96) (omega (arith, d))) (pointer_stored w (w.data_start + 96) h))
    (λ u v q. (q.0, let a = q.1.0 in let b = q.1.1 in omega (arith, a, b)))

-- the digits of a number that is shown, and then the rest
module _ (p : SourceProgram) (callers : List Frame) (c c' : List ℕ) (w' : World) (after : List Work) (rest_cells : List ℕ) (more : World → Reply (Unit {0})) where
  abbrev at_loop : ℕ → World → State
  at_loop n v = record { work = Todo (Until digits) ∷ after; entries = []; callers = callers; cells = 0 ∷ n ∷ rest_cells; world = v }

  shown : (n b : ℕ) (v : World) → n < 65536 → IsWorld v → pointer v ≡ v.data_start + 96 →
      ((z : World) → IsWorld z → z.data_start + 80 ≤ pointer z → pointer z ≤ z.data_start + 96 →
      Comes p b (record { work = after; entries = []; callers = callers; cells = 0 ∷ 0 ∷ rest_cells; world = z })
      (on_cells (more z ▸ λ _. Gives c) (finished callers c' w'))) →
      Comes p (96096 + b) (at_loop n v) (on_cells ((hold_all n v ▸ λ _. more) ▸ λ _. Gives c) (finished callers c' w'))
  unfolding step body_steps body_spent
  shown n b v fn h e rest =
      renamed p (ap (λ r. on_cells r (finished callers c' w')) (sym (regrouped (hold_all n v) (λ _. more) (λ _. Gives c))))
      (renamed p (ap (λ r. on_cells (r ▸ λ _ z. (more z ▸ λ _. Gives c)) (finished callers c' w')) (sym (enough 15 16 n v fn h)))
      (digits_from p callers rest_cells c' w' after (λ _ z. (more z ▸ λ _. Gives c)) b v 15 0 n v (at_loop n v) (0 ∷ n ∷ rest_cells) v fn (omega (arith, fn)) (record { world = h; start = refl }, omega arith, omega arith)
      (ap (λ z. on_cells (hold_digit z v ▸ λ d. Gives (put d rest_cells)) (record { work = before (skip 1 digits) (UntilTest digits ∷ after); entries = []; callers = callers; cells = 0 ∷ n ∷ rest_cells; world = v })) (alone n)) refl
      (λ z t. let s = t.0.start in let a = t.1 in let k = t.2 in rest z t.0.world (omega (arith, s, a, e)) (omega (arith, s, k, e)))))
    where
      alone : (n : ℕ) → double n 0 ≡ n
      alone n = omega arith

pub u_dot : DefinitionDoes (body_of_word UDot) UDot
unfolding step body_steps body_spent
u_dot p callers (u ∷ c) w need cells world = meant_by 97542 (omega arith) refl need (by_way p 1 97540 refl (omega arith)
    (renamed p (ap (λ r. on_cells r (finished callers (u ∷ c) w)) (sym (regrouped (open_picture w) (λ _ w. hold_all u w ▸ λ _. print_held p callers c (u ∷ c) w) (λ _. Gives c))))
    (by_reply p _ _ _ (open_picture w) (λ _ v. IsLike w v × (pointer v ≡ v.data_start + 96)) 20 97520 (opened w world) refl refl (omega arith) (λ x v q.
    shown p callers c (u ∷ c) w (work_left p callers c (u ∷ c) w) c (print_held p callers c (u ∷ c) w) u 1424 v cells.0 q.0.world q.1
    (λ z h low high. printed p callers c (u ∷ c) w z h (omega (arith, low)) high)))))
u_dot p callers [] w need cells world = let no : ⊥ = omega (arith, need) in absurd no

sign_lowers : (negative : Bool) (w : World) → IsWorld w → Giving (hold_sign negative w) (λ _ v. IsLike w v × (pointer v ≤ pointer w) × (pointer w ≤ pointer v + 1))
sign_lowers true w h = giving_weaker (hold 45 w) (λ _ v. Lowers w v) (λ _ v. IsLike w v × (pointer v ≤ pointer w) × (pointer w ≤ pointer v + 1)) (hold_lowers w 45 h) (λ u v q. let e = q.1 in (q.0, omega (arith, e), omega (arith, e)))
sign_lowers false w h = (record { world = h; start = refl }, omega arith, omega arith)

pub dot : DefinitionDoes (body_of_word Dot) Dot
unfolding step body_steps body_spent
dot p callers (n ∷ c) w need cells world = meant_by 97747 (omega arith) refl need (by_way p 3 97724 refl (omega arith)
    (renamed p (ap (λ r. on_cells r (finished callers (n ∷ c) w)) (sym (regrouped (open_picture w) (λ _ w. hold_all (unsigned_abs (signed n)) w ▸ λ _. signed_print) (λ _. Gives c))))
    (by_reply p _ _ _ (open_picture w) (λ _ v. IsLike w v × (pointer v ≡ v.data_start + 96)) 20 97704 (opened w world) refl refl (omega arith) (λ x v q.
    shown p callers c (n ∷ c) w (before (skip 5 (body_of_word Dot)) []) (n ∷ c) signed_print (unsigned_abs (signed n)) 1608 v (abs_fits n cells.0) q.0.world q.1
    (λ z h low high. by_way p 1 1604 refl (omega arith)
    (renamed p (ap (λ r. on_cells r (finished callers (n ∷ c) w)) (sym (regrouped (hold_sign (int_lt (signed n) (pos 0)) z) (λ _. print_held p callers c (n ∷ c) w) (λ _. Gives c))))
    (by_reply p _ _ _ (hold_sign (int_lt (signed n) (pos 0)) z) (λ _ v. IsLike z v × (pointer v ≤ pointer z) × (pointer z ≤ pointer v + 1)) 180 1424 (sign_lowers (int_lt (signed n) (pos 0)) z h) refl refl (omega arith) (λ u y r.
    let s = r.0.start in let a = r.1 in let b = r.2 in printed p callers c (n ∷ c) w y r.0.world (omega (arith, s, low, a, b)) (omega (arith, s, high, a, b))))))))))
  where
    signed_print : World → Reply (Unit {0})
    signed_print w = hold_sign (int_lt (signed n) (pos 0)) w ▸ λ _. print_held p callers c (n ∷ c) w
dot p callers [] w need cells world = let no : ⊥ = omega (arith, need) in absurd no
