-- >NUMBER
use Rattle.std.proofs.Common.{◌≡◌, ℕ, zero, suc, ◌+◌, ◌-◌, ◌*◌, ◌/◌, ◌%◌, ◌≤◌, ◌<◌, Bool, true, false, ◌&&◌, nat_le, nat_lt, ◌==◌, if◌then◌else◌, Option, Some}
use Rattle.std.proofs.Common.{None, List, [], ◌∷◌, refl, ap, sym, ◌∙◌, subst, arith, leb-true, ltb-false, le-ltb}
use Rattle.std.specs.Prelude.{slice_index}
use Rattle.console_ports.specs.Ports.{access_at}
use Rattle.console_ports.specs.declared.ports.Access.{Access as Met}
use Rattle.console_ports.specs.declared.ports.Access.TheVariants as met
use Rattle.cell_math.specs.Cell.{flag, sum_of, difference_of, double, high_cell, low_cell}
use Rattle.word_table.specs.declared.word.Word.TheVariants.{ToNumber}
use Rattle.forth_program.specs.State.{Entry, State, World, Frame, Work, WhileTest, TrueEnd, Gives, ◌▸◌, Goes, Outcome, Reply}
use Rattle.forth_program.specs.Program.{SourceProgram}
use Rattle.forth_program.specs.Step.{step, before, on_cells}
use Rattle.forth_program.specs.Access.{taken, fetch_by, fetch, fetch_byte, byte_of, base}
use Rattle.forth_program.specs.ByteWords.{digit_of, number_from, number_begins, begun_by, Rest}
use Rattle.forth_program.specs.Meaning.{put}
use Rattle.library_laws.specs.Bodies.{body_of_word}
use Rattle.forth_program.specs.Cells.{IsWorld}
use Rattle.library_laws.specs.Library.{finished, DefinitionDoes}
use Rattle.library_laws.proofs.BodySteps.{body_steps, body_spent}
use Rattle.library_laws.proofs.Cells.{by_cases, if_true, if_false}
use Rattle.library_laws.proofs.Comes.{Comes, by_way, by_step, by_begun, at_once, renamed, cheaper, meant_by}
use Rattle.library_laws.proofs.Replies.{Giving, giving_then, giving_both, GivesCell, IsLike, regrouped, fetch_gives}
use Rattle.library_laws.proofs.Loops.{skip, test_of, turn_of, past_of, then_of}
use Rattle.library_laws.proofs.ByteLoops.{less_one}
use Rattle.library_laws.proofs.Products.{as_double}
use Rattle.library_laws.proofs.Pictures.{in_range, and_left}
use Rattle.library_laws.proofs.HoldBuffer.{fetch_is}

-- ---- the radix stays
abbrev radix_of : World → ℕ
radix_of w = slice_index w.space (w.data_start / 2 - w.data_start / 2)

fetch_radix : (w : World) → IsWorld w → fetch w.data_start w ≡ Gives (radix_of w) w
fetch_radix w h = let d = h.data_start in let a = h.aligned in fetch_is w w.data_start (omega (arith, d)) (omega (arith, a))

taken_keeps : (i : List ℕ) (w : World) → Giving (taken i w) (λ _ v. radix_of v ≡ radix_of w)
taken_keeps [] w = tt
taken_keeps (byte ∷ i) w = refl

fetch_keeps : (m : Met) (w : World) → Giving (fetch_by w m) (λ _ v. radix_of v ≡ radix_of w)
fetch_keeps (met.Data i) w = refl
fetch_keeps met.Key w = taken_keeps w.input w
fetch_keeps (met.Outside a) w = tt
fetch_keeps met.Print w = tt
fetch_keeps met.Halt w = tt

byte_small : (a x : ℕ) → x < 65536 → byte_of a x < 256
byte_small a x h = by_cases (a % 2 == 0)
    (λ e. subst (λ b. (if b then x % 256 else x / 256) < 256) (sym e) (omega arith))
    (λ e. subst (λ b. (if b then x % 256 else x / 256) < 256) (sym e) (omega (arith, h)))

abbrev Byte : World → ℕ → World → Type 0
Byte w x v = (x < 256) × IsLike w v × (radix_of v ≡ radix_of w)

byte_gives : (w : World) → IsWorld w → (a : ℕ) → Giving (fetch_byte a w) (Byte w)
byte_gives w h a = giving_then (fetch a w) (λ x. Gives (byte_of a x)) (λ x v. GivesCell w x v × (radix_of v ≡ radix_of w)) (Byte w)
    (giving_both (fetch a w) (GivesCell w) (λ _ v. radix_of v ≡ radix_of w) (fetch_gives w h a) (fetch_keeps (access_at w.data_start false a) w))
    (λ x v k. (byte_small a x k.0.0, k.0.1, k.1))

-- ---- the digit of a byte: 65535 where it is none
abbrev shown : ℕ → ℕ
shown x =
    if nat_lt (difference_of x 48) 10 then difference_of x 48
    else (if nat_lt (difference_of x 65) 26 then difference_of x 55
    else (if nat_lt (difference_of x 97) 26 then difference_of x 87
    else 65535))

digit_is : (b x : ℕ) → b < 65536 → x < 256 → digit_of b x ≡ (if nat_lt (shown x) b then Some (shown x) else None)
digit_is b x fb fx =
    rw (in_range x 48 9 (omega (arith, fx)) (omega arith), in_range x 65 25 (omega (arith, fx)) (omega arith), in_range x 97 25 (omega (arith, fx)) (omega arith))
    (pick (nat_le 48 x && nat_le x 57) (nat_le 65 x && nat_le x 90) (nat_le 97 x && nat_le x 122)
    (λ t. let a : 48 ≤ x = leb-true 48 x (and_left (nat_le 48 x) (nat_le x 57) t) in omega (arith, a, fx))
    (λ t. let a : 65 ≤ x = leb-true 65 x (and_left (nat_le 65 x) (nat_le x 90) t) in omega (arith, a, fx))
    (λ t. let a : 97 ≤ x = leb-true 97 x (and_left (nat_le 97 x) (nat_le x 122) t) in omega (arith, a, fx)))
  where
    pick : (c d e : Bool) → (c ≡ true → x - 48 ≡ difference_of x 48) → (d ≡ true → x - 55 ≡ difference_of x 55) → (e ≡ true → x - 87 ≡ difference_of x 87) →
        (if nat_lt (if c then x - 48 else (if d then x - 55 else (if e then x - 87 else 65536))) b then Some (if c then x - 48 else (if d then x - 55 else (if e then x - 87 else 65536))) else None)
        ≡ (if nat_lt (if c then difference_of x 48 else (if d then difference_of x 55 else (if e then difference_of x 87 else 65535))) b then Some
        (if c then difference_of x 48 else (if d then difference_of x 55 else (if e then difference_of x 87 else 65535))) else None)
    pick true d e f g h = ap (λ z. if nat_lt z b then Some z else None) (f refl)
    pick false true e f g h = ap (λ z. if nat_lt z b then Some z else None) (g refl)
    pick false false true f g h = ap (λ z. if nat_lt z b then Some z else None) (h refl)
    pick false false false f g h = rw (le-ltb 65536 b (omega (arith, fb)), le-ltb 65535 b (omega (arith, fb))) refl

-- ---- the next double
with_carry : (q r y : ℕ) → y < 65536 → sum_of (low_cell q) y < y → sum_of (low_cell q) y + 65536 * difference_of (sum_of (high_cell q) (r % 65536)) 65535 ≡ (q + 65536 * r + y) % 4294967296
with_carry q r y fy less = omega (arith, fy, less)

without_carry : (q r y : ℕ) → y < 65536 → y ≤ sum_of (low_cell q) y → sum_of (low_cell q) y + 65536 * difference_of (sum_of (high_cell q) (r % 65536)) 0 ≡ (q + 65536 * r + y) % 4294967296
without_carry q r y fy ge = omega (arith, fy, ge)

next_double : (l h b y : ℕ) → l < 65536 → h < 65536 → b < 65536 → y < 65536 →
    double (sum_of (low_cell (l * b)) y) (difference_of (sum_of (high_cell (l * b)) (h * b % 65536)) (flag (nat_lt (sum_of (low_cell (l * b)) y) y))) ≡ (double l h * b + y) % 4294967296
next_double l h b y fl fh fb fy = by_cases (nat_lt (sum_of (low_cell (l * b)) y) y)
    (λ t. rw t (let less : sum_of (low_cell (l * b)) y < y = leb-true _ _ t in carry (l * b) (h * b) (omega arith) less))
    (λ t. rw t (let ge : y ≤ sum_of (low_cell (l * b)) y = ltb-false _ _ t in no_carry (l * b) (h * b) (omega arith) ge))
  where
    carry : (q r : ℕ) → (l + 65536 * h) * b ≡ q + 65536 * r → sum_of (low_cell q) y < y → sum_of (low_cell q) y + 65536 * difference_of (sum_of (high_cell q) (r % 65536)) 65535 ≡ ((l + 65536 * h) * b + y) % 4294967296
    carry q r e less = with_carry q r y fy less ∙ ap (λ t. (t + y) % 4294967296) (sym e)

    no_carry : (q r : ℕ) → (l + 65536 * h) * b ≡ q + 65536 * r → y ≤ sum_of (low_cell q) y → sum_of (low_cell q) y + 65536 * difference_of (sum_of (high_cell q) (r % 65536)) 0 ≡ ((l + 65536 * h) * b + y) % 4294967296
    no_carry q r e ge = without_carry q r y fy ge ∙ ap (λ t. (t + y) % 4294967296) (sym e)

module _ (p : SourceProgram) (callers : List Frame) (c c' : List ℕ) (w' : World) (b : ℕ) (fb : b < 65536) where
  abbrev while_left : List Work
  while_left = WhileTest (test_of (body_of_word ToNumber)) (turn_of (body_of_word ToNumber)) ∷ before (past_of (body_of_word ToNumber)) []

  abbrev state_of : List Work → List Entry → List ℕ → World → State
  state_of work es cells w = record { work = work; entries = es; callers = callers; cells = cells; world = w }

  -- the count was copied; the byte was fetched; its digit is found
  abbrev decide : List ℕ → World → State
  decide cells w = state_of (before (skip 1 (test_of (body_of_word ToNumber))) while_left) [] cells w

  abbrev in_test : ℕ → List ℕ → World → State
  in_test k cells w = state_of (before (skip k (then_of (test_of (body_of_word ToNumber)))) (TrueEnd ∷ while_left)) [] cells w

  abbrev leaves : Reply Rest → Outcome
  leaves r = on_cells (r ▸ λ q. Gives (q.2 ∷ q.1 ∷ put q.0 c)) (finished callers c' w')

  shown_comes : (x m : ℕ) (rest : List ℕ) (w : World) (o : Outcome) → Comes p m (in_test 8 (shown x ∷ rest) w) o → Comes p (40 + m) (in_test 2 (x ∷ rest) w) o
  unfolding step body_steps body_spent
  shown_comes x m rest w o r = by_way p 5 (30 + m) refl (omega arith) (by_cases (nat_lt (difference_of x 48) 10)
      (λ t. rw t (by_way p 4 m refl (omega arith) (subst (λ z. Comes p m (in_test 8 (z ∷ rest) w) o) (if_true (nat_lt (difference_of x 48) 10) _ _ t) r)))
      (λ t. let r = subst (λ z. Comes p m (in_test 8 (z ∷ rest) w) o) (if_false (nat_lt (difference_of x 48) 10) _ _ t) r in
      rw t (by_way p 6 (19 + m) refl (omega arith) (by_cases (nat_lt (difference_of x 65) 26)
      (λ t. rw t (by_way p 4 m refl (omega arith) (subst (λ z. Comes p m (in_test 8 (z ∷ rest) w) o) (if_true (nat_lt (difference_of x 65) 26) _ _ t) r)))
      (λ t. let r = subst (λ z. Comes p m (in_test 8 (z ∷ rest) w) o) (if_false (nat_lt (difference_of x 65) 26) _ _ t) r in
      rw t (by_way p 6 (8 + m) refl (omega arith) (by_cases (nat_lt (difference_of x 97) 26)
      (λ t. rw t (by_way p 4 m refl (omega arith) (subst (λ z. Comes p m (in_test 8 (z ∷ rest) w) o) (if_true (nat_lt (difference_of x 97) 26) _ _ t) r)))
      (λ t. rw t (by_way p 3 m refl (omega arith) (subst (λ z. Comes p m (in_test 8 (z ∷ rest) w) o) (if_false (nat_lt (difference_of x 97) 26) _ _ t) r))))))))))

  -- after a byte with this digit
  abbrev number_on : ℕ → ℕ → ℕ → Option ℕ → World → Reply Rest
  number_on n a ud o v = elim o as (λ _. Reply Rest) [ None ↦ Gives (ud, a, suc n) v | Some d ↦ number_from b n (sum_of a 1) ((ud * b + d) % 4294967296) v ]

  abbrev begins_on : ℕ → ℕ → Option ℕ → World → ℕ
  begins_on n a o v = elim o as (λ _. ℕ) [ None ↦ 0 | Some d ↦ number_begins b n (sum_of a 1) v ]

  same_double : (d h l : ℕ) → h < 65536 → l < 65536 → l + 65536 * h ≡ d → h ∷ l ∷ c ≡ put d c
  same_double d h l fh fl e = as_double d h l c fh fl e

  -- the radix is fetched
  fetches : (v : World) → IsWorld v → radix_of v ≡ b → (work : List Work) (es : List Entry) (cells : List ℕ) →
      on_cells (fetch v.data_start v ▸ λ x. Gives (x ∷ cells)) (state_of work es (v.data_start ∷ cells) v) ≡ Goes (state_of work es (b ∷ cells) v)
  fetches v h e work es cells = ap (λ r. on_cells (r ▸ λ x. Gives (x ∷ cells)) (state_of work es (v.data_start ∷ cells) v)) (fetch_radix v h ∙ ap (λ x. Gives x v) e)

  -- after the byte with digit y of the numbers that are left
  after_byte : (n a l h y : ℕ) (v : World) → suc n < 65536 → l < 65536 → h < 65536 → IsWorld v → radix_of v ≡ b →
      ((l' h' : ℕ) → l' < 65536 → h' < 65536 → Comes p (7 + 2500 * number_begins b n (sum_of a 1) v) (decide (n ∷ n ∷ sum_of a 1 ∷ h' ∷ l' ∷ c) v) (leaves (number_from b n (sum_of a 1) (double l' h') v))) →
      Comes p (2441 + 2500 * begins_on n a (if nat_lt y b then Some y else None) v) (in_test 8 (y ∷ suc n ∷ a ∷ h ∷ l ∷ c) v) (leaves (number_on n a (double l h) (if nat_lt y b then Some y else None) v))
  unfolding step body_steps body_spent
  after_byte n a l h y v fn fl fh world same next = by_way p 2 (2439 + 2500 * begins_on n a (if nat_lt y b then Some y else None) v) refl (omega arith)
      (by_step p 1 (2438 + 2500 * begins_on n a (if nat_lt y b then Some y else None) v)
      (fetches v world same (before (skip 11 (then_of (test_of (body_of_word ToNumber)))) (TrueEnd ∷ while_left)) [] (y ∷ y ∷ suc n ∷ a ∷ h ∷ l ∷ c)) refl
      (omega arith)
      (by_way p 2 (2436 + 2500 * begins_on n a (if nat_lt y b then Some y else None) v) refl (omega arith) (by_cases (nat_lt y b)
      (λ t. let less : y < b = leb-true (suc y) b t in
      rw (t, begins_on, number_on) (by_way p 7 (2429 + 2500 * number_begins b n (sum_of a 1) v) refl (omega arith)
      (by_step p 1 (2428 + 2500 * number_begins b n (sum_of a 1) v) (fetches v world same _ _ _) refl (omega arith)
      (by_way p 3 (1226 + 2500 * number_begins b n (sum_of a 1) v) refl (omega arith)
      (by_step p 1 (1225 + 2500 * number_begins b n (sum_of a 1) v) (fetches v world same _ _ _) refl (omega arith)
      (by_way p 20 (7 + 2500 * number_begins b n (sum_of a 1) v) refl (omega arith) (rw (less_one n fn)
      (renamed p (ap (λ d. leaves (number_from b n (sum_of a 1) d v)) (next_double l h b y fl fh fb (omega (arith, less, fb))))
      (next _ _ (omega arith) (omega arith))))))))))
      (λ t. rw (t, begins_on, number_on) (at_once p 2 (ap (λ z. Goes (finished callers (suc n ∷ a ∷ z) v)) (same_double (double l h) h l fh fl refl)) (omega arith))))))

  numbered : (n a l h : ℕ) (w : World) → n < 65536 → l < 65536 → h < 65536 → IsWorld w → radix_of w ≡ b →
      Comes p (7 + 2500 * number_begins b n a w) (decide (n ∷ n ∷ a ∷ h ∷ l ∷ c) w) (leaves (number_from b n a (double l h) w))
  unfolding step body_steps body_spent
  numbered zero a l h w fn fl fh world same = at_once p 5 (ap (λ z. Goes (finished callers (0 ∷ a ∷ z) w)) (same_double (double l h) h l fh fl refl)) (omega arith)
  numbered (suc n) a l h w fn fl fh world same = by_way p 2 (2505 + 2500 * begun_by (fetch_byte a w) (λ x. begins_on n a (digit_of b x))) refl (omega arith)
      (renamed p (ap (λ r. on_cells r (finished callers c' w')) (sym (regrouped (fetch_byte a w) (λ x. number_on n a (double l h) (digit_of b x)) (λ q. Gives (q.2 ∷ q.1 ∷ put q.0 c)))))
      (by_begun p _ _ _ (fetch_byte a w) (Byte w) (λ x. begins_on n a (digit_of b x)) 24 2481 2500 (byte_gives w world a) refl refl (omega arith) (λ x v k.
      subst (λ o. Comes p (2481 + 2500 * begins_on n a o v) (in_test 2 (x ∷ suc n ∷ a ∷ h ∷ l ∷ c) v) (leaves (number_on n a (double l h) o v))) (sym (digit_is b x fb k.0))
      (cheaper p (40 + (2441 + 2500 * begins_on n a (if nat_lt (shown x) b then Some (shown x) else None) v)) (omega arith)
      (shown_comes x (2441 + 2500 * begins_on n a (if nat_lt (shown x) b then Some (shown x) else None) v) (suc n ∷ a ∷ h ∷ l ∷ c) v _
      (after_byte n a l h (shown x) v fn fl fh k.1.world (k.2 ∙ same) (λ l' h' fl' fh'. numbered n (sum_of a 1) l' h' v (omega (arith, fn)) fl' fh' k.1.world (k.2 ∙ same))))))))

pub to_number_comes : DefinitionDoes (body_of_word ToNumber) ToNumber
unfolding step body_steps body_spent
to_number_comes p callers (u ∷ a ∷ h ∷ l ∷ c) w need cells world = meant_by (8 + 2500 * number_begins (radix_of w) u a w) (price (fetch_radix w world)) refl need
    (by_way p 1 (7 + 2500 * number_begins (radix_of w) u a w) refl (omega arith)
    (renamed p (ap (λ r. on_cells (r ▸ λ b w. number_from b u a (double l h) w ▸ λ q. Gives (q.2 ∷ q.1 ∷ put q.0 c)) (finished callers (u ∷ a ∷ h ∷ l ∷ c) w)) (sym (fetch_radix w world)))
    (numbered p callers c (u ∷ a ∷ h ∷ l ∷ c) w (radix_of w) (world.space (w.data_start / 2 - w.data_start / 2)) u a l h w cells.0 cells.1.1.1.0 cells.1.1.0 world refl)))
  where
    price : fetch w.data_start w ≡ Gives (radix_of w) w → 8 + 2500 * number_begins (radix_of w) u a w + 2 ≤ 100 + 3200 * begun_by (base w) (λ b. number_begins b u a)
    price e = subst (λ r. 8 + 2500 * number_begins (radix_of w) u a w + 2 ≤ 100 + 3200 * begun_by r (λ b. number_begins b u a)) (sym e) (omega arith)
to_number_comes p callers c w need cells world = let no : ⊥ = omega (arith, need) in absurd no
