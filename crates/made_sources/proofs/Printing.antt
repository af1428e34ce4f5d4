-- `U.` prints each cell in base ten, with the hold buffer empty before it.
use Rattle.std.proofs.Common.{◌≡◌, ℕ, zero, suc, ◌+◌, ◌-◌, ◌*◌, ◌/◌, ◌%◌, ◌≤◌, ◌<◌, Bool, true, false, ◌&&◌, nat_le, if◌then◌else◌, List, [], ◌∷◌, length, refl, ap, sym, subst, ◌∙◌, arith, le-leb, lt-ltb}
use Rattle.std.specs.Prelude.{slice_index, slice_set}
use Rattle.std.proofs.lemmas.Grind.{common_steps}
use Rattle.console_ports.specs.declared.ports.Access.TheVariants as met
use Rattle.console_ports.specs.Ports.{access_at}
use Rattle.cell_math.specs.Cell.{sum_of, difference_of}
use Rattle.forth_program.specs.State.{Access, World, Reply, Gives, Stops, ◌▸◌, Halted}
use Rattle.forth_program.specs.Access.{fetch_by, store_by, store, with_byte, byte_of, store_byte, emit}
use Rattle.forth_program.specs.ByteWords.{type_out}
use Rattle.forth_program.specs.PicturedOutput.{hold, digit_char, hold_digit, hold_digits, hold_all, picture, print_number}

-- what does not end the run, and what is given has a property
abbrev pub Given : {A : Type 0} → Reply A → (A → World → Type 0) → Type 0
Given (Gives value w) P = P value w
Given (Stops end w) P = ⊥

given_then : {A B : Type 0} (r : Reply A) (f : A → World → Reply B) (P : A → World → Type 0) (Q : B → World → Type 0) → Given r P → ((x : A) (w : World) → P x w → Given (f x w) Q) → Given (r ▸ f) Q
given_then (Gives x w) f P Q h each = each x w h
given_then (Stops end w) f P Q h each = absurd h

-- data space begins at 8192, the base is ten, and the hold pointer is this
pub record IsReady (input : List ℕ) (pointer : ℕ) (w : World) : Type 0 where
  pub start : w.data_start ≡ 8192
  pub base : slice_index w.space 0 ≡ 10
  pub holds : slice_index w.space 1 ≡ pointer
  pub room : 48 ≤ length w.space
  pub keeps : w.input ≡ input

-- a world whose data space begins there
abbrev world_at : List ℕ → List ℕ → List ℕ → List Access → World
world_at space input printed made = record { data_start = 8192; space = space; input = input; printed = printed; made = made }

is_at : (w : World) → w.data_start ≡ 8192 → w ≡ world_at w.space w.input w.printed w.made
is_at w start = ap (λ d. record w { data_start = d }) start

-- a cell that was set, and another
set_here : (cells : List ℕ) (i x : ℕ) → i < length cells → slice_index (slice_set cells i x) i ≡ x
set_here [] i x h = absurd (omega (arith, h))
set_here (c ∷ cells) zero x h = refl
set_here (c ∷ cells) (suc i) x h = set_here cells i x (omega (arith, h))

set_there : (cells : List ℕ) (i j x : ℕ) → j < i → slice_index (slice_set cells i x) j ≡ slice_index cells j
set_there [] i j x h = refl
set_there (c ∷ cells) zero j x h = absurd (omega (arith, h))
set_there (c ∷ cells) (suc i) zero x h = refl
set_there (c ∷ cells) (suc i) (suc j) x h = set_there cells i j x (omega (arith, h))

set_length : (cells : List ℕ) (i v : ℕ) → length (slice_set cells i v) ≡ length cells
set_length cells i v = grind (arith, common_steps)

-- an address in data space
at_data : (a : ℕ) (stores : Bool) → a < 16384 → 8192 ≤ a / 2 * 2 → access_at 8192 stores a ≡ met.Data (a / 2)
at_data a stores h k = rw (lt-ltb a 16384 h, le-leb 8192 (a / 2 * 2) k) refl

module _ (input : List ℕ) where
  -- ---- bytes in the hold buffer

  abbrev Stays : ℕ → Unit {0} → World → Type 0
  Stays pointer nothing w = IsReady input pointer w

  byte_held : (space printed : List ℕ) (made : List Access) (pointer a c : ℕ) → IsReady input pointer (world_at space input printed made) → 8208 ≤ a → a < 8288 →
      Given (store_byte a c (world_at space input printed made)) (Stays pointer)
  byte_held space printed made pointer a c ready low high =
      subst (λ m. Given (fetch_by (world_at space input printed made) m ▸ λ cell. store a (with_byte a cell c)) (Stays pointer)) (sym (at_data a false (omega (arith, high)) (omega (arith, low))))
      (subst (λ m. Given (store_by (world_at space input printed made) (with_byte a (slice_index space (a / 2 - 4096)) c) m) (Stays pointer)) (sym (at_data a true (omega (arith, high)) (omega (arith, low))))
      (record {
        start = refl;
        base = set_there space (a / 2 - 4096) 0 _ (omega (arith, low)) ∙ ready.base;
        holds = set_there space (a / 2 - 4096) 1 _ (omega (arith, low)) ∙ ready.holds;
        room = (let e = set_length space (a / 2 - 4096) (with_byte a (slice_index space (a / 2 - 4096)) c) in let r = ready.room in omega (arith, e, r));
        keeps = refl;
      }))

  pointer_set : (space printed : List ℕ) (made : List Access) (pointer k : ℕ) → IsReady input pointer (world_at space input printed made) → Given (store 8194 k (world_at space input printed made)) (Stays k)
  pointer_set space printed made pointer k ready = record {
    start = refl;
    base = set_there space 1 0 k (omega arith) ∙ ready.base;
    holds = set_here space 1 k (let r = ready.room in omega (arith, r));
    room = (let e = set_length space 1 k in let r = ready.room in omega (arith, e, r));
    keeps = refl;
  }

  -- for each world, by its parts
  by_parts : (w : World) (pointer : ℕ) (P : World → Type 0) → IsReady input pointer w → ((space printed : List ℕ) (made : List Access) → IsReady input pointer (world_at space input printed made) →
      P (world_at space input printed made)) → P w
  by_parts w pointer P ready each =
      let same : w ≡ world_at w.space input w.printed w.made = is_at w ready.start ∙ ap (λ i. world_at w.space i w.printed w.made) ready.keeps in
      subst P (sym same) (each w.space w.printed w.made (subst (IsReady input pointer) same ready))

  -- HOLD
  held : (w : World) (k c : ℕ) → IsReady input (suc k) w → 8208 ≤ k → k < 8288 → Given (hold c w) (Stays k)
  held w k c ready low high = by_parts w (suc k) (λ w. Given (hold c w) (Stays k)) ready (λ space printed made ready.
      let less : difference_of (suc k) 1 ≡ k = omega (arith, low, high) in
      subst (λ h. Given
      (if nat_le 8208 (difference_of h 1) && nat_le (difference_of h 1) 8287 then (store 8194 (difference_of h 1) (world_at space input printed made) ▸ λ _. store_byte (difference_of h 1) c) else Stops (Halted 12)
      (world_at space input printed made))
      (Stays k)) (sym ready.holds)
      (subst (λ h. Given (if nat_le 8208 h && nat_le h 8287 then (store 8194 h (world_at space input printed made) ▸ λ _. store_byte h c) else Stops (Halted 12) (world_at space input printed made)) (Stays k)) (sym less)
      (rw (le-leb 8208 k low, le-leb k 8287 (omega (arith, high)))
      (given_then (store 8194 k (world_at space input printed made)) (λ _. store_byte k c) (Stays k) (Stays k) (pointer_set space printed made (suc k) k ready)
      (λ u v still. by_parts v k (λ v. Given (store_byte k c v) (Stays k)) still (λ space printed made ready. byte_held space printed made k k c ready low high))))))

  -- ---- digits

  -- a digit: the quotient is left
  abbrev Left : ℕ → ℕ → ℕ → World → Type 0
  Left x k left w = (left ≡ x / 10) × IsReady input k w

  digit_held : (w : World) (x k : ℕ) → IsReady input (suc k) w → 8208 ≤ k → k < 8288 → Given (hold_digit x w) (Left x k)
  digit_held w x k ready low high = by_parts w (suc k) (λ w. Given (hold_digit x w) (Left x k)) ready (λ space printed made ready.
      subst (λ b. Given ((if nat_le 2 b && nat_le b 36 then Gives b (world_at space input printed made) else Stops (Halted 11) (world_at space input printed made)) ▸ λ b w. hold (digit_char (x % b)) w ▸ λ _. Gives
      (x / b)) (Left x k)) (sym ready.base)
      (given_then (hold (digit_char (x % 10)) (world_at space input printed made)) (λ _. Gives (x / 10)) (Stays k) (Left x k) (held (world_at space input printed made) k (digit_char (x % 10)) ready low high)
      (λ u v still. (refl, still))))

  -- ten to the power of a number
  abbrev tens : ℕ → ℕ
  tens zero = 1
  tens (suc n) = 10 * tens n

  -- at most so many places are taken
  record Held (low : ℕ) (left : ℕ) (w : World) : Type 0 where
    pointer : ℕ
    above : low ≤ pointer
    below : pointer ≤ 8288
    ready : IsReady input pointer w

  by_left : (left n low : ℕ) (w : World) → (left ≡ 0 → Held low 0 w) → ((l : ℕ) → left ≡ suc l → Given (hold_digits n (suc l) w) (Held low)) →
      Given (elim left [ zero ↦ Gives zero w | suc m ↦ hold_digits n (suc m) w ]) (Held low)
  by_left zero n low w f g = f refl
  by_left (suc l) n low w f g = g l refl

  lower : (a b x : ℕ) (w : World) → a ≤ b → Held b x w → Held a x w
  lower a b x w h k = record { pointer = k.pointer; above = (let l = k.above in omega (arith, h, l)); below = k.below; ready = k.ready }

  weaker : {A : Type 0} (r : Reply A) (P Q : A → World → Type 0) → Given r P → ((x : A) (w : World) → P x w → Q x w) → Given r Q
  weaker (Gives x w) P Q h each = each x w h
  weaker (Stops end w) P Q h each = h

  digits_held : (places n x k : ℕ) (w : World) → places ≤ n → x < tens (suc places) → 8208 ≤ k → k + places < 8288 → IsReady input (suc (k + places)) w → Given (hold_digits (suc n) x w) (Held k)
  digits_held zero n x k w fuel small low high ready =
      let r : IsReady input (suc k) w = subst (λ p. IsReady input p w) (let e : suc (k + 0) ≡ suc k = omega arith in e) ready in
      given_then (hold_digit x w) (λ left w. elim left [ zero ↦ Gives zero w | suc m ↦ hold_digits n (suc m) w ]) (Left x k) (Held k) (digit_held w x k r low (omega (arith, high)))
      (λ left v still.
      let e = still.0 in
      by_left left n k v (λ z. record { pointer = k; above = omega arith; below = omega (arith, high); ready = still.1 }) (λ l more. absurd (omega (arith, small, more, e))))
  digits_held (suc places) zero x k w fuel small low high ready = absurd (omega (arith, fuel))
  digits_held (suc places) (suc n) x k w fuel small low high ready =
      let r : IsReady input (suc (suc (k + places))) w = subst (λ p. IsReady input p w) (let e : suc (k + suc places) ≡ suc (suc (k + places)) = omega arith in e) ready in
      given_then (hold_digit x w) (λ left w. elim left [ zero ↦ Gives zero w | suc m ↦ hold_digits (suc n) (suc m) w ]) (Left x (suc (k + places))) (Held k)
      (digit_held w x (suc (k + places)) r (omega (arith, low)) (omega (arith, high)))
      (λ left v still.
      let e = still.0 in
      by_left left (suc n) k v (λ z. record { pointer = suc (k + places); above = omega arith; below = omega (arith, high); ready = still.1 })
      (λ l more. digits_held places n (suc l) k v (omega (arith, fuel)) (omega (arith, small, more, e)) low (omega (arith, high)) still.1))

  -- ---- what is held is printed

  typed : (n a pointer : ℕ) (w : World) → 8208 ≤ a → a + n ≤ 8288 → IsReady input pointer w → Given (type_out n a w) (Stays pointer)
  typed zero a pointer w low high ready = ready
  typed (suc n) a pointer w low high ready = by_parts w pointer (λ w. Given (type_out (suc n) a w) (Stays pointer)) ready (λ space printed made ready.
      let next : sum_of a 1 ≡ suc a = omega (arith, high) in
      subst (λ m. Given ((fetch_by (world_at space input printed made) m ▸ λ cell. Gives (byte_of a cell)) ▸ λ c w. emit c w ▸ λ _. type_out n (sum_of a 1)) (Stays pointer))
      (sym (at_data a false (omega (arith, high)) (omega (arith, low))))
      (subst (λ b. Given (emit (byte_of a (slice_index space (a / 2 - 4096))) (world_at space input printed made) ▸ λ _. type_out n b) (Stays pointer)) (sym next)
      (typed n (suc a) pointer _ (omega (arith, low)) (omega (arith, high)) (record { start = refl; base = ready.base; holds = ready.holds; room = ready.room; keeps = refl }))))

  emitted : (c pointer : ℕ) (w : World) → IsReady input pointer w → Given (emit c w) (Stays pointer)
  emitted c pointer w ready = by_parts w pointer (λ w. Given (emit c w) (Stays pointer)) ready (λ space printed made ready. record { start = refl; base = ready.base; holds = ready.holds; room = ready.room; keeps = refl })

  -- what stands in the hold buffer, and a space
  abbrev typing : World → Reply (Unit {0})
  typing w = picture w ▸ λ p w. type_out p.1 p.0 w ▸ λ _. emit 32

  abbrev Keeps : {A : Type 0} → A → World → Type 0
  Keeps x w = w.input ≡ input

  types : (low left : ℕ) (w : World) → 8208 ≤ low → Held low left w → Given (typing w) Keeps
  types low left w over held = by_parts w held.pointer (λ w. Given (typing w) Keeps) held.ready (λ space printed made ready.
      let above = held.above in
      let below = held.below in
      let size : difference_of 8288 held.pointer ≡ 8288 - held.pointer = omega (arith, above, below, over) in
      subst (λ a. Given (type_out (difference_of 8288 a) a (world_at space input printed made) ▸ λ _. emit 32) Keeps) (sym ready.holds)
      (subst (λ n. Given (type_out n held.pointer (world_at space input printed made) ▸ λ _. emit 32) Keeps) (sym size)
      (given_then (type_out (8288 - held.pointer) held.pointer (world_at space input printed made)) (λ _. emit 32) (Stays held.pointer) Keeps
      (typed (8288 - held.pointer) held.pointer held.pointer (world_at space input printed made) (omega (arith, above, over)) (omega (arith, below)) ready)
      (λ u v still. weaker (emit 32 v) (Stays held.pointer) Keeps (emitted 32 held.pointer v still) (λ u v last. last.keeps)))))

  -- all of it
  pub prints : (x pointer : ℕ) (w : World) → x < 65536 → IsReady input pointer w → Given (print_number x false w) Keeps
  prints x pointer w small ready = by_parts w pointer (λ w. Given (print_number x false w) Keeps) ready (λ space printed made ready.
      given_then (store 8194 8288 (world_at space input printed made)) (λ _ w. hold_all x w ▸ λ _ w. typing w) (Stays 8288) Keeps (pointer_set space printed made pointer 8288 ready)
      (λ u v opened. given_then (hold_all x v) (λ _ w. typing w) (Held 8283) Keeps (digits_held 4 31 x 8283 v (omega arith) (omega (arith, small)) (omega arith) (omega arith) opened)
      (λ left v held. types 8283 left v (omega arith) held)))
