-- What HOLD and # do to the hold pointer.
use Rattle.std.proofs.Common.{◌≡◌, ℕ, zero, suc, ◌+◌, ◌-◌, ◌*◌, ◌/◌, ◌%◌, ◌≤◌, ◌<◌, Bool, true, false, ◌&&◌, nat_le, if◌then◌else◌, List, [], ◌∷◌, length, refl, ap, sym, subst, arith, leb-true, le-leb, lt-ltb}
use Rattle.std.specs.Prelude.{slice_index, slice_set}
use Rattle.std.proofs.Math.Nat.{div-mul-le_self}
use Rattle.console_ports.specs.Ports.{access_at}
use Rattle.console_ports.specs.declared.ports.Access.TheVariants as met
use Rattle.cell_math.specs.Cell.{difference_of}
use Rattle.forth_program.specs.State.{World, Reply, Gives, Stops, ◌▸◌, Halted, Stored}
use Rattle.forth_program.specs.Access.{fetch, fetch_by, store, store_by, store_byte, with_byte}
use Rattle.forth_program.specs.PicturedOutput.{hold, digit_char, radix, hold_digit}
use Rattle.forth_program.specs.Cells.{IsWorld}
use Rattle.library_laws.proofs.Cells.{by_cases}
use Rattle.library_laws.proofs.Pictures.{hold_at, and_left, and_right}
use Rattle.library_laws.proofs.Replies.{Giving, giving_then, giving_both, giving_weaker, like_like, GivesNothing, IsLike, store_gives, store_byte_gives}

-- an address in data space
at_data : (d a : ℕ) (stores : Bool) → a < 16384 → d ≤ a / 2 * 2 → access_at d stores a ≡ met.Data (a / 2)
at_data d a stores h k = rw (lt-ltb a 16384 h, le-leb d (a / 2 * 2) k) refl

pub fetch_is : (w : World) (a : ℕ) → a < 16384 → w.data_start ≤ a / 2 * 2 → fetch a w ≡ Gives (slice_index w.space (a / 2 - w.data_start / 2)) w
fetch_is w a h k = ap (fetch_by w) (at_data w.data_start a false h k)

abbrev stored : World → ℕ → ℕ → World
stored w a x = record w { space = slice_set w.space (a / 2 - w.data_start / 2) x; made = Stored (2 * (a / 2)) x ∷ w.made }

pub store_is : (w : World) (a x : ℕ) → a < 16384 → w.data_start ≤ a / 2 * 2 → store a x w ≡ Gives tt (stored w a x)
store_is w a x h k = ap (store_by w x) (at_data w.data_start a true h k)

-- a cell that was set, and another
set_here : (cells : List ℕ) (i x : ℕ) → i < length cells → slice_index (slice_set cells i x) i ≡ x
set_here [] i x h = absurd (omega (arith, h))
set_here (c ∷ cells) zero x h = refl
set_here (c ∷ cells) (suc i) x h = set_here cells i x (omega (arith, h))

set_there : (cells : List ℕ) (i j x : ℕ) → j < i → slice_index (slice_set cells i x) j ≡ slice_index cells j
set_there [] i j x h = refl
set_there (c ∷ cells) zero j x h = absurd (omega (arith, h))
set_there (c ∷ cells) (suc i) zero x h = refl
set_there (c ∷ cells) (suc i) (suc j) x h = set_there cells i j x (omega (arith, h))

-- the hold pointer
abbrev pub pointer : World → ℕ
pointer w = slice_index w.space ((w.data_start + 2) / 2 - w.data_start / 2)

pub fetch_pointer : (w : World) → IsWorld w → fetch (w.data_start + 2) w ≡ Gives (pointer w) w
fetch_pointer w h = let d = h.data_start in fetch_is w (w.data_start + 2) (omega (arith, d)) (omega arith)

-- after a store to the hold pointer
pub pointer_stored : (w : World) (x : ℕ) → IsWorld w → Giving (store (w.data_start + 2) x w) (λ _ v. (pointer v ≡ x) × (v.data_start ≡ w.data_start))
pointer_stored w x h =
    let d = h.data_start in
    let r = h.room in
    subst (λ r. Giving r (λ _ v. (pointer v ≡ x) × (v.data_start ≡ w.data_start))) (sym (store_is w (w.data_start + 2) x (omega (arith, d)) (omega arith)))
    (set_here w.space ((w.data_start + 2) / 2 - w.data_start / 2) x (omega (arith, d, r)), refl)

-- after a byte is stored in the hold buffer
byte_stored : (w : World) (a x : ℕ) → IsWorld w → w.data_start + 16 ≤ a → a ≤ w.data_start + 95 → Giving (store_byte a x w) (λ _ v. pointer v ≡ pointer w)
byte_stored w a x h k l =
    let d = h.data_start in
    let small : a < 16384 = omega (arith, d, l) in
    let over : w.data_start ≤ a / 2 * 2 = omega (arith, k) in
    subst (λ r. Giving (r ▸ λ c. store a (with_byte a c x)) (λ _ v. pointer v ≡ pointer w)) (sym (fetch_is w a small over))
    (subst (λ r. Giving r (λ _ v. pointer v ≡ pointer w)) (sym (store_is w a (with_byte a (slice_index w.space (a / 2 - w.data_start / 2)) x) small over))
    (set_there w.space (a / 2 - w.data_start / 2) ((w.data_start + 2) / 2 - w.data_start / 2) _ (omega (arith, k))))

-- a digit takes one place
abbrev pub Lowers : World → World → Type 0
Lowers w v = IsLike w v × (pointer v + 1 ≡ pointer w)

lowered : (w : World) (x k : ℕ) → IsWorld w → k < 65536 → w.data_start + 16 ≤ k → k ≤ w.data_start + 95 → k + 1 ≡ pointer w → Giving (store (w.data_start + 2) k w ▸ λ _. store_byte k x) (λ _ v. Lowers w v)
lowered w x k h fk low high e =
    giving_then (store (w.data_start + 2) k w) (λ _. store_byte k x) (λ _ v. IsLike w v × ((pointer v ≡ k) × (v.data_start ≡ w.data_start))) (λ _ v. Lowers w v)
    (giving_both (store (w.data_start + 2) k w) (GivesNothing w) (λ _ v. (pointer v ≡ k) × (v.data_start ≡ w.data_start)) (store_gives w h (w.data_start + 2) k fk) (pointer_stored w k h))
    (λ u v q.
    let s = q.1.1 in
    giving_weaker (store_byte k x v) (λ _ z. IsLike v z × (pointer z ≡ pointer v)) (λ _ z. Lowers w z)
    (giving_both (store_byte k x v) (GivesNothing v) (λ _ z. pointer z ≡ pointer v) (store_byte_gives v q.0.world k x) (byte_stored v k x q.0.world (omega (arith, s, low)) (omega (arith, s, high))))
    (λ u z r. (like_like w v z q.0 r.0, let a = r.1 in let b = q.1.0 in omega (arith, a, b, e))))

pub hold_lowers : (w : World) (x : ℕ) → IsWorld w → Giving (hold x w) (λ _ v. Lowers w v)
hold_lowers w x h = subst (λ r. Giving (r ▸ hold_at x) (λ _ v. Lowers w v)) (sym (fetch_pointer w h)) (by_cases (nat_le (w.data_start + 16) (difference_of (pointer w) 1) && nat_le (difference_of (pointer w) 1) (w.data_start + 95))
    (λ e.
    let d = h.data_start in
    let low : w.data_start + 16 ≤ difference_of (pointer w) 1 =
    leb-true (w.data_start + 16) (difference_of (pointer w) 1)
    (and_left (nat_le (w.data_start + 16) (difference_of (pointer w) 1)) (nat_le (difference_of (pointer w) 1) (w.data_start + 95)) e) in
    let high : difference_of (pointer w) 1 ≤ w.data_start + 95 =
    leb-true (difference_of (pointer w) 1) (w.data_start + 95)
    (and_right (nat_le (w.data_start + 16) (difference_of (pointer w) 1)) (nat_le (difference_of (pointer w) 1) (w.data_start + 95)) e) in
    let small : pointer w < 65536 = h.space ((w.data_start + 2) / 2 - w.data_start / 2) in
    rw (e, hold_at) (lowered w x (difference_of (pointer w) 1) h (omega arith) low high (omega (arith, low, high, small, d))))
    (λ e. rw (e, hold_at) tt))

-- a digit of a number: less is left, at most a half
abbrev pub Digits : World → ℕ → ℕ → World → Type 0
Digits w ud left v = (2 * left ≤ ud) × Lowers w v

digit_in : ℕ → ℕ → World → Reply ℕ
digit_in ud b w = hold (digit_char (ud % b)) w ▸ λ _. Gives (ud / b)

pub digit_lowers : (w : World) (ud : ℕ) → IsWorld w → Giving (hold_digit ud w) (Digits w ud)
digit_lowers w ud h = giving_then (radix w) (λ b w. hold (digit_char (ud % b)) w ▸ λ _. Gives (ud / b)) (λ b v. (2 ≤ b) × (v ≡ w)) (Digits w ud) radix_gives
    (λ b v q. giving_then (hold (digit_char (ud % b)) v) (λ _. Gives (ud / b)) (λ _ z. Lowers w z) (Digits w ud)
    (subst (λ v. Giving (hold (digit_char (ud % b)) v) (λ _ z. Lowers w z)) (sym q.1) (hold_lowers w (digit_char (ud % b)) h)) (λ u z r. (half b q.0, r)))
  where
    half : (b : ℕ) → 2 ≤ b → 2 * (ud / b) ≤ ud
    half b k = let m : ud / b * b ≤ ud = div-mul-le_self ud b in let n : 2 * (ud / b) ≤ b * (ud / b) = (grind arith) in omega (arith, m, n)

    radix_gives : Giving (radix w) (λ b v. (2 ≤ b) × (v ≡ w))
    radix_gives =
        let d = h.data_start in
        let a = h.aligned in
        subst (λ r. Giving (r ▸ λ b w. if nat_le 2 b && nat_le b 36 then Gives b w else Stops (Halted 11) w) (λ b v. (2 ≤ b) × (v ≡ w)))
        (sym (fetch_is w w.data_start (omega (arith, d)) (omega (arith, a))))
        (by_cases
        (nat_le 2 (slice_index w.space (w.data_start / 2 - w.data_start / 2)) && nat_le (slice_index w.space (w.data_start / 2 - w.data_start / 2)) 36)
        (λ e.
        rw e (
          leb-true 2 (slice_index w.space (w.data_start / 2 - w.data_start / 2))
              (and_left (nat_le 2 (slice_index w.space (w.data_start / 2 - w.data_start / 2)))
              (nat_le (slice_index w.space (w.data_start / 2 - w.data_start / 2)) 36) e),
          refl,
        ))
        (λ e. rw e tt))
