-- Fetches and stores in data space.
use Rattle.std.proofs.Common.{◌≡◌, ◌≢◌, ℕ, zero, suc, ◌+◌, ◌-◌, ◌*◌, ◌/◌, ◌%◌, ◌≤◌, ◌<◌, Bool, true, false, ◌==◌, if◌then◌else◌, List, [], ◌∷◌, length, refl, ap, sym, ◌∙◌, subst, arith, le-leb, lt-ltb, eqb-true, eq-eqb}
use Rattle.std.specs.Prelude.{slice_index, slice_set}
use Rattle.std.proofs.lemmas.Grind.{common_steps}
use Rattle.console_ports.specs.Ports.{access_at}
use Rattle.console_ports.specs.declared.ports.Access.TheVariants as met
use Rattle.cell_math.specs.Cell.{sum_of}
use Rattle.forth_program.specs.State.{World, Gives, ◌▸◌, Stored}
use Rattle.forth_program.specs.Access.{fetch, fetch_by, store, store_by, fetch_byte, store_byte, byte_of, with_byte, here, grow_here}
use Rattle.kernel_words.specs.Places.{here_cell}
use Rattle.kernel_words.specs.Memory.{IsDataSpace, KeepsConsole, data_cell, data_byte, with_data_cell, with_data_byte}
use Rattle.kernel_words.proofs.Cases.{by_cases}

at_data : (d a : ℕ) (stores : Bool) → a < 16384 → d ≤ a / 2 * 2 → access_at d stores a ≡ met.Data (a / 2)
at_data d a stores h k = rw (lt-ltb a 16384 h, le-leb d (a / 2 * 2) k) refl

pub cell_fits : (w : World) (a : ℕ) → IsDataSpace w → data_cell w a < 65536
unfolding data_cell
cell_fits w a h = h.cells (a / 2 - 4096)

pub byte_fits : (w : World) (a : ℕ) → IsDataSpace w → data_byte w a < 256
unfolding data_byte
byte_fits w a h = let f = cell_fits w a h in by_cases (a % 2 == 0)
    (λ e. subst (λ b. (if b then data_cell w a % 256 else data_cell w a / 256) < 256) (sym e) (omega arith))
    (λ e. subst (λ b. (if b then data_cell w a % 256 else data_cell w a / 256) < 256) (sym e) (omega (arith, f)))

pub fetched : (w : World) (a : ℕ) → IsDataSpace w → 8192 ≤ a → a < 16384 → fetch a w ≡ Gives (data_cell w a) w
unfolding data_cell
fetched w a h low high =
    let e = h.start in
    ap (fetch_by w) (at_data w.data_start a false high (omega (arith, low, e)))
    ∙ ap (λ d. Gives (slice_index w.space (a / 2 - d / 2)) w) e

pub storing : (w : World) (a x : ℕ) → IsDataSpace w → 8192 ≤ a → a < 16384 → store a x w ≡ Gives tt (with_data_cell a x w)
unfolding with_data_cell
storing w a x h low high =
    let e = h.start in
    ap (store_by w x) (at_data w.data_start a true high (omega (arith, low, e)))
    ∙ ap (λ d. Gives tt (record w { space = slice_set w.space (a / 2 - d / 2) x; made = Stored (2 * (a / 2)) x ∷ w.made })) e

pub byte_fetched : (w : World) (a : ℕ) → IsDataSpace w → 8192 ≤ a → a < 16384 → fetch_byte a w ≡ Gives (data_byte w a) w
unfolding data_byte
byte_fetched w a h low high = ap (λ r. r ▸ λ x. Gives (byte_of a x)) (fetched w a h low high)

pub byte_storing : (w : World) (a x : ℕ) → IsDataSpace w → 8192 ≤ a → a < 16384 → store_byte a x w ≡ Gives tt (with_data_byte a x w)
unfolding with_data_byte
byte_storing w a x h low high = ap (λ r. r ▸ λ c. store a (with_byte a c x)) (fetched w a h low high) ∙ storing w a (with_byte a (data_cell w a) x) h low high

-- ---- what stands after a store
set_length : (cells : List ℕ) (i v : ℕ) → length (slice_set cells i v) ≡ length cells
set_length cells i v = grind (arith, common_steps)

set_fits : (cells : List ℕ) (i v : ℕ) → v < 65536 → ((k : ℕ) → slice_index cells k < 65536) → (k : ℕ) → slice_index (slice_set cells i v) k < 65536
set_fits [] i v h f zero = omega arith
set_fits [] i v h f (suc k) = omega arith
set_fits (c ∷ cells) zero v h f zero = h
set_fits (c ∷ cells) zero v h f (suc k) = f (suc k)
set_fits (c ∷ cells) (suc i) v h f zero = f 0
set_fits (c ∷ cells) (suc i) v h f (suc k) = set_fits cells i v h (λ k. f (suc k)) k

set_here : (cells : List ℕ) (i x : ℕ) → i < length cells → slice_index (slice_set cells i x) i ≡ x
set_here [] i x h = absurd (omega (arith, h))
set_here (c ∷ cells) zero x h = refl
set_here (c ∷ cells) (suc i) x h = set_here cells i x (omega (arith, h))

set_there : (cells : List ℕ) (i j x : ℕ) → j ≢ i → slice_index (slice_set cells i x) j ≡ slice_index cells j
set_there [] i j x h = refl
set_there (c ∷ cells) zero zero x h = absurd (h refl)
set_there (c ∷ cells) zero (suc j) x h = refl
set_there (c ∷ cells) (suc i) zero x h = refl
set_there (c ∷ cells) (suc i) (suc j) x h = set_there cells i j x (λ e. h (ap suc e))

pub after_store : (w : World) (a x : ℕ) → IsDataSpace w → x < 65536 → KeepsConsole w (with_data_cell a x w)
unfolding with_data_cell
after_store w a x h f = record {
  space = record { start = h.start; room = (let same = set_length w.space (a / 2 - 4096) x in let room = h.room in omega (arith, same, room)); cells = set_fits w.space (a / 2 - 4096) x f h.cells };
  input = refl;
  printed = refl;
}

pub same_console : (w : World) → IsDataSpace w → KeepsConsole w w
same_console w h = record { space = h; input = refl; printed = refl }

pub console_then : (u v w : World) → KeepsConsole u v → KeepsConsole v w → KeepsConsole u w
console_then u v w h k = record { space = k.space; input = k.input ∙ h.input; printed = k.printed ∙ h.printed }

-- the cell itself, by any of its two addresses
pub cell_stored : (w : World) (a b x : ℕ) → IsDataSpace w → 8192 ≤ a → a < 16384 → b / 2 ≡ a / 2 → data_cell (with_data_cell a x w) b ≡ x
unfolding data_cell with_data_cell
cell_stored w a b x h low high e =
    let room = h.room in
    ap (λ i. slice_index (slice_set w.space (a / 2 - 4096) x) (i - 4096)) e ∙ set_here w.space (a / 2 - 4096) x (omega (arith, low, high, room))

pub cell_kept : (w : World) (a b x : ℕ) → 8192 ≤ a → 8192 ≤ b → b / 2 ≢ a / 2 → data_cell (with_data_cell a x w) b ≡ data_cell w b
unfolding data_cell with_data_cell
cell_kept w a b x low low' apart = set_there w.space (a / 2 - 4096) (b / 2 - 4096) x (λ e. apart (omega (arith, e, low, low')))

pub byte_kept : (w : World) (a b x : ℕ) → 8192 ≤ a → 8192 ≤ b → b / 2 ≢ a / 2 → data_byte (with_data_cell a x w) b ≡ data_byte w b
unfolding data_byte
byte_kept w a b x low low' apart = ap (byte_of b) (cell_kept w a b x low low' apart)

-- ---- HERE
pub here_is : (w : World) → IsDataSpace w → here w ≡ Gives (data_cell w here_cell) w
here_is w h = ap (λ d. fetch (d + 4) w) h.start ∙ fetched w here_cell h (omega arith) (omega arith)

pub here_grows : (w : World) (n : ℕ) → IsDataSpace w → grow_here n w ≡ Gives tt (with_data_cell here_cell (sum_of (data_cell w here_cell) n) w)
here_grows w n h =
    ap (λ r. r ▸ λ h w. store (w.data_start + 4) (sum_of h n) w) (here_is w h)
    ∙ ap (λ d. store (d + 4) (sum_of (data_cell w here_cell) n) w) h.start
    ∙ storing w here_cell (sum_of (data_cell w here_cell) n) h (omega arith) (omega arith)

-- ---- bytes
pub by_bit : {C : Type 0} (x : ℕ) → (x % 2 ≡ 0 → C) → (x % 2 ≡ 1 → C) → C
by_bit {C = C} x f g = choose (x % 2) refl (omega arith)
  where
    choose : (b : ℕ) → x % 2 ≡ b → b < 2 → C
    choose zero e h = f e
    choose (suc zero) e h = g e
    choose (suc (suc b)) e h = let no : ⊥ = omega (arith, h) in absurd no

with_byte_fits : (a v x : ℕ) → v < 65536 → with_byte a v x < 65536
with_byte_fits a v x h = by_bit a (λ e. rw e (omega (arith, h))) (λ e. rw e (omega (arith, h)))

written : (a v x : ℕ) → byte_of a (with_byte a v x) ≡ x % 256
written a v x = by_bit a (λ e. rw e (low v x)) (λ e. rw e (high v x))
  where
    low : (v x : ℕ) → (v - v % 256 + x % 256) % 256 ≡ x % 256
    low v x = omega arith

    high : (v x : ℕ) → (v % 256 + 256 * (x % 256)) / 256 ≡ x % 256
    high v x = omega arith

beside : (a b v x : ℕ) → b / 2 ≡ a / 2 → b ≢ a → byte_of b (with_byte a v x) ≡ byte_of b v
beside a b v x same apart = by_bit a
    (λ e. by_bit b (λ f. absurd (apart (omega (arith, e, f, same)))) (λ f. rw (e, f) (high v x)))
    (λ e. by_bit b (λ f. rw (e, f) (low v x)) (λ f. absurd (apart (omega (arith, e, f, same)))))
  where
    high : (v x : ℕ) → (v - v % 256 + x % 256) / 256 ≡ v / 256
    high v x = omega arith

    low : (v x : ℕ) → (v % 256 + 256 * (x % 256)) % 256 ≡ v % 256
    low v x = omega arith

pub after_byte_store : (w : World) (a x : ℕ) → IsDataSpace w → KeepsConsole w (with_data_byte a x w)
unfolding with_data_byte
after_byte_store w a x h = after_store w a (with_byte a (data_cell w a) x) h (with_byte_fits a (data_cell w a) x (cell_fits w a h))

pub byte_stored : (w : World) (a x : ℕ) → IsDataSpace w → 8192 ≤ a → a < 16384 → data_byte (with_data_byte a x w) a ≡ x % 256
unfolding with_data_byte data_byte
byte_stored w a x h low high = ap (byte_of a) (cell_stored w a a (with_byte a (data_cell w a) x) h low high refl) ∙ written a (data_cell w a) x

one_cell : (w : World) (a b : ℕ) → b / 2 ≡ a / 2 → data_cell w a ≡ data_cell w b
unfolding data_cell
one_cell w a b same = ap (λ i. slice_index w.space (i - 4096)) (sym same)

pub byte_beside : (w : World) (a b x : ℕ) → IsDataSpace w → 8192 ≤ a → a < 16384 → 8192 ≤ b → b ≢ a → data_byte (with_data_byte a x w) b ≡ data_byte w b
unfolding with_data_byte data_byte
byte_beside w a b x h low high low' apart = by_cases (b / 2 == a / 2)
    (λ e. let same : b / 2 ≡ a / 2 = eqb-true _ _ e in
    ap (byte_of b) (cell_stored w a b (with_byte a (data_cell w a) x) h low high same) ∙ beside a b (data_cell w a) x same apart ∙ ap (byte_of b) (one_cell w a b same))
    (λ e. byte_kept w a b (with_byte a (data_cell w a) x) low low' (λ f. let t : (b / 2 == a / 2) ≡ true = eq-eqb (b / 2) (a / 2) f in let no : ⊥ = cc in absurd no))

-- a place of the kernel is fetched
pub reads : (w : World) (a : ℕ) (c : List ℕ) → IsDataSpace w → 8192 ≤ a → a < 16384 → (fetch a w ▸ λ x. Gives (x ∷ c)) ≡ Gives (data_cell w a ∷ c) w
reads w a c h low high = ap (λ r. r ▸ λ x. Gives (x ∷ c)) (fetched w a h low high)

pub writes : (w : World) (a x : ℕ) (c : List ℕ) → IsDataSpace w → 8192 ≤ a → a < 16384 → (store a x w ▸ λ _. Gives c) ≡ Gives c (with_data_cell a x w)
writes w a x c h low high = ap (λ r. r ▸ λ _. Gives c) (storing w a x h low high)

pub reads_byte : (w : World) (a : ℕ) (c : List ℕ) → IsDataSpace w → 8192 ≤ a → a < 16384 → (fetch_byte a w ▸ λ x. Gives (x ∷ c)) ≡ Gives (data_byte w a ∷ c) w
reads_byte w a c h low high = ap (λ r. r ▸ λ x. Gives (x ∷ c)) (byte_fetched w a h low high)

pub writes_byte : (w : World) (a x : ℕ) (c : List ℕ) → IsDataSpace w → 8192 ≤ a → a < 16384 → (store_byte a x w ▸ λ _. Gives c) ≡ Gives c (with_data_byte a x w)
writes_byte w a x c h low high = ap (λ r. r ▸ λ _. Gives c) (byte_storing w a x h low high)

-- the bytes of a cell
pub low_of : (w : World) (a : ℕ) → a % 2 ≡ 0 → data_byte w a ≡ data_cell w a % 256
unfolding data_byte
low_of w a e = rw e refl

pub high_of : (w : World) (a : ℕ) → a % 2 ≡ 0 → data_byte w (suc a) ≡ data_cell w a / 256
unfolding data_byte
high_of w a e = rw (odd a e) (ap (λ x. x / 256) (one_cell w (suc a) a (whole a e)))
  where
    odd : (a : ℕ) → a % 2 ≡ 0 → suc a % 2 ≡ 1
    odd a e = omega (arith, e)

    whole : (a : ℕ) → a % 2 ≡ 0 → a / 2 ≡ suc a / 2
    whole a e = omega (arith, e)

pub cell_alike : (v w : World) (a : ℕ) → a % 2 ≡ 0 → data_byte v a ≡ data_byte w a → data_byte v (suc a) ≡ data_byte w (suc a) → data_cell v a ≡ data_cell w a
cell_alike v w a e f g = alike (data_cell v a) (data_cell w a) (sym (low_of v a e) ∙ f ∙ low_of w a e) (sym (high_of v a e) ∙ g ∙ high_of w a e)
  where
    alike : (x y : ℕ) → x % 256 ≡ y % 256 → x / 256 ≡ y / 256 → x ≡ y
    alike x y f g = omega (arith, f, g)
