-- Library words leave cells, or end the run for another cause than a lack.
use Rattle.std.proofs.Common.{◌≡◌, ℕ, zero, suc, ◌+◌, ◌-◌, ◌*◌, ◌/◌, ◌%◌, ◌≤◌, ◌<◌, Bool, true, false, ◌&&◌, nat_le, nat_lt, ◌==◌, if◌then◌else◌, Option, Some, None, List, [], ◌∷◌, length, refl, arith, leb-true}
use Rattle.std.specs.Prelude.{slice_index, ℤ, pos, negsuc, ◌*ℤ◌, int_lt, int_rem, int_div, unsigned_abs}
use Rattle.std.proofs.Math.Nat.{mod-lt}
use Rattle.console_ports.specs.Ports.{access_at, even}
use Rattle.console_ports.specs.declared.ports.Access.{Access as Met}
use Rattle.console_ports.specs.declared.ports.Access.TheVariants as met
use Rattle.cell_math.specs.Cell.{sum_of, difference_of, signed, double, signed_double, cell_of}
use Rattle.cell_math.specs.Quotients.{floored, floored_rest}
use Rattle.cell_math.specs.Divisions.{Division, unsigned_division, floored_division, symmetric_division, divided, in_signed_range}
use Rattle.word_table.specs.declared.word.Word.{Word}
use Rattle.word_table.specs.declared.word.Word.TheVariants.{QDup, TwoSwap, TwoOver, Abs, Max, Min, TwoSlash, CFetch, CStore, PlusStore, TwoFetch, TwoStore, Count, Comma, CComma, Allot, Align}
use Rattle.word_table.specs.declared.word.Word.TheVariants.{UMStar, MStar, Star, UMSlashMod, SMSlashRem, FMSlashMod, SlashMod, Slash, Mod, StarSlashMod, StarSlash}
use Rattle.word_table.specs.declared.word.Word.TheVariants.{LessSharp, Hold, Sign, Sharp, SharpS, SharpGreater, Dot, UDot, TypeOut, Spaces, Fill, Move, Accept, ToNumber}
use Rattle.word_table.specs.Table.{entry_of}
use Rattle.forth_program.specs.State.{World, Reply, Gives, Stops, ◌▸◌, Halted}
use Rattle.forth_program.specs.Access.{taken, fetch_by, store_by, fetch, store, emit, take_key, byte_of, with_byte, fetch_byte, store_byte, base, here, grow_here}
use Rattle.forth_program.specs.ByteWords.{type_out, emit_spaces, positive, fill, copy_byte, move_up, move_down, move, accept, digit_of, number_from}
use Rattle.forth_program.specs.PicturedOutput.{open_picture, hold, hold_sign, digit_char, radix, hold_digit, hold_digits, hold_all, picture, print_number}
use Rattle.forth_program.specs.Meaning.{meaning, both, quotient_only, rest_only}
use Rattle.library_laws.specs.Bodies.{has_definition}
use Rattle.forth_program.specs.Cells.{AreCells, IsWorld}
use Rattle.library_laws.specs.Leaving.{ChangesWithin, IsNoLack, LeavesWell}
use Rattle.library_laws.proofs.Cells.{by_cases, with_byte_fits}
use Rattle.library_laws.proofs.Replies.{IsLike, like_like, set_fits, set_length, byte_of_fits}
use Rattle.library_laws.proofs.Signs.{abs_fits}

-- what is given has a property, and a stop is for no lack
abbrev Sound : {A : Type 0} → Reply A → (A → World → Type 0) → Type 0
Sound (Gives x w) P = P x w
Sound (Stops end w) P = IsNoLack end

then_sound : {A B : Type 0} (r : Reply A) (f : A → World → Reply B) (P : A → World → Type 0) (Q : B → World → Type 0) → Sound r P → ((x : A) (w : World) → P x w → Sound (f x w) Q) → Sound (r ▸ f) Q
then_sound (Gives x w) f P Q h each = each x w h
then_sound (Stops end w) f P Q h each = h

abbrev Cell : World → ℕ → World → Type 0
Cell old x new = (x < 65536) × IsLike old new

abbrev Like : {A : Type 0} → World → A → World → Type 0
Like old x new = IsLike old new

same : (w : World) → IsWorld w → IsLike w w
same w h = record { world = h; start = refl }

taken_sound : (w : World) (h : IsWorld w) (i : List ℕ) → ((k : ℕ) → slice_index i k < 256) → Sound (taken i w) (Cell w)
taken_sound w h [] k = tt
taken_sound w h (byte ∷ i) k = ((let b : byte < 256 = k 0 in omega (arith, b)), record { world = record { data_start = h.data_start; aligned = h.aligned; room = h.room; space = h.space; input = λ j. k (suc j) }; start = refl })

fetch_by_sound : (w : World) (h : IsWorld w) (m : Met) → Sound (fetch_by w m) (Cell w)
fetch_by_sound w h (met.Data i) = (h.space (i - w.data_start / 2), same w h)
fetch_by_sound w h met.Key = taken_sound w h w.input h.input
fetch_by_sound w h (met.Outside a) = tt
fetch_by_sound w h met.Print = tt
fetch_by_sound w h met.Halt = tt

store_by_sound : (w : World) (h : IsWorld w) (m : Met) (v : ℕ) → v < 65536 → Sound (store_by w v m) (Like w)
store_by_sound w h (met.Data i) v n = record {
  world = record {
    data_start = h.data_start;
    aligned = h.aligned;
    room = (let same = set_length w.space (i - w.data_start / 2) v in let room = h.room in omega (arith, same, room));
    space = set_fits w.space (i - w.data_start / 2) v n h.space;
    input = h.input;
  };
  start = refl;
}
store_by_sound w h met.Print v n = record { world = record { data_start = h.data_start; aligned = h.aligned; room = h.room; space = h.space; input = h.input }; start = refl }
store_by_sound w h met.Halt v n = tt
store_by_sound w h (met.Outside a) v n = tt
store_by_sound w h met.Key v n = tt

fetch_sound : (w : World) → IsWorld w → (a : ℕ) → Sound (fetch a w) (Cell w)
fetch_sound w h a = fetch_by_sound w h (access_at w.data_start false a)

-- from a world that is like another
store_sound : (o w : World) → IsLike o w → (a v : ℕ) → v < 65536 → Sound (store a v w) (Like o)
store_sound o w k a v n = weaker (store a v w) (store_by_sound w k.world (access_at w.data_start true a) v n)
  where
    weaker : {A : Type 0} (r : Reply A) → Sound r (Like w) → Sound r (Like o)
    weaker (Gives x z) h = like_like o w z k h
    weaker (Stops end z) h = h

from_cell : {A : Type 0} (o w : World) (r : Reply ℕ) (f : ℕ → World → Reply A) (Q : A → World → Type 0) → IsLike o w → Sound r (Cell w) → ((x : ℕ) (v : World) → x < 65536 → IsLike o v → Sound (f x v) Q) → Sound (r ▸ f) Q
from_cell o w r f Q k h each = then_sound r f (Cell w) Q h (λ x v c. each x v c.0 (like_like o w v k c.1))

fetch_byte_sound : (o w : World) → IsLike o w → (a : ℕ) → Sound (fetch_byte a w) (Cell o)
fetch_byte_sound o w k a = from_cell o w (fetch a w) (λ x. Gives (byte_of a x)) (Cell o) k (fetch_sound w k.world a) (λ x v f l. (byte_of_fits a x f, l))

store_byte_sound : (o w : World) → IsLike o w → (a c : ℕ) → Sound (store_byte a c w) (Like o)
store_byte_sound o w k a c = from_cell o w (fetch a w) (λ x. store a (with_byte a x c)) (Like o) k (fetch_sound w k.world a) (λ x v f l. store_sound o v l a (with_byte a x c) (with_byte_fits a x c f))

grow_sound : (o w : World) → IsLike o w → (n : ℕ) → Sound (grow_here n w) (Like o)
grow_sound o w k n = from_cell o w (here w) (λ h w. store (w.data_start + 4) (sum_of h n) w) (Like o) k (fetch_sound w k.world (w.data_start + 4)) (λ x v f l. store_sound o v l (v.data_start + 4) (sum_of x n) (omega arith))

from_like : {A B : Type 0} (o : World) (r : Reply A) (f : A → World → Reply B) (Q : B → World → Type 0) → Sound r (Like o) → ((x : A) (v : World) → IsLike o v → Sound (f x v) Q) → Sound (r ▸ f) Q
from_like o r f Q h each = then_sound r f (Like o) Q h each

-- ---- words over bytes
type_sound : (n a : ℕ) (o w : World) → IsLike o w → Sound (type_out n a w) (Like o)
type_sound zero a o w k = k
type_sound (suc n) a o w k =
    then_sound (fetch_byte a w) _ (Cell o) (Like o) (fetch_byte_sound o w k a)
    (λ x v c. from_like o (emit x v) (λ _. type_out n (sum_of a 1)) (Like o) (store_sound o v c.1 0x4000 x c.0) (λ u z l. type_sound n (sum_of a 1) o z l))

spaces_sound : (n : ℕ) (o w : World) → IsLike o w → Sound (emit_spaces n w) (Like o)
spaces_sound zero o w k = k
spaces_sound (suc n) o w k = from_like o (emit 32 w) (λ _. emit_spaces n) (Like o) (store_sound o w k 0x4000 32 (omega arith)) (λ u z l. spaces_sound n o z l)

fill_sound : (n a c : ℕ) (o w : World) → IsLike o w → Sound (fill n a c w) (Like o)
fill_sound zero a c o w k = k
fill_sound (suc n) a c o w k = from_like o (store_byte a c w) (λ _. fill n (sum_of a 1) c) (Like o) (store_byte_sound o w k a c) (λ u z l. fill_sound n (sum_of a 1) c o z l)

copy_sound : (a b : ℕ) (o w : World) → IsLike o w → Sound (copy_byte a b w) (Like o)
copy_sound a b o w k = then_sound (fetch_byte a w) (λ x. store_byte b x) (Cell o) (Like o) (fetch_byte_sound o w k a) (λ x v c. store_byte_sound o v c.1 b x)

up_sound : (n a b : ℕ) (o w : World) → IsLike o w → Sound (move_up n a b w) (Like o)
up_sound zero a b o w k = k
up_sound (suc n) a b o w k = from_like o (copy_byte a b w) (λ _. move_up n (sum_of a 1) (sum_of b 1)) (Like o) (copy_sound a b o w k) (λ u z l. up_sound n (sum_of a 1) (sum_of b 1) o z l)

down_sound : (n a b : ℕ) (o w : World) → IsLike o w → Sound (move_down n a b w) (Like o)
down_sound zero a b o w k = k
down_sound (suc n) a b o w k = from_like o (copy_byte (sum_of a n) (sum_of b n) w) (λ _. move_down n a b) (Like o) (copy_sound (sum_of a n) (sum_of b n) o w k) (λ u z l. down_sound n a b o z l)

either : {A : Type 0} (b : Bool) (x y : Reply A) (Q : A → World → Type 0) → Sound x Q → Sound y Q → Sound (if b then x else y) Q
either true x y Q h k = h
either false x y Q h k = k

move_sound : (n a b : ℕ) (o w : World) → IsLike o w → Sound (move n a b w) (Like o)
move_sound n a b o w k = either (nat_lt a b) (move_down n a b w) (move_up n a b w) (Like o) (down_sound n a b o w k) (up_sound n a b o w k)

by_bool : {A : Type 0} (b : Bool) (x y : Reply A) (Q : A → World → Type 0) → Sound x Q → Sound y Q → Sound (elim b as (λ _. Reply A) [ true ↦ x | false ↦ y ]) Q
by_bool true x y Q h k = h
by_bool false x y Q h k = k

accept_sound : (n a kept : ℕ) (o w : World) → kept + n < 65536 → IsLike o w → Sound (accept n a kept w) (Cell o)
accept_sound zero a kept o w f k = (omega (arith, f), k)
accept_sound (suc n) a kept o w f k = from_cell o w (take_key w) _ (Cell o) k (fetch_sound w k.world 0x4002) (λ x v fx l.
    by_bool (x == 10) (Gives kept v) (store_byte a x v ▸ λ _. accept n (sum_of a 1) (kept + 1)) (Cell o) (omega (arith, f), l)
    (from_like o (store_byte a x v) (λ _. accept n (sum_of a 1) (kept + 1)) (Cell o) (store_byte_sound o v l a x) (λ u z m. accept_sound n (sum_of a 1) (kept + 1) o z (omega (arith, f)) m)))

abbrev Rests : World → ℕ × ℕ × ℕ → World → Type 0
Rests o q v = (q.1 < 65536) × (q.2 < 65536) × IsLike o v

number_sound : (b n a ud : ℕ) (o w : World) → n < 65536 → a < 65536 → IsLike o w → Sound (number_from b n a ud w) (Rests o)
number_sound b zero a ud o w fn fa k = (fa, omega arith, k)
number_sound b (suc n) a ud o w fn fa k = then_sound (fetch_byte a w) _ (Cell o) (Rests o) (fetch_byte_sound o w k a) (λ x v c. by_digit (digit_of b x) v c.1 (λ d. number_sound b n (sum_of a 1) d o v (omega (arith, fn)) (omega arith) c.1))
  where
    by_digit : (d : Option ℕ) (v : World) → IsLike o v → ((d : ℕ) → Sound (number_from b n (sum_of a 1) d v) (Rests o)) →
        Sound (elim d as (λ _. Reply (ℕ × ℕ × ℕ)) [ None ↦ Gives (ud, a, suc n) v | Some d ↦ number_from b n (sum_of a 1) ((ud * b + d) % 4294967296) v ])
        (Rests o)
    by_digit None v l next = (fa, fn, l)
    by_digit (Some d) v l next = next ((ud * b + d) % 4294967296)

-- ---- pictured output
open_sound : (o w : World) → IsLike o w → Sound (open_picture w) (Like o)
open_sound o w k = let d = k.world.data_start in store_sound o w k (w.data_start + 2) (w.data_start + 96) (omega (arith, d))

hold_sound : (c : ℕ) (o w : World) → IsLike o w → Sound (hold c w) (Like o)
hold_sound c o w k = from_cell o w (fetch (w.data_start + 2) w) _ (Like o) k (fetch_sound w k.world (w.data_start + 2)) (λ h v f l.
    either (nat_le (v.data_start + 16) (difference_of h 1) && nat_le (difference_of h 1) (v.data_start + 95)) (store (v.data_start + 2) (difference_of h 1) v ▸ λ _. store_byte (difference_of h 1) c) (Stops (Halted 12) v) (Like o)
    (from_like o (store (v.data_start + 2) (difference_of h 1) v) (λ _. store_byte (difference_of h 1) c) (Like o)
    (store_sound o v l (v.data_start + 2) (difference_of h 1) (omega arith)) (λ u z m. store_byte_sound o z m (difference_of h 1) c)) tt)

sign_sound : (b : Bool) (o w : World) → IsLike o w → Sound (hold_sign b w) (Like o)
sign_sound true o w k = hold_sound 45 o w k
sign_sound false o w k = k

digit_sound : (ud : ℕ) (o w : World) → IsLike o w → Sound (hold_digit ud w) (Like o)
digit_sound ud o w k = then_sound (radix w) _ (Cell o) (Like o)
    (from_cell o w (base w) _ (Cell o) k (fetch_sound w k.world w.data_start) (λ b v f l. either (nat_le 2 b && nat_le b 36) (Gives b v) (Stops (Halted 11) v) (Cell o) (f, l) tt))
    (λ b v c. from_like o (hold (digit_char (ud % b)) v) (λ _. Gives (ud / b)) (Like o) (hold_sound (digit_char (ud % b)) o v c.1) (λ u z l. l))

digits_sound : (n ud : ℕ) (o w : World) → IsLike o w → Sound (hold_digits n ud w) (Like o)
digits_sound zero ud o w k = k
digits_sound (suc n) ud o w k = from_like o (hold_digit ud w) _ (Like o) (digit_sound ud o w k) (λ left v l. by_left left v l (λ x z m. digits_sound n x o z m))
  where
    by_left : (left : ℕ) (v : World) → IsLike o v → ((x : ℕ) (z : World) → IsLike o z → Sound (hold_digits n x z) (Like o)) → Sound (elim left as (λ _. Reply ℕ) [ zero ↦ Gives zero v | suc m ↦ hold_digits n (suc m) v ]) (Like o)
    by_left zero v l next = l
    by_left (suc m) v l next = next (suc m) v l

abbrev Picture : World → ℕ × ℕ → World → Type 0
Picture o q v = (q.0 < 65536) × (q.1 < 65536) × IsLike o v

picture_sound : (o w : World) → IsLike o w → Sound (picture w) (Picture o)
picture_sound o w k = from_cell o w (fetch (w.data_start + 2) w) (λ a w. Gives (a, difference_of (w.data_start + 96) a) w) (Picture o) k (fetch_sound w k.world (w.data_start + 2)) (λ a v f l. (f, omega arith, l))

print_sound : (size : ℕ) (negative : Bool) (o w : World) → IsLike o w → Sound (print_number size negative w) (Like o)
print_sound size negative o w k =
    from_like o (open_picture w) _ (Like o) (open_sound o w k)
    (λ _ w k.
    from_like o (hold_all size w) _ (Like o) (digits_sound 32 size o w k)
    (λ _ w k. from_like o (hold_sign negative w) _ (Like o) (sign_sound negative o w k) (λ _ w k.
    then_sound (picture w) _ (Picture o) (Like o) (picture_sound o w k) (λ q w k. from_like o (type_out q.1 q.0 w) (λ _. emit 32) (Like o) (type_sound q.1 q.0 o w k.2) (λ _ w k. store_sound o w k 0x4000 32 (omega arith))))))

-- ---- divisions
abbrev Parts : Division → Type 0
Parts None = Unit {0}
Parts (Some parts) = (parts.0 < 65536) × (parts.1 < 65536)

cell_of_fits : (z : ℤ) → cell_of z < 65536
cell_of_fits (pos n) = omega arith
cell_of_fits (negsuc n) = omega arith

divided_fits : (r q : ℤ) → Parts (divided r q)
divided_fits r q = by_cases (in_signed_range q) (λ e. rw e (cell_of_fits r, cell_of_fits q)) (λ e. rw e tt)

unsigned_fits : (a b : ℕ) → b < 65536 → Parts (unsigned_division a b)
unsigned_fits a zero h = tt
unsigned_fits a (suc b) h = by_cases (nat_lt (a / suc b) 65536)
    (λ e. rw e ((let less : a % suc b < suc b = mod-lt a (omega arith) in omega (arith, less, h)), leb-true _ _ e))
    (λ e. rw e tt)

floored_fits : (a b : ℤ) → Parts (floored_division a b)
floored_fits a (pos zero) = tt
floored_fits a (pos (suc b)) = divided_fits (floored_rest a (pos (suc b))) (floored a (pos (suc b)))
floored_fits a (negsuc b) = divided_fits (floored_rest a (negsuc b)) (floored a (negsuc b))

symmetric_fits : (a b : ℤ) → Parts (symmetric_division a b)
symmetric_fits a (pos zero) = tt
symmetric_fits a (pos (suc b)) = divided_fits (int_rem a (pos (suc b))) (int_div a (pos (suc b)))
symmetric_fits a (negsuc b) = divided_fits (int_rem a (negsuc b)) (int_div a (negsuc b))

-- ---- words
abbrev Left : Word → List ℕ → World → List ℕ → World → Type 0
Left word c w c' w' = AreCells c' × IsLike w w' × ChangesWithin (entry_of word).exit (length c) (length c')

both_sound : (d : Division) (c : List ℕ) (w : World) (Q : List ℕ → World → Type 0) → Parts d → ((x y : ℕ) → x < 65536 → y < 65536 → Q (y ∷ x ∷ c) w) → Sound (both d c w) Q
both_sound None c w Q h each = tt
both_sound (Some parts) c w Q h each = each parts.0 parts.1 h.0 h.1

quotient_sound : (d : Division) (c : List ℕ) (w : World) (Q : List ℕ → World → Type 0) → Parts d → ((y : ℕ) → y < 65536 → Q (y ∷ c) w) → Sound (quotient_only d c w) Q
quotient_sound None c w Q h each = tt
quotient_sound (Some parts) c w Q h each = each parts.1 h.1

rest_sound : (d : Division) (c : List ℕ) (w : World) (Q : List ℕ → World → Type 0) → Parts d → ((x : ℕ) → x < 65536 → Q (x ∷ c) w) → Sound (rest_only d c w) Q
rest_sound None c w Q h each = tt
rest_sound (Some parts) c w Q h each = each parts.0 h.0

-- nothing is given but a world
then_cells : {A : Type 0} (word : Word) (c : List ℕ) (w : World) (r : Reply A) (c' : List ℕ) → Sound r (Like w) → AreCells c' → ChangesWithin (entry_of word).exit (length c) (length c') → Sound (r ▸ λ _. Gives c') (Left word c w)
then_cells word c w (Gives x v) c' h k l = (k, h, l)
then_cells word c w (Stops end v) c' h k l = h

less_than_half : (x y : ℕ) → x < 65536 → y < 65536 → (b : Bool) → (if b then x else y) < 65536
less_than_half x y h k true = h
less_than_half x y h k false = k

no_need : {A : Type 0} (n m : ℕ) → n ≤ m → m < n → A
no_need n m h k = let no : ⊥ = omega (arith, h, k) in absurd no

word_sound : (word : Word) (c : List ℕ) (w : World) → has_definition word ≡ true → (entry_of word).need ≤ length c → AreCells c → IsWorld w → Sound (meaning word c w) (Left word c w)
word_sound QDup (zero ∷ c) w e n f h = (f, same w h, (omega arith, omega arith))
word_sound QDup (suc x ∷ c) w e n f h = ((f.0, f), same w h, (omega arith, omega arith))
word_sound TwoSwap (w' ∷ z ∷ y ∷ x ∷ c) w e n f h = ((f.1.1.0, (f.1.1.1.0, (f.0, (f.1.0, f.1.1.1.1)))), same w h, (omega arith, omega arith))
word_sound TwoOver (w' ∷ z ∷ y ∷ x ∷ c) w e n f h = ((f.1.1.0, (f.1.1.1.0, f)), same w h, (omega arith, omega arith))
word_sound Abs (x ∷ c) w e n f h = ((abs_fits x f.0, f.1), same w h, (omega arith, omega arith))
word_sound Max (y ∷ x ∷ c) w e n f h = ((less_than_half y x f.0 f.1.0 (int_lt (signed x) (signed y)), f.1.1), same w h, (omega arith, omega arith))
word_sound Min (y ∷ x ∷ c) w e n f h = ((less_than_half x y f.1.0 f.0 (int_lt (signed x) (signed y)), f.1.1), same w h, (omega arith, omega arith))
word_sound TwoSlash (x ∷ c) w e n f h = ((cell_of_fits (floored (signed x) (pos 2)), f.1), same w h, (omega arith, omega arith))
word_sound UMStar (y ∷ x ∷ c) w e n f h = ((omega arith, (omega arith, f.1.1)), same w h, (omega arith, omega arith))
word_sound MStar (y ∷ x ∷ c) w e n f h = ((omega arith, (omega arith, f.1.1)), same w h, (omega arith, omega arith))
word_sound Star (y ∷ x ∷ c) w e n f h = ((omega arith, f.1.1), same w h, (omega arith, omega arith))
word_sound UMSlashMod (u ∷ k ∷ l ∷ c) w e n f h = both_sound (unsigned_division (double l k) u) c w _ (unsigned_fits (double l k) u f.0) (λ x y fx fy. ((fy, (fx, f.1.1.1)), same w h, (omega arith, omega arith)))
word_sound SMSlashRem (u ∷ k ∷ l ∷ c) w e n f h =
    both_sound (symmetric_division (signed_double l k) (signed u)) c w _ (symmetric_fits (signed_double l k) (signed u))
    (λ x y fx fy. ((fy, (fx, f.1.1.1)), same w h, (omega arith, omega arith)))
word_sound FMSlashMod (u ∷ k ∷ l ∷ c) w e n f h = both_sound (floored_division (signed_double l k) (signed u)) c w _ (floored_fits (signed_double l k) (signed u)) (λ x y fx fy. ((fy, (fx, f.1.1.1)), same w h, (omega arith, omega arith)))
word_sound SlashMod (m ∷ k ∷ c) w e n f h = both_sound (floored_division (signed k) (signed m)) c w _ (floored_fits (signed k) (signed m)) (λ x y fx fy. ((fy, (fx, f.1.1)), same w h, (omega arith, omega arith)))
word_sound Slash (m ∷ k ∷ c) w e n f h = quotient_sound (floored_division (signed k) (signed m)) c w _ (floored_fits (signed k) (signed m)) (λ y fy. ((fy, f.1.1), same w h, (omega arith, omega arith)))
word_sound Mod (m ∷ k ∷ c) w e n f h = rest_sound (floored_division (signed k) (signed m)) c w _ (floored_fits (signed k) (signed m)) (λ y fy. ((fy, f.1.1), same w h, (omega arith, omega arith)))
word_sound StarSlashMod (u ∷ m ∷ k ∷ c) w e n f h =
    both_sound (floored_division (signed k *ℤ signed m) (signed u)) c w _ (floored_fits (signed k *ℤ signed m) (signed u))
    (λ x y fx fy. ((fy, (fx, f.1.1.1)), same w h, (omega arith, omega arith)))
word_sound StarSlash (u ∷ m ∷ k ∷ c) w e n f h = quotient_sound (floored_division (signed k *ℤ signed m) (signed u)) c w _ (floored_fits (signed k *ℤ signed m) (signed u)) (λ y fy. ((fy, f.1.1.1), same w h, (omega arith, omega arith)))
word_sound CFetch (a ∷ c) w e n f h = then_sound (fetch_byte a w) _ (Cell w) _ (fetch_byte_sound w w (same w h) a) (λ x v k. ((k.0, f.1), k.1, (omega arith, omega arith)))
word_sound CStore (a ∷ x ∷ c) w e n f h = then_cells CStore (a ∷ x ∷ c) w (store_byte a x w) c (store_byte_sound w w (same w h) a x) f.1.1 (omega arith, omega arith)
word_sound PlusStore (a ∷ x ∷ c) w e n f h =
    then_sound (fetch a w) _ (Cell w) _ (fetch_sound w h a)
    (λ y v k.
    then_cells PlusStore (a ∷ x ∷ c) w (store a (sum_of y x) v) c (store_sound w v k.1 a (sum_of y x) (omega arith)) f.1.1 (omega arith, omega arith))
word_sound TwoFetch (a ∷ c) w e n f h =
    then_sound (fetch (sum_of a 2) w) _ (Cell w) _ (fetch_sound w h (sum_of a 2))
    (λ y v k. from_cell w v (fetch a v) _ _ k.1 (fetch_sound v k.1.world a) (λ x z fx l. ((fx, (k.0, f.1)), l, (omega arith, omega arith))))
word_sound TwoStore (a ∷ y ∷ x ∷ c) w e n f h =
    from_like w (store a y w) _ _ (store_sound w w (same w h) a y f.1.0)
    (λ u v k.
    then_cells TwoStore (a ∷ y ∷ x ∷ c) w (store (sum_of a 2) x v) c (store_sound w v k (sum_of a 2) x f.1.1.0) f.1.1.1 (omega arith, omega arith))
word_sound Count (a ∷ c) w e n f h = then_sound (fetch_byte a w) _ (Cell w) _ (fetch_byte_sound w w (same w h) a) (λ x v k. ((k.0, (omega arith, f.1)), k.1, (omega arith, omega arith)))
word_sound Comma (x ∷ c) w e n f h =
    then_sound (here w) _ (Cell w) _ (fetch_sound w h (w.data_start + 4))
    (λ y v k.
    from_like w (store y x v) _ _ (store_sound w v k.1 y x f.0)
    (λ u v k. then_cells Comma (x ∷ c) w (grow_here 2 v) c (grow_sound w v k 2) f.1 (omega arith, omega arith)))
word_sound CComma (x ∷ c) w e n f h =
    then_sound (here w) _ (Cell w) _ (fetch_sound w h (w.data_start + 4))
    (λ y v k.
    from_like w (store_byte y x v) _ _ (store_byte_sound w v k.1 y x)
    (λ u v k. then_cells CComma (x ∷ c) w (grow_here 1 v) c (grow_sound w v k 1) f.1 (omega arith, omega arith)))
word_sound Allot (x ∷ c) w e n f h = then_cells Allot (x ∷ c) w (grow_here x w) c (grow_sound w w (same w h) x) f.1 (omega arith, omega arith)
word_sound Align c w e n f h =
    then_sound (here w) _ (Cell w) _ (fetch_sound w h (w.data_start + 4))
    (λ y v k.
    then_cells Align c w (store (v.data_start + 4) (even (sum_of y 1)) v) c (store_sound w v k.1 (v.data_start + 4) (even (sum_of y 1)) (omega arith)) f
    (omega arith, omega arith))
word_sound LessSharp c w e n f h = then_cells LessSharp c w (open_picture w) c (open_sound w w (same w h)) f (omega arith, omega arith)
word_sound Hold (x ∷ c) w e n f h = then_cells Hold (x ∷ c) w (hold x w) c (hold_sound x w w (same w h)) f.1 (omega arith, omega arith)
word_sound Sign (x ∷ c) w e n f h = then_cells Sign (x ∷ c) w (hold_sign (int_lt (signed x) (pos 0)) w) c (sign_sound (int_lt (signed x) (pos 0)) w w (same w h)) f.1 (omega arith, omega arith)
word_sound Sharp (k ∷ l ∷ c) w e n f h = from_like w (hold_digit (double l k) w) _ _ (digit_sound (double l k) w w (same w h)) (λ d v m. ((omega arith, (omega arith, f.1.1)), m, (omega arith, omega arith)))
word_sound SharpS (k ∷ l ∷ c) w e n f h = from_like w (hold_all (double l k) w) _ _ (digits_sound 32 (double l k) w w (same w h)) (λ d v m. ((omega arith, (omega arith, f.1.1)), m, (omega arith, omega arith)))
word_sound SharpGreater (k ∷ l ∷ c) w e n f h = then_sound (picture w) _ (Picture w) _ (picture_sound w w (same w h)) (λ q v m. ((m.1, (m.0, f.1.1)), m.2, (omega arith, omega arith)))
word_sound Dot (x ∷ c) w e n f h =
    then_cells Dot (x ∷ c) w (print_number (unsigned_abs (signed x)) (int_lt (signed x) (pos 0)) w) c
    (print_sound (unsigned_abs (signed x)) (int_lt (signed x) (pos 0)) w w (same w h)) f.1 (omega arith, omega arith)
word_sound UDot (x ∷ c) w e n f h = then_cells UDot (x ∷ c) w (print_number x false w) c (print_sound x false w w (same w h)) f.1 (omega arith, omega arith)
word_sound TypeOut (u ∷ a ∷ c) w e n f h = then_cells TypeOut (u ∷ a ∷ c) w (type_out u a w) c (type_sound u a w w (same w h)) f.1.1 (omega arith, omega arith)
word_sound Spaces (x ∷ c) w e n f h = then_cells Spaces (x ∷ c) w (emit_spaces (positive (signed x)) w) c (spaces_sound (positive (signed x)) w w (same w h)) f.1 (omega arith, omega arith)
word_sound Fill (x ∷ u ∷ a ∷ c) w e n f h = then_cells Fill (x ∷ u ∷ a ∷ c) w (fill u a x w) c (fill_sound u a x w w (same w h)) f.1.1.1 (omega arith, omega arith)
word_sound Move (u ∷ b ∷ a ∷ c) w e n f h = then_cells Move (u ∷ b ∷ a ∷ c) w (move u a b w) c (move_sound u a b w w (same w h)) f.1.1.1 (omega arith, omega arith)
word_sound Accept (u ∷ a ∷ c) w e n f h = then_sound (accept u a 0 w) _ (Cell w) _ (accept_sound u a 0 w w (let k = f.0 in omega (arith, k)) (same w h)) (λ x v k. ((k.0, f.1.1), k.1, (omega arith, omega arith)))
word_sound ToNumber (u ∷ a ∷ k ∷ l ∷ c) w e n f h =
    then_sound (base w) _ (Cell w) _ (fetch_sound w h w.data_start)
    (λ b v m.
    then_sound (number_from b u a (double l k) v) _ (Rests w) _ (number_sound b u a (double l k) w v f.0 f.1.0 m.1)
    (λ q z r. ((r.1, (r.0, (omega arith, (omega arith, f.1.1.1.1)))), r.2, (omega arith, omega arith))))
word_sound word [] w e n f h = let no : ⊥ = grind arith in absurd no
word_sound word (x ∷ []) w e n f h = let no : ⊥ = grind arith in absurd no
word_sound word (x ∷ y ∷ []) w e n f h = let no : ⊥ = grind arith in absurd no
word_sound word (x ∷ y ∷ z ∷ []) w e n f h = let no : ⊥ = grind arith in absurd no
word_sound word (x ∷ y ∷ z ∷ v ∷ c) w e n f h = let no : ⊥ = cc in absurd no

leaves_by : (word : Word) (c : List ℕ) (w : World) (r : Reply (List ℕ)) → Sound r (Left word c w) → LeavesWell word c w r
leaves_by word c w (Gives c' w') h = (h.0, h.1.world, h.1.start, h.2)
leaves_by word c w (Stops end w') h = h

pub leave_well : (word : Word) (c : List ℕ) (w : World) → has_definition word ≡ true → (entry_of word).need ≤ length c → AreCells c → IsWorld w → LeavesWell word c w (meaning word c w)
leave_well word c w e n f h = leaves_by word c w (meaning word c w) (word_sound word c w e n f h)
