-- No word but GO leads a run out of the source.
use Rattle.std.proofs.Common.{◌≡◌, ℕ, zero, suc, ◌+◌, ◌*◌, ◌%◌, ◌==◌, nat_lt, nat_le, ◌&&◌, Bool, true, false, if◌then◌else◌, Option, Some, None, List, [], ◌∷◌, refl}
use Rattle.std.specs.Prelude.{pos, ◌*ℤ◌, int_lt, unsigned_abs}
use Rattle.console_ports.specs.declared.ports.Access.{Access as Met}
use Rattle.console_ports.specs.declared.ports.Access.TheVariants as met
use Rattle.console_ports.specs.Ports.{access_at, even}
use Rattle.cell_math.specs.Cell.{sum_of, difference_of, signed, double, signed_double}
use Rattle.cell_math.specs.Divisions.{Division, unsigned_division, floored_division, symmetric_division}
use Rattle.word_table.specs.declared.word.Word.{Word}
use Rattle.word_table.specs.declared.word.Word.TheVariants.{QDup, Fetch, Store, CFetch, CStore, PlusStore, TwoFetch, TwoStore, Count, Here, Comma, CComma, Allot, Align, Decimal, Hex}
use Rattle.word_table.specs.declared.word.Word.TheVariants.{Emit, Key, Cr, Space, Spaces, TypeOut, Fill, Move, Accept, ToNumber, Go}
use Rattle.word_table.specs.declared.word.Word.TheVariants.{UMSlashMod, SMSlashRem, FMSlashMod, SlashMod, Slash, Mod, StarSlashMod, StarSlash}
use Rattle.word_table.specs.declared.word.Word.TheVariants.{LessSharp, Hold, Sign, Sharp, SharpS, SharpGreater, Dot, UDot}
use Rattle.forth_program.specs.Tree.{Plain}
use Rattle.forth_program.specs.Form.{is_not_go}
use Rattle.forth_program.specs.State.{World, Reply, Gives, Stops, ◌▸◌, Left}
use Rattle.forth_program.specs.Access.{taken, fetch_by, store_by, fetch, store, emit, take_key, fetch_byte, store_byte, base, here, grow_here}
use Rattle.forth_program.specs.ByteWords.{type_out, emit_spaces, positive, fill, copy_byte, move_up, move_down, move, accept, digit_of, number_from}
use Rattle.forth_program.specs.PicturedOutput.{open_picture, hold, hold_sign, digit_char, radix, hold_digit, hold_digits, hold_all, picture, print_number}
use Rattle.forth_program.specs.Meaning.{both, quotient_only, rest_only, meaning}

-- whether a reply does not end as GO does
abbrev pub stays : {A : Type 0} → Reply A → Bool
stays (Gives x w) = true
stays (Stops (Left a) w) = false
stays (Stops end w) = true

abbrev pub Stays : {A : Type 0} → Reply A → Type 0
Stays r = stays r ≡ true

-- one thing and then the next
pub bind : {A B : Type 0} (r : Reply A) (next : A → World → Reply B) → Stays r → ((x : A) (w : World) → Stays (next x w)) → Stays (r ▸ next)
bind (Gives x w) next h each = each x w
bind (Stops (Left a) w) next h each = h
bind (Stops end w) next h each = refl

-- choices
chosen : {A : Type 0} (b : Bool) (x y : Reply A) → Stays x → Stays y → Stays (if b then x else y)
chosen true x y h k = h
chosen false x y h k = k

by_bool : {A : Type 0} (b : Bool) (x y : Reply A) → Stays x → Stays y → Stays (elim b [ true ↦ x | false ↦ y ])
by_bool true x y h k = h
by_bool false x y h k = k

by_option : {A : Type 0} (o : Option ℕ) (x : Reply A) (next : ℕ → Reply A) → Stays x → ((n : ℕ) → Stays (next n)) → Stays (elim o [ None ↦ x | Some n ↦ next n ])
by_option None x next h each = h
by_option (Some n) x next h each = each n

by_number : {A : Type 0} (n : ℕ) (x : Reply A) (next : ℕ → Reply A) → Stays x → ((m : ℕ) → Stays (next m)) → Stays (elim n [ zero ↦ x | suc m ↦ next m ])
by_number zero x next h each = h
by_number (suc m) x next h each = each m

-- ---- accesses

taken_stays : (input : List ℕ) (w : World) → Stays (taken input w)
taken_stays [] w = refl
taken_stays (byte ∷ input) w = refl

fetched_stays : (w : World) (m : Met) → Stays (fetch_by w m)
fetched_stays w (met.Data place) = refl
fetched_stays w met.Key = taken_stays w.input w
fetched_stays w (met.Outside address) = refl
fetched_stays w met.Print = refl
fetched_stays w met.Halt = refl

stored_stays : (w : World) (x : ℕ) (m : Met) → Stays (store_by w x m)
stored_stays w x (met.Data place) = refl
stored_stays w x met.Print = refl
stored_stays w x met.Halt = refl
stored_stays w x (met.Outside address) = refl
stored_stays w x met.Key = refl

pub fetch_stays : (a : ℕ) (w : World) → Stays (fetch a w)
fetch_stays a w = fetched_stays w (access_at w.data_start false a)

pub store_stays : (a x : ℕ) (w : World) → Stays (store a x w)
store_stays a x w = stored_stays w x (access_at w.data_start true a)

pub emit_stays : (x : ℕ) (w : World) → Stays (emit x w)
emit_stays x w = store_stays 0x4000 x w

key_stays : (w : World) → Stays (take_key w)
key_stays w = fetch_stays 0x4002 w

fetch_byte_stays : (a : ℕ) (w : World) → Stays (fetch_byte a w)
fetch_byte_stays a w = bind (fetch a w) _ (fetch_stays a w) (λ x w'. refl)

store_byte_stays : (a x : ℕ) (w : World) → Stays (store_byte a x w)
store_byte_stays a x w = bind (fetch a w) _ (fetch_stays a w) (λ y w'. store_stays a _ w')

base_stays : (w : World) → Stays (base w)
base_stays w = fetch_stays w.data_start w

here_stays : (w : World) → Stays (here w)
here_stays w = fetch_stays (w.data_start + 4) w

grow_stays : (n : ℕ) (w : World) → Stays (grow_here n w)
grow_stays n w = bind (here w) _ (here_stays w) (λ h w'. store_stays (w'.data_start + 4) _ w')

-- ---- words over bytes

pub type_stays : (n a : ℕ) (w : World) → Stays (type_out n a w)
type_stays zero a w = refl
type_stays (suc n) a w = bind (fetch_byte a w) _ (fetch_byte_stays a w) (λ c w'. bind (emit c w') (λ _ w''. type_out n (sum_of a 1) w'') (emit_stays c w') (λ _ w''. type_stays n (sum_of a 1) w''))

spaces_stays : (n : ℕ) (w : World) → Stays (emit_spaces n w)
spaces_stays zero w = refl
spaces_stays (suc n) w = bind (emit 32 w) (λ _ w'. emit_spaces n w') (emit_stays 32 w) (λ _ w'. spaces_stays n w')

fill_stays : (n a c : ℕ) (w : World) → Stays (fill n a c w)
fill_stays zero a c w = refl
fill_stays (suc n) a c w = bind (store_byte a c w) _ (store_byte_stays a c w) (λ _ w'. fill_stays n (sum_of a 1) c w')

copy_stays : (a b : ℕ) (w : World) → Stays (copy_byte a b w)
copy_stays a b w = bind (fetch_byte a w) _ (fetch_byte_stays a w) (λ c w'. store_byte_stays b c w')

up_stays : (n a b : ℕ) (w : World) → Stays (move_up n a b w)
up_stays zero a b w = refl
up_stays (suc n) a b w = bind (copy_byte a b w) _ (copy_stays a b w) (λ _ w'. up_stays n (sum_of a 1) (sum_of b 1) w')

down_stays : (n a b : ℕ) (w : World) → Stays (move_down n a b w)
down_stays zero a b w = refl
down_stays (suc n) a b w = bind (copy_byte (sum_of a n) (sum_of b n) w) _ (copy_stays (sum_of a n) (sum_of b n) w) (λ _ w'. down_stays n a b w')

move_stays : (n a b : ℕ) (w : World) → Stays (move n a b w)
move_stays n a b w = chosen (nat_lt a b) (move_down n a b w) (move_up n a b w) (down_stays n a b w) (up_stays n a b w)

accept_stays : (n a kept : ℕ) (w : World) → Stays (accept n a kept w)
accept_stays zero a kept w = refl
accept_stays (suc n) a kept w =
    bind (take_key w) (λ c w'. elim (c == 10) [ true ↦ Gives kept w' | false ↦ store_byte a c w' ▸ λ _. accept n (sum_of a 1) (kept + 1) ]) (key_stays w)
    (λ c w'.
    by_bool (c == 10) (Gives kept w') (store_byte a c w' ▸ λ _. accept n (sum_of a 1) (kept + 1)) refl
    (bind (store_byte a c w') _ (store_byte_stays a c w') (λ _ w''. accept_stays n (sum_of a 1) (kept + 1) w'')))

number_stays : (b n a ud : ℕ) (w : World) → Stays (number_from b n a ud w)
number_stays b zero a ud w = refl
number_stays b (suc n) a ud w =
    bind (fetch_byte a w) _ (fetch_byte_stays a w)
    (λ c w'.
    by_option (digit_of b c) (Gives (ud, a, suc n) w') (λ d. number_from b n (sum_of a 1) ((ud * b + d) % 4294967296) w') refl
    (λ d. number_stays b n (sum_of a 1) ((ud * b + d) % 4294967296) w'))

-- ---- pictured output

open_stays : (w : World) → Stays (open_picture w)
open_stays w = store_stays (w.data_start + 2) (w.data_start + 96) w

hold_stays : (c : ℕ) (w : World) → Stays (hold c w)
hold_stays c w =
    bind (fetch (w.data_start + 2) w) _ (fetch_stays (w.data_start + 2) w)
    (λ h w'.
    chosen (nat_le (w'.data_start + 16) (difference_of h 1) && nat_le (difference_of h 1) (w'.data_start + 95))
    (store (w'.data_start + 2) (difference_of h 1) w' ▸ λ _. store_byte (difference_of h 1) c) _
    (bind (store (w'.data_start + 2) (difference_of h 1) w') _ (store_stays (w'.data_start + 2) (difference_of h 1) w')
    (λ _ w''. store_byte_stays (difference_of h 1) c w'')) refl)

sign_stays : (b : Bool) (w : World) → Stays (hold_sign b w)
sign_stays true w = hold_stays 45 w
sign_stays false w = refl

radix_stays : (w : World) → Stays (radix w)
radix_stays w = bind (base w) _ (base_stays w) (λ b w'. chosen (nat_le 2 b && nat_le b 36) _ _ refl refl)

digit_stays : (ud : ℕ) (w : World) → Stays (hold_digit ud w)
digit_stays ud w = bind (radix w) _ (radix_stays w) (λ b w'. bind (hold (digit_char (ud % b)) w') _ (hold_stays (digit_char (ud % b)) w') (λ _ w''. refl))

digits_stays : (n ud : ℕ) (w : World) → Stays (hold_digits n ud w)
digits_stays zero ud w = refl
digits_stays (suc n) ud w =
    bind (hold_digit ud w) _ (digit_stays ud w) (λ left w'. by_number left (Gives zero w') (λ m. hold_digits n (suc m) w') refl (λ m. digits_stays n (suc m) w'))

picture_stays : (w : World) → Stays (picture w)
picture_stays w = bind (fetch (w.data_start + 2) w) _ (fetch_stays (w.data_start + 2) w) (λ a w'. refl)

print_stays : (size : ℕ) (negative : Bool) (w : World) → Stays (print_number size negative w)
print_stays size negative w =
    bind (open_picture w) _ (open_stays w) (λ _ w. bind (hold_all size w) _ (digits_stays 32 size w) (λ _ w. bind (hold_sign negative w) _ (sign_stays negative w) (λ _ w.
    bind (picture w) _ (picture_stays w) (λ p w. bind (type_out p.1 p.0 w) _ (type_stays p.1 p.0 w) (λ _ w. emit_stays 32 w)))))

-- ---- words

both_stays : (d : Division) (c : List ℕ) (w : World) → Stays (both d c w)
both_stays None c w = refl
both_stays (Some parts) c w = refl

quotient_stays : (d : Division) (c : List ℕ) (w : World) → Stays (quotient_only d c w)
quotient_stays None c w = refl
quotient_stays (Some parts) c w = refl

rest_stays : (d : Division) (c : List ℕ) (w : World) → Stays (rest_only d c w)
rest_stays None c w = refl
rest_stays (Some parts) c w = refl

-- a thing and then its cells
gives : {A : Type 0} (r : Reply A) (left : A → List ℕ) → Stays r → Stays (r ▸ λ x. Gives (left x))
gives r left h = bind r (λ x. Gives (left x)) h (λ x w'. refl)

pub meaning_stays : (word : Word) (c : List ℕ) (w : World) → is_not_go (Plain word) ≡ true → Stays (meaning word c w)
meaning_stays QDup (zero ∷ c) w other = refl
meaning_stays QDup (suc x ∷ c) w other = refl
meaning_stays UMSlashMod (u ∷ h ∷ l ∷ c) w other = both_stays (unsigned_division (double l h) u) c w
meaning_stays SMSlashRem (n ∷ h ∷ l ∷ c) w other = both_stays (symmetric_division (signed_double l h) (signed n)) c w
meaning_stays FMSlashMod (n ∷ h ∷ l ∷ c) w other = both_stays (floored_division (signed_double l h) (signed n)) c w
meaning_stays SlashMod (m ∷ n ∷ c) w other = both_stays (floored_division (signed n) (signed m)) c w
meaning_stays Slash (m ∷ n ∷ c) w other = quotient_stays (floored_division (signed n) (signed m)) c w
meaning_stays Mod (m ∷ n ∷ c) w other = rest_stays (floored_division (signed n) (signed m)) c w
meaning_stays StarSlashMod (k ∷ m ∷ n ∷ c) w other = both_stays (floored_division (signed n *ℤ signed m) (signed k)) c w
meaning_stays StarSlash (k ∷ m ∷ n ∷ c) w other = quotient_stays (floored_division (signed n *ℤ signed m) (signed k)) c w
meaning_stays Fetch (a ∷ c) w other = gives (fetch a w) _ (fetch_stays a w)
meaning_stays Store (a ∷ x ∷ c) w other = gives (store a x w) _ (store_stays a x w)
meaning_stays CFetch (a ∷ c) w other = gives (fetch_byte a w) _ (fetch_byte_stays a w)
meaning_stays CStore (a ∷ x ∷ c) w other = gives (store_byte a x w) _ (store_byte_stays a x w)
meaning_stays PlusStore (a ∷ n ∷ c) w other = bind (fetch a w) _ (fetch_stays a w) (λ x w. gives (store a (sum_of x n) w) _ (store_stays a (sum_of x n) w))
meaning_stays TwoFetch (a ∷ c) w other = bind (fetch (sum_of a 2) w) _ (fetch_stays (sum_of a 2) w) (λ x w. gives (fetch a w) _ (fetch_stays a w))
meaning_stays TwoStore (a ∷ y ∷ x ∷ c) w other = bind (store a y w) _ (store_stays a y w) (λ _ w. gives (store (sum_of a 2) x w) _ (store_stays (sum_of a 2) x w))
meaning_stays Count (a ∷ c) w other = gives (fetch_byte a w) _ (fetch_byte_stays a w)
meaning_stays Here c w other = gives (here w) _ (here_stays w)
meaning_stays Decimal c w other = gives (store w.data_start 10 w) _ (store_stays w.data_start 10 w)
meaning_stays Hex c w other = gives (store w.data_start 16 w) _ (store_stays w.data_start 16 w)
meaning_stays Comma (x ∷ c) w other = bind (here w) _ (here_stays w) (λ h w. bind (store h x w) _ (store_stays h x w) (λ _ w. gives (grow_here 2 w) _ (grow_stays 2 w)))
meaning_stays CComma (x ∷ c) w other = bind (here w) _ (here_stays w) (λ h w. bind (store_byte h x w) _ (store_byte_stays h x w) (λ _ w. gives (grow_here 1 w) _ (grow_stays 1 w)))
meaning_stays Allot (n ∷ c) w other = gives (grow_here n w) _ (grow_stays n w)
meaning_stays Align c w other = bind (here w) _ (here_stays w) (λ h w. gives (store (w.data_start + 4) (even (sum_of h 1)) w) _ (store_stays (w.data_start + 4) (even (sum_of h 1)) w))
meaning_stays Key c w other = gives (take_key w) (λ x. x ∷ c) (key_stays w)
meaning_stays Emit (x ∷ c) w other = gives (emit x w) (λ _. c) (emit_stays x w)
meaning_stays Cr c w other = gives (emit 10 w) (λ _. c) (emit_stays 10 w)
meaning_stays Space c w other = gives (emit 32 w) (λ _. c) (emit_stays 32 w)
meaning_stays Spaces (n ∷ c) w other = gives (emit_spaces (positive (signed n)) w) _ (spaces_stays (positive (signed n)) w)
meaning_stays TypeOut (u ∷ a ∷ c) w other = gives (type_out u a w) _ (type_stays u a w)
meaning_stays Fill (x ∷ u ∷ a ∷ c) w other = gives (fill u a x w) _ (fill_stays u a x w)
meaning_stays Move (u ∷ b ∷ a ∷ c) w other = gives (move u a b w) _ (move_stays u a b w)
meaning_stays Accept (u ∷ a ∷ c) w other = gives (accept u a 0 w) _ (accept_stays u a 0 w)
meaning_stays ToNumber (u ∷ a ∷ h ∷ l ∷ c) w other = bind (base w) _ (base_stays w) (λ b w. gives (number_from b u a (double l h) w) _ (number_stays b u a (double l h) w))
meaning_stays LessSharp c w other = gives (open_picture w) _ (open_stays w)
meaning_stays Hold (x ∷ c) w other = gives (hold x w) _ (hold_stays x w)
meaning_stays Sign (n ∷ c) w other = gives (hold_sign (int_lt (signed n) (pos 0)) w) _ (sign_stays (int_lt (signed n) (pos 0)) w)
meaning_stays Sharp (h ∷ l ∷ c) w other = gives (hold_digit (double l h) w) _ (digit_stays (double l h) w)
meaning_stays SharpS (h ∷ l ∷ c) w other = gives (hold_all (double l h) w) _ (digits_stays 32 (double l h) w)
meaning_stays SharpGreater (h ∷ l ∷ c) w other = gives (picture w) _ (picture_stays w)
meaning_stays Dot (n ∷ c) w other = gives (print_number (unsigned_abs (signed n)) (int_lt (signed n) (pos 0)) w) _ (print_stays (unsigned_abs (signed n)) (int_lt (signed n) (pos 0)) w)
meaning_stays UDot (u ∷ c) w other = gives (print_number u false w) _ (print_stays u false w)
-- GO is none of these, and the others change no world
meaning_stays Go (a ∷ c) w other = other
meaning_stays word [] w other = refl
meaning_stays word (x ∷ []) w other = refl
meaning_stays word (x ∷ y ∷ []) w other = refl
meaning_stays word (x ∷ y ∷ z ∷ []) w other = refl
meaning_stays word (x ∷ y ∷ z ∷ v ∷ c) w other = refl
