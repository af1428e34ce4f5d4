-- What a word does to the world: prints are added at the end, input is taken from the front, and data space keeps its size.
use Rattle.std.proofs.Common.{◌≡◌, ℕ, zero, suc, ◌+◌, ◌*◌, ◌%◌, ◌==◌, nat_lt, nat_le, ◌&&◌, Bool, true, false, if◌then◌else◌, Option, Some, None, List, [], ◌∷◌, ◌++◌, refl, sym, ap, ◌∙◌, append_assoc, arith}
use Rattle.std.specs.Prelude.{pos, ◌*ℤ◌, int_lt, unsigned_abs}
use Rattle.std.proofs.lemmas.Grind.{common_steps}
use Rattle.console_ports.specs.declared.ports.Access.{Access as Met}
use Rattle.console_ports.specs.declared.ports.Access.TheVariants as met
use Rattle.console_ports.specs.Ports.{access_at, even}
use Rattle.cell_math.specs.Cell.{sum_of, difference_of, signed, double, signed_double}
use Rattle.cell_math.specs.Divisions.{Division, unsigned_division, floored_division, symmetric_division}
use Rattle.word_table.specs.declared.word.Word.{Word}
use Rattle.word_table.specs.declared.word.Word.TheVariants.{QDup, Fetch, Store, CFetch, CStore, PlusStore, TwoFetch, TwoStore, Count, Here, Comma, CComma, Allot, Align, Decimal, Hex}
use Rattle.word_table.specs.declared.word.Word.TheVariants.{Emit, Key, Cr, Space, Spaces, TypeOut, Fill, Move, Accept, ToNumber}
use Rattle.word_table.specs.declared.word.Word.TheVariants.{UMSlashMod, SMSlashRem, FMSlashMod, SlashMod, Slash, Mod, StarSlashMod, StarSlash}
use Rattle.word_table.specs.declared.word.Word.TheVariants.{LessSharp, Hold, Sign, Sharp, SharpS, SharpGreater, Dot, UDot}
use Rattle.forth_program.specs.State.{World, Reply, Gives, Stops, ◌▸◌}
use Rattle.forth_program.specs.Access.{taken, fetch_by, store_by, fetch, store, emit, take_key, fetch_byte, store_byte, base, here, grow_here}
use Rattle.forth_program.specs.ByteWords.{type_out, emit_spaces, positive, fill, copy_byte, move_up, move_down, move, accept, digit_of, number_from}
use Rattle.forth_program.specs.PicturedOutput.{open_picture, hold, hold_sign, digit_char, radix, hold_digit, hold_digits, hold_all, picture, print_number}
use Rattle.forth_program.specs.Meaning.{both, quotient_only, rest_only, meaning}
use Rattle.forth_program.specs.RunLaws.{IsLater}

pub same : (w : World) → IsLater w w
same w = record { prints = ([], grind (arith, common_steps)); takes = ([], refl); makes = ([], refl); same_start = refl; same_room = refl }

pub later_later : (a b c : World) → IsLater a b → IsLater b c → IsLater a c
later_later a b c h k = record {
  prints = (h.prints.0 ++ k.prints.0, k.prints.1 ∙ ap (λ xs. xs ++ k.prints.0) h.prints.1 ∙ append_assoc a.printed h.prints.0 k.prints.0);
  takes = (h.takes.0 ++ k.takes.0, h.takes.1 ∙ ap (λ xs. h.takes.0 ++ xs) k.takes.1 ∙ sym (append_assoc h.takes.0 k.takes.0 c.input));
  makes = (k.makes.0 ++ h.makes.0, k.makes.1 ∙ ap (λ xs. k.makes.0 ++ xs) h.makes.1 ∙ sym (append_assoc k.makes.0 h.makes.0 a.made));
  same_start = k.same_start ∙ h.same_start;
  same_room = k.same_room ∙ h.same_room;
}

-- the world after a reply
abbrev pub after : {A : Type 0} → Reply A → World
after (Gives value world) = world
after (Stops end world) = world

-- one thing and then the next
pub bind : {A B : Type 0} (w : World) (r : Reply A) (next : A → World → Reply B) → IsLater w (after r) → ((x : A) (w' : World) → IsLater w' (after (next x w'))) → IsLater w (after (r ▸ next))
bind w (Gives x w') next h each = later_later w w' (after (next x w')) h (each x w')
bind w (Stops end w') next h each = h

-- choices
chosen : {A : Type 0} (w : World) (b : Bool) (x y : Reply A) → IsLater w (after x) → IsLater w (after y) → IsLater w (after (if b then x else y))
chosen w true x y h k = h
chosen w false x y h k = k

by_bool : {A : Type 0} (w : World) (b : Bool) (x y : Reply A) → IsLater w (after x) → IsLater w (after y) → IsLater w (after (elim b [ true ↦ x | false ↦ y ]))
by_bool w true x y h k = h
by_bool w false x y h k = k

by_option : {A : Type 0} (w : World) (o : Option ℕ) (x : Reply A) (next : ℕ → Reply A) → IsLater w (after x) → ((n : ℕ) → IsLater w (after (next n))) → IsLater w (after (elim o [ None ↦ x | Some n ↦ next n ]))
by_option w None x next h each = h
by_option w (Some n) x next h each = each n

by_number : {A : Type 0} (w : World) (n : ℕ) (x : Reply A) (next : ℕ → Reply A) → IsLater w (after x) → ((m : ℕ) → IsLater w (after (next m))) → IsLater w (after (elim n [ zero ↦ x | suc m ↦ next m ]))
by_number w zero x next h each = h
by_number w (suc m) x next h each = each m

-- ---- accesses

taken_later : (input : List ℕ) (w : World) → w.input ≡ input → IsLater w (after (taken input w))
taken_later [] w e = same w
taken_later (byte ∷ input) w e = record { prints = ([], grind (arith, common_steps)); takes = (byte ∷ [], e); makes = (_ ∷ [], refl); same_start = refl; same_room = refl }

fetched_later : (w : World) (m : Met) → IsLater w (after (fetch_by w m))
fetched_later w (met.Data place) = same w
fetched_later w met.Key = taken_later w.input w refl
fetched_later w (met.Outside address) = same w
fetched_later w met.Print = same w
fetched_later w met.Halt = same w

stored_later : (w : World) (x : ℕ) (m : Met) → IsLater w (after (store_by w x m))
stored_later w x (met.Data place) = record { prints = ([], grind (arith, common_steps)); takes = ([], refl); makes = (_ ∷ [], refl); same_start = refl; same_room = grind (arith, common_steps) }
stored_later w x met.Print = record { prints = (x % 256 ∷ [], refl); takes = ([], refl); makes = (_ ∷ [], refl); same_start = refl; same_room = refl }
stored_later w x met.Halt = same w
stored_later w x (met.Outside address) = same w
stored_later w x met.Key = same w

pub fetch_later : (a : ℕ) (w : World) → IsLater w (after (fetch a w))
fetch_later a w = fetched_later w (access_at w.data_start false a)

pub store_later : (a x : ℕ) (w : World) → IsLater w (after (store a x w))
store_later a x w = stored_later w x (access_at w.data_start true a)

pub emit_later : (x : ℕ) (w : World) → IsLater w (after (emit x w))
emit_later x w = store_later 0x4000 x w

key_later : (w : World) → IsLater w (after (take_key w))
key_later w = fetch_later 0x4002 w

fetch_byte_later : (a : ℕ) (w : World) → IsLater w (after (fetch_byte a w))
fetch_byte_later a w = bind w (fetch a w) _ (fetch_later a w) (λ x w'. same w')

store_byte_later : (a x : ℕ) (w : World) → IsLater w (after (store_byte a x w))
store_byte_later a x w = bind w (fetch a w) _ (fetch_later a w) (λ y w'. store_later a _ w')

base_later : (w : World) → IsLater w (after (base w))
base_later w = fetch_later w.data_start w

here_later : (w : World) → IsLater w (after (here w))
here_later w = fetch_later (w.data_start + 4) w

grow_later : (n : ℕ) (w : World) → IsLater w (after (grow_here n w))
grow_later n w = bind w (here w) _ (here_later w) (λ h w'. store_later (w'.data_start + 4) _ w')

-- ---- words over bytes

pub type_later : (n a : ℕ) (w : World) → IsLater w (after (type_out n a w))
type_later zero a w = same w
type_later (suc n) a w = bind w (fetch_byte a w) _ (fetch_byte_later a w) (λ c w'. bind w' (emit c w') (λ _ w''. type_out n (sum_of a 1) w'') (emit_later c w') (λ _ w''. type_later n (sum_of a 1) w''))

spaces_later : (n : ℕ) (w : World) → IsLater w (after (emit_spaces n w))
spaces_later zero w = same w
spaces_later (suc n) w = bind w (emit 32 w) (λ _ w'. emit_spaces n w') (emit_later 32 w) (λ _ w'. spaces_later n w')

fill_later : (n a c : ℕ) (w : World) → IsLater w (after (fill n a c w))
fill_later zero a c w = same w
fill_later (suc n) a c w = bind w (store_byte a c w) _ (store_byte_later a c w) (λ _ w'. fill_later n (sum_of a 1) c w')

copy_later : (a b : ℕ) (w : World) → IsLater w (after (copy_byte a b w))
copy_later a b w = bind w (fetch_byte a w) _ (fetch_byte_later a w) (λ c w'. store_byte_later b c w')

up_later : (n a b : ℕ) (w : World) → IsLater w (after (move_up n a b w))
up_later zero a b w = same w
up_later (suc n) a b w = bind w (copy_byte a b w) _ (copy_later a b w) (λ _ w'. up_later n (sum_of a 1) (sum_of b 1) w')

down_later : (n a b : ℕ) (w : World) → IsLater w (after (move_down n a b w))
down_later zero a b w = same w
down_later (suc n) a b w = bind w (copy_byte (sum_of a n) (sum_of b n) w) _ (copy_later (sum_of a n) (sum_of b n) w) (λ _ w'. down_later n a b w')

move_later : (n a b : ℕ) (w : World) → IsLater w (after (move n a b w))
move_later n a b w = chosen w (nat_lt a b) (move_down n a b w) (move_up n a b w) (down_later n a b w) (up_later n a b w)

accept_later : (n a kept : ℕ) (w : World) → IsLater w (after (accept n a kept w))
accept_later zero a kept w = same w
accept_later (suc n) a kept w =
    bind w (take_key w) (λ c w'. elim (c == 10) [ true ↦ Gives kept w' | false ↦ store_byte a c w' ▸ λ _. accept n (sum_of a 1) (kept + 1) ]) (key_later w)
    (λ c w'.
    by_bool w' (c == 10) (Gives kept w') (store_byte a c w' ▸ λ _. accept n (sum_of a 1) (kept + 1)) (same w')
    (bind w' (store_byte a c w') _ (store_byte_later a c w') (λ _ w''. accept_later n (sum_of a 1) (kept + 1) w'')))

number_later : (b n a ud : ℕ) (w : World) → IsLater w (after (number_from b n a ud w))
number_later b zero a ud w = same w
number_later b (suc n) a ud w =
    bind w (fetch_byte a w) _ (fetch_byte_later a w)
    (λ c w'.
    by_option w' (digit_of b c) (Gives (ud, a, suc n) w') (λ d. number_from b n (sum_of a 1) ((ud * b + d) % 4294967296) w') (same w')
    (λ d. number_later b n (sum_of a 1) ((ud * b + d) % 4294967296) w'))

-- ---- pictured output

open_later : (w : World) → IsLater w (after (open_picture w))
open_later w = store_later (w.data_start + 2) (w.data_start + 96) w

hold_later : (c : ℕ) (w : World) → IsLater w (after (hold c w))
hold_later c w =
    bind w (fetch (w.data_start + 2) w) _ (fetch_later (w.data_start + 2) w)
    (λ h w'.
    chosen w' (nat_le (w'.data_start + 16) (difference_of h 1) && nat_le (difference_of h 1) (w'.data_start + 95))
    (store (w'.data_start + 2) (difference_of h 1) w' ▸ λ _. store_byte (difference_of h 1) c) _
    (bind w' (store (w'.data_start + 2) (difference_of h 1) w') _ (store_later (w'.data_start + 2) (difference_of h 1) w')
    (λ _ w''. store_byte_later (difference_of h 1) c w'')) (same w'))

sign_later : (b : Bool) (w : World) → IsLater w (after (hold_sign b w))
sign_later true w = hold_later 45 w
sign_later false w = same w

radix_later : (w : World) → IsLater w (after (radix w))
radix_later w = bind w (base w) _ (base_later w) (λ b w'. chosen w' (nat_le 2 b && nat_le b 36) _ _ (same w') (same w'))

digit_later : (ud : ℕ) (w : World) → IsLater w (after (hold_digit ud w))
digit_later ud w = bind w (radix w) _ (radix_later w) (λ b w'. bind w' (hold (digit_char (ud % b)) w') _ (hold_later (digit_char (ud % b)) w') (λ _ w''. same w''))

digits_later : (n ud : ℕ) (w : World) → IsLater w (after (hold_digits n ud w))
digits_later zero ud w = same w
digits_later (suc n) ud w =
    bind w (hold_digit ud w) _ (digit_later ud w) (λ left w'. by_number w' left (Gives zero w') (λ m. hold_digits n (suc m) w') (same w') (λ m. digits_later n (suc m) w'))

picture_later : (w : World) → IsLater w (after (picture w))
picture_later w = bind w (fetch (w.data_start + 2) w) _ (fetch_later (w.data_start + 2) w) (λ a w'. same w')

print_later : (size : ℕ) (negative : Bool) (w : World) → IsLater w (after (print_number size negative w))
print_later size negative w =
    bind w (open_picture w) _ (open_later w) (λ _ w. bind w (hold_all size w) _ (digits_later 32 size w) (λ _ w. bind w (hold_sign negative w) _ (sign_later negative w) (λ _ w.
    bind w (picture w) _ (picture_later w) (λ p w. bind w (type_out p.1 p.0 w) _ (type_later p.1 p.0 w) (λ _ w. emit_later 32 w)))))

-- ---- words

both_later : (d : Division) (c : List ℕ) (w : World) → IsLater w (after (both d c w))
both_later None c w = same w
both_later (Some parts) c w = same w

quotient_later : (d : Division) (c : List ℕ) (w : World) → IsLater w (after (quotient_only d c w))
quotient_later None c w = same w
quotient_later (Some parts) c w = same w

rest_later : (d : Division) (c : List ℕ) (w : World) → IsLater w (after (rest_only d c w))
rest_later None c w = same w
rest_later (Some parts) c w = same w

-- a thing and then its cells
gives : {A : Type 0} (w : World) (r : Reply A) (left : A → List ℕ) → IsLater w (after r) → IsLater w (after (r ▸ λ x. Gives (left x)))
gives w r left h = bind w r (λ x. Gives (left x)) h (λ x w'. same w')

pub meaning_later : (word : Word) (c : List ℕ) (w : World) → IsLater w (after (meaning word c w))
meaning_later QDup (zero ∷ c) w = same w
meaning_later QDup (suc x ∷ c) w = same w
meaning_later UMSlashMod (u ∷ h ∷ l ∷ c) w = both_later (unsigned_division (double l h) u) c w
meaning_later SMSlashRem (n ∷ h ∷ l ∷ c) w = both_later (symmetric_division (signed_double l h) (signed n)) c w
meaning_later FMSlashMod (n ∷ h ∷ l ∷ c) w = both_later (floored_division (signed_double l h) (signed n)) c w
meaning_later SlashMod (m ∷ n ∷ c) w = both_later (floored_division (signed n) (signed m)) c w
meaning_later Slash (m ∷ n ∷ c) w = quotient_later (floored_division (signed n) (signed m)) c w
meaning_later Mod (m ∷ n ∷ c) w = rest_later (floored_division (signed n) (signed m)) c w
meaning_later StarSlashMod (k ∷ m ∷ n ∷ c) w = both_later (floored_division (signed n *ℤ signed m) (signed k)) c w
meaning_later StarSlash (k ∷ m ∷ n ∷ c) w = quotient_later (floored_division (signed n *ℤ signed m) (signed k)) c w
meaning_later Fetch (a ∷ c) w = gives w (fetch a w) _ (fetch_later a w)
meaning_later Store (a ∷ x ∷ c) w = gives w (store a x w) _ (store_later a x w)
meaning_later CFetch (a ∷ c) w = gives w (fetch_byte a w) _ (fetch_byte_later a w)
meaning_later CStore (a ∷ x ∷ c) w = gives w (store_byte a x w) _ (store_byte_later a x w)
meaning_later PlusStore (a ∷ n ∷ c) w = bind w (fetch a w) _ (fetch_later a w) (λ x w. gives w (store a (sum_of x n) w) _ (store_later a (sum_of x n) w))
meaning_later TwoFetch (a ∷ c) w = bind w (fetch (sum_of a 2) w) _ (fetch_later (sum_of a 2) w) (λ x w. gives w (fetch a w) _ (fetch_later a w))
meaning_later TwoStore (a ∷ y ∷ x ∷ c) w = bind w (store a y w) _ (store_later a y w) (λ _ w. gives w (store (sum_of a 2) x w) _ (store_later (sum_of a 2) x w))
meaning_later Count (a ∷ c) w = gives w (fetch_byte a w) _ (fetch_byte_later a w)
meaning_later Here c w = gives w (here w) _ (here_later w)
meaning_later Decimal c w = gives w (store w.data_start 10 w) _ (store_later w.data_start 10 w)
meaning_later Hex c w = gives w (store w.data_start 16 w) _ (store_later w.data_start 16 w)
meaning_later Comma (x ∷ c) w = bind w (here w) _ (here_later w) (λ h w. bind w (store h x w) _ (store_later h x w) (λ _ w. gives w (grow_here 2 w) _ (grow_later 2 w)))
meaning_later CComma (x ∷ c) w = bind w (here w) _ (here_later w) (λ h w. bind w (store_byte h x w) _ (store_byte_later h x w) (λ _ w. gives w (grow_here 1 w) _ (grow_later 1 w)))
meaning_later Allot (n ∷ c) w = gives w (grow_here n w) _ (grow_later n w)
meaning_later Align c w = bind w (here w) _ (here_later w) (λ h w. gives w (store (w.data_start + 4) (even (sum_of h 1)) w) _ (store_later (w.data_start + 4) (even (sum_of h 1)) w))
meaning_later Key c w = gives w (take_key w) (λ x. x ∷ c) (key_later w)
meaning_later Emit (x ∷ c) w = gives w (emit x w) (λ _. c) (emit_later x w)
meaning_later Cr c w = gives w (emit 10 w) (λ _. c) (emit_later 10 w)
meaning_later Space c w = gives w (emit 32 w) (λ _. c) (emit_later 32 w)
meaning_later Spaces (n ∷ c) w = gives w (emit_spaces (positive (signed n)) w) _ (spaces_later (positive (signed n)) w)
meaning_later TypeOut (u ∷ a ∷ c) w = gives w (type_out u a w) _ (type_later u a w)
meaning_later Fill (x ∷ u ∷ a ∷ c) w = gives w (fill u a x w) _ (fill_later u a x w)
meaning_later Move (u ∷ b ∷ a ∷ c) w = gives w (move u a b w) _ (move_later u a b w)
meaning_later Accept (u ∷ a ∷ c) w = gives w (accept u a 0 w) _ (accept_later u a 0 w)
meaning_later ToNumber (u ∷ a ∷ h ∷ l ∷ c) w = bind w (base w) _ (base_later w) (λ b w. gives w (number_from b u a (double l h) w) _ (number_later b u a (double l h) w))
meaning_later LessSharp c w = gives w (open_picture w) _ (open_later w)
meaning_later Hold (x ∷ c) w = gives w (hold x w) _ (hold_later x w)
meaning_later Sign (n ∷ c) w = gives w (hold_sign (int_lt (signed n) (pos 0)) w) _ (sign_later (int_lt (signed n) (pos 0)) w)
meaning_later Sharp (h ∷ l ∷ c) w = gives w (hold_digit (double l h) w) _ (digit_later (double l h) w)
meaning_later SharpS (h ∷ l ∷ c) w = gives w (hold_all (double l h) w) _ (digits_later 32 (double l h) w)
meaning_later SharpGreater (h ∷ l ∷ c) w = gives w (picture w) _ (picture_later w)
meaning_later Dot (n ∷ c) w = gives w (print_number (unsigned_abs (signed n)) (int_lt (signed n) (pos 0)) w) _ (print_later (unsigned_abs (signed n)) (int_lt (signed n) (pos 0)) w)
meaning_later UDot (u ∷ c) w = gives w (print_number u false w) _ (print_later u false w)
-- the others change no world
meaning_later word [] w = same w
meaning_later word (x ∷ []) w = same w
meaning_later word (x ∷ y ∷ []) w = same w
meaning_later word (x ∷ y ∷ z ∷ []) w = same w
meaning_later word (x ∷ y ∷ z ∷ v ∷ c) w = same w
