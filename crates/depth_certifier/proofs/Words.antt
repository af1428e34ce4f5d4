-- What a word does to the number of data cells: it finds what it needs, and changes their number by its exit.
use Rattle.std.proofs.Common.{◌≡◌, ℕ, zero, suc, ◌+◌, ◌*◌, ◌%◌, ◌≤◌, ◌==◌, nat_lt, nat_le, ◌&&◌, Bool, true, false, if◌then◌else◌, Option, Some, None, List, [], ◌∷◌, length, refl, arith}
use Rattle.std.specs.Prelude.{ℤ, pos, ◌*ℤ◌, int_lt, unsigned_abs}
use Rattle.std.proofs.lemmas.Int.{ints}
use Rattle.console_ports.specs.declared.ports.Access.{Access as Met}
use Rattle.console_ports.specs.declared.ports.Access.TheVariants as met
use Rattle.console_ports.specs.Ports.{access_at, even}
use Rattle.cell_math.specs.Cell.{sum_of, difference_of, signed, double, signed_double}
use Rattle.cell_math.specs.Divisions.{Division, unsigned_division, floored_division, symmetric_division}
use Rattle.word_table.specs.declared.word.Word.{Word}
use Rattle.word_table.specs.declared.word.Word.TheVariants as table
use Rattle.word_table.specs.declared.word.Word.TheVariants.{Execute}
use Rattle.word_table.specs.Row.{change}
use Rattle.word_table.specs.Table.{entry_of}
use Rattle.forth_program.specs.State.{World, Reply, Gives, Stops, ◌▸◌, Ends}
use Rattle.forth_program.specs.Access.{taken, fetch_by, store_by, fetch, store, emit, take_key, fetch_byte, store_byte, base, here, grow_here}
use Rattle.forth_program.specs.ByteWords.{type_out, emit_spaces, positive, fill, copy_byte, move_up, move_down, move, accept, digit_of, number_from}
use Rattle.forth_program.specs.PicturedOutput.{open_picture, hold, hold_sign, digit_char, radix, hold_digit, hold_digits, hold_all, picture, print_number}
use Rattle.forth_program.specs.Meaning.{both, quotient_only, rest_only, meaning}
use Rattle.forth_program.specs.Form.{is_code_class}
use Rattle.depth_certifier.specs.Effects.{table_effect}
use Rattle.forth_program.specs.Run.{lacks}
use Rattle.depth_certifier.proofs.SourcePlaces.{LeavesWithin}

-- it does not end for want of cells or of return entries
abbrev pub Sound : {A : Type 0} → Reply A → Type 0
Sound (Gives value world) = Unit {0}
Sound (Stops end world) = lacks (Ends end world) ≡ false

pub bind : {A B : Type 0} (r : Reply A) (next : A → World → Reply B) → Sound r → ((x : A) (w : World) → Sound (next x w)) → Sound (r ▸ next)
bind (Gives x w) next h each = each x w
bind (Stops end w) next h each = h

-- choices
chosen : {A : Type 0} (b : Bool) (x y : Reply A) → Sound x → Sound y → Sound (if b then x else y)
chosen true x y h k = h
chosen false x y h k = k

by_bool : {A : Type 0} (b : Bool) (x y : Reply A) → Sound x → Sound y → Sound (elim b [ true ↦ x | false ↦ y ])
by_bool true x y h k = h
by_bool false x y h k = k

by_option : {A : Type 0} (o : Option ℕ) (x : Reply A) (next : ℕ → Reply A) → Sound x → ((n : ℕ) → Sound (next n)) → Sound (elim o [ None ↦ x | Some n ↦ next n ])
by_option None x next h each = h
by_option (Some n) x next h each = each n

by_number : {A : Type 0} (n : ℕ) (x : Reply A) (next : ℕ → Reply A) → Sound x → ((m : ℕ) → Sound (next m)) → Sound (elim n [ zero ↦ x | suc m ↦ next m ])
by_number zero x next h each = h
by_number (suc m) x next h each = each m

-- ---- accesses

taken_sound : (input : List ℕ) (w : World) → Sound (taken input w)
taken_sound [] w = refl
taken_sound (byte ∷ input) w = tt

fetched_sound : (w : World) (m : Met) → Sound (fetch_by w m)
fetched_sound w (met.Data place) = tt
fetched_sound w met.Key = taken_sound w.input w
fetched_sound w (met.Outside address) = refl
fetched_sound w met.Print = refl
fetched_sound w met.Halt = refl

stored_sound : (w : World) (x : ℕ) (m : Met) → Sound (store_by w x m)
stored_sound w x (met.Data place) = tt
stored_sound w x met.Print = tt
stored_sound w x met.Halt = refl
stored_sound w x (met.Outside address) = refl
stored_sound w x met.Key = refl

fetch_sound : (a : ℕ) (w : World) → Sound (fetch a w)
fetch_sound a w = fetched_sound w (access_at w.data_start false a)

store_sound : (a x : ℕ) (w : World) → Sound (store a x w)
store_sound a x w = stored_sound w x (access_at w.data_start true a)

emit_sound : (x : ℕ) (w : World) → Sound (emit x w)
emit_sound x w = store_sound 0x4000 x w

key_sound : (w : World) → Sound (take_key w)
key_sound w = fetch_sound 0x4002 w

fetch_byte_sound : (a : ℕ) (w : World) → Sound (fetch_byte a w)
fetch_byte_sound a w = bind (fetch a w) _ (fetch_sound a w) (λ x w'. tt)

store_byte_sound : (a x : ℕ) (w : World) → Sound (store_byte a x w)
store_byte_sound a x w = bind (fetch a w) _ (fetch_sound a w) (λ y w'. store_sound a _ w')

base_sound : (w : World) → Sound (base w)
base_sound w = fetch_sound w.data_start w

here_sound : (w : World) → Sound (here w)
here_sound w = fetch_sound (w.data_start + 4) w

grow_sound : (n : ℕ) (w : World) → Sound (grow_here n w)
grow_sound n w = bind (here w) _ (here_sound w) (λ h w'. store_sound (w'.data_start + 4) _ w')

-- ---- words over bytes

pub type_sound : (n a : ℕ) (w : World) → Sound (type_out n a w)
type_sound zero a w = tt
type_sound (suc n) a w = bind (fetch_byte a w) _ (fetch_byte_sound a w) (λ c w'. bind (emit c w') (λ _ w''. type_out n (sum_of a 1) w'') (emit_sound c w') (λ _ w''. type_sound n (sum_of a 1) w''))

spaces_sound : (n : ℕ) (w : World) → Sound (emit_spaces n w)
spaces_sound zero w = tt
spaces_sound (suc n) w = bind (emit 32 w) (λ _ w'. emit_spaces n w') (emit_sound 32 w) (λ _ w'. spaces_sound n w')

fill_sound : (n a c : ℕ) (w : World) → Sound (fill n a c w)
fill_sound zero a c w = tt
fill_sound (suc n) a c w = bind (store_byte a c w) _ (store_byte_sound a c w) (λ _ w'. fill_sound n (sum_of a 1) c w')

copy_sound : (a b : ℕ) (w : World) → Sound (copy_byte a b w)
copy_sound a b w = bind (fetch_byte a w) _ (fetch_byte_sound a w) (λ c w'. store_byte_sound b c w')

up_sound : (n a b : ℕ) (w : World) → Sound (move_up n a b w)
up_sound zero a b w = tt
up_sound (suc n) a b w = bind (copy_byte a b w) _ (copy_sound a b w) (λ _ w'. up_sound n (sum_of a 1) (sum_of b 1) w')

down_sound : (n a b : ℕ) (w : World) → Sound (move_down n a b w)
down_sound zero a b w = tt
down_sound (suc n) a b w = bind (copy_byte (sum_of a n) (sum_of b n) w) _ (copy_sound (sum_of a n) (sum_of b n) w) (λ _ w'. down_sound n a b w')

move_sound : (n a b : ℕ) (w : World) → Sound (move n a b w)
move_sound n a b w = chosen (nat_lt a b) (move_down n a b w) (move_up n a b w) (down_sound n a b w) (up_sound n a b w)

accept_sound : (n a kept : ℕ) (w : World) → Sound (accept n a kept w)
accept_sound zero a kept w = tt
accept_sound (suc n) a kept w =
    bind (take_key w) (λ c w'. elim (c == 10) [ true ↦ Gives kept w' | false ↦ store_byte a c w' ▸ λ _. accept n (sum_of a 1) (kept + 1) ]) (key_sound w)
    (λ c w'.
    by_bool (c == 10) (Gives kept w') (store_byte a c w' ▸ λ _. accept n (sum_of a 1) (kept + 1)) tt
    (bind (store_byte a c w') _ (store_byte_sound a c w') (λ _ w''. accept_sound n (sum_of a 1) (kept + 1) w'')))

number_sound : (b n a ud : ℕ) (w : World) → Sound (number_from b n a ud w)
number_sound b zero a ud w = tt
number_sound b (suc n) a ud w =
    bind (fetch_byte a w) _ (fetch_byte_sound a w)
    (λ c w'.
    by_option (digit_of b c) (Gives (ud, a, suc n) w') (λ d. number_from b n (sum_of a 1) ((ud * b + d) % 4294967296) w') tt
    (λ d. number_sound b n (sum_of a 1) ((ud * b + d) % 4294967296) w'))

-- ---- pictured output

open_sound : (w : World) → Sound (open_picture w)
open_sound w = store_sound (w.data_start + 2) (w.data_start + 96) w

hold_sound : (c : ℕ) (w : World) → Sound (hold c w)
hold_sound c w =
    bind (fetch (w.data_start + 2) w) _ (fetch_sound (w.data_start + 2) w)
    (λ h w'.
    chosen (nat_le (w'.data_start + 16) (difference_of h 1) && nat_le (difference_of h 1) (w'.data_start + 95))
    (store (w'.data_start + 2) (difference_of h 1) w' ▸ λ _. store_byte (difference_of h 1) c) _
    (bind (store (w'.data_start + 2) (difference_of h 1) w') _ (store_sound (w'.data_start + 2) (difference_of h 1) w')
    (λ _ w''. store_byte_sound (difference_of h 1) c w'')) refl)

sign_sound : (b : Bool) (w : World) → Sound (hold_sign b w)
sign_sound true w = hold_sound 45 w
sign_sound false w = tt

radix_sound : (w : World) → Sound (radix w)
radix_sound w = bind (base w) _ (base_sound w) (λ b w'. chosen (nat_le 2 b && nat_le b 36) _ _ tt refl)

digit_sound : (ud : ℕ) (w : World) → Sound (hold_digit ud w)
digit_sound ud w = bind (radix w) _ (radix_sound w) (λ b w'. bind (hold (digit_char (ud % b)) w') _ (hold_sound (digit_char (ud % b)) w') (λ _ w''. tt))

digits_sound : (n ud : ℕ) (w : World) → Sound (hold_digits n ud w)
digits_sound zero ud w = tt
digits_sound (suc n) ud w =
    bind (hold_digit ud w) _ (digit_sound ud w) (λ left w'. by_number left (Gives zero w') (λ m. hold_digits n (suc m) w') tt (λ m. digits_sound n (suc m) w'))

picture_sound : (w : World) → Sound (picture w)
picture_sound w = bind (fetch (w.data_start + 2) w) _ (fetch_sound (w.data_start + 2) w) (λ a w'. tt)

print_sound : (size : ℕ) (negative : Bool) (w : World) → Sound (print_number size negative w)
print_sound size negative w =
    bind (open_picture w) _ (open_sound w) (λ _ w. bind (hold_all size w) _ (digits_sound 32 size w) (λ _ w. bind (hold_sign negative w) _ (sign_sound negative w) (λ _ w.
    bind (picture w) _ (picture_sound w) (λ p w. bind (type_out p.1 p.0 w) _ (type_sound p.1 p.0 w) (λ _ w. emit_sound 32 w)))))

-- ---- words

-- what is owed of the cells that a word leaves, from so many cells
abbrev pub Kept : Option (ℤ × ℤ) → ℕ → Reply (List ℕ) → Type 0
Kept exit n (Gives c w) = LeavesWithin exit n (length c)
Kept exit n (Stops end w) = lacks (Ends end w) ≡ false

-- a thing and then what is owed
pub owed : {A : Type 0} (exit : Option (ℤ × ℤ)) (n : ℕ) (r : Reply A) (next : A → World → Reply (List ℕ)) → Sound r → ((x : A) (w : World) → Kept exit n (next x w)) → Kept exit n (r ▸ next)
owed exit n (Gives x w) next h each = each x w
owed exit n (Stops end w) next h each = h

pub changes : (takes leaves before after : ℕ) → before + leaves ≡ after + takes → LeavesWithin (change takes leaves) before after
changes takes leaves before after e = (omega (arith, ints, e), omega (arith, ints, e))

both_kept : (d : Division) (c : List ℕ) (w : World) (takes n : ℕ) → n + 2 ≡ suc (suc (length c)) + takes → Kept (change takes 2) n (both d c w)
both_kept None c w takes n e = refl
both_kept (Some parts) c w takes n e = changes takes 2 n (suc (suc (length c))) e

quotient_kept : (d : Division) (c : List ℕ) (w : World) (takes n : ℕ) → n + 1 ≡ suc (length c) + takes → Kept (change takes 1) n (quotient_only d c w)
quotient_kept None c w takes n e = refl
quotient_kept (Some parts) c w takes n e = changes takes 1 n (suc (length c)) e

rest_kept : (d : Division) (c : List ℕ) (w : World) (takes n : ℕ) → n + 1 ≡ suc (length c) + takes → Kept (change takes 1) n (rest_only d c w)
rest_kept None c w takes n e = refl
rest_kept (Some parts) c w takes n e = changes takes 1 n (suc (length c)) e

-- lists of so many cells at least
with_one : (P : List ℕ → Type 0) → ((x : ℕ) (c : List ℕ) → P (x ∷ c)) → (c : List ℕ) → 1 ≤ length c → P c
with_one P f [] n = absurd (omega arith)
with_one P f (x ∷ c) n = f x c

with_two : (P : List ℕ → Type 0) → ((y x : ℕ) (c : List ℕ) → P (y ∷ x ∷ c)) → (c : List ℕ) → 2 ≤ length c → P c
with_two P f [] n = absurd (omega arith)
with_two P f (y ∷ c) n = with_one (λ c. P (y ∷ c)) (f y) c (omega arith)

with_three : (P : List ℕ → Type 0) → ((z y x : ℕ) (c : List ℕ) → P (z ∷ y ∷ x ∷ c)) → (c : List ℕ) → 3 ≤ length c → P c
with_three P f [] n = absurd (omega arith)
with_three P f (z ∷ c) n = with_two (λ c. P (z ∷ c)) (f z) c (omega arith)

with_four : (P : List ℕ → Type 0) → ((v z y x : ℕ) (c : List ℕ) → P (v ∷ z ∷ y ∷ x ∷ c)) → (c : List ℕ) → 4 ≤ length c → P c
with_four P f [] n = absurd (omega arith)
with_four P f (v ∷ c) n = with_three (λ c. P (v ∷ c)) (f v) c (omega arith)

-- what holds where a test is true
abbrev pub When : Bool → Type 0 → Type 0
When true A = A
When false A = Unit {0}

-- the words that are their meaning on the cells and the world
abbrev pub has_meaning : Word → Bool
has_meaning Execute = false
has_meaning word = is_code_class (entry_of word).class

module _ (w : World) where
  -- ?DUP leaves a copy where the cell is not zero
  query_kept : (x : ℕ) (c : List ℕ) → Kept (Some (pos 0, pos 1)) (suc (length c)) (meaning table.QDup (x ∷ c) w)
  query_kept zero c = (omega (arith, ints), omega (arith, ints))
  query_kept (suc x) c = (omega (arith, ints), omega (arith, ints))

  pub meaning_kept : (word : Word) (c : List ℕ) → (entry_of word).need ≤ length c → When (has_meaning word) (Kept (table_effect word).exit (length c) (meaning word c w))
  meaning_kept table.Dup c h = with_one (λ c. Kept (table_effect table.Dup).exit (length c) (meaning table.Dup c w)) (λ x c. changes 1 2 (suc (length c)) (suc (suc (length c))) (omega arith)) c h
  meaning_kept table.DropTop c h = with_one (λ c. Kept (table_effect table.DropTop).exit (length c) (meaning table.DropTop c w)) (λ x c. changes 1 0 (suc (length c)) (length c) (omega arith)) c h
  meaning_kept table.Swap c h = with_two (λ c. Kept (table_effect table.Swap).exit (length c) (meaning table.Swap c w)) (λ y x c. changes 2 2 (suc (suc (length c))) (suc (suc (length c))) (omega arith)) c h
  meaning_kept table.Over c h = with_two (λ c. Kept (table_effect table.Over).exit (length c) (meaning table.Over c w)) (λ y x c. changes 2 3 (suc (suc (length c))) (suc (suc (suc (length c)))) (omega arith)) c h
  meaning_kept table.Rot c h = with_three (λ c. Kept (table_effect table.Rot).exit (length c) (meaning table.Rot c w)) (λ z y x c. changes 3 3 (suc (suc (suc (length c)))) (suc (suc (suc (length c)))) (omega arith)) c h
  meaning_kept table.TwoDup c h = with_two (λ c. Kept (table_effect table.TwoDup).exit (length c) (meaning table.TwoDup c w)) (λ y x c. changes 2 4 (suc (suc (length c))) (suc (suc (suc (suc (length c))))) (omega arith)) c h
  meaning_kept table.TwoDrop c h = with_two (λ c. Kept (table_effect table.TwoDrop).exit (length c) (meaning table.TwoDrop c w)) (λ y x c. changes 2 0 (suc (suc (length c))) (length c) (omega arith)) c h
  meaning_kept table.Nip c h = with_two (λ c. Kept (table_effect table.Nip).exit (length c) (meaning table.Nip c w)) (λ y x c. changes 2 1 (suc (suc (length c))) (suc (length c)) (omega arith)) c h
  meaning_kept table.Tuck c h = with_two (λ c. Kept (table_effect table.Tuck).exit (length c) (meaning table.Tuck c w)) (λ y x c. changes 2 3 (suc (suc (length c))) (suc (suc (suc (length c)))) (omega arith)) c h
  meaning_kept table.Plus c h = with_two (λ c. Kept (table_effect table.Plus).exit (length c) (meaning table.Plus c w)) (λ y x c. changes 2 1 (suc (suc (length c))) (suc (length c)) (omega arith)) c h
  meaning_kept table.Minus c h = with_two (λ c. Kept (table_effect table.Minus).exit (length c) (meaning table.Minus c w)) (λ y x c. changes 2 1 (suc (suc (length c))) (suc (length c)) (omega arith)) c h
  meaning_kept table.Negate c h = with_one (λ c. Kept (table_effect table.Negate).exit (length c) (meaning table.Negate c w)) (λ x c. changes 1 1 (suc (length c)) (suc (length c)) (omega arith)) c h
  meaning_kept table.OnePlus c h = with_one (λ c. Kept (table_effect table.OnePlus).exit (length c) (meaning table.OnePlus c w)) (λ x c. changes 1 1 (suc (length c)) (suc (length c)) (omega arith)) c h
  meaning_kept table.OneMinus c h = with_one (λ c. Kept (table_effect table.OneMinus).exit (length c) (meaning table.OneMinus c w)) (λ x c. changes 1 1 (suc (length c)) (suc (length c)) (omega arith)) c h
  meaning_kept table.TwoStar c h = with_one (λ c. Kept (table_effect table.TwoStar).exit (length c) (meaning table.TwoStar c w)) (λ x c. changes 1 1 (suc (length c)) (suc (length c)) (omega arith)) c h
  meaning_kept table.And c h = with_two (λ c. Kept (table_effect table.And).exit (length c) (meaning table.And c w)) (λ y x c. changes 2 1 (suc (suc (length c))) (suc (length c)) (omega arith)) c h
  meaning_kept table.Or c h = with_two (λ c. Kept (table_effect table.Or).exit (length c) (meaning table.Or c w)) (λ y x c. changes 2 1 (suc (suc (length c))) (suc (length c)) (omega arith)) c h
  meaning_kept table.Xor c h = with_two (λ c. Kept (table_effect table.Xor).exit (length c) (meaning table.Xor c w)) (λ y x c. changes 2 1 (suc (suc (length c))) (suc (length c)) (omega arith)) c h
  meaning_kept table.Invert c h = with_one (λ c. Kept (table_effect table.Invert).exit (length c) (meaning table.Invert c w)) (λ x c. changes 1 1 (suc (length c)) (suc (length c)) (omega arith)) c h
  meaning_kept table.LShift c h = with_two (λ c. Kept (table_effect table.LShift).exit (length c) (meaning table.LShift c w)) (λ y x c. changes 2 1 (suc (suc (length c))) (suc (length c)) (omega arith)) c h
  meaning_kept table.RShift c h = with_two (λ c. Kept (table_effect table.RShift).exit (length c) (meaning table.RShift c w)) (λ y x c. changes 2 1 (suc (suc (length c))) (suc (length c)) (omega arith)) c h
  meaning_kept table.Equal c h = with_two (λ c. Kept (table_effect table.Equal).exit (length c) (meaning table.Equal c w)) (λ y x c. changes 2 1 (suc (suc (length c))) (suc (length c)) (omega arith)) c h
  meaning_kept table.NotEqual c h = with_two (λ c. Kept (table_effect table.NotEqual).exit (length c) (meaning table.NotEqual c w)) (λ y x c. changes 2 1 (suc (suc (length c))) (suc (length c)) (omega arith)) c h
  meaning_kept table.ZeroGreater c h = with_one (λ c. Kept (table_effect table.ZeroGreater).exit (length c) (meaning table.ZeroGreater c w)) (λ x c. changes 1 1 (suc (length c)) (suc (length c)) (omega arith)) c h
  meaning_kept table.Within c h = with_three (λ c. Kept (table_effect table.Within).exit (length c) (meaning table.Within c w)) (λ z y x c. changes 3 1 (suc (suc (suc (length c)))) (suc (length c)) (omega arith)) c h
  meaning_kept table.Less c h = with_two (λ c. Kept (table_effect table.Less).exit (length c) (meaning table.Less c w)) (λ y x c. changes 2 1 (suc (suc (length c))) (suc (length c)) (omega arith)) c h
  meaning_kept table.Greater c h = with_two (λ c. Kept (table_effect table.Greater).exit (length c) (meaning table.Greater c w)) (λ y x c. changes 2 1 (suc (suc (length c))) (suc (length c)) (omega arith)) c h
  meaning_kept table.ULess c h = with_two (λ c. Kept (table_effect table.ULess).exit (length c) (meaning table.ULess c w)) (λ y x c. changes 2 1 (suc (suc (length c))) (suc (length c)) (omega arith)) c h
  meaning_kept table.ZeroEqual c h = with_one (λ c. Kept (table_effect table.ZeroEqual).exit (length c) (meaning table.ZeroEqual c w)) (λ x c. changes 1 1 (suc (length c)) (suc (length c)) (omega arith)) c h
  meaning_kept table.ZeroLess c h = with_one (λ c. Kept (table_effect table.ZeroLess).exit (length c) (meaning table.ZeroLess c w)) (λ x c. changes 1 1 (suc (length c)) (suc (length c)) (omega arith)) c h
  meaning_kept table.SToD c h = with_one (λ c. Kept (table_effect table.SToD).exit (length c) (meaning table.SToD c w)) (λ x c. changes 1 2 (suc (length c)) (suc (suc (length c))) (omega arith)) c h
  meaning_kept table.Cells c h = with_one (λ c. Kept (table_effect table.Cells).exit (length c) (meaning table.Cells c w)) (λ x c. changes 1 1 (suc (length c)) (suc (length c)) (omega arith)) c h
  meaning_kept table.CellPlus c h = with_one (λ c. Kept (table_effect table.CellPlus).exit (length c) (meaning table.CellPlus c w)) (λ x c. changes 1 1 (suc (length c)) (suc (length c)) (omega arith)) c h
  meaning_kept table.Chars c h = with_one (λ c. Kept (table_effect table.Chars).exit (length c) (meaning table.Chars c w)) (λ x c. changes 1 1 (suc (length c)) (suc (length c)) (omega arith)) c h
  meaning_kept table.CharPlus c h = with_one (λ c. Kept (table_effect table.CharPlus).exit (length c) (meaning table.CharPlus c w)) (λ x c. changes 1 1 (suc (length c)) (suc (length c)) (omega arith)) c h
  meaning_kept table.Aligned c h = with_one (λ c. Kept (table_effect table.Aligned).exit (length c) (meaning table.Aligned c w)) (λ x c. changes 1 1 (suc (length c)) (suc (length c)) (omega arith)) c h
  meaning_kept table.Blank c h = changes 0 1 (length c) (suc (length c)) (omega arith)
  meaning_kept table.Base c h = changes 0 1 (length c) (suc (length c)) (omega arith)
  meaning_kept table.Depth c h = changes 0 1 (length c) (suc (length c)) (omega arith)
  meaning_kept table.TwoSwap c h =
      with_four (λ c. Kept (table_effect table.TwoSwap).exit (length c) (meaning table.TwoSwap c w))
      (λ v z y x c. changes 4 4 (suc (suc (suc (suc (length c))))) (suc (suc (suc (suc (length c))))) (omega arith)) c h
  meaning_kept table.TwoOver c h =
      with_four (λ c. Kept (table_effect table.TwoOver).exit (length c) (meaning table.TwoOver c w))
      (λ v z y x c. changes 4 6 (suc (suc (suc (suc (length c))))) (suc (suc (suc (suc (suc (suc (length c))))))) (omega arith)) c h
  meaning_kept table.Abs c h = with_one (λ c. Kept (table_effect table.Abs).exit (length c) (meaning table.Abs c w)) (λ x c. changes 1 1 (suc (length c)) (suc (length c)) (omega arith)) c h
  meaning_kept table.Max c h = with_two (λ c. Kept (table_effect table.Max).exit (length c) (meaning table.Max c w)) (λ y x c. changes 2 1 (suc (suc (length c))) (suc (length c)) (omega arith)) c h
  meaning_kept table.Min c h = with_two (λ c. Kept (table_effect table.Min).exit (length c) (meaning table.Min c w)) (λ y x c. changes 2 1 (suc (suc (length c))) (suc (length c)) (omega arith)) c h
  meaning_kept table.TwoSlash c h = with_one (λ c. Kept (table_effect table.TwoSlash).exit (length c) (meaning table.TwoSlash c w)) (λ x c. changes 1 1 (suc (length c)) (suc (length c)) (omega arith)) c h
  meaning_kept table.UMStar c h = with_two (λ c. Kept (table_effect table.UMStar).exit (length c) (meaning table.UMStar c w)) (λ y x c. changes 2 2 (suc (suc (length c))) (suc (suc (length c))) (omega arith)) c h
  meaning_kept table.MStar c h = with_two (λ c. Kept (table_effect table.MStar).exit (length c) (meaning table.MStar c w)) (λ y x c. changes 2 2 (suc (suc (length c))) (suc (suc (length c))) (omega arith)) c h
  meaning_kept table.Star c h = with_two (λ c. Kept (table_effect table.Star).exit (length c) (meaning table.Star c w)) (λ y x c. changes 2 1 (suc (suc (length c))) (suc (length c)) (omega arith)) c h
  meaning_kept table.Fetch c h =
      with_one (λ c. Kept (table_effect table.Fetch).exit (length c) (meaning table.Fetch c w))
      (λ x c.
      owed (table_effect table.Fetch).exit (suc (length c)) (fetch x w) _ (fetch_sound x w)
      (λ _ _. changes 1 1 (suc (length c)) (suc (length c)) (omega arith))) c h
  meaning_kept table.Store c h =
      with_two (λ c. Kept (table_effect table.Store).exit (length c) (meaning table.Store c w))
      (λ y x c.
      owed (table_effect table.Store).exit (suc (suc (length c))) (store y x w) _ (store_sound y x w)
      (λ _ _. changes 2 0 (suc (suc (length c))) (length c) (omega arith))) c h
  meaning_kept table.CFetch c h =
      with_one (λ c. Kept (table_effect table.CFetch).exit (length c) (meaning table.CFetch c w))
      (λ x c.
      owed (table_effect table.CFetch).exit (suc (length c)) (fetch_byte x w) _ (fetch_byte_sound x w)
      (λ _ _. changes 1 1 (suc (length c)) (suc (length c)) (omega arith))) c h
  meaning_kept table.CStore c h =
      with_two (λ c. Kept (table_effect table.CStore).exit (length c) (meaning table.CStore c w))
      (λ y x c.
      owed (table_effect table.CStore).exit (suc (suc (length c))) (store_byte y x w) _ (store_byte_sound y x w)
      (λ _ _. changes 2 0 (suc (suc (length c))) (length c) (omega arith))) c h
  meaning_kept table.PlusStore c h =
      with_two (λ c. Kept (table_effect table.PlusStore).exit (length c) (meaning table.PlusStore c w))
      (λ y x c.
      owed (table_effect table.PlusStore).exit (suc (suc (length c))) (fetch y w) _ (fetch_sound y w)
      (λ h w.
      owed (table_effect table.PlusStore).exit (suc (suc (length c))) (store y (sum_of h x) w) _ (store_sound y (sum_of h x) w)
      (λ _ _. changes 2 0 (suc (suc (length c))) (length c) (omega arith)))) c h
  meaning_kept table.TwoFetch c h =
      with_one (λ c. Kept (table_effect table.TwoFetch).exit (length c) (meaning table.TwoFetch c w))
      (λ x c.
      owed (table_effect table.TwoFetch).exit (suc (length c)) (fetch (sum_of x 2) w) _ (fetch_sound (sum_of x 2) w)
      (λ h w.
      owed (table_effect table.TwoFetch).exit (suc (length c)) (fetch x w) _ (fetch_sound x w)
      (λ _ _. changes 1 2 (suc (length c)) (suc (suc (length c))) (omega arith)))) c h
  meaning_kept table.TwoStore c h =
      with_three (λ c. Kept (table_effect table.TwoStore).exit (length c) (meaning table.TwoStore c w))
      (λ z y x c.
      owed (table_effect table.TwoStore).exit (suc (suc (suc (length c)))) (store z y w) _ (store_sound z y w)
      (λ h w.
      owed (table_effect table.TwoStore).exit (suc (suc (suc (length c)))) (store (sum_of z 2) x w) _ (store_sound (sum_of z 2) x w)
      (λ _ _. changes 3 0 (suc (suc (suc (length c)))) (length c) (omega arith)))) c h
  meaning_kept table.Count c h =
      with_one (λ c. Kept (table_effect table.Count).exit (length c) (meaning table.Count c w))
      (λ x c.
      owed (table_effect table.Count).exit (suc (length c)) (fetch_byte x w) _ (fetch_byte_sound x w)
      (λ _ _. changes 1 2 (suc (length c)) (suc (suc (length c))) (omega arith))) c h
  meaning_kept table.Here c h = owed (table_effect table.Here).exit (length c) (here w) _ (here_sound w) (λ _ _. changes 0 1 (length c) (suc (length c)) (omega arith))
  meaning_kept table.Hex c h = owed (table_effect table.Hex).exit (length c) (store w.data_start 16 w) _ (store_sound w.data_start 16 w) (λ _ _. changes 0 0 (length c) (length c) (omega arith))
  meaning_kept table.Decimal c h = owed (table_effect table.Decimal).exit (length c) (store w.data_start 10 w) _ (store_sound w.data_start 10 w) (λ _ _. changes 0 0 (length c) (length c) (omega arith))
  meaning_kept table.Comma c h =
      with_one (λ c. Kept (table_effect table.Comma).exit (length c) (meaning table.Comma c w))
      (λ x c.
      owed (table_effect table.Comma).exit (suc (length c)) (here w) _ (here_sound w)
      (λ h w.
      owed (table_effect table.Comma).exit (suc (length c)) (store h x w) _ (store_sound h x w)
      (λ _ w.
      owed (table_effect table.Comma).exit (suc (length c)) (grow_here 2 w) _ (grow_sound 2 w)
      (λ _ _. changes 1 0 (suc (length c)) (length c) (omega arith))))) c h
  meaning_kept table.CComma c h =
      with_one (λ c. Kept (table_effect table.CComma).exit (length c) (meaning table.CComma c w))
      (λ x c.
      owed (table_effect table.CComma).exit (suc (length c)) (here w) _ (here_sound w)
      (λ h w.
      owed (table_effect table.CComma).exit (suc (length c)) (store_byte h x w) _ (store_byte_sound h x w)
      (λ _ w.
      owed (table_effect table.CComma).exit (suc (length c)) (grow_here 1 w) _ (grow_sound 1 w)
      (λ _ _. changes 1 0 (suc (length c)) (length c) (omega arith))))) c h
  meaning_kept table.Allot c h =
      with_one (λ c. Kept (table_effect table.Allot).exit (length c) (meaning table.Allot c w))
      (λ x c.
      owed (table_effect table.Allot).exit (suc (length c)) (grow_here x w) _ (grow_sound x w)
      (λ _ _. changes 1 0 (suc (length c)) (length c) (omega arith))) c h
  meaning_kept table.Align c h =
      owed (table_effect table.Align).exit (length c) (here w) _ (here_sound w)
      (λ h w.
      owed (table_effect table.Align).exit (length c) (store (w.data_start + 4) (even (sum_of h 1)) w) _
      (store_sound (w.data_start + 4) (even (sum_of h 1)) w) (λ _ _. changes 0 0 (length c) (length c) (omega arith)))
  meaning_kept table.Key c h = owed (table_effect table.Key).exit (length c) (take_key w) _ (key_sound w) (λ _ _. changes 0 1 (length c) (suc (length c)) (omega arith))
  meaning_kept table.Emit c h = with_one (λ c. Kept (table_effect table.Emit).exit (length c) (meaning table.Emit c w)) (λ x c. changes 1 0 (suc (length c)) (length c) (omega arith)) c h
  meaning_kept table.Cr c h = changes 0 0 (length c) (length c) (omega arith)
  meaning_kept table.Space c h = changes 0 0 (length c) (length c) (omega arith)
  meaning_kept table.Spaces c h =
      with_one (λ c. Kept (table_effect table.Spaces).exit (length c) (meaning table.Spaces c w))
      (λ x c.
      owed (table_effect table.Spaces).exit (suc (length c)) (emit_spaces (positive (signed x)) w) _ (spaces_sound (positive (signed x)) w)
      (λ _ _. changes 1 0 (suc (length c)) (length c) (omega arith))) c h
  meaning_kept table.TypeOut c h =
      with_two (λ c. Kept (table_effect table.TypeOut).exit (length c) (meaning table.TypeOut c w))
      (λ y x c.
      owed (table_effect table.TypeOut).exit (suc (suc (length c))) (type_out y x w) _ (type_sound y x w)
      (λ _ _. changes 2 0 (suc (suc (length c))) (length c) (omega arith))) c h
  meaning_kept table.Fill c h =
      with_three (λ c. Kept (table_effect table.Fill).exit (length c) (meaning table.Fill c w))
      (λ z y x c.
      owed (table_effect table.Fill).exit (suc (suc (suc (length c)))) (fill y x z w) _ (fill_sound y x z w)
      (λ _ _. changes 3 0 (suc (suc (suc (length c)))) (length c) (omega arith))) c h
  meaning_kept table.Move c h =
      with_three (λ c. Kept (table_effect table.Move).exit (length c) (meaning table.Move c w))
      (λ z y x c.
      owed (table_effect table.Move).exit (suc (suc (suc (length c)))) (move z x y w) _ (move_sound z x y w)
      (λ _ _. changes 3 0 (suc (suc (suc (length c)))) (length c) (omega arith))) c h
  meaning_kept table.Accept c h =
      with_two (λ c. Kept (table_effect table.Accept).exit (length c) (meaning table.Accept c w))
      (λ y x c.
      owed (table_effect table.Accept).exit (suc (suc (length c))) (accept y x 0 w) _ (accept_sound y x 0 w)
      (λ _ _. changes 2 1 (suc (suc (length c))) (suc (length c)) (omega arith))) c h
  meaning_kept table.ToNumber c h =
      with_four (λ c. Kept (table_effect table.ToNumber).exit (length c) (meaning table.ToNumber c w))
      (λ v z y x c.
      owed (table_effect table.ToNumber).exit (suc (suc (suc (suc (length c))))) (base w) _ (base_sound w)
      (λ h w.
      owed (table_effect table.ToNumber).exit (suc (suc (suc (suc (length c))))) (number_from h v z (double x y) w) _
      (number_sound h v z (double x y) w) (λ _ _. changes 4 4 (suc (suc (suc (suc (length c))))) (suc (suc (suc (suc (length c))))) (omega arith))))
      c h
  meaning_kept table.LessSharp c h = owed (table_effect table.LessSharp).exit (length c) (open_picture w) _ (open_sound w) (λ _ _. changes 0 0 (length c) (length c) (omega arith))
  meaning_kept table.Hold c h =
      with_one (λ c. Kept (table_effect table.Hold).exit (length c) (meaning table.Hold c w))
      (λ x c.
      owed (table_effect table.Hold).exit (suc (length c)) (hold x w) _ (hold_sound x w) (λ _ _. changes 1 0 (suc (length c)) (length c) (omega arith)))
      c h
  meaning_kept table.Sign c h =
      with_one (λ c. Kept (table_effect table.Sign).exit (length c) (meaning table.Sign c w))
      (λ x c.
      owed (table_effect table.Sign).exit (suc (length c)) (hold_sign (int_lt (signed x) (pos 0)) w) _ (sign_sound (int_lt (signed x) (pos 0)) w)
      (λ _ _. changes 1 0 (suc (length c)) (length c) (omega arith))) c h
  meaning_kept table.Sharp c h =
      with_two (λ c. Kept (table_effect table.Sharp).exit (length c) (meaning table.Sharp c w))
      (λ y x c.
      owed (table_effect table.Sharp).exit (suc (suc (length c))) (hold_digit (double x y) w) _ (digit_sound (double x y) w)
      (λ _ _. changes 2 2 (suc (suc (length c))) (suc (suc (length c))) (omega arith))) c h
  meaning_kept table.SharpS c h =
      with_two (λ c. Kept (table_effect table.SharpS).exit (length c) (meaning table.SharpS c w))
      (λ y x c.
      owed (table_effect table.SharpS).exit (suc (suc (length c))) (hold_all (double x y) w) _ (digits_sound 32 (double x y) w)
      (λ _ _. changes 2 2 (suc (suc (length c))) (suc (suc (length c))) (omega arith))) c h
  meaning_kept table.SharpGreater c h =
      with_two (λ c. Kept (table_effect table.SharpGreater).exit (length c) (meaning table.SharpGreater c w))
      (λ y x c.
      owed (table_effect table.SharpGreater).exit (suc (suc (length c))) (picture w) _ (picture_sound w)
      (λ _ _. changes 2 2 (suc (suc (length c))) (suc (suc (length c))) (omega arith))) c h
  meaning_kept table.Dot c h =
      with_one (λ c. Kept (table_effect table.Dot).exit (length c) (meaning table.Dot c w))
      (λ x c.
      owed (table_effect table.Dot).exit (suc (length c)) (print_number (unsigned_abs (signed x)) (int_lt (signed x) (pos 0)) w) _
      (print_sound (unsigned_abs (signed x)) (int_lt (signed x) (pos 0)) w) (λ _ _. changes 1 0 (suc (length c)) (length c) (omega arith))) c h
  meaning_kept table.UDot c h =
      with_one (λ c. Kept (table_effect table.UDot).exit (length c) (meaning table.UDot c w))
      (λ x c.
      owed (table_effect table.UDot).exit (suc (length c)) (print_number x false w) _ (print_sound x false w)
      (λ _ _. changes 1 0 (suc (length c)) (length c) (omega arith))) c h
  meaning_kept table.UMSlashMod c h =
      with_three (λ c. Kept (table_effect table.UMSlashMod).exit (length c) (meaning table.UMSlashMod c w))
      (λ z y x c. both_kept (unsigned_division (double x y) z) c w 3 (suc (suc (suc (length c)))) (omega arith)) c h
  meaning_kept table.SMSlashRem c h =
      with_three (λ c. Kept (table_effect table.SMSlashRem).exit (length c) (meaning table.SMSlashRem c w))
      (λ z y x c. both_kept (symmetric_division (signed_double x y) (signed z)) c w 3 (suc (suc (suc (length c)))) (omega arith)) c h
  meaning_kept table.FMSlashMod c h =
      with_three (λ c. Kept (table_effect table.FMSlashMod).exit (length c) (meaning table.FMSlashMod c w))
      (λ z y x c. both_kept (floored_division (signed_double x y) (signed z)) c w 3 (suc (suc (suc (length c)))) (omega arith)) c h
  meaning_kept table.SlashMod c h = with_two (λ c. Kept (table_effect table.SlashMod).exit (length c) (meaning table.SlashMod c w)) (λ y x c. both_kept (floored_division (signed x) (signed y)) c w 2 (suc (suc (length c))) (omega arith)) c h
  meaning_kept table.Slash c h = with_two (λ c. Kept (table_effect table.Slash).exit (length c) (meaning table.Slash c w)) (λ y x c. quotient_kept (floored_division (signed x) (signed y)) c w 2 (suc (suc (length c))) (omega arith)) c h
  meaning_kept table.Mod c h = with_two (λ c. Kept (table_effect table.Mod).exit (length c) (meaning table.Mod c w)) (λ y x c. rest_kept (floored_division (signed x) (signed y)) c w 2 (suc (suc (length c))) (omega arith)) c h
  meaning_kept table.StarSlashMod c h =
      with_three (λ c. Kept (table_effect table.StarSlashMod).exit (length c) (meaning table.StarSlashMod c w))
      (λ z y x c. both_kept (floored_division (signed x *ℤ signed y) (signed z)) c w 3 (suc (suc (suc (length c)))) (omega arith)) c h
  meaning_kept table.StarSlash c h =
      with_three (λ c. Kept (table_effect table.StarSlash).exit (length c) (meaning table.StarSlash c w))
      (λ z y x c. quotient_kept (floored_division (signed x *ℤ signed y) (signed z)) c w 3 (suc (suc (suc (length c)))) (omega arith)) c h
  meaning_kept table.QDup c h = with_one (λ c. Kept (table_effect table.QDup).exit (length c) (meaning table.QDup c w)) (λ x c. query_kept x c) c h
  meaning_kept table.AbortRun c h = refl
  meaning_kept table.Quit c h = refl
  meaning_kept table.Go c h = with_one (λ c. Kept (table_effect table.Go).exit (length c) (meaning table.Go c w)) (λ x c. refl) c h
  -- the others do not stand in a body, or work on return entries, or are EXECUTE
  meaning_kept word c h = tt
