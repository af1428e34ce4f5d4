-- How many cells a word leaves: at most what its exit in the table says.
use Rattle.std.proofs.Common.{ℕ, zero, suc, ◌+◌, ◌-◌, ◌≤◌, List, ◌∷◌, length, arith}
use Rattle.std.specs.Prelude.{false, Some, None, Option, ℤ, pos, negsuc, ◌*ℤ◌, int_lt, unsigned_abs}
use Rattle.cell_math.specs.Cell.{sum_of, signed, double, signed_double}
use Rattle.cell_math.specs.Divisions.{Division, unsigned_division, floored_division, symmetric_division}
use Rattle.word_table.specs.declared.word.Word.{Word}
use Rattle.word_table.specs.declared.word.Word.TheVariants.{Dup, DropTop, Swap, Over, Rot, TwoDup, TwoDrop, Nip, Tuck, QDup, TwoSwap, TwoOver}
use Rattle.word_table.specs.declared.word.Word.TheVariants.{Plus, Minus, Negate, OnePlus, OneMinus, TwoStar, And, Or, Xor, Invert, LShift, RShift, TwoSlash, Abs, Max, Min}
use Rattle.word_table.specs.declared.word.Word.TheVariants.{Equal, NotEqual, Less, Greater, ULess, ZeroEqual, ZeroLess, ZeroGreater, Within, SToD, Cells, CellPlus, Chars, CharPlus, Aligned, Blank, Base, Depth}
use Rattle.word_table.specs.declared.word.Word.TheVariants.{Fetch, Store, CFetch, CStore, PlusStore, TwoFetch, TwoStore, Count, Here, Comma, CComma, Allot, Align, Decimal, Hex}
use Rattle.word_table.specs.declared.word.Word.TheVariants.{Emit, Key, Cr, Space, Spaces, TypeOut, Fill, Move, Accept, ToNumber, Go}
use Rattle.word_table.specs.declared.word.Word.TheVariants.{UMStar, MStar, Star, UMSlashMod, SMSlashRem, FMSlashMod, SlashMod, Slash, Mod, StarSlashMod, StarSlash}
use Rattle.word_table.specs.declared.word.Word.TheVariants.{LessSharp, Hold, Sign, Sharp, SharpS, SharpGreater, Dot, UDot}
use Rattle.word_table.specs.Table.{entry_of}
use Rattle.console_ports.specs.Ports.{even}
use Rattle.forth_program.specs.State.{World, Reply, Gives, Stops, ◌▸◌}
use Rattle.forth_program.specs.Access.{fetch, store, fetch_byte, store_byte, base, here, grow_here, take_key}
use Rattle.forth_program.specs.ByteWords.{type_out, emit_spaces, positive, fill, move, accept, number_from}
use Rattle.forth_program.specs.PicturedOutput.{open_picture, hold, hold_sign, hold_digit, hold_all, picture, print_number}
use Rattle.forth_program.specs.Meaning.{meaning, both, quotient_only, rest_only}
use Rattle.library_laws.proofs.Replies.{Giving}

-- a number of cells after a change
abbrev pub changed : ℤ → ℕ → ℕ
changed (pos k) n = n + k
changed (negsuc k) n = n - suc k

-- at most
abbrev pub raised : Option (ℤ × ℤ) → ℕ → ℕ
raised None n = n
raised (Some exit) n = changed exit.1 n

abbrev pub AtMost : ℕ → List ℕ → World → Type 0
AtMost n c w = length c ≤ n

-- something, and then these cells
then_cells : {A : Type 0} (n : ℕ) (r : Reply A) (cells : A → List ℕ) → ((x : A) → length (cells x) ≤ n) → Giving (r ▸ λ x. Gives (cells x)) (AtMost n)
then_cells n (Gives x w) cells h = h x
then_cells n (Stops end w) cells h = tt

-- something, and then something else
then_more : {A : Type 0} (n : ℕ) (r : Reply A) (more : A → World → Reply (List ℕ)) → ((x : A) (w : World) → Giving (more x w) (AtMost n)) → Giving (r ▸ more) (AtMost n)
then_more n (Gives x w) more h = h x w
then_more n (Stops end w) more h = tt

both_parts : (n : ℕ) (d : Division) (c : List ℕ) (w : World) → length c + 2 ≤ n → Giving (both d c w) (AtMost n)
both_parts n None c w h = tt
both_parts n (Some parts) c w h = omega (arith, h)

quotient_part : (n : ℕ) (d : Division) (c : List ℕ) (w : World) → length c + 1 ≤ n → Giving (quotient_only d c w) (AtMost n)
quotient_part n None c w h = tt
quotient_part n (Some parts) c w h = omega (arith, h)

rest_part : (n : ℕ) (d : Division) (c : List ℕ) (w : World) → length c + 1 ≤ n → Giving (rest_only d c w) (AtMost n)
rest_part n None c w h = tt
rest_part n (Some parts) c w h = omega (arith, h)

pub leaves_at_most : (word : Word) (c : List ℕ) (w : World) → Giving (meaning word c w) (AtMost (raised (entry_of word).exit (length c)))
leaves_at_most Dup (x0 ∷ c) w = omega arith
leaves_at_most DropTop (x0 ∷ c) w = omega arith
leaves_at_most Swap (x0 ∷ x1 ∷ c) w = omega arith
leaves_at_most Over (x0 ∷ x1 ∷ c) w = omega arith
leaves_at_most Rot (x0 ∷ x1 ∷ x2 ∷ c) w = omega arith
leaves_at_most TwoDup (x0 ∷ x1 ∷ c) w = omega arith
leaves_at_most TwoDrop (x0 ∷ x1 ∷ c) w = omega arith
leaves_at_most Nip (x0 ∷ x1 ∷ c) w = omega arith
leaves_at_most Tuck (x0 ∷ x1 ∷ c) w = omega arith
leaves_at_most Plus (x0 ∷ x1 ∷ c) w = omega arith
leaves_at_most Minus (x0 ∷ x1 ∷ c) w = omega arith
leaves_at_most Negate (x0 ∷ c) w = omega arith
leaves_at_most OnePlus (x0 ∷ c) w = omega arith
leaves_at_most OneMinus (x0 ∷ c) w = omega arith
leaves_at_most TwoStar (x0 ∷ c) w = omega arith
leaves_at_most TwoSlash (x0 ∷ c) w = omega arith
leaves_at_most Abs (x0 ∷ c) w = omega arith
leaves_at_most Max (x0 ∷ x1 ∷ c) w = omega arith
leaves_at_most Min (x0 ∷ x1 ∷ c) w = omega arith
leaves_at_most And (x0 ∷ x1 ∷ c) w = omega arith
leaves_at_most Or (x0 ∷ x1 ∷ c) w = omega arith
leaves_at_most Xor (x0 ∷ x1 ∷ c) w = omega arith
leaves_at_most Invert (x0 ∷ c) w = omega arith
leaves_at_most LShift (x0 ∷ x1 ∷ c) w = omega arith
leaves_at_most RShift (x0 ∷ x1 ∷ c) w = omega arith
leaves_at_most Equal (x0 ∷ x1 ∷ c) w = omega arith
leaves_at_most NotEqual (x0 ∷ x1 ∷ c) w = omega arith
leaves_at_most Less (x0 ∷ x1 ∷ c) w = omega arith
leaves_at_most Greater (x0 ∷ x1 ∷ c) w = omega arith
leaves_at_most ULess (x0 ∷ x1 ∷ c) w = omega arith
leaves_at_most ZeroEqual (x0 ∷ c) w = omega arith
leaves_at_most ZeroLess (x0 ∷ c) w = omega arith
leaves_at_most ZeroGreater (x0 ∷ c) w = omega arith
leaves_at_most Within (x0 ∷ x1 ∷ x2 ∷ c) w = omega arith
leaves_at_most SToD (x0 ∷ c) w = omega arith
leaves_at_most Cells (x0 ∷ c) w = omega arith
leaves_at_most CellPlus (x0 ∷ c) w = omega arith
leaves_at_most Chars (x0 ∷ c) w = omega arith
leaves_at_most CharPlus (x0 ∷ c) w = omega arith
leaves_at_most Aligned (x0 ∷ c) w = omega arith
leaves_at_most UMStar (x0 ∷ x1 ∷ c) w = omega arith
leaves_at_most MStar (x0 ∷ x1 ∷ c) w = omega arith
leaves_at_most Star (x0 ∷ x1 ∷ c) w = omega arith
leaves_at_most TwoSwap (x0 ∷ x1 ∷ x2 ∷ x3 ∷ c) w = omega arith
leaves_at_most TwoOver (x0 ∷ x1 ∷ x2 ∷ x3 ∷ c) w = omega arith
leaves_at_most Depth c w = omega arith
leaves_at_most Blank c w = omega arith
leaves_at_most Base c w = omega arith
leaves_at_most QDup (zero ∷ c) w = omega arith
leaves_at_most QDup (suc x ∷ c) w = omega arith
leaves_at_most UMSlashMod (x0 ∷ x1 ∷ x2 ∷ c) w = both_parts _ (unsigned_division (double x2 x1) x0) c w (omega arith)
leaves_at_most SMSlashRem (x0 ∷ x1 ∷ x2 ∷ c) w = both_parts _ (symmetric_division (signed_double x2 x1) (signed x0)) c w (omega arith)
leaves_at_most FMSlashMod (x0 ∷ x1 ∷ x2 ∷ c) w = both_parts _ (floored_division (signed_double x2 x1) (signed x0)) c w (omega arith)
leaves_at_most SlashMod (m ∷ n ∷ c) w = both_parts _ (floored_division (signed n) (signed m)) c w (omega arith)
leaves_at_most Slash (m ∷ n ∷ c) w = quotient_part _ (floored_division (signed n) (signed m)) c w (omega arith)
leaves_at_most Mod (m ∷ n ∷ c) w = rest_part _ (floored_division (signed n) (signed m)) c w (omega arith)
leaves_at_most StarSlashMod (k ∷ m ∷ n ∷ c) w = both_parts _ (floored_division (signed n *ℤ signed m) (signed k)) c w (omega arith)
leaves_at_most StarSlash (k ∷ m ∷ n ∷ c) w = quotient_part _ (floored_division (signed n *ℤ signed m) (signed k)) c w (omega arith)
leaves_at_most Fetch (a ∷ c) w = then_cells _ (fetch a w) _ (λ x. omega arith)
leaves_at_most Store (a ∷ x ∷ c) w = then_cells _ (store a x w) _ (λ x. omega arith)
leaves_at_most CFetch (a ∷ c) w = then_cells _ (fetch_byte a w) _ (λ x. omega arith)
leaves_at_most CStore (a ∷ x ∷ c) w = then_cells _ (store_byte a x w) _ (λ x. omega arith)
leaves_at_most Count (a ∷ c) w = then_cells _ (fetch_byte a w) _ (λ x. omega arith)
leaves_at_most Here c w = then_cells _ (here w) _ (λ x. omega arith)
leaves_at_most Decimal c w = then_cells _ (store w.data_start 10 w) _ (λ x. omega arith)
leaves_at_most Hex c w = then_cells _ (store w.data_start 16 w) _ (λ x. omega arith)
leaves_at_most Allot (n ∷ c) w = then_cells _ (grow_here n w) _ (λ x. omega arith)
leaves_at_most Key c w = then_cells _ (take_key w) _ (λ x. omega arith)
leaves_at_most Emit (x ∷ c) w = omega arith
leaves_at_most Cr c w = omega arith
leaves_at_most Space c w = omega arith
leaves_at_most Spaces (n ∷ c) w = then_cells _ (emit_spaces (positive (signed n)) w) _ (λ x. omega arith)
leaves_at_most TypeOut (u ∷ a ∷ c) w = then_cells _ (type_out u a w) _ (λ x. omega arith)
leaves_at_most Fill (x ∷ u ∷ a ∷ c) w = then_cells _ (fill u a x w) _ (λ x. omega arith)
leaves_at_most Move (u ∷ b ∷ a ∷ c) w = then_cells _ (move u a b w) _ (λ x. omega arith)
leaves_at_most Accept (u ∷ a ∷ c) w = then_cells _ (accept u a 0 w) _ (λ x. omega arith)
leaves_at_most LessSharp c w = then_cells _ (open_picture w) _ (λ x. omega arith)
leaves_at_most Hold (x ∷ c) w = then_cells _ (hold x w) _ (λ x. omega arith)
leaves_at_most Sign (n ∷ c) w = then_cells _ (hold_sign (int_lt (signed n) (pos 0)) w) _ (λ x. omega arith)
leaves_at_most Sharp (h ∷ l ∷ c) w = then_cells _ (hold_digit (double l h) w) _ (λ x. omega arith)
leaves_at_most SharpS (h ∷ l ∷ c) w = then_cells _ (hold_all (double l h) w) _ (λ x. omega arith)
leaves_at_most SharpGreater (h ∷ l ∷ c) w = then_cells _ (picture w) _ (λ x. omega arith)
leaves_at_most Dot (n ∷ c) w = then_cells _ (print_number (unsigned_abs (signed n)) (int_lt (signed n) (pos 0)) w) _ (λ x. omega arith)
leaves_at_most UDot (u ∷ c) w = then_cells _ (print_number u false w) (λ _. c) (λ x. omega arith)
leaves_at_most PlusStore (a ∷ n ∷ c) w = then_more _ (fetch a w) _ (λ x w. then_cells _ (store a (sum_of x n) w) _ (λ x. omega arith))
leaves_at_most TwoFetch (a ∷ c) w = then_more _ (fetch (sum_of a 2) w) _ (λ x w. then_cells _ (fetch a w) _ (λ x. omega arith))
leaves_at_most TwoStore (a ∷ y ∷ v ∷ c) w = then_more _ (store a y w) _ (λ x w. then_cells _ (store (sum_of a 2) v w) _ (λ x. omega arith))
leaves_at_most Comma (v ∷ c) w = then_more _ (here w) _ (λ h w. then_more _ (store h v w) _ (λ x w. then_cells _ (grow_here 2 w) _ (λ x. omega arith)))
leaves_at_most CComma (v ∷ c) w = then_more _ (here w) _ (λ h w. then_more _ (store_byte h v w) _ (λ x w. then_cells _ (grow_here 1 w) _ (λ x. omega arith)))
leaves_at_most Align c w = then_more _ (here w) _ (λ x w. then_cells _ (store (w.data_start + 4) (even (sum_of x 1)) w) _ (λ x. omega arith))
leaves_at_most ToNumber (u ∷ a ∷ h ∷ l ∷ c) w = then_more _ (base w) _ (λ x w. then_cells _ (number_from x u a (double l h) w) _ (λ x. omega arith))
-- GO and the others end the run
leaves_at_most Go (a ∷ c) w = tt
leaves_at_most word c w = tt
