-- The meaning of each table word that touches data cells and the world alone: what it takes, what it leaves, and its
-- accesses in their order. Cells stand with the top first, so `x y -- y x` goes from `y ∷ x ∷ c` to `x ∷ y ∷ c`.
-- From the Core words of ANS Forth (X3.215-1994) and its Core extension words on cells of 16 bits, addresses in bytes, and flags 0 and 65535.
use Rattle.std.specs.Prelude.{ℕ, zero, suc, ◌+◌, ◌-◌, ◌*◌, ◌/◌, ◌%◌, ◌^◌, ◌==◌, nat_lt, false, not, if◌then◌else◌, List, ◌∷◌, length, bit_and, bit_or, bit_xor, Some, None}
use Rattle.std.specs.Prelude.{pos, ◌*ℤ◌, int_lt, unsigned_abs}
use Rattle.word_table.specs.declared.word.Word.{Word}
use Rattle.word_table.specs.declared.word.Word.TheVariants.{Dup, DropTop, Swap, Over, Rot, TwoDup, TwoDrop, Nip, Tuck, QDup, TwoSwap, TwoOver}
use Rattle.word_table.specs.declared.word.Word.TheVariants.{Plus, Minus, Negate, OnePlus, OneMinus, TwoStar, And, Or, Xor, Invert, LShift, RShift, TwoSlash, Abs, Max, Min}
use Rattle.word_table.specs.declared.word.Word.TheVariants.{Equal, NotEqual, Less, Greater, ULess, ZeroEqual, ZeroLess, ZeroGreater, Within, SToD, Cells, CellPlus, Chars, CharPlus, Aligned, Blank, Base, Depth}
use Rattle.word_table.specs.declared.word.Word.TheVariants.{Fetch, Store, CFetch, CStore, PlusStore, TwoFetch, TwoStore, Count, Here, Comma, CComma, Allot, Align, Decimal, Hex}
use Rattle.word_table.specs.declared.word.Word.TheVariants.{Emit, Key, Cr, Space, Spaces, TypeOut, Fill, Move, Accept, ToNumber, AbortRun, Quit, Go}
use Rattle.word_table.specs.declared.word.Word.TheVariants.{UMStar, MStar, Star, UMSlashMod, SMSlashRem, FMSlashMod, SlashMod, Slash, Mod, StarSlashMod, StarSlash}
use Rattle.word_table.specs.declared.word.Word.TheVariants.{LessSharp, Hold, Sign, Sharp, SharpS, SharpGreater, Dot, UDot}
use Rattle.cell_math.specs.Cell.{sum_of, difference_of, negated, signed, cell_of, flag, double, signed_double, double_of, low_cell, high_cell}
use Rattle.cell_math.specs.Quotients.{floored}
use Rattle.cell_math.specs.Divisions.{Division, unsigned_division, floored_division, symmetric_division}
use Rattle.console_ports.specs.Ports.{even}
use Rattle.forth_program.specs.State.{World, Reply, Gives, Stops, ◌▸◌, Halted, Underflow, Left}
use Rattle.forth_program.specs.Access.{fetch, store, emit, fetch_byte, store_byte, base, here, grow_here, take_key}
use Rattle.forth_program.specs.ByteWords.{type_out, emit_spaces, positive, fill, move, accept, number_from}
use Rattle.forth_program.specs.PicturedOutput.{open_picture, hold, hold_sign, hold_digit, hold_all, picture, print_number}

-- what a word does: the cells that it leaves
abbrev pub CellsLeft : Type 0
CellsLeft = Reply (List ℕ)

-- a double on the cells, the high cell on top
abbrev pub put : ℕ → List ℕ → List ℕ
put d c = high_cell d ∷ low_cell d ∷ c

-- remainder and quotient on the cells, or the halt of a division that has none
abbrev pub both : Division → List ℕ → World → CellsLeft
both None c w = Stops (Halted 10) w
both (Some parts) c w = Gives (parts.1 ∷ parts.0 ∷ c) w

-- the quotient alone
abbrev pub quotient_only : Division → List ℕ → World → CellsLeft
quotient_only None c w = Stops (Halted 10) w
quotient_only (Some parts) c w = Gives (parts.1 ∷ c) w

-- the remainder alone
abbrev pub rest_only : Division → List ℕ → World → CellsLeft
rest_only None c w = Stops (Halted 10) w
rest_only (Some parts) c w = Gives (parts.0 ∷ c) w

-- the greater and the lesser of two cells, signed
abbrev pub greater : ℕ → ℕ → ℕ
greater x y = if int_lt (signed x) (signed y) then y else x

abbrev pub lesser : ℕ → ℕ → ℕ
lesser x y = if int_lt (signed x) (signed y) then x else y

-- what a word does with the cells, the top first, and the world
abbrev pub meaning : Word → List ℕ → World → CellsLeft
-- ---- the data stack (DEPTH is modulo 65536)
meaning Dup (x ∷ c) w = Gives (x ∷ x ∷ c) w
meaning DropTop (x ∷ c) w = Gives c w
meaning Swap (y ∷ x ∷ c) w = Gives (x ∷ y ∷ c) w
meaning Over (y ∷ x ∷ c) w = Gives (x ∷ y ∷ x ∷ c) w
meaning Rot (z ∷ y ∷ x ∷ c) w = Gives (x ∷ z ∷ y ∷ c) w
meaning TwoDup (y ∷ x ∷ c) w = Gives (y ∷ x ∷ y ∷ x ∷ c) w
meaning TwoDrop (y ∷ x ∷ c) w = Gives c w
meaning Nip (y ∷ x ∷ c) w = Gives (y ∷ c) w
meaning Tuck (y ∷ x ∷ c) w = Gives (y ∷ x ∷ y ∷ c) w
meaning QDup (zero ∷ c) w = Gives (zero ∷ c) w
meaning QDup (suc x ∷ c) w = Gives (suc x ∷ suc x ∷ c) w
meaning TwoSwap (w' ∷ z ∷ y ∷ x ∷ c) w = Gives (y ∷ x ∷ w' ∷ z ∷ c) w
meaning TwoOver (w' ∷ z ∷ y ∷ x ∷ c) w = Gives (y ∷ x ∷ w' ∷ z ∷ y ∷ x ∷ c) w
meaning Depth c w = Gives (length c % 65536 ∷ c) w
-- ---- arithmetic, logic and comparison; a shift is by the count modulo 16
meaning Plus (y ∷ x ∷ c) w = Gives (sum_of x y ∷ c) w
meaning Minus (y ∷ x ∷ c) w = Gives (difference_of x y ∷ c) w
meaning Negate (x ∷ c) w = Gives (negated x ∷ c) w
meaning OnePlus (x ∷ c) w = Gives (sum_of x 1 ∷ c) w
meaning OneMinus (x ∷ c) w = Gives (difference_of x 1 ∷ c) w
meaning TwoStar (x ∷ c) w = Gives (2 * x % 65536 ∷ c) w
meaning TwoSlash (x ∷ c) w = Gives (cell_of (floored (signed x) (pos 2)) ∷ c) w
meaning Abs (x ∷ c) w = Gives (unsigned_abs (signed x) ∷ c) w
meaning Max (y ∷ x ∷ c) w = Gives (greater x y ∷ c) w
meaning Min (y ∷ x ∷ c) w = Gives (lesser x y ∷ c) w
meaning And (y ∷ x ∷ c) w = Gives (bit_and x y ∷ c) w
meaning Or (y ∷ x ∷ c) w = Gives (bit_or x y ∷ c) w
meaning Xor (y ∷ x ∷ c) w = Gives (bit_xor x y ∷ c) w
meaning Invert (x ∷ c) w = Gives ((65535 - x) ∷ c) w
meaning LShift (u ∷ x ∷ c) w = Gives (x * 2 ^ (u % 16) % 65536 ∷ c) w
meaning RShift (u ∷ x ∷ c) w = Gives (x / 2 ^ (u % 16) ∷ c) w
meaning Equal (y ∷ x ∷ c) w = Gives (flag (x == y) ∷ c) w
meaning NotEqual (y ∷ x ∷ c) w = Gives (flag (not (x == y)) ∷ c) w
meaning Less (y ∷ x ∷ c) w = Gives (flag (int_lt (signed x) (signed y)) ∷ c) w
meaning Greater (y ∷ x ∷ c) w = Gives (flag (int_lt (signed y) (signed x)) ∷ c) w
meaning ULess (y ∷ x ∷ c) w = Gives (flag (nat_lt x y) ∷ c) w
meaning ZeroEqual (x ∷ c) w = Gives (flag (x == 0) ∷ c) w
meaning ZeroLess (x ∷ c) w = Gives (flag (int_lt (signed x) (pos 0)) ∷ c) w
meaning ZeroGreater (x ∷ c) w = Gives (flag (int_lt (pos 0) (signed x)) ∷ c) w
meaning Within (b ∷ a ∷ u ∷ c) w = Gives (flag (nat_lt (difference_of u a) (difference_of b a)) ∷ c) w
meaning SToD (x ∷ c) w = Gives (put (double_of (signed x)) c) w
meaning Cells (x ∷ c) w = Gives (2 * x % 65536 ∷ c) w
meaning CellPlus (x ∷ c) w = Gives (sum_of x 2 ∷ c) w
meaning Chars (x ∷ c) w = Gives (x ∷ c) w
meaning CharPlus (x ∷ c) w = Gives (sum_of x 1 ∷ c) w
meaning Aligned (x ∷ c) w = Gives (even (sum_of x 1) ∷ c) w
-- ---- products and quotients of whole numbers (/ MOD /MOD */ and */MOD are floored)
meaning UMStar (y ∷ x ∷ c) w = Gives (put (x * y) c) w
meaning MStar (y ∷ x ∷ c) w = Gives (put (double_of (signed x *ℤ signed y)) c) w
meaning Star (y ∷ x ∷ c) w = Gives (x * y % 65536 ∷ c) w
meaning UMSlashMod (u ∷ h ∷ l ∷ c) w = both (unsigned_division (double l h) u) c w
meaning SMSlashRem (n ∷ h ∷ l ∷ c) w = both (symmetric_division (signed_double l h) (signed n)) c w
meaning FMSlashMod (n ∷ h ∷ l ∷ c) w = both (floored_division (signed_double l h) (signed n)) c w
meaning SlashMod (m ∷ n ∷ c) w = both (floored_division (signed n) (signed m)) c w
meaning Slash (m ∷ n ∷ c) w = quotient_only (floored_division (signed n) (signed m)) c w
meaning Mod (m ∷ n ∷ c) w = rest_only (floored_division (signed n) (signed m)) c w
meaning StarSlashMod (k ∷ m ∷ n ∷ c) w = both (floored_division (signed n *ℤ signed m) (signed k)) c w
meaning StarSlash (k ∷ m ∷ n ∷ c) w = quotient_only (floored_division (signed n *ℤ signed m) (signed k)) c w
-- ---- data space
meaning Fetch (a ∷ c) w = fetch a w ▸ λ x. Gives (x ∷ c)
meaning Store (a ∷ x ∷ c) w = store a x w ▸ λ _. Gives c
meaning CFetch (a ∷ c) w = fetch_byte a w ▸ λ x. Gives (x ∷ c)
meaning CStore (a ∷ x ∷ c) w = store_byte a x w ▸ λ _. Gives c
meaning PlusStore (a ∷ n ∷ c) w = fetch a w ▸ λ x w. store a (sum_of x n) w ▸ λ _. Gives c
meaning TwoFetch (a ∷ c) w = fetch (sum_of a 2) w ▸ λ x w. fetch a w ▸ λ y. Gives (y ∷ x ∷ c)
meaning TwoStore (a ∷ y ∷ x ∷ c) w = store a y w ▸ λ _ w. store (sum_of a 2) x w ▸ λ _. Gives c
meaning Count (a ∷ c) w = fetch_byte a w ▸ λ x. Gives (x ∷ sum_of a 1 ∷ c)
meaning Blank c w = Gives (32 ∷ c) w
meaning Base c w = Gives (w.data_start ∷ c) w
meaning Here c w = here w ▸ λ h. Gives (h ∷ c)
meaning Decimal c w = store w.data_start 10 w ▸ λ _. Gives c
meaning Hex c w = store w.data_start 16 w ▸ λ _. Gives c
meaning Comma (x ∷ c) w = here w ▸ λ h w. store h x w ▸ λ _ w. grow_here 2 w ▸ λ _. Gives c
meaning CComma (x ∷ c) w = here w ▸ λ h w. store_byte h x w ▸ λ _ w. grow_here 1 w ▸ λ _. Gives c
meaning Allot (n ∷ c) w = grow_here n w ▸ λ _. Gives c
meaning Align c w = here w ▸ λ h w. store (w.data_start + 4) (even (sum_of h 1)) w ▸ λ _. Gives c
-- ---- input and output by the console's ports; MOVE copies as if to a place apart
meaning Key c w = take_key w ▸ λ x. Gives (x ∷ c)
meaning Emit (x ∷ c) w = emit x w ▸ λ _. Gives c
meaning Cr c w = emit 10 w ▸ λ _. Gives c
meaning Space c w = emit 32 w ▸ λ _. Gives c
meaning Spaces (n ∷ c) w = emit_spaces (positive (signed n)) w ▸ λ _. Gives c
meaning TypeOut (u ∷ a ∷ c) w = type_out u a w ▸ λ _. Gives c
meaning Fill (x ∷ u ∷ a ∷ c) w = fill u a x w ▸ λ _. Gives c
meaning Move (u ∷ b ∷ a ∷ c) w = move u a b w ▸ λ _. Gives c
meaning Accept (u ∷ a ∷ c) w = accept u a 0 w ▸ λ n. Gives (n ∷ c)
meaning ToNumber (u ∷ a ∷ h ∷ l ∷ c) w = base w ▸ λ b w. number_from b u a (double l h) w ▸ λ r. Gives (r.2 ∷ r.1 ∷ put r.0 c)
-- ---- pictured numeric output and number display
meaning LessSharp c w = open_picture w ▸ λ _. Gives c
meaning Hold (x ∷ c) w = hold x w ▸ λ _. Gives c
meaning Sign (n ∷ c) w = hold_sign (int_lt (signed n) (pos 0)) w ▸ λ _. Gives c
meaning Sharp (h ∷ l ∷ c) w = hold_digit (double l h) w ▸ λ d. Gives (put d c)
meaning SharpS (h ∷ l ∷ c) w = hold_all (double l h) w ▸ λ d. Gives (put d c)
meaning SharpGreater (h ∷ l ∷ c) w = picture w ▸ λ p. Gives (p.1 ∷ p.0 ∷ c)
meaning Dot (n ∷ c) w = print_number (unsigned_abs (signed n)) (int_lt (signed n) (pos 0)) w ▸ λ _. Gives c
meaning UDot (u ∷ c) w = print_number u false w ▸ λ _. Gives c
-- ---- ends: what ABORT and QUIT empty and leave is the run itself
meaning AbortRun c w = Stops (Halted 1) w
meaning Quit c w = Stops (Halted 3) w
-- GO leaves the source for the code at an address
meaning Go (a ∷ c) w = Stops (Left a) w
-- what is left finds too few cells
meaning word c w = Stops Underflow w
