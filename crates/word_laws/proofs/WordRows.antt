-- Each word's cells do what the word means, wherever they stand.
use Rattle.std.proofs.Common.{◌≡◌, ℕ, suc, ◌+◌, ◌-◌, ◌*◌, ◌/◌, ◌%◌, ◌<◌, ◌≤◌, Bool, true, false, List, [], ◌∷◌, length, Option, ℤ, pos, negsuc, ◌+ℤ◌, refl, ap, ◌∙◌, arith, leb-true, ltb-false}
use Rattle.std.specs.Prelude.{bit_and, bit_or, bit_xor, ◌==◌, int_lt, nat_lt, not, if◌then◌else◌}
use Rattle.std.proofs.lemmas.Nat.{and_mask, and_comm, or_comm, xor_comm}
use Rattle.std.proofs.lemmas.Nat.Bits.{and_high_mask}
use Rattle.std.proofs.lemmas.Bool.{le-ltb}
use Rattle.cell_math.specs.Cell.{sum_of, difference_of, flag, signed, double_of, low_cell, high_cell}
use Rattle.word_table.specs.declared.word.Word.{Word}
use Rattle.word_table.specs.declared.word.Word.TheVariants.{Nip, Tuck, ZeroGreater, NotEqual, Within, Hex, Dup, DropTop, Swap, Over, Rot, TwoDup, TwoDrop, Plus}
use Rattle.word_table.specs.declared.word.Word.TheVariants.{Minus, Negate, OnePlus, OneMinus, TwoStar, And, Or, Xor, Invert, LShift, RShift, Equal, Less}
use Rattle.word_table.specs.declared.word.Word.TheVariants.{Greater, ULess, ZeroEqual, ZeroLess, SToD}
use Rattle.word_table.specs.declared.word.Word.TheVariants.{Cells, CellPlus, Chars, CharPlus, Aligned, Fetch, Store, Emit, Key, Blank, Cr, Space, Base, Here, Decimal, Depth, AbortRun, Quit, ToR, RFrom, RFetch, Index, OuterIndex, Unloop}
use Rattle.forth_program.specs.State.{Entry, Cell, Loop, Work, Frame, World, State, Goes}
use Rattle.forth_program.specs.Program.{SourceProgram}
use Rattle.forth_program.specs.Step.{word_step}
use Rattle.j1_simulator.specs.RoundMachine.{around}
use Rattle.j1_simulator.specs.Effect.{following}
use Rattle.word_laws.specs.Rings.{OpenConfiguration}
use Rattle.forth_program.specs.Cells.{AreCells, AreEntries}
use Rattle.word_laws.specs.Standing.{return_places, standing, machine_at}
use Rattle.word_laws.specs.Words.{stands_plain, CellsApply}
use Rattle.word_laws.proofs.AccessRows.{fetch_row, store_row}
use Rattle.word_laws.proofs.Rows.{instructions_of, feed, past, data_past, return_past, When, RowMeans}

aligned : (x : ℕ) → bit_and 65534 ((1 + x) % 65536) ≡ (x + 1) % 65536 / 2 * 2
aligned x = and_comm 65534 ((1 + x) % 65536) ∙ and_high_mask 16 1 (omega arith) ((1 + x) % 65536) (omega arith) ∙ omega arith

-- INVERT turns a flag
flag_turned : (b : Bool) → 65535 - flag b ≡ flag (not b)
flag_turned true = refl
flag_turned false = refl

-- a difference by INVERT, + and 1+
difference_is : (x y : ℕ) → x < 0x10000 → y < 0x10000 → sum_of 1 (sum_of (65535 - y) x) ≡ difference_of x y
difference_is x y h k = omega arith

within_is : (u a b : ℕ) → u < 0x10000 → a < 0x10000 → b < 0x10000 → flag (nat_lt (sum_of 1 (sum_of (65535 - a) u)) (sum_of 1 (sum_of (65535 - a) b))) ≡ flag (nat_lt (difference_of u a) (difference_of b a))
within_is u a b h k m = ap (λ x. flag (nat_lt x (sum_of 1 (sum_of (65535 - a) b)))) (difference_is u a h k) ∙ ap (λ x. flag (nat_lt (difference_of u a) x)) (difference_is b a m k)

-- DEPTH takes the lowest five bits
depth_is : (b d n : ℕ) → d ≡ n % 32 → n ≤ 31 → bit_and 31 (b * 256 + d) ≡ n % 65536
depth_is b d n e small = and_comm 31 (b * 256 + d) ∙ and_mask (b * 256 + d) 5 ∙ omega (arith, e, small)

two : (h h' l l' : ℕ) (c : List ℕ) → h ≡ h' → l ≡ l' → h ∷ l ∷ c ≡ h' ∷ l' ∷ c
two h h' l l' c e f = ap (λ x. x ∷ l ∷ c) e ∙ ap (λ x. h' ∷ x ∷ c) f

-- a cell as a signed double
widened_by : (b : Bool) (x : ℕ) (c : List ℕ) → (b ≡ true → x < 32768) → (b ≡ false → 32768 ≤ x) → x < 0x10000 →
    flag (int_lt (if b then pos x else negsuc (65535 - x)) (pos 0)) ∷ x ∷ c ≡ high_cell (double_of (if b then pos x else negsuc (65535 - x))) ∷ low_cell (double_of (if b then pos x else negsuc (65535 - x))) ∷ c
widened_by true x c low high h =
    let small = low refl in
    two (flag (nat_lt x 0)) (x % 4294967296 / 65536 % 65536) x (x % 4294967296 % 65536) c (ap flag (le-ltb x 0 (omega arith)) ∙ omega (arith, small)) (omega (arith, small))
widened_by false x c low high h =
    let large = high refl in
    two 65535 ((4294967295 - (65535 - x) % 4294967296) / 65536 % 65536) x ((4294967295 - (65535 - x) % 4294967296) % 65536) c (omega (arith, large)) (omega (arith, large))

widened : (x : ℕ) (c : List ℕ) → x < 0x10000 → flag (int_lt (signed x) (pos 0)) ∷ x ∷ c ≡ high_cell (double_of (signed x)) ∷ low_cell (double_of (signed x)) ∷ c
widened x c h = widened_by (nat_lt x 32768) x c (λ e. leb-true (suc x) 32768 e) (λ e. ltb-false x 32768 e) h

module _ (p : SourceProgram) (work : List Work) (callers : List Frame) (o : World) (code : List ℕ) (size : length code ≡ o.data_start / 2) (base : List (Option ℕ)) where
  -- the state with these cells and entries
  abbrev pub at_state : List ℕ → List Entry → State
  at_state c es = record { work = work; entries = es; callers = callers; cells = c; world = o }

  -- the same result under other names
  renamed : (w : OpenConfiguration) (q : ℕ) (c c' : List ℕ) (s : State) (da ra : List (Option ℕ)) (d b : ℤ) →
      w ≡ standing (machine_at code q (return_places s.entries base) da ra) c d b o → c ≡ c' → RowMeans code q base d b w (Goes (record s { cells = c'; world = o }))
  renamed w q c c' s da ra d b e n = (da, ra, e ∙ ap (λ z. standing (machine_at code q (return_places s.entries base) da ra) z d b o) n)

  top : {x y : ℕ} (c : List ℕ) → x ≡ y → x ∷ c ≡ y ∷ c
  top c e = ap (λ z. z ∷ c) e

  module _ (pc : ℕ) (da ra : List (Option ℕ)) (d b : ℤ) where
    abbrev pub Row : Word → List ℕ → List Entry → Type 0
    Row word c es = RowMeans code (past pc (instructions_of o.data_start word)) base (data_past d (instructions_of o.data_start word)) (return_past b (instructions_of o.data_start word))
        (feed o.data_start (instructions_of o.data_start word) (standing (machine_at code pc (return_places es base) da ra) c d b o)) (word_step p word c es (at_state c es))

    pub word_row : (word : Word) (c : List ℕ) (es : List Entry) → d ≡ pos (length c) → AreCells c → AreEntries es → CellsApply word c → When (stands_plain word) (Row word c es)
    word_row Dup (x ∷ c) es n f g h = (_, _, refl)
    word_row DropTop (x ∷ c) es n f g h = (_, _, refl)
    word_row Swap (y ∷ x ∷ c) es n f g h = (_, _, refl)
    word_row Over (y ∷ x ∷ c) es n f g h = (_, _, refl)
    word_row Rot (z ∷ y ∷ x ∷ c) es n f g h = (_, _, refl)
    word_row TwoDup (y ∷ x ∷ c) es n f g h = (_, _, refl)
    word_row TwoDrop (y ∷ x ∷ c) es n f g h = (_, _, refl)
    word_row Nip (y ∷ x ∷ c) es n f g h = (_, _, refl)
    word_row Tuck (y ∷ x ∷ c) es n f g h = (_, _, refl)
    word_row Plus (y ∷ x ∷ c) es n f g h = renamed _ _ (sum_of y x ∷ c) _ (at_state (y ∷ x ∷ c) es) _ _ _ _ refl (top c (omega arith))
    word_row Minus (y ∷ x ∷ c) es n f g h = renamed _ _ (sum_of 1 (sum_of (65535 - y) x) ∷ c) _ (at_state (y ∷ x ∷ c) es) _ _ _ _ refl (top c (omega (arith, f.0)))
    word_row Negate (x ∷ c) es n f g h = renamed _ _ (sum_of 1 (65535 - x) ∷ c) _ (at_state (x ∷ c) es) _ _ _ _ refl (top c (omega (arith, f.0)))
    word_row OnePlus (x ∷ c) es n f g h = renamed _ _ (sum_of 1 x ∷ c) _ (at_state (x ∷ c) es) _ _ _ _ refl (top c (omega arith))
    word_row OneMinus (x ∷ c) es n f g h = (_, _, refl)
    word_row TwoStar (x ∷ c) es n f g h = renamed _ _ ((x * 2 % 65536) ∷ c) _ (at_state (x ∷ c) es) _ _ _ _ refl (top c (omega arith))
    word_row And (y ∷ x ∷ c) es n f g h = renamed _ _ (bit_and y x ∷ c) _ (at_state (y ∷ x ∷ c) es) _ _ _ _ refl (top c (and_comm y x))
    word_row Or (y ∷ x ∷ c) es n f g h = renamed _ _ (bit_or y x ∷ c) _ (at_state (y ∷ x ∷ c) es) _ _ _ _ refl (top c (or_comm y x))
    word_row Xor (y ∷ x ∷ c) es n f g h = renamed _ _ (bit_xor y x ∷ c) _ (at_state (y ∷ x ∷ c) es) _ _ _ _ refl (top c (xor_comm y x))
    word_row Invert (x ∷ c) es n f g h = (_, _, refl)
    word_row LShift (y ∷ x ∷ c) es n f g h = (_, _, refl)
    word_row RShift (y ∷ x ∷ c) es n f g h = (_, _, refl)
    word_row Equal (y ∷ x ∷ c) es n f g h = (_, _, refl)
    word_row NotEqual (y ∷ x ∷ c) es n f g h = renamed _ _ ((65535 - flag (x == y)) ∷ c) _ (at_state (y ∷ x ∷ c) es) _ _ _ _ refl (top c (flag_turned (x == y)))
    word_row Less (y ∷ x ∷ c) es n f g h = (_, _, refl)
    word_row Greater (y ∷ x ∷ c) es n f g h = (_, _, refl)
    word_row ULess (y ∷ x ∷ c) es n f g h = (_, _, refl)
    word_row ZeroEqual (x ∷ c) es n f g h = (_, _, refl)
    word_row ZeroLess (x ∷ c) es n f g h = (_, _, refl)
    word_row ZeroGreater (x ∷ c) es n f g h = (_, _, refl)
    word_row Within (b ∷ a ∷ u ∷ c) es n f g h =
        renamed _ _ (flag (nat_lt (sum_of 1 (sum_of (65535 - a) u)) (sum_of 1 (sum_of (65535 - a) b))) ∷ c) _ (at_state (b ∷ a ∷ u ∷ c) es) _ _ _ _ refl (top c (within_is u a b f.1.1.0 f.1.0 f.0))
    word_row SToD (x ∷ c) es n f g h = renamed _ _ (flag (int_lt (signed x) (pos 0)) ∷ x ∷ c) _ (at_state (x ∷ c) es) _ _ _ _ refl (widened x c f.0)
    word_row Cells (x ∷ c) es n f g h = renamed _ _ ((x * 2 % 65536) ∷ c) _ (at_state (x ∷ c) es) _ _ _ _ refl (top c (omega arith))
    word_row CellPlus (x ∷ c) es n f g h = renamed _ _ (sum_of 2 x ∷ c) _ (at_state (x ∷ c) es) _ _ _ _ refl (top c (omega arith))
    word_row Chars (x ∷ c) es n f g h = (_, _, refl)
    word_row CharPlus (x ∷ c) es n f g h = renamed _ _ (sum_of 1 x ∷ c) _ (at_state (x ∷ c) es) _ _ _ _ refl (top c (omega arith))
    word_row Aligned (x ∷ c) es n f g h = renamed _ _ (bit_and 65534 (sum_of 1 x) ∷ c) _ (at_state (x ∷ c) es) _ _ _ _ refl (top c (aligned x))
    word_row Fetch (a ∷ c) es n f g h = fetch_row code base (at_state (a ∷ c) es) o size pc a c da ra d b
    word_row Store (a ∷ x ∷ c) es n f g h = store_row code base (at_state (a ∷ x ∷ c) es) o size pc a x c da ra d b
    word_row Emit (x ∷ c) es n f g h = (_, _, refl)
    word_row Key [] es n f g h = fetch_row code base (at_state [] es) o size (following pc) 0x4002 [] _ ra (d +ℤ pos 1) (b +ℤ pos 0)
    word_row Key (y ∷ c) es n f g h = fetch_row code base (at_state (y ∷ c) es) o size (following pc) 0x4002 (y ∷ c) _ ra (d +ℤ pos 1) (b +ℤ pos 0)
    word_row Blank [] es n f g h = (_, _, refl)
    word_row Blank (y ∷ c) es n f g h = (_, _, refl)
    word_row Cr [] es n f g h = (_, _, refl)
    word_row Cr (y ∷ c) es n f g h = (_, _, refl)
    word_row Space [] es n f g h = (_, _, refl)
    word_row Space (y ∷ c) es n f g h = (_, _, refl)
    word_row Base [] es n f g h = (_, _, refl)
    word_row Base (y ∷ c) es n f g h = (_, _, refl)
    word_row Here [] es n f g h = fetch_row code base (at_state [] es) o size (following pc) (o.data_start + 4) [] _ ra (d +ℤ pos 1) (b +ℤ pos 0)
    word_row Here (y ∷ c) es n f g h = fetch_row code base (at_state (y ∷ c) es) o size (following pc) (o.data_start + 4) (y ∷ c) _ ra (d +ℤ pos 1) (b +ℤ pos 0)
    word_row Decimal [] es n f g h = store_row code base (at_state [] es) o size (following (following pc)) o.data_start 10 [] _ ra (d +ℤ pos 1 +ℤ pos 1) (b +ℤ pos 0 +ℤ pos 0)
    word_row Decimal (y ∷ c) es n f g h = store_row code base (at_state (y ∷ c) es) o size (following (following pc)) o.data_start 10 (y ∷ c) _ ra (d +ℤ pos 1 +ℤ pos 1) (b +ℤ pos 0 +ℤ pos 0)
    word_row Hex [] es n f g h = store_row code base (at_state [] es) o size (following (following pc)) o.data_start 16 [] _ ra (d +ℤ pos 1 +ℤ pos 1) (b +ℤ pos 0 +ℤ pos 0)
    word_row Hex (y ∷ c) es n f g h = store_row code base (at_state (y ∷ c) es) o size (following (following pc)) o.data_start 16 (y ∷ c) _ ra (d +ℤ pos 1 +ℤ pos 1) (b +ℤ pos 0 +ℤ pos 0)
    word_row Depth [] es n f g h = renamed _ _ (bit_and 31 (around b * 256 + around d) ∷ []) _ (at_state [] es) _ _ _ _ refl (top [] (depth_is (around b) (around d) 0 (ap around n) h))
    word_row Depth (y ∷ c) es n f g h = renamed _ _ (bit_and 31 (around b * 256 + around d) ∷ y ∷ c) _ (at_state (y ∷ c) es) _ _ _ _ refl (top (y ∷ c) (depth_is (around b) (around d) (length (y ∷ c)) (ap around n) h))
    word_row AbortRun [] es n f g h = record { stop_is = refl; memory = refl; input = refl; printed = refl }
    word_row AbortRun (y ∷ c) es n f g h = record { stop_is = refl; memory = refl; input = refl; printed = refl }
    word_row Quit [] es n f g h = record { stop_is = refl; memory = refl; input = refl; printed = refl }
    word_row Quit (y ∷ c) es n f g h = record { stop_is = refl; memory = refl; input = refl; printed = refl }
    word_row ToR (x ∷ c) es n f g h = (_, _, refl)
    word_row RFrom [] (Cell x ∷ es) n f g h = (_, _, refl)
    word_row RFrom (y ∷ c) (Cell x ∷ es) n f g h = (_, _, refl)
    word_row RFetch [] (Cell x ∷ es) n f g h = (_, _, refl)
    word_row RFetch (y ∷ c) (Cell x ∷ es) n f g h = (_, _, refl)
    word_row Index [] (Loop l i ∷ es) n f g h = renamed _ _ (sum_of l (difference_of i l) ∷ []) _ (at_state [] (Loop l i ∷ es)) _ _ _ _ refl (top [] (omega (arith, g.0, g.1)))
    word_row Index (y ∷ c) (Loop l i ∷ es) n f g h = renamed _ _ (sum_of l (difference_of i l) ∷ y ∷ c) _ (at_state (y ∷ c) (Loop l i ∷ es)) _ _ _ _ refl (top (y ∷ c) (omega (arith, g.0, g.1)))
    word_row OuterIndex [] (Loop l i ∷ Loop m j ∷ es) n f g h = renamed _ _ (sum_of (difference_of j m) m ∷ []) _ (at_state [] (Loop l i ∷ Loop m j ∷ es)) _ _ _ _ refl (top [] (omega (arith, g.2.0, g.2.1)))
    word_row OuterIndex (y ∷ c) (Loop l i ∷ Loop m j ∷ es) n f g h = renamed _ _ (sum_of (difference_of j m) m ∷ y ∷ c) _ (at_state (y ∷ c) (Loop l i ∷ Loop m j ∷ es)) _ _ _ _ refl (top (y ∷ c) (omega (arith, g.2.0, g.2.1)))
    word_row Unloop [] (Loop l i ∷ es) n f g h = (_, _, refl)
    word_row Unloop (y ∷ c) (Loop l i ∷ es) n f g h = (_, _, refl)
    word_row _ c es n f g h = tt
