-- A word changes the number of data cells by its exit.
use Rattle.std.proofs.Common.{◌≡◌, ℕ, suc, ◌+◌, true, false, List, [], ◌∷◌, length, Option, ℤ, refl, subst, arith}
use Rattle.console_ports.specs.Ports.{access_at}
use Rattle.console_ports.specs.declared.ports.Access.{Access as Met}
use Rattle.console_ports.specs.declared.ports.Access.TheVariants as met
use Rattle.word_table.specs.declared.word.Word.{Word}
use Rattle.word_table.specs.declared.word.Word.TheVariants.{Nip, Tuck, ZeroGreater, NotEqual, Within, Hex, Dup, DropTop, Swap, Over, Rot, TwoDup, TwoDrop, Plus}
use Rattle.word_table.specs.declared.word.Word.TheVariants.{Minus, Negate, OnePlus, OneMinus, TwoStar, And, Or, Xor, Invert, LShift, RShift, Equal, Less}
use Rattle.word_table.specs.declared.word.Word.TheVariants.{Greater, ULess, ZeroEqual, ZeroLess, SToD}
use Rattle.word_table.specs.declared.word.Word.TheVariants.{Cells, CellPlus, Chars, CharPlus, Aligned, Fetch, Store, Emit, Key, Blank, Cr, Space, Base, Here, Decimal, Depth, ToR, RFrom, RFetch, Index, OuterIndex, Unloop}
use Rattle.word_table.specs.Row.{change}
use Rattle.word_table.specs.Table.{entry_of}
use Rattle.forth_program.specs.State.{Entry, Cell, Loop, World, State, Gives, ◌▸◌, Outcome, Goes, Ends}
use Rattle.forth_program.specs.Access.{taken, fetch_by, store_by}
use Rattle.forth_program.specs.Program.{SourceProgram}
use Rattle.forth_program.specs.Step.{word_step, on_cells}
use Rattle.word_laws.specs.Words.{stands_plain, LeavesBy, WordsChangeDepths}
use Rattle.word_laws.proofs.Rows.{When, when}

-- what is owed of a state that a word leads on to, from so many cells
abbrev Exits : Option (ℤ × ℤ) → ℕ → Outcome → Type 0
Exits exit before (Goes after) = LeavesBy exit before (length after.cells)
Exits exit before (Ends end world) = Unit {0}

-- accesses
module _ (exit : Option (ℤ × ℤ)) (before : ℕ) where
  taken_exits : (i : List ℕ) (w : World) (c : List ℕ) (s : State) → LeavesBy exit before (suc (length c)) → Exits exit before (on_cells (taken i w ▸ λ v. Gives (v ∷ c)) s)
  taken_exits [] w c s h = tt
  taken_exits (byte ∷ i) w c s h = h

  fetch_exits : (x : Met) (w : World) (c : List ℕ) (s : State) → LeavesBy exit before (suc (length c)) → Exits exit before (on_cells (fetch_by w x ▸ λ v. Gives (v ∷ c)) s)
  fetch_exits (met.Data i) w c s h = h
  fetch_exits met.Key w c s h = taken_exits w.input w c s h
  fetch_exits (met.Outside a) w c s h = tt
  fetch_exits met.Print w c s h = tt
  fetch_exits met.Halt w c s h = tt

  store_exits : (x : Met) (w : World) (v : ℕ) (c : List ℕ) (s : State) → LeavesBy exit before (length c) → Exits exit before (on_cells (store_by w v x ▸ λ _. Gives c) s)
  store_exits (met.Data i) w v c s h = h
  store_exits met.Print w v c s h = h
  store_exits met.Halt w v c s h = tt
  store_exits (met.Outside a) w v c s h = tt
  store_exits met.Key w v c s h = tt

module _ (p : SourceProgram) (s : State) where
  word_exits : (word : Word) (c : List ℕ) (es : List Entry) → length s.cells ≡ length c → When (stands_plain word) (Exits (entry_of word).exit (length c) (word_step p word c es s))
  word_exits Dup (x ∷ c) es same = (omega arith, refl)
  word_exits DropTop (x ∷ c) es same = (omega arith, refl)
  word_exits Swap (y ∷ x ∷ c) es same = (omega arith, refl)
  word_exits Over (y ∷ x ∷ c) es same = (omega arith, refl)
  word_exits Rot (z ∷ y ∷ x ∷ c) es same = (omega arith, refl)
  word_exits TwoDup (y ∷ x ∷ c) es same = (omega arith, refl)
  word_exits TwoDrop (y ∷ x ∷ c) es same = (omega arith, refl)
  word_exits Nip (y ∷ x ∷ c) es same = (omega arith, refl)
  word_exits Tuck (y ∷ x ∷ c) es same = (omega arith, refl)
  word_exits Plus (y ∷ x ∷ c) es same = (omega arith, refl)
  word_exits Minus (y ∷ x ∷ c) es same = (omega arith, refl)
  word_exits Negate (x ∷ c) es same = (omega arith, refl)
  word_exits OnePlus (x ∷ c) es same = (omega arith, refl)
  word_exits OneMinus (x ∷ c) es same = (omega arith, refl)
  word_exits TwoStar (x ∷ c) es same = (omega arith, refl)
  word_exits And (y ∷ x ∷ c) es same = (omega arith, refl)
  word_exits Or (y ∷ x ∷ c) es same = (omega arith, refl)
  word_exits Xor (y ∷ x ∷ c) es same = (omega arith, refl)
  word_exits Invert (x ∷ c) es same = (omega arith, refl)
  word_exits LShift (y ∷ x ∷ c) es same = (omega arith, refl)
  word_exits RShift (y ∷ x ∷ c) es same = (omega arith, refl)
  word_exits Equal (y ∷ x ∷ c) es same = (omega arith, refl)
  word_exits Less (y ∷ x ∷ c) es same = (omega arith, refl)
  word_exits Greater (y ∷ x ∷ c) es same = (omega arith, refl)
  word_exits ULess (y ∷ x ∷ c) es same = (omega arith, refl)
  word_exits ZeroEqual (x ∷ c) es same = (omega arith, refl)
  word_exits ZeroLess (x ∷ c) es same = (omega arith, refl)
  word_exits SToD (x ∷ c) es same = (omega arith, refl)
  word_exits ZeroGreater (x ∷ c) es same = (omega arith, refl)
  word_exits NotEqual (y ∷ x ∷ c) es same = (omega arith, refl)
  word_exits Within (z ∷ y ∷ x ∷ c) es same = (omega arith, refl)
  word_exits Cells (x ∷ c) es same = (omega arith, refl)
  word_exits CellPlus (x ∷ c) es same = (omega arith, refl)
  word_exits Chars (x ∷ c) es same = (omega arith, refl)
  word_exits CharPlus (x ∷ c) es same = (omega arith, refl)
  word_exits Aligned (x ∷ c) es same = (omega arith, refl)
  word_exits Fetch (a ∷ c) es same = fetch_exits (change 1 1) (length (a ∷ c)) (access_at s.world.data_start false a) s.world c s (omega arith, refl)
  word_exits Store (a ∷ x ∷ c) es same = store_exits (change 2 0) (length (a ∷ x ∷ c)) (access_at s.world.data_start true a) s.world x c s (omega arith, refl)
  word_exits Emit (x ∷ c) es same = (omega arith, refl)
  word_exits Key c es same = fetch_exits (change 0 1) (length c) (access_at s.world.data_start false 0x4002) s.world c s (omega arith, refl)
  word_exits Blank c es same = (omega arith, refl)
  word_exits Cr c es same = (omega arith, refl)
  word_exits Space c es same = (omega arith, refl)
  word_exits Base c es same = (omega arith, refl)
  word_exits Here c es same = fetch_exits (change 0 1) (length c) (access_at s.world.data_start false (s.world.data_start + 4)) s.world c s (omega arith, refl)
  word_exits Decimal c es same = store_exits (change 0 0) (length c) (access_at s.world.data_start true s.world.data_start) s.world 10 c s (omega arith, refl)
  word_exits Hex c es same = store_exits (change 0 0) (length c) (access_at s.world.data_start true s.world.data_start) s.world 16 c s (omega arith, refl)
  word_exits Depth c es same = (omega arith, refl)
  word_exits ToR (x ∷ c) es same = (omega arith, refl)
  word_exits RFrom c (Cell x ∷ es) same = (omega arith, refl)
  word_exits RFetch c (Cell x ∷ es) same = (omega arith, refl)
  word_exits Index c (Loop l i ∷ es) same = (omega arith, refl)
  word_exits OuterIndex c (Loop l i ∷ Loop m j ∷ es) same = (omega arith, refl)
  word_exits Unloop c (Loop l i ∷ es) same = (omega arith, refl)
  word_exits _ c es same = tt

pub words_change_depths : WordsChangeDepths
words_change_depths p word s after plain e =
    let exits = when (stands_plain word) (Exits (entry_of word).exit (length s.cells) (word_step p word s.cells s.entries s)) plain (word_exits p s word s.cells s.entries refl) in
    subst (Exits (entry_of word).exit (length s.cells)) e exits
