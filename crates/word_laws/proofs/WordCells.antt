-- A word leaves cells where it found cells.
use Rattle.std.proofs.Common.{◌≡◌, ℕ, zero, suc, ◌+◌, ◌-◌, ◌*◌, ◌/◌, ◌%◌, ◌^◌, ◌<◌, Bool, true, false, ◌==◌, nat_lt, List, [], ◌∷◌, length, refl, subst, arith}
use Rattle.std.specs.Prelude.{slice_index, slice_set, int_lt, pos, not}
use Rattle.std.proofs.lemmas.Nat.{and_le_l, xor_lt, or_lt}
use Rattle.std.proofs.Math.Nat.{mod-lt, div-le_self}
use Rattle.std.proofs.lemmas.Grind.{common_steps}
use Rattle.cell_math.specs.Cell.{difference_of, flag, signed, double_of}
use Rattle.console_ports.specs.Ports.{access_at}
use Rattle.console_ports.specs.declared.ports.Access.{Access as Met}
use Rattle.console_ports.specs.declared.ports.Access.TheVariants as met
use Rattle.word_table.specs.declared.word.Word.{Word}
use Rattle.word_table.specs.declared.word.Word.TheVariants.{Nip, Tuck, ZeroGreater, NotEqual, Within, Hex, Dup, DropTop, Swap, Over, Rot, TwoDup, TwoDrop, Plus}
use Rattle.word_table.specs.declared.word.Word.TheVariants.{Minus, Negate, OnePlus, OneMinus, TwoStar, And, Or, Xor, Invert, LShift, RShift, Equal, Less}
use Rattle.word_table.specs.declared.word.Word.TheVariants.{Greater, ULess, ZeroEqual, ZeroLess, SToD}
use Rattle.word_table.specs.declared.word.Word.TheVariants.{Cells, CellPlus, Chars, CharPlus, Aligned, Fetch, Store, Emit, Key, Blank, Cr, Space, Base, Here, Decimal, Depth, AbortRun, Quit, ToR, RFrom, RFetch, Index, OuterIndex, Unloop}
use Rattle.forth_program.specs.State.{Entry, Cell, Loop, Work, Frame, World, State, Gives, ◌▸◌, Outcome, Goes, Ends}
use Rattle.forth_program.specs.Access.{taken, fetch_by, store_by}
use Rattle.forth_program.specs.Program.{SourceProgram}
use Rattle.forth_program.specs.Step.{word_step, on_cells}
use Rattle.forth_program.specs.Cells.{AreCells, AreEntries, IsWorld}
use Rattle.word_laws.specs.Words.{stands_plain, IsKept, WordsLeaveCells}
use Rattle.word_laws.proofs.Rows.{When, when}

flag_fits : (b : Bool) → flag b < 65536
flag_fits true = omega arith
flag_fits false = omega arith

div_fits : (x d : ℕ) → x < 65536 → x / d < 65536
div_fits x d h = omega (arith, div-le_self x d)

set_fits : (cells : List ℕ) (i v : ℕ) → v < 65536 → ((k : ℕ) → slice_index cells k < 65536) → (k : ℕ) → slice_index (slice_set cells i v) k < 65536
set_fits [] i v h f zero = omega arith
set_fits [] i v h f (suc k) = omega arith
set_fits (c ∷ cells) zero v h f zero = h
set_fits (c ∷ cells) zero v h f (suc k) = f (suc k)
set_fits (c ∷ cells) (suc i) v h f zero = f 0
set_fits (c ∷ cells) (suc i) v h f (suc k) = set_fits cells i v h (λ k. f (suc k)) k

set_length : (cells : List ℕ) (i v : ℕ) → length (slice_set cells i v) ≡ length cells
set_length cells i v = grind (arith, common_steps)

-- what is owed of a state that a word leads on to
abbrev pub Leaves : State → Outcome → Type 0
Leaves s (Goes after) = IsKept s after
Leaves s (Ends end world) = Unit {0}

leaves : (s : State) (x : Outcome) (after : State) → Leaves s x → x ≡ Goes after → IsKept s after
leaves s (Goes state) after h e = let same : state ≡ after = cc in subst (IsKept s) same h
leaves s (Ends end world) after h e = let no : ⊥ = cc in absurd no

-- accesses, in any state with entries that are kept
module _ (s : State) (g : AreEntries s.entries) (w : World) (e : w.data_start ≡ s.world.data_start) (h : IsWorld w) where
  taken_leaves : (i : List ℕ) → ((k : ℕ) → slice_index i k < 256) → (f : ℕ → List ℕ) → ((v : ℕ) → v < 65536 → AreCells (f v)) → Leaves s (on_cells (taken i w ▸ λ v. Gives (f v)) s)
  taken_leaves [] k f c = tt
  taken_leaves (byte ∷ i) k f c =
      record {
        work = refl;
        callers = refl;
        data_start = e;
        cells = c byte (let b : byte < 256 = k 0 in omega (arith, b));
        entries = g;
        world = record { data_start = h.data_start; aligned = h.aligned; room = h.room; space = h.space; input = λ j. k (suc j) };
      }

  fetch_leaves : (x : Met) (f : ℕ → List ℕ) → ((v : ℕ) → v < 65536 → AreCells (f v)) → Leaves s (on_cells (fetch_by w x ▸ λ v. Gives (f v)) s)
  fetch_leaves (met.Data i) f c = record { work = refl; callers = refl; data_start = e; cells = c (slice_index w.space (i - w.data_start / 2)) (h.space (i - w.data_start / 2)); entries = g; world = h }
  fetch_leaves met.Key f c = taken_leaves w.input h.input f c
  fetch_leaves (met.Outside a) f c = tt
  fetch_leaves met.Print f c = tt
  fetch_leaves met.Halt f c = tt

  store_leaves : (x : Met) (v : ℕ) (c : List ℕ) → v < 65536 → AreCells c → Leaves s (on_cells (store_by w v x ▸ λ _. Gives c) s)
  store_leaves (met.Data i) v c n f =
      record {
        work = refl;
        callers = refl;
        data_start = e;
        cells = f;
        entries = g;
        world = record {
          data_start = h.data_start;
          aligned = h.aligned;
          room = (let same = set_length w.space (i - w.data_start / 2) v in let room = h.room in omega (arith, same, room));
          space = set_fits w.space (i - w.data_start / 2) v n h.space;
          input = h.input;
        };
      }
  store_leaves met.Print v c n f = record { work = refl; callers = refl; data_start = e; cells = f; entries = g; world = record { data_start = h.data_start; aligned = h.aligned; room = h.room; space = h.space; input = h.input } }
  store_leaves met.Halt v c n f = tt
  store_leaves (met.Outside a) v c n f = tt
  store_leaves met.Key v c n f = tt

module _ (p : SourceProgram) (work : List Work) (callers : List Frame) (o : World) (h : IsWorld o) where
  abbrev at_state : List ℕ → List Entry → State
  at_state c es = record { work = work; entries = es; callers = callers; cells = c; world = o }

  kept : {c : List ℕ} {es : List Entry} (c' : List ℕ) (es' : List Entry) → AreCells c' → AreEntries es' → IsKept (at_state c es) (at_state c' es')
  kept c' es' f g = record { work = refl; callers = refl; data_start = refl; cells = f; entries = g; world = h }

  pub word_leaves : (word : Word) (c : List ℕ) (es : List Entry) → AreCells c → AreEntries es → When (stands_plain word) (Leaves (at_state c es) (word_step p word c es (at_state c es)))
  word_leaves Dup (x ∷ c) es f g = kept _ _ (f.0, f) g
  word_leaves DropTop (x ∷ c) es f g = kept _ _ f.1 g
  word_leaves Swap (y ∷ x ∷ c) es f g = kept _ _ (f.1.0, (f.0, f.1.1)) g
  word_leaves Over (y ∷ x ∷ c) es f g = kept _ _ (f.1.0, f) g
  word_leaves Rot (z ∷ y ∷ x ∷ c) es f g = kept _ _ (f.1.1.0, (f.0, (f.1.0, f.1.1.1))) g
  word_leaves TwoDup (y ∷ x ∷ c) es f g = kept _ _ (f.0, (f.1.0, f)) g
  word_leaves TwoDrop (y ∷ x ∷ c) es f g = kept _ _ f.1.1 g
  word_leaves Nip (y ∷ x ∷ c) es f g = kept _ _ (f.0, f.1.1) g
  word_leaves Tuck (y ∷ x ∷ c) es f g = kept _ _ (f.0, (f.1.0, (f.0, f.1.1))) g
  word_leaves Plus (y ∷ x ∷ c) es f g = kept _ _ (omega arith, f.1.1) g
  word_leaves Minus (y ∷ x ∷ c) es f g = kept _ _ (omega arith, f.1.1) g
  word_leaves Negate (x ∷ c) es f g = kept _ _ (omega arith, f.1) g
  word_leaves OnePlus (x ∷ c) es f g = kept _ _ (omega arith, f.1) g
  word_leaves OneMinus (x ∷ c) es f g = kept _ _ (omega arith, f.1) g
  word_leaves TwoStar (x ∷ c) es f g = kept _ _ (omega arith, f.1) g
  word_leaves Invert (x ∷ c) es f g = kept _ _ (omega arith, f.1) g
  word_leaves Cells (x ∷ c) es f g = kept _ _ (omega arith, f.1) g
  word_leaves CellPlus (x ∷ c) es f g = kept _ _ (omega arith, f.1) g
  word_leaves CharPlus (x ∷ c) es f g = kept _ _ (omega arith, f.1) g
  word_leaves Aligned (x ∷ c) es f g = kept _ _ (omega arith, f.1) g
  word_leaves And (y ∷ x ∷ c) es f g = kept _ _ (omega (arith, and_le_l x y, f.1.0), f.1.1) g
  word_leaves Or (y ∷ x ∷ c) es f g = kept _ _ (or_lt 16 x y f.1.0 f.0, f.1.1) g
  word_leaves Xor (y ∷ x ∷ c) es f g = kept _ _ (xor_lt 16 x y f.1.0 f.0, f.1.1) g
  word_leaves LShift (u ∷ x ∷ c) es f g = kept _ _ (mod-lt (x * 2 ^ (u % 16)) (omega arith), f.1.1) g
  word_leaves RShift (u ∷ x ∷ c) es f g = kept _ _ (div_fits x (2 ^ (u % 16)) f.1.0, f.1.1) g
  word_leaves Equal (y ∷ x ∷ c) es f g = kept _ _ (flag_fits (x == y), f.1.1) g
  word_leaves NotEqual (y ∷ x ∷ c) es f g = kept _ _ (flag_fits (not (x == y)), f.1.1) g
  word_leaves Less (y ∷ x ∷ c) es f g = kept _ _ (flag_fits (int_lt (signed x) (signed y)), f.1.1) g
  word_leaves Greater (y ∷ x ∷ c) es f g = kept _ _ (flag_fits (int_lt (signed y) (signed x)), f.1.1) g
  word_leaves ULess (y ∷ x ∷ c) es f g = kept _ _ (flag_fits (nat_lt x y), f.1.1) g
  word_leaves ZeroEqual (x ∷ c) es f g = kept _ _ (flag_fits (x == 0), f.1) g
  word_leaves ZeroLess (x ∷ c) es f g = kept _ _ (flag_fits (int_lt (signed x) (pos 0)), f.1) g
  word_leaves ZeroGreater (x ∷ c) es f g = kept _ _ (flag_fits (int_lt (pos 0) (signed x)), f.1) g
  word_leaves Within (b ∷ a ∷ u ∷ c) es f g = kept _ _ (flag_fits (nat_lt (difference_of u a) (difference_of b a)), f.1.1.1) g
  word_leaves SToD (x ∷ c) es f g = kept _ _ (mod-lt (double_of (signed x) / 65536) (omega arith), (mod-lt (double_of (signed x)) (omega arith), f.1)) g
  word_leaves Chars (x ∷ c) es f g = kept _ _ f g
  word_leaves Fetch (a ∷ c) es f g = fetch_leaves (at_state (a ∷ c) es) g o refl h (access_at o.data_start false a) (λ v. v ∷ c) (λ v k. (k, f.1))
  word_leaves Store (a ∷ x ∷ c) es f g = store_leaves (at_state (a ∷ x ∷ c) es) g o refl h (access_at o.data_start true a) x c f.1.0 f.1.1
  word_leaves Emit (x ∷ c) es f g = store_leaves (at_state (x ∷ c) es) g o refl h (access_at o.data_start true 0x4000) x c f.0 f.1
  word_leaves Key c es f g = fetch_leaves (at_state c es) g o refl h (access_at o.data_start false 0x4002) (λ v. v ∷ c) (λ v k. (k, f))
  word_leaves Blank c es f g = kept _ _ (omega arith, f) g
  word_leaves Cr c es f g = store_leaves (at_state c es) g o refl h (access_at o.data_start true 0x4000) 10 c (omega arith) f
  word_leaves Space c es f g = store_leaves (at_state c es) g o refl h (access_at o.data_start true 0x4000) 32 c (omega arith) f
  word_leaves Base c es f g = kept _ _ ((let starts = h.data_start in omega (arith, starts)), f) g
  word_leaves Here c es f g = fetch_leaves (at_state c es) g o refl h (access_at o.data_start false (o.data_start + 4)) (λ v. v ∷ c) (λ v k. (k, f))
  word_leaves Decimal c es f g = store_leaves (at_state c es) g o refl h (access_at o.data_start true o.data_start) 10 c (omega arith) f
  word_leaves Hex c es f g = store_leaves (at_state c es) g o refl h (access_at o.data_start true o.data_start) 16 c (omega arith) f
  word_leaves Depth c es f g = kept _ _ (mod-lt (length c) (omega arith), f) g
  word_leaves AbortRun c es f g = tt
  word_leaves Quit c es f g = tt
  word_leaves ToR (x ∷ c) es f g = kept _ _ f.1 (f.0, g)
  word_leaves RFrom c (Cell x ∷ es) f g = kept _ _ (g.0, f) g.1
  word_leaves RFetch c (Cell x ∷ es) f g = kept _ _ (g.0, f) g
  word_leaves Index c (Loop l i ∷ es) f g = kept _ _ (g.1, f) g
  word_leaves OuterIndex c (Loop l i ∷ Loop m j ∷ es) f g = kept _ _ (g.2.1, f) g
  word_leaves Unloop c (Loop l i ∷ es) f g = kept _ _ f g.2
  word_leaves _ c es f g = tt

pub words_leave_cells : WordsLeaveCells
words_leave_cells p word s after plain f g h e =
    leaves s (word_step p word s.cells s.entries s) after
    (when (stands_plain word) (Leaves s (word_step p word s.cells s.entries s)) plain (word_leaves p s.work s.callers s.world h word s.cells s.entries f g)) e
