-- A word lacks nothing exactly where it finds what it needs.
use Rattle.std.proofs.Common.{◌≡◌, ℕ, ◌+◌, ◌<◌, ◌≤◌, ⊎_elim, Bool, true, false, List, [], ◌∷◌, length, refl, arith}
use Rattle.std.proofs.lemmas.Bool.{cases_lt}
use Rattle.console_ports.specs.Ports.{access_at}
use Rattle.console_ports.specs.declared.ports.Access.{Access as Met}
use Rattle.console_ports.specs.declared.ports.Access.TheVariants as met
use Rattle.word_table.specs.declared.word.Word.{Word}
use Rattle.word_table.specs.declared.word.Word.TheVariants.{Nip, Tuck, ZeroGreater, NotEqual, Within, Hex, Dup, DropTop, Swap, Over, Rot, TwoDup, TwoDrop, Plus}
use Rattle.word_table.specs.declared.word.Word.TheVariants.{Minus, Negate, OnePlus, OneMinus, TwoStar, And, Or, Xor, Invert, LShift, RShift, Equal, Less}
use Rattle.word_table.specs.declared.word.Word.TheVariants.{Greater, ULess, ZeroEqual, ZeroLess, SToD}
use Rattle.word_table.specs.declared.word.Word.TheVariants.{Cells, CellPlus, Chars, CharPlus, Aligned, Fetch, Store, Emit, Key, Blank, Cr, Space, Base, Here, Decimal, Depth, AbortRun, Quit, ToR, RFrom, RFetch, Index, OuterIndex, Unloop}
use Rattle.word_table.specs.Table.{entry_of}
use Rattle.forth_program.specs.State.{Entry, Cell, Loop, World, State, Halted, InputEnded, Outside, Underflow, Unbalanced, Left, Outcome, Goes, Ends, Gives, ◌▸◌}
use Rattle.forth_program.specs.Access.{taken, fetch_by, store_by}
use Rattle.forth_program.specs.Program.{SourceProgram}
use Rattle.forth_program.specs.Step.{word_step, on_cells}
use Rattle.word_laws.specs.Words.{stands_plain, finds_entries, NeedsAreExact}
use Rattle.forth_program.specs.Run.{lacks}
use Rattle.word_laws.proofs.Rows.{When, when}

-- lists of so many cells at least
pub with_one : (P : List ℕ → Type 0) → ((x : ℕ) (c : List ℕ) → P (x ∷ c)) → (c : List ℕ) → 1 ≤ length c → P c
with_one P f [] n = absurd (omega arith)
with_one P f (x ∷ c) n = f x c

with_two : (P : List ℕ → Type 0) → ((y x : ℕ) (c : List ℕ) → P (y ∷ x ∷ c)) → (c : List ℕ) → 2 ≤ length c → P c
with_two P f [] n = absurd (omega arith)
with_two P f (y ∷ c) n = with_one (λ c. P (y ∷ c)) (f y) c (omega arith)

with_three : (P : List ℕ → Type 0) → ((z y x : ℕ) (c : List ℕ) → P (z ∷ y ∷ x ∷ c)) → (c : List ℕ) → 3 ≤ length c → P c
with_three P f [] n = absurd (omega arith)
with_three P f (z ∷ c) n = with_two (λ c. P (z ∷ c)) (f z) c (omega arith)

-- and of fewer
under_one : (P : List ℕ → Type 0) → P [] → (c : List ℕ) → length c < 1 → P c
under_one P a [] n = a
under_one P a (x ∷ c) n = absurd (omega arith)

under_two : (P : List ℕ → Type 0) → P [] → ((x : ℕ) → P (x ∷ [])) → (c : List ℕ) → length c < 2 → P c
under_two P a b [] n = a
under_two P a b (x ∷ c) n = under_one (λ c. P (x ∷ c)) (b x) c (omega arith)

under_three : (P : List ℕ → Type 0) → P [] → ((x : ℕ) → P (x ∷ [])) → ((y x : ℕ) → P (y ∷ x ∷ [])) → (c : List ℕ) → length c < 3 → P c
under_three P a b d [] n = a
under_three P a b d (y ∷ c) n = under_two (λ c. P (y ∷ c)) (b y) (d y) c (omega arith)

-- an end that the machine does not have: a lack, or an address that GO leads to
abbrev pub fails : Outcome → Bool
fails (Goes s) = false
fails (Ends Underflow world) = true
fails (Ends Unbalanced world) = true
fails (Ends (Left address) world) = true
fails (Ends end world) = false

lacks_no_more : (x : Outcome) → fails x ≡ false → lacks x ≡ false
lacks_no_more (Goes s) e = refl
lacks_no_more (Ends (Halted status) world) e = refl
lacks_no_more (Ends InputEnded world) e = refl
lacks_no_more (Ends (Outside address) world) e = refl
lacks_no_more (Ends Underflow world) e = e
lacks_no_more (Ends Unbalanced world) e = e
lacks_no_more (Ends (Left address) world) e = refl

-- an access has an end of the machine, if it has one
taken_fails : (i : List ℕ) (w : World) (f : ℕ → List ℕ) (s : State) → fails (on_cells (taken i w ▸ λ v. Gives (f v)) s) ≡ false
taken_fails [] w f s = refl
taken_fails (byte ∷ i) w f s = refl

fetch_fails : (x : Met) (w : World) (f : ℕ → List ℕ) (s : State) → fails (on_cells (fetch_by w x ▸ λ v. Gives (f v)) s) ≡ false
fetch_fails (met.Data i) w f s = refl
fetch_fails met.Key w f s = taken_fails w.input w f s
fetch_fails (met.Outside a) w f s = refl
fetch_fails met.Print w f s = refl
fetch_fails met.Halt w f s = refl

store_fails : (x : Met) (w : World) (v : ℕ) (c : List ℕ) (s : State) → fails (on_cells (store_by w v x ▸ λ _. Gives c) s) ≡ false
store_fails (met.Data i) w v c s = refl
store_fails met.Print w v c s = refl
store_fails met.Halt w v c s = refl
store_fails (met.Outside a) w v c s = refl
store_fails met.Key w v c s = refl

module _ (p : SourceProgram) (s : State) where
  -- where the need is met
  pub finds : (word : Word) (c : List ℕ) (es : List Entry) → (entry_of word).need ≤ length c → finds_entries word es ≡ true → When (stands_plain word) (fails (word_step p word c es s) ≡ false)
  finds Dup c es n e = with_one (λ c. fails (word_step p Dup c es s) ≡ false) (λ x c. refl) c n
  finds DropTop c es n e = with_one (λ c. fails (word_step p DropTop c es s) ≡ false) (λ x c. refl) c n
  finds Swap c es n e = with_two (λ c. fails (word_step p Swap c es s) ≡ false) (λ y x c. refl) c n
  finds Over c es n e = with_two (λ c. fails (word_step p Over c es s) ≡ false) (λ y x c. refl) c n
  finds Rot c es n e = with_three (λ c. fails (word_step p Rot c es s) ≡ false) (λ z y x c. refl) c n
  finds TwoDup c es n e = with_two (λ c. fails (word_step p TwoDup c es s) ≡ false) (λ y x c. refl) c n
  finds TwoDrop c es n e = with_two (λ c. fails (word_step p TwoDrop c es s) ≡ false) (λ y x c. refl) c n
  finds Nip c es n e = with_two (λ c. fails (word_step p Nip c es s) ≡ false) (λ y x c. refl) c n
  finds Tuck c es n e = with_two (λ c. fails (word_step p Tuck c es s) ≡ false) (λ y x c. refl) c n
  finds Plus c es n e = with_two (λ c. fails (word_step p Plus c es s) ≡ false) (λ y x c. refl) c n
  finds Minus c es n e = with_two (λ c. fails (word_step p Minus c es s) ≡ false) (λ y x c. refl) c n
  finds Negate c es n e = with_one (λ c. fails (word_step p Negate c es s) ≡ false) (λ x c. refl) c n
  finds OnePlus c es n e = with_one (λ c. fails (word_step p OnePlus c es s) ≡ false) (λ x c. refl) c n
  finds OneMinus c es n e = with_one (λ c. fails (word_step p OneMinus c es s) ≡ false) (λ x c. refl) c n
  finds TwoStar c es n e = with_one (λ c. fails (word_step p TwoStar c es s) ≡ false) (λ x c. refl) c n
  finds And c es n e = with_two (λ c. fails (word_step p And c es s) ≡ false) (λ y x c. refl) c n
  finds Or c es n e = with_two (λ c. fails (word_step p Or c es s) ≡ false) (λ y x c. refl) c n
  finds Xor c es n e = with_two (λ c. fails (word_step p Xor c es s) ≡ false) (λ y x c. refl) c n
  finds Invert c es n e = with_one (λ c. fails (word_step p Invert c es s) ≡ false) (λ x c. refl) c n
  finds LShift c es n e = with_two (λ c. fails (word_step p LShift c es s) ≡ false) (λ y x c. refl) c n
  finds RShift c es n e = with_two (λ c. fails (word_step p RShift c es s) ≡ false) (λ y x c. refl) c n
  finds Equal c es n e = with_two (λ c. fails (word_step p Equal c es s) ≡ false) (λ y x c. refl) c n
  finds Less c es n e = with_two (λ c. fails (word_step p Less c es s) ≡ false) (λ y x c. refl) c n
  finds Greater c es n e = with_two (λ c. fails (word_step p Greater c es s) ≡ false) (λ y x c. refl) c n
  finds ULess c es n e = with_two (λ c. fails (word_step p ULess c es s) ≡ false) (λ y x c. refl) c n
  finds ZeroEqual c es n e = with_one (λ c. fails (word_step p ZeroEqual c es s) ≡ false) (λ x c. refl) c n
  finds ZeroLess c es n e = with_one (λ c. fails (word_step p ZeroLess c es s) ≡ false) (λ x c. refl) c n
  finds SToD c es n e = with_one (λ c. fails (word_step p SToD c es s) ≡ false) (λ x c. refl) c n
  finds ZeroGreater c es n e = with_one (λ c. fails (word_step p ZeroGreater c es s) ≡ false) (λ x c. refl) c n
  finds NotEqual c es n e = with_two (λ c. fails (word_step p NotEqual c es s) ≡ false) (λ y x c. refl) c n
  finds Within c es n e = with_three (λ c. fails (word_step p Within c es s) ≡ false) (λ z y x c. refl) c n
  finds Cells c es n e = with_one (λ c. fails (word_step p Cells c es s) ≡ false) (λ x c. refl) c n
  finds CellPlus c es n e = with_one (λ c. fails (word_step p CellPlus c es s) ≡ false) (λ x c. refl) c n
  finds Chars c es n e = with_one (λ c. fails (word_step p Chars c es s) ≡ false) (λ x c. refl) c n
  finds CharPlus c es n e = with_one (λ c. fails (word_step p CharPlus c es s) ≡ false) (λ x c. refl) c n
  finds Aligned c es n e = with_one (λ c. fails (word_step p Aligned c es s) ≡ false) (λ x c. refl) c n
  finds Fetch c es n e = with_one (λ c. fails (word_step p Fetch c es s) ≡ false) (λ a c. fetch_fails (access_at s.world.data_start false a) s.world (λ v. v ∷ c) s) c n
  finds Store c es n e = with_two (λ c. fails (word_step p Store c es s) ≡ false) (λ a x c. store_fails (access_at s.world.data_start true a) s.world x c s) c n
  finds Emit c es n e = with_one (λ c. fails (word_step p Emit c es s) ≡ false) (λ x c. refl) c n
  finds Key c es n e = fetch_fails (access_at s.world.data_start false 0x4002) s.world (λ v. v ∷ c) s
  finds Blank c es n e = refl
  finds Cr c es n e = refl
  finds Space c es n e = refl
  finds Base c es n e = refl
  finds Here c es n e = fetch_fails (access_at s.world.data_start false (s.world.data_start + 4)) s.world (λ v. v ∷ c) s
  finds Decimal c es n e = store_fails (access_at s.world.data_start true s.world.data_start) s.world 10 c s
  finds Hex c es n e = store_fails (access_at s.world.data_start true s.world.data_start) s.world 16 c s
  finds Depth c es n e = refl
  finds AbortRun c es n e = refl
  finds Quit c es n e = refl
  finds ToR c es n e = with_one (λ c. fails (word_step p ToR c es s) ≡ false) (λ x c. refl) c n
  finds RFrom c (Cell x ∷ es) n e = refl
  finds RFrom c [] n e = cc
  finds RFrom c (Loop l i ∷ es) n e = cc
  finds RFetch c (Cell x ∷ es) n e = refl
  finds RFetch c [] n e = cc
  finds RFetch c (Loop l i ∷ es) n e = cc
  finds Index c (Loop l i ∷ es) n e = refl
  finds Index c [] n e = cc
  finds Index c (Cell x ∷ es) n e = cc
  finds OuterIndex c (Loop l i ∷ Loop m j ∷ es) n e = refl
  finds OuterIndex c [] n e = cc
  finds OuterIndex c (Cell x ∷ es) n e = cc
  finds OuterIndex c (Loop l i ∷ []) n e = cc
  finds OuterIndex c (Loop l i ∷ Cell x ∷ es) n e = cc
  finds Unloop c (Loop l i ∷ es) n e = refl
  finds Unloop c [] n e = cc
  finds Unloop c (Cell x ∷ es) n e = cc
  finds word c es n e = tt

  -- where cells are too few
  short : (word : Word) (c : List ℕ) (es : List Entry) → length c < (entry_of word).need → When (stands_plain word) (lacks (word_step p word c es s) ≡ true)
  short Dup c es n = under_one (λ c. lacks (word_step p Dup c es s) ≡ true) refl c n
  short DropTop c es n = under_one (λ c. lacks (word_step p DropTop c es s) ≡ true) refl c n
  short Swap c es n = under_two (λ c. lacks (word_step p Swap c es s) ≡ true) refl (λ x. refl) c n
  short Over c es n = under_two (λ c. lacks (word_step p Over c es s) ≡ true) refl (λ x. refl) c n
  short Rot c es n = under_three (λ c. lacks (word_step p Rot c es s) ≡ true) refl (λ x. refl) (λ y x. refl) c n
  short TwoDup c es n = under_two (λ c. lacks (word_step p TwoDup c es s) ≡ true) refl (λ x. refl) c n
  short TwoDrop c es n = under_two (λ c. lacks (word_step p TwoDrop c es s) ≡ true) refl (λ x. refl) c n
  short Nip c es n = under_two (λ c. lacks (word_step p Nip c es s) ≡ true) refl (λ x. refl) c n
  short Tuck c es n = under_two (λ c. lacks (word_step p Tuck c es s) ≡ true) refl (λ x. refl) c n
  short Plus c es n = under_two (λ c. lacks (word_step p Plus c es s) ≡ true) refl (λ x. refl) c n
  short Minus c es n = under_two (λ c. lacks (word_step p Minus c es s) ≡ true) refl (λ x. refl) c n
  short Negate c es n = under_one (λ c. lacks (word_step p Negate c es s) ≡ true) refl c n
  short OnePlus c es n = under_one (λ c. lacks (word_step p OnePlus c es s) ≡ true) refl c n
  short OneMinus c es n = under_one (λ c. lacks (word_step p OneMinus c es s) ≡ true) refl c n
  short TwoStar c es n = under_one (λ c. lacks (word_step p TwoStar c es s) ≡ true) refl c n
  short And c es n = under_two (λ c. lacks (word_step p And c es s) ≡ true) refl (λ x. refl) c n
  short Or c es n = under_two (λ c. lacks (word_step p Or c es s) ≡ true) refl (λ x. refl) c n
  short Xor c es n = under_two (λ c. lacks (word_step p Xor c es s) ≡ true) refl (λ x. refl) c n
  short Invert c es n = under_one (λ c. lacks (word_step p Invert c es s) ≡ true) refl c n
  short LShift c es n = under_two (λ c. lacks (word_step p LShift c es s) ≡ true) refl (λ x. refl) c n
  short RShift c es n = under_two (λ c. lacks (word_step p RShift c es s) ≡ true) refl (λ x. refl) c n
  short Equal c es n = under_two (λ c. lacks (word_step p Equal c es s) ≡ true) refl (λ x. refl) c n
  short Less c es n = under_two (λ c. lacks (word_step p Less c es s) ≡ true) refl (λ x. refl) c n
  short Greater c es n = under_two (λ c. lacks (word_step p Greater c es s) ≡ true) refl (λ x. refl) c n
  short ULess c es n = under_two (λ c. lacks (word_step p ULess c es s) ≡ true) refl (λ x. refl) c n
  short ZeroEqual c es n = under_one (λ c. lacks (word_step p ZeroEqual c es s) ≡ true) refl c n
  short ZeroLess c es n = under_one (λ c. lacks (word_step p ZeroLess c es s) ≡ true) refl c n
  short SToD c es n = under_one (λ c. lacks (word_step p SToD c es s) ≡ true) refl c n
  short ZeroGreater c es n = under_one (λ c. lacks (word_step p ZeroGreater c es s) ≡ true) refl c n
  short NotEqual c es n = under_two (λ c. lacks (word_step p NotEqual c es s) ≡ true) refl (λ x. refl) c n
  short Within c es n = under_three (λ c. lacks (word_step p Within c es s) ≡ true) refl (λ x. refl) (λ y x. refl) c n
  short Cells c es n = under_one (λ c. lacks (word_step p Cells c es s) ≡ true) refl c n
  short CellPlus c es n = under_one (λ c. lacks (word_step p CellPlus c es s) ≡ true) refl c n
  short Chars c es n = under_one (λ c. lacks (word_step p Chars c es s) ≡ true) refl c n
  short CharPlus c es n = under_one (λ c. lacks (word_step p CharPlus c es s) ≡ true) refl c n
  short Aligned c es n = under_one (λ c. lacks (word_step p Aligned c es s) ≡ true) refl c n
  short Fetch c es n = under_one (λ c. lacks (word_step p Fetch c es s) ≡ true) refl c n
  short Store c es n = under_two (λ c. lacks (word_step p Store c es s) ≡ true) refl (λ x. refl) c n
  short Emit c es n = under_one (λ c. lacks (word_step p Emit c es s) ≡ true) refl c n
  short Key c es n = absurd (omega arith)
  short Blank c es n = absurd (omega arith)
  short Cr c es n = absurd (omega arith)
  short Space c es n = absurd (omega arith)
  short Base c es n = absurd (omega arith)
  short Here c es n = absurd (omega arith)
  short Decimal c es n = absurd (omega arith)
  short Hex c es n = absurd (omega arith)
  short Depth c es n = absurd (omega arith)
  short AbortRun c es n = absurd (omega arith)
  short Quit c es n = absurd (omega arith)
  short ToR c es n = under_one (λ c. lacks (word_step p ToR c es s) ≡ true) refl c n
  short RFrom c es n = absurd (omega arith)
  short RFetch c es n = absurd (omega arith)
  short Index c es n = absurd (omega arith)
  short OuterIndex c es n = absurd (omega arith)
  short Unloop c es n = absurd (omega arith)
  short word c es n = tt

  -- where the entries are others
  others : (word : Word) (c : List ℕ) (es : List Entry) → finds_entries word es ≡ false → When (stands_plain word) (lacks (word_step p word c es s) ≡ true)
  others RFrom c [] e = refl
  others RFrom c (Loop l i ∷ es) e = refl
  others RFrom c (Cell x ∷ es) e = cc
  others RFetch c [] e = refl
  others RFetch c (Loop l i ∷ es) e = refl
  others RFetch c (Cell x ∷ es) e = cc
  others Index c [] e = refl
  others Index c (Cell x ∷ es) e = refl
  others Index c (Loop l i ∷ es) e = cc
  others Unloop c [] e = refl
  others Unloop c (Cell x ∷ es) e = refl
  others Unloop c (Loop l i ∷ es) e = cc
  others OuterIndex c [] e = refl
  others OuterIndex c (Cell x ∷ es) e = refl
  others OuterIndex c (Loop l i ∷ []) e = refl
  others OuterIndex c (Loop l i ∷ Cell x ∷ es) e = refl
  others OuterIndex c (Loop l i ∷ Loop m j ∷ es) e = cc
  others Dup c es e = cc
  others DropTop c es e = cc
  others Swap c es e = cc
  others Over c es e = cc
  others Rot c es e = cc
  others TwoDup c es e = cc
  others TwoDrop c es e = cc
  others Nip c es e = cc
  others Tuck c es e = cc
  others Plus c es e = cc
  others Minus c es e = cc
  others Negate c es e = cc
  others OnePlus c es e = cc
  others OneMinus c es e = cc
  others TwoStar c es e = cc
  others And c es e = cc
  others Or c es e = cc
  others Xor c es e = cc
  others Invert c es e = cc
  others LShift c es e = cc
  others RShift c es e = cc
  others Equal c es e = cc
  others Less c es e = cc
  others Greater c es e = cc
  others ULess c es e = cc
  others ZeroEqual c es e = cc
  others ZeroLess c es e = cc
  others SToD c es e = cc
  others ZeroGreater c es e = cc
  others NotEqual c es e = cc
  others Within c es e = cc
  others Cells c es e = cc
  others CellPlus c es e = cc
  others Chars c es e = cc
  others CharPlus c es e = cc
  others Aligned c es e = cc
  others Fetch c es e = cc
  others Store c es e = cc
  others Emit c es e = cc
  others Key c es e = cc
  others Blank c es e = cc
  others Cr c es e = cc
  others Space c es e = cc
  others Base c es e = cc
  others Here c es e = cc
  others Decimal c es e = cc
  others Hex c es e = cc
  others Depth c es e = cc
  others AbortRun c es e = cc
  others Quit c es e = cc
  others ToR c es e = cc
  others word c es e = tt

no_false : (b : Bool) → b ≡ true → b ≡ false → ⊥
no_false true e f = cc
no_false false e f = cc

true_of : (b : Bool) → (b ≡ false → ⊥) → b ≡ true
true_of true f = refl
true_of false f = absurd (f refl)

pub needs_are_exact : NeedsAreExact
needs_are_exact p word c es s plain = (needs, λ h. lacks_no_more (word_step p word c es s) (when (stands_plain word) (fails (word_step p word c es s) ≡ false) plain (finds p s word c es h.0 h.1)))
  where
    needs : lacks (word_step p word c es s) ≡ false → ((entry_of word).need ≤ length c) × (finds_entries word es ≡ true)
    needs e = (
      ⊎_elim
          (λ few. absurd (no_false (lacks (word_step p word c es s)) (when (stands_plain word) (lacks (word_step p word c es s) ≡ true) plain (short p s word c es few)) e))
          (λ enough. enough)
          (cases_lt (length c) (entry_of word).need),
      true_of (finds_entries word es) (λ f. no_false (lacks (word_step p word c es s)) (when (stands_plain word) (lacks (word_step p word c es s) ≡ true) plain (others p s word c es f)) e),
    )
