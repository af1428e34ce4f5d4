-- Single steps, and the ways on from items: to their end, out of a loop, out of the body.
use Rattle.std.proofs.Common.{◌≡◌, ℕ, zero, suc, ◌+◌, ◌≤◌, Bool, true, false, ◌||◌, if◌then◌else◌, List, [], ◌∷◌, length, Some, None, refl, sym, subst, arith}
use Rattle.std.specs.Prelude.{◌==◌}
use Rattle.word_table.specs.declared.word.Word.{Word}
use Rattle.word_table.specs.declared.word.Word.TheVariants.{ToR, RFrom, RFetch, Index, OuterIndex, Unloop, AbortRun, Quit, Execute}
use Rattle.forth_program.specs.declared.item.TextKind.{TextKind}
use Rattle.forth_program.specs.declared.item.TextKind.TheVariants as text
use Rattle.forth_program.specs.Tree.{Nodes, Arms, Text, Case, Empty, Then}
use Rattle.forth_program.specs.State.{Entry, Cell, Loop, Work, Todo, TrueEnd, EndOf, Frame, World, State, Reply, Gives, Stops, ◌▸◌, Goes, Halted}
use Rattle.forth_program.specs.Program.{SourceProgram}
use Rattle.forth_program.specs.Step.{before, first_work, closed_by, after_loop, act, step, on_cells, word_step, text_step, unwound, on_flag, of_chooses, leave}
use Rattle.forth_program.specs.ByteWords.{type_out}
use Rattle.forth_program.specs.Meaning.{meaning}
use Rattle.forth_program.specs.Price.{step_price}
use Rattle.step_certifier.specs.Cost.{Last, Other, last_after, true_end}
use Rattle.step_certifier.specs.Refusal.{word_refusal}
use Rattle.step_certifier.proofs.Entries.{Height, Same, raised, Lowers, WordLevel, EndLevel}
use Rattle.step_certifier.proofs.RunEnds.{at, Within, more, Onward, stepped}
use Rattle.step_certifier.proofs.Levels.{At, same_at, raised_at, lowers_to, lowered_at, Over, under, found, Inside, Knows}

pub or_left : (a b : Bool) → a ≡ true → (a || b) ≡ true
or_left true b h = refl
or_left false b h = cc (h)

pub or_right : (a b : Bool) → b ≡ true → (a || b) ≡ true
or_right true b h = refl
or_right false b h = h

-- where items stand: the height to which a LEAVE comes and the work that it leads to, the entries at the head of the innermost
-- loop, and the frames below
pub record Around : Type 0 where
  pub out : Height
  pub loop_work : List Work
  pub base : List Entry
  pub callers : List Frame
  pub inside : Inside out base

module _ (p : SourceProgram) where
  abbrev Fin : State → ℕ → Type 0
  Fin s most = Within p s most

  -- from this work the run ends, where so much is known of the cells and the entries
  abbrev pub Through : Around → List Work → Last → Height → ℕ → Type 0
  Through a work last h most = (es : List Entry) (c : List ℕ) (w : World) → Knows last c → At h es → Over a.base es → Fin (at work es a.callers c w) most

  abbrev pub Leaves : Around → ℕ → Type 0
  Leaves a most = (x y : ℕ) (es : List Entry) (c : List ℕ) (w : World) → Loop x y ∷ es ≡ a.base → At a.out es → Fin (at a.loop_work es a.callers c w) most

  abbrev pub Exits : List Frame → ℕ → Type 0
  Exits [] most = Unit {0}
  Exits (f ∷ fs) most = (c : List ℕ) (w : World) → Fin (at f.work f.entries fs c w) most

  pub through_more : (a : Around) (work : List Work) (last : Last) (h : Height) (m n : ℕ) → Through a work last h m → m ≤ n → Through a work last h n
  through_more a work last h m n t le = λ es c w k i o. more p (at work es a.callers c w) m n (t es c w k i o) le

  pub forget : (a : Around) (work : List Work) (last : Last) (h : Height) (most : ℕ) → Through a work Other h most → Through a work last h most
  forget a work last h most t = λ es c w k i o. t es c w tt i o

  pub leaves_more : (a : Around) (m n : ℕ) → Leaves a m → m ≤ n → Leaves a n
  leaves_more a m n l le = λ x y es c w e i. more p (at a.loop_work es a.callers c w) m n (l x y es c w e i) le

  pub exits_more : (fs : List Frame) (m n : ℕ) → Exits fs m → m ≤ n → Exits fs n
  exits_more [] m n x le = tt
  exits_more (f ∷ fs) m n x le = λ c w. more p (at f.work f.entries fs c w) m n (x c w) le

  pub acts : (s : State) (most : ℕ) → Onward p (act p (first_work s.work) s) most → Fin s (step_price s + most)
  unfolding step
  acts s most h = stepped p s most h

  -- ---- single steps

  pub replied : (after : List Work) (es : List Entry) (cs : List Frame) (c : List ℕ) (w : World) (most : ℕ) (r : Reply (List ℕ)) → ((c' : List ℕ) (w' : World) → Fin (at after es cs c' w') most) →
      Onward p (on_cells r (at after es cs c w)) most
  replied after es cs c w most (Gives c' w') t = t c' w'
  replied after es cs c w most (Stops end w') t = tt

  pub left_onward : (work : List Work) (es : List Entry) (cs : List Frame) (c : List ℕ) (w : World) (fs : List Entry) (gs : List Frame) (most : ℕ) → Exits cs most → Onward p (unwound es cs (at work fs gs c w)) most
  left_onward work (entry ∷ es) cs c w fs gs most x = tt
  left_onward work [] [] c w fs gs most x = tt
  left_onward work [] (f ∷ cs) c w fs gs most x = x c w

  -- out of the body, where it comes back
  pub end_onward : (comes_back : Bool) (h : Height) (work : List Work) (es : List Entry) (cs : List Frame) (c : List ℕ) (w : World) (most : ℕ) → EndLevel comes_back h → At h es → (comes_back ≡ true → Exits cs most) →
      Onward p (unwound es cs (at work es cs c w)) most
  end_onward comes_back None work es cs c w most end i x = absurd i
  end_onward comes_back (Some n) work es cs c w most end i x = left_onward work es cs c w es cs most (x end)

  module _ (a : Around) (h m : Height) (after : List Work) (most : ℕ) where
    pub word_onward : (word : Word) (last : Last) (es : List Entry) (c : List ℕ) (w : World) → word_refusal word last ≡ None → WordLevel word h m → At h es → Over a.base es → Through a after Other m most →
        Onward p (word_step p word c es (at after es a.callers c w)) most
    word_onward ToR last es [] w r lev i o t = tt
    word_onward ToR last es (x ∷ c) w r lev i o t = t (Cell x ∷ es) c w tt (same_at (raised h) m (Cell x ∷ es) lev (raised_at h (Cell x) es i)) o
    word_onward RFrom last [] c w r lev i o t = tt
    word_onward RFrom last (Loop x y ∷ es) c w r lev i o t = tt
    word_onward RFrom last (Cell x ∷ es) c w r lev i o t = t es (x ∷ c) w tt (lowered_at h m (Cell x) es lev i) o
    word_onward RFetch last [] c w r lev i o t = tt
    word_onward RFetch last (Loop x y ∷ es) c w r lev i o t = tt
    word_onward RFetch last (Cell x ∷ es) c w r lev i o t = t (Cell x ∷ es) (x ∷ c) w tt (same_at h m (Cell x ∷ es) lev i) o
    word_onward Index last [] c w r lev i o t = tt
    word_onward Index last (Cell x ∷ es) c w r lev i o t = tt
    word_onward Index last (Loop x y ∷ es) c w r lev i o t = t (Loop x y ∷ es) (y ∷ c) w tt (same_at h m (Loop x y ∷ es) lev i) o
    word_onward OuterIndex last [] c w r lev i o t = tt
    word_onward OuterIndex last (Cell x ∷ es) c w r lev i o t = tt
    word_onward OuterIndex last (Loop x y ∷ []) c w r lev i o t = tt
    word_onward OuterIndex last (Loop x y ∷ Cell z ∷ es) c w r lev i o t = tt
    word_onward OuterIndex last (Loop x y ∷ Loop x' y' ∷ es) c w r lev i o t = t (Loop x y ∷ Loop x' y' ∷ es) (y' ∷ c) w tt (same_at h m (Loop x y ∷ Loop x' y' ∷ es) lev i) o
    word_onward Unloop last [] c w r lev i o t = tt
    word_onward Unloop last (Cell x ∷ es) c w r lev i o t = tt
    word_onward Unloop last (Loop x y ∷ es) c w r lev i o t = t es c w tt (lowered_at h m (Loop x y) es lev i) (under a.base x y es o)
    word_onward AbortRun last es c w r lev i o t = tt
    word_onward Quit last es c w r lev i o t = tt
    word_onward Execute last es c w r lev i o t = cc (r)
    word_onward word last es c w r lev i o t = replied after es a.callers c w most (meaning word c w) (λ c' w'. t es c' w' tt (same_at h m es lev i) o)

    -- a flag and both ways
    pub flag_onward : (work on_zero other : List Work) (c : List ℕ) (es : List Entry) (d : List ℕ) (w : World) → At h es → Over a.base es → Through a on_zero Other h most → Through a other Other h most →
        Onward p (on_flag c on_zero other (at work es a.callers d w)) most
    flag_onward work on_zero other [] es d w i o t u = tt
    flag_onward work on_zero other (zero ∷ c) es d w i o t u = t es c w tt i o
    flag_onward work on_zero other (suc n ∷ c) es d w i o t u = u es c w tt i o

    pub of_onward : (body : Nodes) (others : Arms) (rest : Nodes) (work : List Work) (c : List ℕ) (es : List Entry) (d : List ℕ) (w : World) → At h es → Over a.base es → Through a (before body (EndOf ∷ after)) Other h most →
        Through a (Todo (Case others rest) ∷ after) Other h most →
        Onward p (of_chooses body others rest after c (at work es a.callers d w)) most
    of_onward body others rest work [] es d w i o t u = tt
    of_onward body others rest work (x ∷ []) es d w i o t u = tt
    of_onward body others rest work (x ∷ y ∷ c) es d w i o t u = of (x == y)
      where
        of : (b : Bool) → Onward p (if b then Goes (at (before body (EndOf ∷ after)) es a.callers c w) else Goes (at (Todo (Case others rest) ∷ after) es a.callers (y ∷ c) w)) most
        of true = t es c w tt i o
        of false = u es (y ∷ c) w tt i o

    pub text_onward : (kind : TextKind) (address size : ℕ) (es : List Entry) (c : List ℕ) (w : World) → Same h m → At h es → Over a.base es → Through a after (last_after Other (Text kind address size)) m most →
        Onward p (text_step kind address size c (at after es a.callers c w)) most
    text_onward text.Address address size es c w same i o t = t es (size ∷ address ∷ c) w (address ∷ c, refl) (same_at h m es same i) o
    text_onward text.Print address size es c w same i o t = replied after es a.callers c w most (type_out size address w ▸ λ _. Gives c) (λ c' w'. t es c' w' tt (same_at h m es same i) o)
    text_onward text.Abort address size es [] w same i o t = tt
    text_onward text.Abort address size es (zero ∷ c) w same i o t = t es c w tt (same_at h m es same i) o
    text_onward text.Abort address size es (suc n ∷ c) w same i o t = replied after es a.callers (suc n ∷ c) w most (type_out size address w ▸ λ _. Stops (Halted 2)) (λ c' w'. t es c' w' tt (same_at h m es same i) o)

    pub leave_onward : (es : List Entry) (c : List ℕ) (w : World) (work : List Work) (fs : List Entry) → after_loop after ≡ a.loop_work → Lowers h a.out → At h es → Over a.base es → Leaves a most →
        Onward p (leave after es (at work fs a.callers c w)) most
    leave_onward [] c w work fs al lowers i o l = tt
    leave_onward (Cell x ∷ es) c w work fs al lowers i o l = tt
    leave_onward (Loop x y ∷ es) c w work fs al lowers i o l =
        subst (λ q. Fin (at q es a.callers c w) most) (sym al) (l x y es c w (found a.base x y es o (a.inside (length es) (lowers_to h a.out (Loop x y) es lowers i))) (lowered_at h a.out (Loop x y) es lowers i))

    -- the end of a true branch
    pub closed_through : (second : Nodes) → Through a after Other h most → Through a (closed_by second after) Other h (true_end second + most)
    closed_through Empty t = through_more a after Other h most (0 + most) t (omega arith)
    closed_through (Then node rest) t = λ es c w k i o. acts (at (TrueEnd ∷ after) es a.callers c w) most (t es c w tt i o)

    pub closed_leads : (second : Nodes) → after_loop (closed_by second after) ≡ after_loop after
    closed_leads Empty = refl
    closed_leads (Then node rest) = refl
