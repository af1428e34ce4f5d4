-- One word step: DO, LOOP, +LOOP and LEAVE.
use Rattle.std.proofs.Common.{◌≡◌, ◌≢◌, ℕ, zero, suc, ◌+◌, ◌/◌, ◌-◌, ◌<◌, ◌≤◌, ⊎_elim, Bool, true, false, List, [], ◌∷◌, length, Option, Some, None, refl, sym, ◌∙◌, subst, arith}
use Rattle.std.specs.Prelude.{pos, int_lt, if◌then◌else◌}
use Rattle.std.proofs.Math.Nat.{mod-lt}
use Rattle.cell_math.specs.Cell.{sum_of, difference_of, signed, flag}
use Rattle.word_table.specs.declared.word.Word.TheVariants.{Swap, Dup, DropTop, Over, Plus, OnePlus, Invert, Xor, And, ZeroLess, ToR, RFrom}
use Rattle.j1_table.specs.declared.instr.Instr.TheVariants.{Jump, Branch}
use Rattle.j1_simulator.specs.Effect.{following}
use Rattle.j1_simulator.specs.OpenMachine.{top_cell as top}
use Rattle.forth_program.specs.Tree.{Nodes, Do}
use Rattle.forth_program.specs.State.{Entry, Cell, Loop, Work, Todo, TrueEnd, UntilTest, WhileTest, Repeat, BeginAgain, Turn, OfTest, EndOf, EndCase, Frame, World, State, Goes}
use Rattle.forth_program.specs.Program.{SourceProgram}
use Rattle.forth_program.specs.Tail.{ends_body}
use Rattle.forth_program.specs.Price.{turn_price}
use Rattle.forth_program.specs.Heights.{peak_of}
use Rattle.forth_program.specs.Step.{IsTurn, before, loop_begins, turned, turn, after_loop, leave}
use Rattle.word_laws.specs.Rings.{OpenConfiguration}
use Rattle.forth_program.specs.Cells.{AreCells, AreEntries, IsWorld}
use Rattle.word_laws.specs.Control.{HoldsInstruction}
use Rattle.word_laws.specs.Standing.{data_places, return_places, standing_as, StandIn, machine_at}
use Rattle.code_layout.specs.Layout.{Routine, do_cells, out_cells, loop_cells, plus_loop_cells}
use Rattle.forth_program.specs.SourceTokens.{tokens_of}
use Rattle.code_layout.proofs.Work.{ahead, unfinished, Placed, Stands, Loops, loops_before, stands_to, Frames}
use Rattle.code_layout.proofs.Machine.{Laws, Runs, runs_then, runs_one}
use Rattle.code_layout.proofs.Phrases.{phrase_runs}
use Rattle.code_layout.proofs.LoopBoundary.{signs, one_crosses, signs_cross}
use Rattle.code_layout.proofs.Steps.{Comes, Follows, comes}

begun : (start limit : ℕ) → start < 65536 → limit < 65536 → sum_of (sum_of start (65535 - limit)) 1 ≡ difference_of start limit
begun start limit h k = omega arith

next_difference : (index limit step : ℕ) → index < 65536 → limit < 65536 → step < 65536 → sum_of (difference_of index limit) step ≡ difference_of (sum_of index step) limit
next_difference index limit step h k l = omega arith

sum_turned : (x y : ℕ) → sum_of x y ≡ sum_of y x
sum_turned x y = omega arith

module _ (laws : Laws) (p : SourceProgram) (code : List ℕ) (place : Routine → ℕ) (size : length code ≡ p.data_start / 2) (high return_high : ℕ) (fs : List Frame)
    (world : World) (fits : IsWorld world) (starts : world.data_start ≡ p.data_start) (base : List (Option ℕ)) where
  abbrev pub with_cells : List Work → List Entry → List ℕ → State
  with_cells w es c = record { work = w; entries = es; callers = fs; cells = c; world = world }

  abbrev pub at : ℕ → List Entry → List ℕ → List (Option ℕ) → List (Option ℕ) → OpenConfiguration
  at pc es c data_above return_above = standing_as (with_cells [] es c) (machine_at code pc base data_above return_above)

  -- both cells of a loop are dropped: R> DROP R> DROP
  drops : (out_at next x l : ℕ) (es : List Entry) (c : List ℕ) (data_above return_above : List (Option ℕ)) → StandIn code out_at out_cells next →
      AreEntries (Cell x ∷ Cell l ∷ es) → AreCells c → length c + 1 ≤ high → length (return_places (Cell x ∷ Cell l ∷ es) base) ≤ return_high →
      (above : List (Option ℕ)) × (above' : List (Option ℕ)) × Runs p.data_start high return_high 4 (at out_at (Cell x ∷ Cell l ∷ es) c data_above return_above) (at next es c above above')
  drops out_at next x l es c data_above return_above stands fe fc room back =
      phrase_runs p high return_high base laws code size (RFrom ∷ DropTop ∷ RFrom ∷ DropTop ∷ []) (with_cells [] (Cell x ∷ Cell l ∷ es) c) (with_cells [] es c)
      out_at next data_above return_above refl refl (grind arith) stands fc fe fits starts

  -- DO: SWAP DUP >R INVERT + 1+ >R
  enters : (pc body_at start limit : ℕ) (es : List Entry) (c : List ℕ) (data_above return_above : List (Option ℕ)) → StandIn code pc do_cells body_at →
      AreEntries es → AreCells (start ∷ limit ∷ c) → length c + 3 ≤ high → length (return_places es base) + 1 ≤ return_high →
      (above : List (Option ℕ)) × (above' : List (Option ℕ))
      × Runs p.data_start high return_high 8 (at pc es (start ∷ limit ∷ c) data_above return_above)
      (at body_at (Cell (sum_of (sum_of start (65535 - limit)) 1) ∷ Cell limit ∷ es) c above above')
  enters pc body_at start limit es c data_above return_above stands fe fc room back =
      phrase_runs p high return_high base laws code size (Swap ∷ Dup ∷ ToR ∷ Invert ∷ Plus ∷ OnePlus ∷ ToR ∷ []) (with_cells [] es (start ∷ limit ∷ c))
      (with_cells [] (Cell (sum_of (sum_of start (65535 - limit)) 1) ∷ Cell limit ∷ es) c) pc body_at data_above return_above refl refl (grind arith) stands
      fc fe fits starts

  -- LOOP: R> 1+ DUP >R
  adds_one : (pc test x l : ℕ) (es : List Entry) (c : List ℕ) (data_above return_above : List (Option ℕ)) → StandIn code pc loop_cells test →
      AreEntries (Cell x ∷ Cell l ∷ es) → AreCells c → length c + 2 ≤ high → length (return_places (Cell x ∷ Cell l ∷ es) base) ≤ return_high →
      (above : List (Option ℕ)) × (above' : List (Option ℕ)) × Runs p.data_start high return_high 5 (at pc (Cell x ∷ Cell l ∷ es) c data_above return_above) (at test (Cell (sum_of x 1) ∷ Cell l ∷ es) (sum_of x 1 ∷ c) above above')
  adds_one pc test x l es c data_above return_above stands fe fc room back =
      phrase_runs p high return_high base laws code size (RFrom ∷ OnePlus ∷ Dup ∷ ToR ∷ []) (with_cells [] (Cell x ∷ Cell l ∷ es) c)
      (with_cells [] (Cell (sum_of x 1) ∷ Cell l ∷ es) (sum_of x 1 ∷ c)) pc test data_above return_above refl refl (grind arith) stands fc fe fits starts

  -- +LOOP: R> OVER OVER XOR >R SWAP OVER + SWAP OVER XOR R> AND 0< SWAP >R
  adds_step : (pc test x l step : ℕ) (es : List Entry) (c : List ℕ) (data_above return_above : List (Option ℕ)) → StandIn code pc plus_loop_cells test →
      AreEntries (Cell x ∷ Cell l ∷ es) → AreCells (step ∷ c) → length c + 4 ≤ high → length (return_places (Cell x ∷ Cell l ∷ es) base) ≤ return_high →
      (above : List (Option ℕ)) × (above' : List (Option ℕ))
      × Runs p.data_start high return_high 17 (at pc (Cell x ∷ Cell l ∷ es) (step ∷ c) data_above return_above)
      (at test (Cell (sum_of step x) ∷ Cell l ∷ es) (flag (int_lt (signed (signs x step)) (pos 0)) ∷ c) above above')
  adds_step pc test x l step es c data_above return_above stands fe fc room back =
      phrase_runs p high return_high base laws code size (RFrom ∷ Over ∷ Over ∷ Xor ∷ ToR ∷ Swap ∷ Over ∷ Plus ∷ Swap ∷ Over ∷ Xor ∷ RFrom ∷ And ∷ ZeroLess ∷ Swap ∷ ToR ∷ []) (with_cells [] (Cell x ∷ Cell l ∷ es) (step ∷ c))
      (with_cells [] (Cell (sum_of step x) ∷ Cell l ∷ es) (flag (int_lt (signed (signs x step)) (pos 0)) ∷ c)) pc test data_above return_above refl refl (grind arith) stands fc fe fits starts

  -- a branch on a cell
  pub branches : (target test v : ℕ) (es : List Entry) (c : List ℕ) (data_above return_above : List (Option ℕ)) → v ≡ 0 → HoldsInstruction code test (Branch target) → length c + 1 ≤ high → length (return_places es base) ≤ return_high →
      Runs p.data_start high return_high 1 (at test es (v ∷ c) data_above return_above) (at target es c (top (data_places c) ∷ data_above) return_above)
  branches target test zero es c data_above return_above e holds room back =
      runs_one laws p.data_start (suc (length c)) (length (return_places es base)) high return_high (at test es (0 ∷ c) data_above return_above) _ (omega arith)
      back (laws.branches p.data_start target (machine_at code test (return_places es base) data_above return_above) c world holds)
  branches target test (suc n) es c data_above return_above e holds room back = absurd (omega arith)

  pub passes : (target test v : ℕ) (es : List Entry) (c : List ℕ) (data_above return_above : List (Option ℕ)) → v ≢ 0 → HoldsInstruction code test (Branch target) → length c + 1 ≤ high → length (return_places es base) ≤ return_high →
      Runs p.data_start high return_high 1 (at test es (v ∷ c) data_above return_above) (at (following test) es c (top (data_places c) ∷ data_above) return_above)
  passes target test zero es c data_above return_above e holds room back = absurd (e refl)
  passes target test (suc n) es c data_above return_above e holds room back =
      runs_one laws p.data_start (suc (length c)) (length (return_places es base)) high return_high (at test es (suc n ∷ c) data_above return_above) _
      (omega arith) back (laws.passes p.data_start target n (machine_at code test (return_places es base) data_above return_above) c world holds)

  pub jumps : (target pc : ℕ) (es : List Entry) (c : List ℕ) (data_above return_above : List (Option ℕ)) → HoldsInstruction code pc (Jump target) → length c ≤ high → length (return_places es base) ≤ return_high →
      Runs p.data_start high return_high 1 (at pc es c data_above return_above) (at target es c data_above return_above)
  jumps target pc es c data_above return_above holds room back =
      runs_one laws p.data_start (length c) (length (return_places es base)) high return_high (at pc es c data_above return_above) _ room back
      (laws.jumps p.data_start target (machine_at code pc (return_places es base) data_above return_above) c world holds)

  -- what stands where the innermost loop is dropped
  pub record LoopEnd (out_at : ℕ) (w : List Work) : Type 0 where
    pub outer : Option ℕ
    pub next : ℕ
    pub drop_stands : StandIn code out_at out_cells next
    pub stands : Stands code place p outer next w
    pub loops : Loops code place p outer w

  loop_end : (out : Option ℕ) (out_at : ℕ) (w : List Work) → out ≡ Some out_at → Loops code place p out w → LoopEnd out_at (after_loop w)
  loop_end out out_at [] e l = let f : None ≡ Some out_at = sym l ∙ e in cc
  loop_end out out_at (Turn body plus ∷ w) e l =
      let same : l.out_at ≡ out_at = let f : Some l.out_at ≡ Some out_at = sym l.is ∙ e in cc in
      record { outer = l.outer; next = l.next; drop_stands = subst (λ o. StandIn code o out_cells l.next) same l.drops; stands = l.after; loops = l.loops }
  loop_end out out_at (Todo node ∷ w) e l = loop_end out out_at w e l
  loop_end out out_at (TrueEnd ∷ w) e l = loop_end out out_at w e l
  loop_end out out_at (UntilTest body ∷ w) e l = loop_end out out_at w e l
  loop_end out out_at (WhileTest test body ∷ w) e l = loop_end out out_at w e l
  loop_end out out_at (Repeat test body ∷ w) e l = loop_end out out_at w e l
  loop_end out out_at (BeginAgain body ∷ w) e l = loop_end out out_at w e l
  loop_end out out_at (OfTest body others rest ∷ w) e l = loop_end out out_at w e l
  loop_end out out_at (EndOf ∷ w) e l = loop_end out out_at w e l
  loop_end out out_at (EndCase ∷ w) e l = loop_end out out_at w e l

  difference_small : (limit index : ℕ) → difference_of index limit < 65536
  difference_small limit index = mod-lt (index + (65536 - limit)) (omega arith)

  module _ (pc now : ℕ) (data_above return_above : List (Option ℕ)) (frames : Frames code place p fs base) (due : unfinished fs ≤ now) where
    pub do_follows : (out : Option ℕ) (body : Nodes) (plus : Bool) (w u : List Work) (es : List Entry) (c : List ℕ) →
        Placed code place p out pc (ends_body w) (Do body plus) (λ q. Stands code place p out q w) → Loops code place p out w →
        tokens_of body + 2 + ahead w ≤ p.source_tokens → AreEntries es → AreCells c →
        length c + 1 ≤ high → length (return_places es base) + 1 ≤ return_high → Follows laws p code place size (at pc es c data_above return_above) 8 now high return_high (loop_begins body plus w c (with_cells u es c))
    do_follows out body plus w u es [] h l n fe fc room back = tt
    do_follows out body plus w u es (x ∷ []) h l n fe fc room back = tt
    do_follows out body plus w u es (start ∷ limit ∷ c) h l n fe fc room back =
        let g = enters pc h.body_at start limit es c data_above return_above h.begins fe fc (omega arith) back in
        let mark : Stands code place p (Some h.out_at) h.turn_at (Turn body plus ∷ w) = record { out_at = h.out_at; body_at = h.body_at; is = refl; body_stands = h.body; turn = h.turn; few = omega arith } in
        let ends : Loops code place p (Some h.out_at) (Turn body plus ∷ w) = record { out_at = h.out_at; outer = out; next = h.next; is = refl; drops = h.drops; after = h.onward; loops = l } in
        comes laws p code place size (at pc es (start ∷ limit ∷ c) data_above return_above) 8 h.body_at 8 now high return_high (Some h.out_at)
        (with_cells (before body (Turn body plus ∷ w)) (Loop limit start ∷ es) c) base g.0 g.1 (omega arith) (omega arith) due
        (subst (λ x. Runs p.data_start high return_high 8 (at pc es (start ∷ limit ∷ c) data_above return_above) (at h.body_at (Cell x ∷ Cell limit ∷ es) c g.0 g.1)) (begun start limit fc.0 fc.1.0) g.2)
        (record {
          stands = stands_to code place p body (Some h.out_at) h.body_at h.turn_at (Turn body plus ∷ w) h.body mark (omega arith);
          loops = loops_before code place p body (Some h.out_at) (Turn body plus ∷ w) ends;
          frames = frames;
          cells = fc.1.1;
          entries = (fc.1.0, fc.0, fe);
          world = fits;
          starts = starts;
        })

    pub leave_follows : (out : Option ℕ) (out_at : ℕ) (w u : List Work) (es : List Entry) (c : List ℕ) → out ≡ Some out_at → HoldsInstruction code pc (Jump out_at) → Loops code place p out w → AreEntries es → AreCells c →
        length c + 1 ≤ high → length (return_places es base) ≤ return_high → Follows laws p code place size (at pc es c data_above return_above) 5 now high return_high (leave w es (with_cells u es c))
    leave_follows out out_at w u [] c e holds l fe fc room back = tt
    leave_follows out out_at w u (Cell x ∷ es) c e holds l fe fc room back = tt
    leave_follows out out_at w u (Loop limit index ∷ es) c e holds l fe fc room back =
        let end = loop_end out out_at w e l in
        let j = jumps out_at pc (Loop limit index ∷ es) c data_above return_above holds (omega arith) back in
        let d = drops out_at end.next (difference_of index limit) limit es c data_above return_above end.drop_stands (difference_small limit index, (fe.0, fe.2)) fc room back in
        comes laws p code place size (at pc (Loop limit index ∷ es) c data_above return_above) 5 end.next 5 now high return_high end.outer (with_cells (after_loop w) es c) base d.0 d.1 (omega arith) (omega arith) due
        (runs_then laws p.data_start high return_high 1 4 (at pc (Loop limit index ∷ es) c data_above return_above) (at out_at (Loop limit index ∷ es) c data_above return_above) (at end.next es c d.0 d.1) j d.2)
        (record { stands = end.stands; loops = end.loops; frames = frames; cells = fc; entries = fe.2; world = fits; starts = starts })

    module _ (out : Option ℕ) (body : Nodes) (w u : List Work) (limit index : ℕ) (es : List Entry) (c : List ℕ) (fe : AreEntries (Loop limit index ∷ es))
        (fc : AreCells c) (back : length (return_places (Loop limit index ∷ es) base) ≤ return_high) where
      abbrev difference : ℕ
      difference = difference_of index limit

      -- the loop as two cells
      abbrev two_cells : ℕ → List Entry
      two_cells x = Cell x ∷ Cell limit ∷ es

      -- where the end of a turn stands, with these data cells
      abbrev There : List ℕ → OpenConfiguration
      There c' = at pc (Loop limit index ∷ es) c' data_above return_above

      -- the end of a turn is followed, by whether the loop is over
      abbrev Turned : List ℕ → ℕ → Bool → ℕ → Bool → Type 0
      Turned c' price plus step crossed =
          Follows laws p code place size (There c') price now high return_high (if crossed then Goes (with_cells w es c) else Goes (with_cells (before body (Turn body plus ∷ w)) (Loop limit (sum_of index step) ∷ es) c))

      small_entries : AreEntries (two_cells difference)
      small_entries = (difference_small limit index, (fe.0, fe.2))

      -- the loop is over
      over : (price count out_at x : ℕ) (c' : List ℕ) (above above' : List (Option ℕ)) → 1 ≤ count → count + 4 ≤ price → x < 65536 → length c + 1 ≤ high → LoopEnd out_at w →
          Runs p.data_start high return_high count (There c') (at out_at (two_cells x) c above above') → Comes laws p code place size (There c') price now high return_high (with_cells w es c)
      over price count out_at x c' above above' some cheap small room end runs =
          let d = drops out_at end.next x limit es c above above' end.drop_stands (small, (fe.0, fe.2)) fc room back in
          comes laws p code place size (There c') (count + 4) end.next price now high return_high end.outer (with_cells w es c) base d.0 d.1 (omega arith) cheap due
          (runs_then laws p.data_start high return_high count 4 (There c') (at out_at (two_cells x) c above above') (at end.next es c d.0 d.1) runs d.2)
          (record { stands = end.stands; loops = end.loops; frames = frames; cells = fc; entries = fe.2; world = fits; starts = starts })

      -- the body is done again
      again : (plus : Bool) (price count x step : ℕ) (c' : List ℕ) (above above' : List (Option ℕ)) → 1 ≤ count → count ≤ price →
          x ≡ difference_of (sum_of index step) limit → (h : Stands code place p out pc (Turn body plus ∷ w)) → Loops code place p out (Turn body plus ∷ w) →
          Runs p.data_start high return_high count (There c') (at h.body_at (two_cells x) c above above') →
          Comes laws p code place size (There c') price now high return_high (with_cells (before body (Turn body plus ∷ w)) (Loop limit (sum_of index step) ∷ es) c)
      again plus price count x step c' above above' some cheap e h l runs =
          comes laws p code place size (There c') count h.body_at price now high return_high out (with_cells (before body (Turn body plus ∷ w)) (Loop limit (sum_of index step) ∷ es) c) base above above' some cheap due
          (subst (λ y. Runs p.data_start high return_high count (There c') (at h.body_at (two_cells y) c above above')) e runs)
          (record {
            stands = stands_to code place p body out h.body_at pc (Turn body plus ∷ w) h.body_stands h (let few = h.few in omega (arith, few));
            loops = loops_before code place p body out (Turn body plus ∷ w) l;
            frames = frames;
            cells = fc;
            entries = (fe.0, mod-lt (index + step) (omega arith), fe.2);
            world = fits;
            starts = starts;
          })

      -- LOOP, where 1 more is the limit, and where it is not
      one_over : Stands code place p out pc (Turn body false ∷ w) → Loops code place p out (Turn body false ∷ w) → length c + 2 ≤ high → difference ≡ 65535 → Turned c 12 false 1 true
      one_over h l room last =
          let sum = sum_of (difference_of index limit) 1 in
          let a = adds_one pc h.turn.0 difference limit es c data_above return_above h.turn.1 small_entries fc room back in
          let b = branches h.out_at h.turn.0 sum (two_cells sum) c a.0 a.1 (omega (arith, last)) h.turn.2 (omega arith) back in
          over 12 6 h.out_at sum c (top (data_places c) ∷ a.0) a.1 (omega arith) (omega arith) (omega arith) (omega arith) (loop_end out h.out_at (Turn body false ∷ w) h.is l)
          (runs_then laws p.data_start high return_high 5 1 (There c) (at h.turn.0 (two_cells sum) (sum ∷ c) a.0 a.1) (at h.out_at (two_cells sum) c (top (data_places c) ∷ a.0) a.1) a.2 b)

      one_again : Stands code place p out pc (Turn body false ∷ w) → Loops code place p out (Turn body false ∷ w) → length c + 2 ≤ high → difference ≢ 65535 → Turned c 12 false 1 false
      one_again h l room other =
          let sum = sum_of (difference_of index limit) 1 in
          let small = difference_small limit index in
          let a = adds_one pc h.turn.0 difference limit es c data_above return_above h.turn.1 small_entries fc room back in
          let b = passes h.out_at h.turn.0 sum (two_cells sum) c a.0 a.1 (λ z. other (omega arith)) h.turn.2 (omega arith) back in
          let j = jumps h.body_at (following h.turn.0) (two_cells sum) c (top (data_places c) ∷ a.0) a.1 h.turn.3 (omega arith) back in
          again false 12 7 sum 1 c (top (data_places c) ∷ a.0) a.1 (omega arith) (omega arith) (next_difference index limit 1 fe.1 fe.0 (omega arith)) h l
          (runs_then laws p.data_start high return_high 6 1 (There c) (at (following h.turn.0) (two_cells sum) c (top (data_places c) ∷ a.0) a.1) (at h.body_at (two_cells sum) c (top (data_places c) ∷ a.0) a.1)
          (runs_then laws p.data_start high return_high 5 1 (There c) (at h.turn.0 (two_cells sum) (sum ∷ c) a.0 a.1) (at (following h.turn.0) (two_cells sum) c (top (data_places c) ∷ a.0) a.1) a.2 b) j)

      one_turned : Stands code place p out pc (Turn body false ∷ w) → Loops code place p out (Turn body false ∷ w) → length c + 2 ≤ high →
          Follows laws p code place size (There c) 12 now high return_high (turned 1 body false w (Loop limit index ∷ es) (with_cells u (Loop limit index ∷ es) c))
      one_turned h l room =
          ⊎_elim (λ t. subst (Turned c 12 false 1) (sym t.1) (one_over h l room t.0)) (λ t. subst (Turned c 12 false 1) (sym t.1) (one_again h l room t.0)) (one_crosses difference (difference_small limit index))

      -- +LOOP, where the boundary is crossed, and where it is not
      step_followed : (step : ℕ) (crossed : Bool) → step < 65536 → int_lt (signed (signs difference step)) (pos 0) ≡ crossed →
          Stands code place p out pc (Turn body true ∷ w) → Loops code place p out (Turn body true ∷ w) → length c + 4 ≤ high →
          Turned (step ∷ c) 24 true step crossed
      step_followed step true small e h l room =
          let sum = sum_of step (difference_of index limit) in
          let a = adds_step pc h.turn.0 difference limit step es c data_above return_above h.turn.1 small_entries (small, fc) room back in
          let a' = subst (λ b. Runs p.data_start high return_high 17 (There (step ∷ c)) (at h.turn.0 (two_cells sum) (flag b ∷ c) a.0 a.1)) e a.2 in
          let b = passes h.body_at h.turn.0 65535 (two_cells sum) c a.0 a.1 (λ z. absurd (omega arith)) h.turn.2 (omega arith) back in
          let b' = subst (λ q. Runs p.data_start high return_high 1 (at h.turn.0 (two_cells sum) (65535 ∷ c) a.0 a.1) (at q (two_cells sum) c (top (data_places c) ∷ a.0) a.1)) h.turn.3 b in
          over 24 18 h.out_at sum (step ∷ c) (top (data_places c) ∷ a.0) a.1 (omega arith) (omega arith) (mod-lt (step + difference) (omega arith)) (omega arith) (loop_end out h.out_at (Turn body true ∷ w) h.is l)
          (runs_then laws p.data_start high return_high 17 1 (There (step ∷ c)) (at h.turn.0 (two_cells sum) (65535 ∷ c) a.0 a.1) (at h.out_at (two_cells sum) c (top (data_places c) ∷ a.0) a.1) a' b')
      step_followed step false small e h l room =
          let sum = sum_of step (difference_of index limit) in
          let a = adds_step pc h.turn.0 difference limit step es c data_above return_above h.turn.1 small_entries (small, fc) room back in
          let a' = subst (λ b. Runs p.data_start high return_high 17 (There (step ∷ c)) (at h.turn.0 (two_cells sum) (flag b ∷ c) a.0 a.1)) e a.2 in
          let b = branches h.body_at h.turn.0 0 (two_cells sum) c a.0 a.1 refl h.turn.2 (omega arith) back in
          again true 24 18 sum step (step ∷ c) (top (data_places c) ∷ a.0) a.1 (omega arith) (omega arith) (sum_turned step difference ∙ next_difference index limit step fe.1 fe.0 small) h l
          (runs_then laws p.data_start high return_high 17 1 (There (step ∷ c)) (at h.turn.0 (two_cells sum) (0 ∷ c) a.0 a.1) (at h.body_at (two_cells sum) c (top (data_places c) ∷ a.0) a.1) a' b)

      step_turned : (step : ℕ) → step < 65536 → Stands code place p out pc (Turn body true ∷ w) → Loops code place p out (Turn body true ∷ w) → length c + 4 ≤ high →
          Follows laws p code place size (There (step ∷ c)) 24 now high return_high (turned step body true w (Loop limit index ∷ es) (with_cells u (Loop limit index ∷ es) c))
      step_turned step small h l room =
          subst (Turned (step ∷ c) 24 true step) (sym (signs_cross difference step (difference_small limit index) small)) (step_followed step (int_lt (signed (signs difference step)) (pos 0)) small refl h l room)

    -- the end of a turn
    pub turn_follows : (out : Option ℕ) (body : Nodes) (plus : Bool) (w u : List Work) (es : List Entry) (c : List ℕ) →
        Stands code place p out pc (Turn body plus ∷ w) → Loops code place p out (Turn body plus ∷ w) → AreEntries es → AreCells c →
        length c + peak_of fs (IsTurn body plus w) ≤ high → length (return_places es base) ≤ return_high →
        Follows laws p code place size (at pc es c data_above return_above) (turn_price plus) now high return_high (turn body plus w c (with_cells u es c))
    turn_follows out body false w u [] c h l fe fc room back = tt
    turn_follows out body false w u (Cell x ∷ es) c h l fe fc room back = tt
    turn_follows out body false w u (Loop limit index ∷ es) c h l fe fc room back = one_turned out body w u limit index es c fe fc back h l room
    turn_follows out body true w u es [] h l fe fc room back = tt
    turn_follows out body true w u [] (step ∷ c) h l fe fc room back = tt
    turn_follows out body true w u (Cell x ∷ es) (step ∷ c) h l fe fc room back = tt
    turn_follows out body true w u (Loop limit index ∷ es) (step ∷ c) h l fe fc room back =
        step_turned out body w u limit index es c fe fc.1 back step fc.0 h l (omega arith)
