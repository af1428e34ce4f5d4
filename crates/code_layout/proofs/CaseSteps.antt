-- One word step: ?DO, OF and ENDCASE.
use Rattle.std.proofs.Common.{◌≡◌, ℕ, ◌+◌, ◌/◌, ◌≤◌, inl, Bool, true, false, List, [], ◌∷◌, length, Option, refl, arith, add-mul}
use Rattle.std.specs.Prelude.{◌==◌, if◌then◌else◌}
use Rattle.cell_math.specs.Cell.{flag}
use Rattle.word_table.specs.declared.word.Word.TheVariants.{Over, Equal, DropTop}
use Rattle.j1_table.specs.declared.instr.Instr.TheVariants.{Jump}
use Rattle.j1_simulator.specs.Effect.{following}
use Rattle.j1_simulator.specs.OpenMachine.{top_cell as top}
use Rattle.forth_program.specs.Tree.{Nodes, Arms, QDo, Case}
use Rattle.forth_program.specs.State.{Entry, Work, Todo, OfTest, EndOf, Frame, World, State, Goes}
use Rattle.forth_program.specs.Tail.{ends_body}
use Rattle.forth_program.specs.Program.{SourceProgram}
use Rattle.forth_program.specs.Step.{before, loop_begins, loop_may_begin, of_chooses, case_ends}
use Rattle.word_laws.specs.Rings.{OpenConfiguration}
use Rattle.forth_program.specs.Cells.{AreCells, AreEntries, IsWorld}
use Rattle.word_laws.specs.Control.{HoldsInstruction}
use Rattle.word_laws.specs.Standing.{data_places, return_places, StandIn}
use Rattle.code_layout.specs.Layout.{Routine, end_case_cells}
use Rattle.forth_program.specs.SourceTokens.{tokens_of}
use Rattle.code_layout.proofs.Work.{ahead, unfinished, Placed, Stands, Loops, loops_before, stands_before, Frames}
use Rattle.code_layout.proofs.Machine.{Laws, Runs, runs_then}
use Rattle.code_layout.proofs.Phrases.{phrase_runs}
use Rattle.code_layout.proofs.Steps.{Comes, Follows, comes}
use Rattle.code_layout.proofs.LoopSteps.{with_cells, at, branches, passes, jumps, do_follows}

module _ (laws : Laws) (p : SourceProgram) (code : List ℕ) (place : Routine → ℕ) (size : length code ≡ p.data_start / 2) (high return_high : ℕ) (fs : List Frame)
    (world : World) (fits : IsWorld world) (starts : world.data_start ≡ p.data_start) (base : List (Option ℕ)) where
  abbrev state : List Work → List Entry → List ℕ → State
  state w es c = with_cells laws p code place size high return_high fs world fits starts base w es c

  abbrev There : ℕ → List Entry → List ℕ → List (Option ℕ) → List (Option ℕ) → OpenConfiguration
  There pc es c data_above return_above = at laws p code place size high return_high fs world fits starts base pc es c data_above return_above

  abbrev Leads : ℕ → ℕ → List Entry → List ℕ → ℕ → List ℕ → List (Option ℕ) → List (Option ℕ) → Type 0
  Leads n pc es c next c' data_above return_above = (above : List (Option ℕ)) × (above' : List (Option ℕ)) × Runs p.data_start high return_high n (There pc es c data_above return_above) (There next es c' above above')

  -- OVER =
  compares : (pc test x y : ℕ) (es : List Entry) (c : List ℕ) (data_above return_above : List (Option ℕ)) → StandIn code pc (0x6181 ∷ 0x6703 ∷ []) test →
      AreEntries es → AreCells (x ∷ y ∷ c) → length c + 3 ≤ high → length (return_places es base) ≤ return_high →
      Leads 2 pc es (x ∷ y ∷ c) test (flag (x == y) ∷ y ∷ c) data_above return_above
  compares pc test x y es c data_above return_above stands fe fc room back =
      phrase_runs p high return_high base laws code size (Over ∷ Equal ∷ []) (state [] es (x ∷ y ∷ c)) (state [] es (flag (x == y) ∷ y ∷ c)) pc test data_above return_above refl refl (grind arith) stands fc fe fits starts

  -- OVER OVER =
  compares_both : (pc test start limit : ℕ) (es : List Entry) (c : List ℕ) (data_above return_above : List (Option ℕ)) →
      StandIn code pc (0x6181 ∷ 0x6181 ∷ 0x6703 ∷ []) test → AreEntries es → AreCells (start ∷ limit ∷ c) → length c + 4 ≤ high →
      length (return_places es base) ≤ return_high →
      Leads 3 pc es (start ∷ limit ∷ c) test (flag (limit == start) ∷ start ∷ limit ∷ c) data_above return_above
  compares_both pc test start limit es c data_above return_above stands fe fc room back =
      phrase_runs p high return_high base laws code size (Over ∷ Over ∷ Equal ∷ []) (state [] es (start ∷ limit ∷ c))
      (state [] es (flag (limit == start) ∷ start ∷ limit ∷ c)) pc test data_above return_above refl refl (grind arith) stands fc fe fits starts

  -- DROP, and DROP DROP
  drops_one : (pc next x : ℕ) (es : List Entry) (c : List ℕ) (data_above return_above : List (Option ℕ)) → StandIn code pc (0x6103 ∷ []) next → AreEntries es →
      AreCells (x ∷ c) → length c + 1 ≤ high → length (return_places es base) ≤ return_high → Leads 1 pc es (x ∷ c) next c data_above return_above
  drops_one pc next x es c data_above return_above stands fe fc room back =
      phrase_runs p high return_high base laws code size (DropTop ∷ []) (state [] es (x ∷ c)) (state [] es c) pc next data_above return_above refl refl (grind arith) stands fc fe fits starts

  drops_two : (pc next x y : ℕ) (es : List Entry) (c : List ℕ) (data_above return_above : List (Option ℕ)) → StandIn code pc (0x6103 ∷ 0x6103 ∷ []) next →
      AreEntries es → AreCells (x ∷ y ∷ c) → length c + 2 ≤ high → length (return_places es base) ≤ return_high →
      Leads 2 pc es (x ∷ y ∷ c) next c data_above return_above
  drops_two pc next x y es c data_above return_above stands fe fc room back =
      phrase_runs p high return_high base laws code size (DropTop ∷ DropTop ∷ []) (state [] es (x ∷ y ∷ c)) (state [] es c) pc next data_above return_above refl refl (grind arith) stands fc fe fits starts

  -- instructions before those that come to a state
  comes_after : (n price now : ℕ) (v v' : OpenConfiguration) (after : State) → Runs p.data_start high return_high n v v' →
      Comes laws p code place size v' price now high return_high after → Comes laws p code place size v (n + price) now high return_high after
  comes_after n price now v v' after runs c =
      let paid = c.cheap in
      let progress = c.progress in
      record {
        count = n + c.count;
        out = c.out;
        to = c.to;
        base = c.base;
        data_above = c.data_above;
        return_above = c.return_above;
        runs = runs_then laws p.data_start high return_high n c.count v v' _ runs c.runs;
        meets = c.meets;
        cheap = omega (arith, paid);
        progress = omega (arith, progress, add-mul n c.count (p.source_tokens + 1));
      }

  module _ (pc now : ℕ) (data_above return_above : List (Option ℕ)) (frames : Frames code place p fs base) (due : unfinished fs ≤ now) where
    of_by : (equal : Bool) (out : Option ℕ) (body : Nodes) (others : Arms) (rest : Nodes) (w : List Work) (x y : ℕ) (es : List Entry) (c : List ℕ) →
        (h : Stands code place p out pc (OfTest body others rest ∷ w)) → Loops code place p out w → AreEntries es → AreCells (x ∷ y ∷ c) →
        length c + 3 ≤ high → length (return_places es base) ≤ return_high → Leads 2 pc es (x ∷ y ∷ c) h.chooses.0 (flag equal ∷ y ∷ c) data_above return_above →
        Follows laws p code place size (There pc es (x ∷ y ∷ c) data_above return_above) 4 now high return_high (if equal then Goes (state (before body (EndOf ∷ w)) es c) else Goes (state (Todo (Case others rest) ∷ w) es (y ∷ c)))
    of_by true out body others rest w x y es c h l fe fc room back g =
        let v = There pc es (x ∷ y ∷ c) data_above return_above in
        let b = passes laws p code place size high return_high fs world fits starts base h.other_at h.chooses.0 65535 es (y ∷ c) g.0 g.1 (λ z. absurd (omega arith)) h.chooses.2 (omega arith) back in
        let d = drops_one (following h.chooses.0) h.body_at y es c (top (data_places (y ∷ c)) ∷ g.0) g.1 h.chooses.3 fe fc.1 (omega arith) back in
        let few = h.body_few in
        comes laws p code place size v 4 h.body_at 4 now high return_high out (state (before body (EndOf ∷ w)) es c) base d.0 d.1 (omega arith) (omega arith) due
        (runs_then laws p.data_start high return_high 3 1 v (There (following h.chooses.0) es (y ∷ c) (top (data_places (y ∷ c)) ∷ g.0) g.1) (There h.body_at es c d.0 d.1)
        (runs_then laws p.data_start high return_high 2 1 v (There h.chooses.0 es (65535 ∷ y ∷ c) g.0 g.1) (There (following h.chooses.0) es (y ∷ c) (top (data_places (y ∷ c)) ∷ g.0) g.1) g.2 b) d.2)
        (record {
          stands =
              stands_before code place p body out h.body_at (EndOf ∷ w)
              (λ e. (end_at : ℕ) × HoldsInstruction code e (Jump end_at) × Stands code place p out end_at w)
              (λ e k. (inl (k.0, k.1, k.2), omega (arith, few))) h.body_stands (omega (arith, few));
          loops = loops_before code place p body out (EndOf ∷ w) l;
          frames = frames;
          cells = fc.1.1;
          entries = fe;
          world = fits;
          starts = starts;
        })
    of_by false out body others rest w x y es c h l fe fc room back g =
        let v = There pc es (x ∷ y ∷ c) data_above return_above in
        let b = branches laws p code place size high return_high fs world fits starts base h.other_at h.chooses.0 0 es (y ∷ c) g.0 g.1 refl h.chooses.2 (omega arith) back in
        comes laws p code place size v 3 h.other_at 4 now high return_high out (state (Todo (Case others rest) ∷ w) es (y ∷ c)) base (top (data_places (y ∷ c)) ∷ g.0) g.1 (omega arith) (omega arith) due
        (runs_then laws p.data_start high return_high 2 1 v (There h.chooses.0 es (0 ∷ y ∷ c) g.0 g.1) (There h.other_at es (y ∷ c) (top (data_places (y ∷ c)) ∷ g.0) g.1) g.2 b)
        (record { stands = (h.others_stand, h.others_few); loops = l; frames = frames; cells = fc.1; entries = fe; world = fits; starts = starts })

    pub of_follows : (out : Option ℕ) (body : Nodes) (others : Arms) (rest : Nodes) (w u : List Work) (es : List Entry) (c : List ℕ) →
        Stands code place p out pc (OfTest body others rest ∷ w) → Loops code place p out w → AreEntries es → AreCells c →
        length c + 1 ≤ high → length (return_places es base) ≤ return_high → Follows laws p code place size (There pc es c data_above return_above) 4 now high return_high (of_chooses body others rest w c (state u es c))
    of_follows out body others rest w u es [] h l fe fc room back = tt
    of_follows out body others rest w u es (x ∷ []) h l fe fc room back = tt
    of_follows out body others rest w u es (x ∷ y ∷ c) h l fe fc room back =
        of_by (x == y) out body others rest w x y es c h l fe fc (omega arith) back (compares pc h.chooses.0 x y es c data_above return_above h.chooses.1 fe fc (omega arith) back)

    pub end_case_follows : (out : Option ℕ) (next : ℕ) (w u : List Work) (es : List Entry) (c : List ℕ) → StandIn code pc end_case_cells next → Stands code place p out next w → Loops code place p out w → AreEntries es → AreCells c →
        length c ≤ high → length (return_places es base) ≤ return_high → Follows laws p code place size (There pc es c data_above return_above) 1 now high return_high (case_ends w c (state u es c))
    end_case_follows out next w u es [] stands s l fe fc room back = tt
    end_case_follows out next w u es (x ∷ c) stands s l fe fc room back =
        let d = drops_one pc next x es c data_above return_above stands fe fc (omega arith) back in
        comes laws p code place size (There pc es (x ∷ c) data_above return_above) 1 next 1 now high return_high out (state w es c) base d.0 d.1 (omega arith) (omega arith) due d.2
        (record { stands = s; loops = l; frames = frames; cells = fc.1; entries = fe; world = fits; starts = starts })

    q_do_by : (equal : Bool) (out : Option ℕ) (body : Nodes) (plus : Bool) (w u : List Work) (start limit : ℕ) (es : List Entry) (c : List ℕ) →
        (h : Placed code place p out pc (ends_body w) (QDo body plus) (λ q. Stands code place p out q w)) → Loops code place p out w →
        tokens_of body + 2 + ahead w ≤ p.source_tokens →
        AreEntries es → AreCells (start ∷ limit ∷ c) → length c + 4 ≤ high → length (return_places es base) + 1 ≤ return_high → Leads 3 pc es (start ∷ limit ∷ c) h.skip.test (flag equal ∷ start ∷ limit ∷ c) data_above return_above →
        Follows laws p code place size (There pc es (start ∷ limit ∷ c) data_above return_above) 12 now high return_high (if equal then Goes (state w es c) else loop_begins body plus w (start ∷ limit ∷ c) (state u es (start ∷ limit ∷ c)))
    q_do_by true out body plus w u start limit es c h l n fe fc room back g =
        let v = There pc es (start ∷ limit ∷ c) data_above return_above in
        let both = start ∷ limit ∷ c in
        let b = passes laws p code place size high return_high fs world fits starts base h.loop_at h.skip.test 65535 es (start ∷ limit ∷ c) g.0 g.1 (λ z. absurd (omega arith)) h.skip.branch (omega arith) (omega arith) in
        let d = drops_two (following h.skip.test) h.skip.jump_at start limit es c (top (data_places (start ∷ limit ∷ c)) ∷ g.0) g.1 h.skip.drops fe fc (omega arith) (omega arith) in
        let j = jumps laws p code place size high return_high fs world fits starts base h.end_at h.skip.jump_at es c d.0 d.1 h.skip.jump (omega arith) (omega arith) in
        comes laws p code place size v 7 h.end_at 12 now high return_high out (state w es c) base d.0 d.1 (omega arith) (omega arith) due
        (runs_then laws p.data_start high return_high 6 1 v (There h.skip.jump_at es c d.0 d.1) (There h.end_at es c d.0 d.1)
        (runs_then laws p.data_start high return_high 4 2 v (There (following h.skip.test) es both (top (data_places both) ∷ g.0) g.1) (There h.skip.jump_at es c d.0 d.1)
        (runs_then laws p.data_start high return_high 3 1 v (There h.skip.test es (65535 ∷ both) g.0 g.1) (There (following h.skip.test) es both (top (data_places both) ∷ g.0) g.1) g.2 b) d.2) j)
        (record { stands = h.onward; loops = l; frames = frames; cells = fc.1.1; entries = fe; world = fits; starts = starts })
    q_do_by false out body plus w u start limit es c h l n fe fc room back g =
        let v = There pc es (start ∷ limit ∷ c) data_above return_above in
        let both = start ∷ limit ∷ c in
        let b = branches laws p code place size high return_high fs world fits starts base h.loop_at h.skip.test 0 es (start ∷ limit ∷ c) g.0 g.1 refl h.skip.branch (omega arith) (omega arith) in
        comes_after 4 8 now v (There h.loop_at es both (top (data_places both) ∷ g.0) g.1) _
        (runs_then laws p.data_start high return_high 3 1 v (There h.skip.test es (0 ∷ both) g.0 g.1) (There h.loop_at es both (top (data_places both) ∷ g.0) g.1) g.2 b)
        (do_follows laws p code place size high return_high fs world fits starts base h.loop_at now (top (data_places both) ∷ g.0) g.1 frames due out body plus w u es both h.loop l n fe fc (omega arith) back)

    pub q_do_follows : (out : Option ℕ) (body : Nodes) (plus : Bool) (w u : List Work) (es : List Entry) (c : List ℕ) →
        Placed code place p out pc (ends_body w) (QDo body plus) (λ q. Stands code place p out q w) → Loops code place p out w →
        tokens_of body + 2 + ahead w ≤ p.source_tokens → AreEntries es → AreCells c →
        length c + 2 ≤ high → length (return_places es base) + 1 ≤ return_high → Follows laws p code place size (There pc es c data_above return_above) 12 now high return_high (loop_may_begin body plus w c (state u es c))
    q_do_follows out body plus w u es [] h l n fe fc room back = tt
    q_do_follows out body plus w u es (x ∷ []) h l n fe fc room back = tt
    q_do_follows out body plus w u es (start ∷ limit ∷ c) h l n fe fc room back =
        q_do_by (limit == start) out body plus w u start limit es c h l n fe fc (omega arith) back (compares_both pc h.skip.test start limit es c data_above return_above h.skip.compares fe fc (omega arith) (omega arith))
