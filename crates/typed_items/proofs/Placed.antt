-- Where the code of work stands: each item at a place, and then the code of what follows it. At most four jumps lead from the end of one to
-- the other: an ELSE with nothing behind it is such a jump, and structures are nested to at most four.
use Rattle.std.proofs.Common.{◌≡◌, ℕ, zero, suc, ◌+◌, ◌*◌, ◌<◌, ◌≤◌, ◌⊎◌, inl, inr, true, List, [], ◌∷◌, length, Option, Some, sym, ap}
use Rattle.std.proofs.Common.{subst, arith}
use Rattle.std.specs.Prelude.{slice_index}
use Rattle.word_table.specs.declared.word.Word.{Word}
use Rattle.j1_table.specs.declared.instr.Instr.{Instr}
use Rattle.j1_table.specs.declared.instr.Instr.TheVariants.{Jump, Branch, Alu, Call as CallTo}
use Rattle.j1_table.specs.Instruction.{decoded}
use Rattle.j1_simulator.specs.Effect.{following}
use Rattle.forth_program.specs.Tree.{Node, Nodes, Literal, Plain, Call, If, Until, While, Empty, Then}
use Rattle.forth_program.specs.State.{Cell, Work, Todo, TrueEnd, UntilTest, WhileTest, Repeat, Frame}
use Rattle.forth_program.specs.Step.{First, IsLiteral, IsWord, IsCall, IsIf, IsTrueEnd, IsUntil, IsWhile, IsRepeat, before, first_in}
use Rattle.forth_program.specs.Step.{first_among, first_work, closed_by}
use Rattle.word_laws.specs.Numbers.{number_cells}
use Rattle.typed_items.specs.Items.{is_listed}
use Rattle.typed_items.specs.Listed.{AreReturnPlaces}

module _ (memory : List ℕ) where
  -- an instruction stands at a place, from byte 8320 on
  abbrev pub Holds : ℕ → Instr → Type 0
  Holds at instruction = (decoded (slice_index memory at) ≡ instruction) × (4160 ≤ at)

  -- cells stand there, one behind the other
  abbrev pub HaveCells : ℕ → List ℕ → ℕ → Type 0
  HaveCells at [] next = at ≡ next
  HaveCells at (cell ∷ cells) next = (slice_index memory at ≡ cell) × (4160 ≤ at) × HaveCells (following at) cells next

  -- at most so many jumps lead from a place to one where K holds
  abbrev pub Led : ℕ → (ℕ → Type 0) → ℕ → Type 0
  Led zero K at = K at
  Led (suc n) K at = K at ⊎ ((next : ℕ) × Holds at (Jump next) × Led n K next)

  pub led_here : (n : ℕ) (K : ℕ → Type 0) (at : ℕ) → K at → Led n K at
  led_here zero K at k = k
  led_here (suc n) K at k = inl k

  pub led_more : (n : ℕ) (K K' : ℕ → Type 0) → ((q : ℕ) → K q → K' q) → (at : ℕ) → Led n K at → Led n K' at
  led_more zero K K' f at h = f at h
  led_more (suc n) K K' f at (inl k) = inl (f at k)
  led_more (suc n) K K' f at (inr h) = inr (h.0, h.1, led_more n K K' f h.0 h.2)

  pub led_wider : (n m : ℕ) (K : ℕ → Type 0) (at : ℕ) → n ≤ m → Led n K at → Led m K at
  led_wider zero m K at le h = led_here m K at h
  led_wider (suc n) zero K at le h = absurd (omega arith)
  led_wider (suc n) (suc m) K at le (inl k) = inl k
  led_wider (suc n) (suc m) K at le (inr h) = inr (h.0, h.1, led_wider n m K h.0 (omega arith) h.2)

  module _ (token : Word → ℕ) (place : ℕ → ℕ) (count : ℕ) where
    -- the end of a true branch: a jump, where the false branch has items
    abbrev pub Closed : Nodes → (ℕ → Type 0) → ℕ → Type 0
    Closed Empty K at = K at
    Closed (Then node rest) K at = (next : ℕ) × Holds at (Jump next) × Led 4 K next

    -- an item stands at a place, and K holds of the place to which its end leads
    abbrev mutual
      pub Placed : ℕ → Node → (ℕ → Type 0) → Type 0
      Placed at (Literal value) K = (next : ℕ) × (value < 0x10000) × HaveCells at (number_cells value) next × Led 4 K next
      Placed at (Plain word) K = (is_listed word ≡ true) × Holds at (CallTo (token word)) × Led 4 K (following at)
      Placed at (Call d) K = (d < count) × Holds at (CallTo (place d)) × Led 4 K (following at)
      Placed at (If first second) K =
          (other : ℕ) × Holds at (Branch other) × Led 4 (λ q. Ahead q first (λ r. Closed second K r)) (following at) ×
          Led 4 (λ q. Ahead q second K) other
      Placed at (Until body) K = (end : ℕ) × Ahead at body (λ e. e ≡ end) × Holds end (Branch at) × Led 4 K (following end)
      Placed at (While test body) K =
          (test_end : ℕ) × (body_end : ℕ) × (next : ℕ) × Ahead at test (λ e. e ≡ test_end) × Holds test_end (Branch next)
          × Ahead (following test_end) body (λ e. e ≡ body_end) × Holds body_end (Jump at) × Led 4 K next
      Placed at node K = ⊥

      pub Ahead : ℕ → Nodes → (ℕ → Type 0) → Type 0
      Ahead at Empty K = K at
      Ahead at (Then node rest) K = Placed at node (λ q. Ahead q rest K)

    closed_more : (nodes : Nodes) (K K' : ℕ → Type 0) → ((q : ℕ) → K q → K' q) → (at : ℕ) → Closed nodes K at → Closed nodes K' at
    closed_more Empty K K' f at h = f at h
    closed_more (Then node rest) K K' f at h = (h.0, h.1, led_more 4 K K' f h.0 h.2)

    mutual
      pub placed_more : (node : Node) (at : ℕ) (K K' : ℕ → Type 0) → ((q : ℕ) → K q → K' q) → Placed at node K → Placed at node K'
      placed_more (Literal value) at K K' f h = (h.0, h.1, h.2, led_more 4 K K' f h.0 h.3)
      placed_more (Plain word) at K K' f h = (h.0, h.1, led_more 4 K K' f (following at) h.2)
      placed_more (Call d) at K K' f h = (h.0, h.1, led_more 4 K K' f (following at) h.2)
      placed_more (If first second) at K K' f h = (
        h.0,
        h.1,
        led_more 4 (λ q. Ahead q first (λ r. Closed second K r)) (λ q. Ahead q first (λ r. Closed second K' r))
            (λ q k. ahead_more first q (λ r. Closed second K r) (λ r. Closed second K' r) (closed_more second K K' f) k) (following at) h.2,
        led_more 4 (λ q. Ahead q second K) (λ q. Ahead q second K') (λ q k. ahead_more second q K K' f k) h.0 h.3,
      )
      placed_more (Until body) at K K' f h = (h.0, h.1, h.2, led_more 4 K K' f (following h.0) h.3)
      placed_more (While test body) at K K' f h = (h.0, h.1, h.2, h.3, h.4, h.5, h.6, led_more 4 K K' f h.2 h.7)
      placed_more node at K K' f h = absurd h

      pub ahead_more : (nodes : Nodes) (at : ℕ) (K K' : ℕ → Type 0) → ((q : ℕ) → K q → K' q) → Ahead at nodes K → Ahead at nodes K'
      ahead_more Empty at K K' f h = f at h
      ahead_more (Then node rest) at K K' f h = placed_more node at (λ q. Ahead q rest K) (λ q. Ahead q rest K')
          (λ q k. ahead_more rest q K K' f k) h

    -- the parts of a loop BEGIN test WHILE body REPEAT
    pub record WhileStands (test_end body_end : ℕ) (test body : Nodes) (K : ℕ → Type 0) : Type 0 where
      pub begin : ℕ
      pub next : ℕ
      pub test_stands : Ahead begin test (λ e. e ≡ test_end)
      pub branch : Holds test_end (Branch next)
      pub body_stands : Ahead (following test_end) body (λ e. e ≡ body_end)
      pub jump : Holds body_end (Jump begin)
      pub onward : Led 4 K next

    -- work stands at a place, and E holds of the place of its end
    abbrev pub Here : (ℕ → Type 0) → ℕ → List Work → Type 0
    Here E at [] = E at
    Here E at (Todo node ∷ w) = Placed at node (λ q. Here E q w)
    Here E at (TrueEnd ∷ w) = (next : ℕ) × Holds at (Jump next) × Led 4 (λ q. Here E q w) next
    Here E at (UntilTest body ∷ w) = (begin : ℕ) × Holds at (Branch begin) × Ahead begin body (λ e. e ≡ at) ×
        Led 4 (λ q. Here E q w) (following at)
    Here E at (WhileTest test body ∷ w) = (body_end : ℕ) × WhileStands at body_end test body (λ q. Here E q w)
    Here E at (Repeat test body ∷ w) = (test_end : ℕ) × WhileStands test_end at test body (λ q. Here E q w)
    Here E at (mark ∷ w) = ⊥

    module _ (E : ℕ → Type 0) where
      -- items in front of work
      pub here_before : (nodes : Nodes) (at : ℕ) (w : List Work) (K : ℕ → Type 0) → ((q : ℕ) → K q → Here E q w) → Ahead at nodes K →
          Here E at (before nodes w)
      here_before Empty at w K f h = f at h
      here_before (Then node rest) at w K f h = placed_more node at (λ q. Ahead q rest K) (λ q. Here E q (before rest w))
          (λ q k. here_before rest q w K f k) h

      -- the same, up to a known place
      pub here_to : (nodes : Nodes) (at e : ℕ) (w : List Work) → Ahead at nodes (λ x. x ≡ e) → Here E e w → Here E at (before nodes w)
      here_to nodes at e w h s = here_before nodes at w (λ x. x ≡ e) (λ x q. subst (λ y. Here E y w) (sym q) s) h

      -- a first work stands at a place, where there is one
      abbrev pub Opens : ℕ → First → Type 0
      Opens at (IsLiteral value w) = Placed at (Literal value) (λ q. Here E q w)
      Opens at (IsWord word w) = Placed at (Plain word) (λ q. Here E q w)
      Opens at (IsCall d w) = Placed at (Call d) (λ q. Here E q w)
      Opens at (IsIf first second w) = Placed at (If first second) (λ q. Here E q w)
      Opens at (IsTrueEnd w) = (next : ℕ) × Holds at (Jump next) × Led 4 (λ q. Here E q w) next
      Opens at (IsUntil body w) = (begin : ℕ) × Holds at (Branch begin) × Ahead begin body (λ e. e ≡ at) ×
          Led 4 (λ q. Here E q w) (following at)
      Opens at (IsWhile test body w) = (body_end : ℕ) × WhileStands at body_end test body (λ q. Here E q w)
      Opens at (IsRepeat test body w) = (test_end : ℕ) × WhileStands test_end at test body (λ q. Here E q w)
      Opens at first = ⊥

      mutual
        opens_node : (node : Node) (at : ℕ) (w : List Work) → Placed at node (λ q. Here E q w) → Opens at (first_in node w)
        opens_node (Literal value) at w h = h
        opens_node (Plain word) at w h = h
        opens_node (Call d) at w h = h
        opens_node (If first second) at w h = h
        opens_node (Until body) at w h = let mark : Here E h.0 (UntilTest body ∷ w) = (at, h.2, h.1, h.3) in
            opens_all body at h.0 (IsUntil body w) (UntilTest body ∷ w) h.1 mark mark
        opens_node (While test body) at w h =
            let parts : WhileStands h.0 h.1 test body (λ q. Here E q w) = record {
              begin = at;
              next = h.2;
              test_stands = h.3;
              branch = h.4;
              body_stands = h.5;
              jump = h.6;
              onward = h.7;
            } in
            let mark : Here E h.0 (WhileTest test body ∷ w) = (h.1, parts) in
            opens_all test at h.0 (IsWhile test body w) (WhileTest test body ∷ w) h.3 mark mark
        opens_node node at w h = absurd h

        opens_all : (nodes : Nodes) (at e : ℕ) (f : First) (w : List Work) → Ahead at nodes (λ x. x ≡ e) → Opens e f → Here E e w →
            Opens at (first_among nodes f w)
        opens_all Empty at e f w h b s = subst (λ x. Opens x f) (sym h) b
        opens_all (Then node rest) at e f w h b s =
            opens_node node at (before rest w) (placed_more node at (λ q. Ahead q rest (λ x. x ≡ e)) (λ q. Here E q (before rest w))
            (λ q k. here_to rest q e w k s) h)

      pub opens : (first : Work) (w : List Work) (at : ℕ) → Here E at (first ∷ w) → Opens at (first_work (first ∷ w))
      opens (Todo node) w at h = opens_node node at w h
      opens TrueEnd w at h = h
      opens (UntilTest body) w at h = h
      opens (WhileTest test body) w at h = h
      opens (Repeat test body) w at h = h
      opens mark w at h = absurd h

    -- what follows a true branch
    pub here_closed : (E : ℕ → Type 0) (second : Nodes) (at : ℕ) (w : List Work) → Closed second (λ q. Here E q w) at →
        Here E at (closed_by second w)
    here_closed E Empty at w h = h
    here_closed E (Then node rest) at w h = h

    -- the end of the work of a frame: a place, where none is below, and else a return
    abbrev pub Ends : ℕ → List Frame → ℕ → Type 0
    Ends final [] at = at ≡ final
    Ends final (frame ∷ callers) at = Holds at (Alu 0x100C)

    -- the frames below the newest have these return places
    abbrev pub Callers : ℕ → List (Option ℕ) → List Frame → List (Option ℕ) → Type 0
    Callers final outer [] r = r ≡ outer
    Callers final outer (frame ∷ callers) r =
        (below : List (Option ℕ)) × (at : ℕ) × (r ≡ Some (2 * following at) ∷ below) ×
        Led 4 (λ q. Here (Ends final callers) q frame.work) (following at)
        × (frame.entries ≡ []) × Callers final outer callers below

    pub callers_fit : (final : ℕ) (outer : List (Option ℕ)) (callers : List Frame) (r : List (Option ℕ)) → Callers final outer callers r →
        length r ≡ length callers + length outer
    callers_fit final outer [] r h = omega (arith, ap length h)
    callers_fit final outer (frame ∷ callers) r h = omega (arith, ap length h.2, callers_fit final outer callers h.0 h.5)

    -- and so they are the places of return entries, where those below all are
    pub callers_places : (final : ℕ) (outer : List (Option ℕ)) → AreReturnPlaces outer → (callers : List Frame) (r : List (Option ℕ)) →
        Callers final outer callers r → AreReturnPlaces r
    callers_places final outer known [] r h = subst AreReturnPlaces (sym h) known
    callers_places final outer known (frame ∷ callers) r h =
        let below = callers_places final outer known callers h.0 h.5 in
        let behind = h.1 in
        subst AreReturnPlaces (sym h.2) (
          Cell (2 * following behind) ∷ below.0,
          (omega arith, below.1),
          ap
              (λ x. Some (2 * following behind) ∷ x) below.2,
        )
