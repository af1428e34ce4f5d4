-- The heights of both stacks along a list of items, counted without running it, and that no run of the items is higher.
use Rattle.std.proofs.Common.{◌≡◌, ℕ, zero, suc, ◌+◌, ◌-◌, ◌≤◌, ◌<◌, Bool, true, false, ◌&&◌, nat_le, if◌then◌else◌, Option, Some, None, List, [], ◌∷◌, length, refl, sym, subst, arith, leb-true, leb-false}
use Rattle.std.specs.Prelude.{ℤ, pos, negsuc}
use Rattle.cell_math.specs.Cell.{signed, difference_of, sum_of}
use Rattle.word_table.specs.declared.word.Word.{Word}
use Rattle.word_table.specs.declared.word.Word.TheVariants.{ToR, RFrom, RFetch, Index, OuterIndex, Unloop, Execute}
use Rattle.word_table.specs.Table.{entry_of}
use Rattle.forth_program.specs.Tree.{Node, Nodes, Literal, Plain, If, Until, While, Do, Empty, Then}
use Rattle.forth_program.specs.State.{Entry, Cell, Loop, Work, Todo, TrueEnd, UntilTest, WhileTest, Repeat, Turn, Frame, State, Reply, Gives, Stops, Outcome, Goes, Ends}
use Rattle.forth_program.specs.Program.{SourceProgram}
use Rattle.forth_program.specs.Step.{First, IsLiteral, IsWord, IsIf, IsTrueEnd, IsUntil, IsWhile, IsRepeat, IsDo, IsTurn, first_work, first_in, first_among, before, closed_by, act, word_step, on_cells, on_flag, loop_begins, turned, crosses}
use Rattle.forth_program.specs.Meaning.{meaning}
use Rattle.forth_program.specs.Heights.{entries_height, step_peak, back_of}
use Rattle.library_laws.proofs.Lengths.{raised, changed, AtMost, leaves_at_most}
use Rattle.library_laws.proofs.Replies.{Giving}

module _ (high return_high : ℕ) where
  -- heights afterwards, where the stacks are not too high
  abbrev within : ℕ → ℕ → ℕ × ℕ → Option (ℕ × ℕ)
  within d r after = if nat_le d high && nat_le r return_high then Some after else None

  abbrev onward : Option (ℕ × ℕ) → (ℕ → ℕ → Option (ℕ × ℕ)) → Option (ℕ × ℕ)
  onward None next = None
  onward (Some h) next = next h.0 h.1

  -- where heights are at most those
  abbrev under : ℕ × ℕ → ℕ × ℕ → Option (ℕ × ℕ) → Option (ℕ × ℕ)
  under a b next = if nat_le a.0 b.0 && nat_le a.1 b.1 then next else None

  abbrev higher : ℕ → ℕ → ℕ
  higher a b = if nat_le a b then b else a

  abbrev walk_word : Word → ℕ → ℕ → Option (ℕ × ℕ)
  walk_word ToR d r = within d r (d - 1, r + 1)
  walk_word RFrom d r = within (d + 1) r (d + 1, r - 1)
  walk_word RFetch d r = within (d + 1) r (d + 1, r)
  walk_word Index d r = None
  walk_word OuterIndex d r = None
  walk_word Unloop d r = None
  walk_word Execute d r = None
  walk_word word d r = within (d + (entry_of word).peak) (r + (entry_of word).back) (raised (entry_of word).exit d, r)

  abbrev mutual
    pub walk : Nodes → ℕ → ℕ → Option (ℕ × ℕ)
    walk Empty d r = Some (d, r)
    walk (Then node rest) d r = onward (walk_node node d r) (walk rest)

    pub walk_node : Node → ℕ → ℕ → Option (ℕ × ℕ)
    walk_node (Literal value) d r = within (d + 1) r (d + 1, r)
    walk_node (Plain word) d r = walk_word word d r
    walk_node (If a b) d r = onward (within d r (d - 1, r)) (λ d r. onward (walk a d r) (λ x y. onward (walk b d r) (λ x' y'. within (higher x x') (higher y y') (higher x x', higher y y'))))
    walk_node (Until body) d r = onward (walk body d r) (λ x y. under (x, y) (d + 1, r) (within (d + 1) r (d, r)))
    walk_node (While test body) d r = onward (walk test d r) (λ x y. onward (within x y (x - 1, y)) (λ x y. onward (walk body x y) (λ x' y'. under (x', y') (d, r) (within d r (x, y)))))
    walk_node (Do body false) d r = onward (within (d + 1) (r + 1) (d - 2, r + 2)) (λ x y. onward (walk body x y) (λ x' y'. under (x', y') (x, y) (within (x + 2) y (x, r))))
    walk_node node d r = None

  -- ---- what it says that a walk comes to an end
  within_is : (d r : ℕ) (after x : ℕ × ℕ) → within d r after ≡ Some x → (d ≤ high) × (r ≤ return_high) × (after ≡ x)
  within_is d r after x e = by (nat_le d high) (nat_le r return_high) (λ t. leb-true d high t) (λ t. leb-true r return_high t) e
    where
      by : (a b : Bool) → (a ≡ true → d ≤ high) → (b ≡ true → r ≤ return_high) → (if a && b then Some after else None) ≡ Some x → (d ≤ high) × (r ≤ return_high) × (after ≡ x)
      by true true f g e = (f refl, g refl, cc)
      by true false f g e = let no : ⊥ = cc in absurd no
      by false b f g e = let no : ⊥ = cc in absurd no

  under_is : (a b : ℕ × ℕ) (next : Option (ℕ × ℕ)) (x : ℕ × ℕ) → under a b next ≡ Some x → (a.0 ≤ b.0) × (a.1 ≤ b.1) × (next ≡ Some x)
  under_is a b next x e = by (nat_le a.0 b.0) (nat_le a.1 b.1) (λ t. leb-true a.0 b.0 t) (λ t. leb-true a.1 b.1 t) e
    where
      by : (f g : Bool) → (f ≡ true → a.0 ≤ b.0) → (g ≡ true → a.1 ≤ b.1) → (if f && g then next else None) ≡ Some x → (a.0 ≤ b.0) × (a.1 ≤ b.1) × (next ≡ Some x)
      by true true f g e = (f refl, g refl, e)
      by true false f g e = let no : ⊥ = cc in absurd no
      by false b f g e = let no : ⊥ = cc in absurd no

  onward_is : (o : Option (ℕ × ℕ)) (next : ℕ → ℕ → Option (ℕ × ℕ)) (x : ℕ × ℕ) → onward o next ≡ Some x → (h : ℕ × ℕ) × (o ≡ Some h) × (next h.0 h.1 ≡ Some x)
  onward_is None next x e = let no : ⊥ = cc in absurd no
  onward_is (Some h) next x e = (h, refl, e)

  higher_is : (a b : ℕ) → (a ≤ higher a b) × (b ≤ higher a b)
  higher_is a b = by (nat_le a b) (λ t. leb-true a b t) (λ t. leb-false a b t)
    where
      by : (t : Bool) → (t ≡ true → a ≤ b) → (t ≡ false → b < a) → (a ≤ (if t then b else a)) × (b ≤ (if t then b else a))
      by true f g = (f refl, omega arith)
      by false f g = (omega arith, let h = g refl in omega (arith, h))

  -- from at least these heights
  pub record AtLeast (W : ℕ → ℕ → Type 0) (d r : ℕ) : Type 0 where
    pub cells : ℕ
    pub entries : ℕ
    pub cells_least : d ≤ cells
    pub entries_least : r ≤ entries
    pub walks : W cells entries

  at_least : {W : ℕ → ℕ → Type 0} (d r x y : ℕ) → d ≤ x → r ≤ y → W x y → AtLeast W d r
  at_least d r x y h k w = record { cells = x; entries = y; cells_least = h; entries_least = k; walks = w }

  -- from these heights
  exactly : {W : ℕ → ℕ → Type 0} (d r : ℕ) → W d r → AtLeast W d r
  exactly d r w = at_least d r d r (omega arith) (omega arith) w

  -- the test of BEGIN body UNTIL from these heights
  pub record UntilWalks (body : Nodes) (rest_walks : ℕ → ℕ → Type 0) (d r : ℕ) : Type 0 where
    pub head : ℕ × ℕ
    pub after : ℕ × ℕ
    pub items : walk body head.0 head.1 ≡ Some after
    pub cells_least : after.0 ≤ d
    pub entries_least : after.1 ≤ r
    pub cells_again : d ≤ head.0 + 1
    pub entries_again : r ≤ head.1
    pub cells_fit : d ≤ high
    pub entries_fit : r ≤ return_high
    pub rest : AtLeast rest_walks head.0 head.1

  -- BEGIN test WHILE body REPEAT
  pub record WhileWalks (test body : Nodes) (rest_walks : ℕ → ℕ → Type 0) : Type 0 where
    pub head : ℕ × ℕ
    pub tested : ℕ × ℕ
    pub after : ℕ × ℕ
    pub test_items : walk test head.0 head.1 ≡ Some tested
    pub items : walk body (tested.0 - 1) tested.1 ≡ Some after
    pub cells_again : after.0 ≤ head.0
    pub entries_again : after.1 ≤ head.1
    pub cells_fit : tested.0 ≤ high
    pub entries_fit : tested.1 ≤ return_high
    pub head_cells_fit : head.0 ≤ high
    pub head_entries_fit : head.1 ≤ return_high
    pub rest : AtLeast rest_walks (tested.0 - 1) tested.1

  -- the end of a turn of DO body LOOP from these heights
  pub record TurnWalks (body : Nodes) (plus : Bool) (rest_walks : ℕ → ℕ → Type 0) (d r : ℕ) : Type 0 where
    pub head : ℕ × ℕ
    pub after : ℕ × ℕ
    pub no_step : plus ≡ false
    pub items : walk body head.0 head.1 ≡ Some after
    pub cells_least : after.0 ≤ d
    pub entries_least : after.1 ≤ r
    pub cells_again : d ≤ head.0
    pub entries_again : r ≤ head.1
    pub cells_fit : d + 2 ≤ high
    pub entries_fit : r ≤ return_high
    pub rest : AtLeast rest_walks d (r - 2)

  -- ---- heights from which the rest of the work stays within the bounds
  abbrev pub Walks : List Work → ℕ → ℕ → Type 0
  Walks [] d r = Unit {0}
  Walks (Todo node ∷ work) d r = (x : ℕ × ℕ) × (walk_node node d r ≡ Some x) × AtLeast (Walks work) x.0 x.1
  Walks (TrueEnd ∷ work) d r = (d ≤ high) × (r ≤ return_high) × AtLeast (Walks work) d r
  Walks (UntilTest body ∷ work) d r = UntilWalks body (Walks work) d r
  Walks (WhileTest test body ∷ work) d r = (turns : WhileWalks test body (Walks work)) × (d ≤ turns.tested.0) × (r ≤ turns.tested.1)
  Walks (Repeat test body ∷ work) d r = (turns : WhileWalks test body (Walks work)) × (d ≤ turns.head.0) × (r ≤ turns.head.1)
  Walks (Turn body plus ∷ work) d r = TurnWalks body plus (Walks work) d r
  Walks (other ∷ work) d r = ⊥

  abbrev pub Later : List Work → ℕ → ℕ → Type 0
  Later work d r = AtLeast (Walks work) d r

  later : (work : List Work) (d r d' r' : ℕ) → d ≤ d' → r ≤ r' → Later work d' r' → Later work d r
  later work d r d' r' h k w = at_least d r w.cells w.entries (omega (arith, h, w.cells_least)) (omega (arith, k, w.entries_least)) w.walks

  pub walks_before : (nodes : Nodes) (work : List Work) (d r : ℕ) (x : ℕ × ℕ) → walk nodes d r ≡ Some x → Later work x.0 x.1 → Later (before nodes work) d r
  walks_before Empty work d r x e w = let same : (d, r) ≡ x = cc in subst (λ z. Later work z.0 z.1) (sym same) w
  walks_before (Then node rest) work d r x e w =
      let o = onward_is (walk_node node d r) (walk rest) x e in
      exactly d r (o.0, o.1, walks_before rest work o.0.0 o.0.1 x o.2 w)

  -- IF and DO from these heights
  pub record IfWalks (a b : Nodes) (after : List Work) (d r : ℕ) : Type 0 where
    pub cells_fit : d ≤ high
    pub entries_fit : r ≤ return_high
    pub on_true : ℕ × ℕ
    pub on_false : ℕ × ℕ
    pub first : walk a (d - 1) r ≡ Some on_true
    pub second : walk b (d - 1) r ≡ Some on_false
    pub after_first : Later (closed_by b after) on_true.0 on_true.1
    pub after_second : Later after on_false.0 on_false.1

  pub record DoWalks (body : Nodes) (plus : Bool) (after : List Work) (d r : ℕ) : Type 0 where
    pub no_step : plus ≡ false
    pub turned_at : ℕ × ℕ
    pub items : walk body (d - 2) (r + 2) ≡ Some turned_at
    pub cells_again : turned_at.0 ≤ d - 2
    pub entries_again : turned_at.1 ≤ r + 2
    pub cells_fit : d + 1 ≤ high
    pub turn_cells_fit : d - 2 + 2 ≤ high
    pub entries_fit : r + 2 ≤ return_high
    pub rest : Later after (d - 2) r

  -- the same of the first thing to do
  abbrev pub FirstWalks : First → ℕ → ℕ → Type 0
  FirstWalks (IsLiteral value after) d r = (d + 1 ≤ high) × (r ≤ return_high) × Later after (d + 1) r
  FirstWalks (IsWord word after) d r = (x : ℕ × ℕ) × (walk_word word d r ≡ Some x) × Later after x.0 x.1
  FirstWalks (IsIf a b after) d r = IfWalks a b after d r
  FirstWalks (IsTrueEnd after) d r = Walks (TrueEnd ∷ after) d r
  FirstWalks (IsUntil body after) d r = Walks (UntilTest body ∷ after) d r
  FirstWalks (IsWhile test body after) d r = Walks (WhileTest test body ∷ after) d r
  FirstWalks (IsRepeat test body after) d r = Walks (Repeat test body ∷ after) d r
  FirstWalks (IsDo body plus after) d r = DoWalks body plus after d r
  FirstWalks (IsTurn body plus after) d r = Walks (Turn body plus ∷ after) d r
  FirstWalks other d r = ⊥

  abbrev pub FirstLater : First → ℕ → ℕ → Type 0
  FirstLater f d r = AtLeast (FirstWalks f) d r

  closed_later : (b : Nodes) (after : List Work) (d r : ℕ) → d ≤ high → r ≤ return_high → Later after d r → Later (closed_by b after) d r
  closed_later Empty after d r h k w = w
  closed_later (Then node rest) after d r h k w = exactly d r (h, k, w)

  mutual
    node_first : (node : Node) (after : List Work) (d r : ℕ) (x : ℕ × ℕ) → walk_node node d r ≡ Some x → Later after x.0 x.1 → FirstLater (first_in node after) d r
    node_first (Literal value) after d r x e w =
        let h = within_is (d + 1) r (d + 1, r) x e in
        exactly d r (h.0, h.1, subst (λ z. Later after z.0 z.1) (sym h.2) w)
    node_first (Plain word) after d r x e w = exactly d r (x, e, w)
    node_first (If a b) after d r x e w =
        let o = onward_is (within d r (d - 1, r)) (λ d r. onward (walk a d r) (λ x y. onward (walk b d r) (λ x' y'. within (higher x x') (higher y y') (higher x x', higher y y')))) x e in
        let f = within_is d r (d - 1, r) o.0 o.1 in
        let e' = subst (λ z. onward (walk a z.0 z.1) (λ x y. onward (walk b z.0 z.1) (λ x' y'. within (higher x x') (higher y y') (higher x x', higher y y'))) ≡ Some x) (sym f.2) o.2 in
        let p = onward_is (walk a (d - 1) r) (λ x y. onward (walk b (d - 1) r) (λ x' y'. within (higher x x') (higher y y') (higher x x', higher y y'))) x e' in
        let q = onward_is (walk b (d - 1) r) (λ x' y'. within (higher p.0.0 x') (higher p.0.1 y') (higher p.0.0 x', higher p.0.1 y')) x p.2 in
        let g = within_is (higher p.0.0 q.0.0) (higher p.0.1 q.0.1) (higher p.0.0 q.0.0, higher p.0.1 q.0.1) x q.2 in
        let w' = subst (λ z. Later after z.0 z.1) (sym g.2) w in
        let i = higher_is p.0.0 q.0.0 in
        let j = higher_is p.0.1 q.0.1 in
        exactly d r (record {
          cells_fit = f.0;
          entries_fit = f.1;
          on_true = p.0;
          on_false = q.0;
          first = p.1;
          second = q.1;
          after_first = later (closed_by b after) p.0.0 p.0.1 _ _ i.0 j.0 (closed_later b after _ _ g.0 g.1 w');
          after_second = later after q.0.0 q.0.1 _ _ i.1 j.1 w';
        })
    node_first (Until body) after d r x e w =
        let o = onward_is (walk body d r) (λ x y. under (x, y) (d + 1, r) (within (d + 1) r (d, r))) x e in
        let u = under_is (o.0.0, o.0.1) (d + 1, r) (within (d + 1) r (d, r)) x o.2 in
        let f = within_is (d + 1) r (d, r) x u.2 in
        let w' = subst (λ z. Later after z.0 z.1) (sym f.2) w in
        let turns : UntilWalks body (Walks after) (d + 1) r = record {
          head = (d, r);
          after = o.0;
          items = o.1;
          cells_least = u.0;
          entries_least = u.1;
          cells_again = omega arith;
          entries_again = omega arith;
          cells_fit = f.0;
          entries_fit = f.1;
          rest = w';
        } in
        nodes_first body (IsUntil body after) (UntilTest body ∷ after) d r o.0 o.1 (λ d r h. h) (at_least o.0.0 o.0.1 (d + 1) r u.0 u.1 turns)
    node_first (While test body) after d r x e w =
        let o = onward_is (walk test d r) (λ x y. onward (within x y (x - 1, y)) (λ x y. onward (walk body x y) (λ x' y'. under (x', y') (d, r) (within d r (x, y))))) x e in
        let p = onward_is (within o.0.0 o.0.1 (o.0.0 - 1, o.0.1)) (λ x y. onward (walk body x y) (λ x' y'. under (x', y') (d, r) (within d r (x, y)))) x o.2 in
        let f = within_is o.0.0 o.0.1 (o.0.0 - 1, o.0.1) p.0 p.1 in
        let e' = subst (λ z. onward (walk body z.0 z.1) (λ x' y'. under (x', y') (d, r) (within d r (z.0, z.1))) ≡ Some x) (sym f.2) p.2 in
        let q = onward_is (walk body (o.0.0 - 1) o.0.1) (λ x' y'. under (x', y') (d, r) (within d r (o.0.0 - 1, o.0.1))) x e' in
        let u = under_is (q.0.0, q.0.1) (d, r) (within d r (o.0.0 - 1, o.0.1)) x q.2 in
        let g = within_is d r (o.0.0 - 1, o.0.1) x u.2 in
        let w' = subst (λ z. Later after z.0 z.1) (sym g.2) w in
        let turns : WhileWalks test body (Walks after) = record {
          head = (d, r);
          tested = o.0;
          after = q.0;
          test_items = o.1;
          items = q.1;
          cells_again = u.0;
          entries_again = u.1;
          cells_fit = f.0;
          entries_fit = f.1;
          head_cells_fit = g.0;
          head_entries_fit = g.1;
          rest = w';
        } in
        nodes_first test (IsWhile test body after) (WhileTest test body ∷ after) d r o.0 o.1 (λ d r h. h) (exactly o.0.0 o.0.1 (turns, omega arith, omega arith))
    node_first (Do body false) after d r x e w =
        let o = onward_is (within (d + 1) (r + 1) (d - 2, r + 2)) (λ x y. onward (walk body x y) (λ x' y'. under (x', y') (x, y) (within (x + 2) y (x, r)))) x e in
        let f = within_is (d + 1) (r + 1) (d - 2, r + 2) o.0 o.1 in
        let e' = subst (λ z. onward (walk body z.0 z.1) (λ x' y'. under (x', y') (z.0, z.1) (within (z.0 + 2) z.1 (z.0, r))) ≡ Some x) (sym f.2) o.2 in
        let q = onward_is (walk body (d - 2) (r + 2)) (λ x' y'. under (x', y') (d - 2, r + 2) (within (d - 2 + 2) (r + 2) (d - 2, r))) x e' in
        let u = under_is (q.0.0, q.0.1) (d - 2, r + 2) (within (d - 2 + 2) (r + 2) (d - 2, r)) x q.2 in
        let g = within_is (d - 2 + 2) (r + 2) (d - 2, r) x u.2 in
        exactly d r (record {
          no_step = refl;
          turned_at = q.0;
          items = q.1;
          cells_again = u.0;
          entries_again = u.1;
          cells_fit = f.0;
          turn_cells_fit = g.0;
          entries_fit = g.1;
          rest = subst (λ z. Later after z.0 z.1) (sym g.2) w;
        })
    node_first node after d r x e w = let no : ⊥ = cc in absurd no

    nodes_first : (nodes : Nodes) (f : First) (work : List Work) (d r : ℕ) (x : ℕ × ℕ) → walk nodes d r ≡ Some x → ((d r : ℕ) → Walks work d r → FirstWalks f d r) → Later work x.0 x.1 → FirstLater (first_among nodes f work) d r
    nodes_first Empty f work d r x e same w =
        let here : (d, r) ≡ x = cc in
        let w' = subst (λ z. Later work z.0 z.1) (sym here) w in
        at_least d r w'.cells w'.entries w'.cells_least w'.entries_least (same w'.cells w'.entries w'.walks)
    nodes_first (Then node rest) f work d r x e same w =
        let o = onward_is (walk_node node d r) (walk rest) x e in
        node_first node (before rest work) d r o.0 o.1 (walks_before rest work o.0.0 o.0.1 x o.2 w)

  -- what stands first
  pub work_first : (work : Work) (after : List Work) (d r : ℕ) → Walks (work ∷ after) d r → FirstLater (first_work (work ∷ after)) d r
  work_first (Todo node) after d r w = node_first node after d r w.0 w.1 w.2
  work_first TrueEnd after d r w = exactly d r w
  work_first (UntilTest body) after d r w = exactly d r w
  work_first (WhileTest test body) after d r w = exactly d r w
  work_first (Repeat test body) after d r w = exactly d r w
  work_first (Turn body plus) after d r w = exactly d r w
  work_first other after d r w = absurd w

  -- the step that is first stays within the bounds
  word_fits : (word : Word) (d r : ℕ) (x : ℕ × ℕ) → walk_word word d r ≡ Some x → (d + (entry_of word).peak ≤ high) × (r + (entry_of word).back ≤ return_high)
  word_fits ToR d r x e = let f = within_is d r (d - 1, r + 1) x e in (omega (arith, f.0), omega (arith, f.1))
  word_fits RFrom d r x e = let f = within_is (d + 1) r (d + 1, r - 1) x e in (omega (arith, f.0), omega (arith, f.1))
  word_fits RFetch d r x e = let f = within_is (d + 1) r (d + 1, r) x e in (omega (arith, f.0), omega (arith, f.1))
  word_fits Index d r x e = let no : ⊥ = cc in absurd no
  word_fits OuterIndex d r x e = let no : ⊥ = cc in absurd no
  word_fits Unloop d r x e = let no : ⊥ = cc in absurd no
  word_fits Execute d r x e = let no : ⊥ = cc in absurd no
  word_fits word d r x e = let f = within_is (d + (entry_of word).peak) (r + (entry_of word).back) (raised (entry_of word).exit d, r) x e in (f.0, f.1)

  pub first_fits : (f : First) (d r : ℕ) → FirstWalks f d r → (d + step_peak f ≤ high) × (r + back_of f ≤ return_high)
  first_fits (IsLiteral value after) d r w = (w.0, omega (arith, w.1))
  first_fits (IsWord word after) d r w = word_fits word d r w.0 w.1
  first_fits (IsIf a b after) d r w = (let h = w.cells_fit in omega (arith, h), let h = w.entries_fit in omega (arith, h))
  first_fits (IsTrueEnd after) d r w = (omega (arith, w.0), omega (arith, w.1))
  first_fits (IsUntil body after) d r w = (let h = w.cells_fit in omega (arith, h), let h = w.entries_fit in omega (arith, h))
  first_fits (IsWhile test body after) d r w = (let h = w.0.cells_fit in let k = w.1 in omega (arith, h, k), let h = w.0.entries_fit in let k = w.2 in omega (arith, h, k))
  first_fits (IsRepeat test body after) d r w = (let h = w.0.head_cells_fit in let k = w.1 in omega (arith, h, k), let h = w.0.head_entries_fit in let k = w.2 in omega (arith, h, k))
  first_fits (IsDo body plus after) d r w = (w.cells_fit, let h = w.entries_fit in omega (arith, h))
  first_fits (IsTurn body false after) d r w = (w.cells_fit, let h = w.entries_fit in omega (arith, h))
  first_fits (IsTurn body true after) d r w = let e = w.no_step in let no : ⊥ = cc in absurd no
  first_fits f d r w = absurd w

  -- ---- a step leads to heights from which the rest stays within the bounds
  module _ (base : ℕ) (p : SourceProgram) (fs : List Frame) where
    -- so many cells and return cells at most, with the return address
    pub record Stays (s : State) : Type 0 where
      pub cells_at : ℕ
      pub entries_at : ℕ
      pub cells_within : length s.cells ≤ base + cells_at
      pub entries_within : 1 + entries_height s.entries ≤ entries_at
      pub walks : Walks s.work cells_at entries_at
      pub callers : s.callers ≡ fs

    abbrev pub Keeps : Outcome → Type 0
    Keeps (Goes s) = Stays s
    Keeps (Ends end w) = Unit {0}

    stays_later : (s : State) (u : s.callers ≡ fs) (d r : ℕ) → length s.cells ≤ base + d → 1 + entries_height s.entries ≤ r → Later s.work d r → Stays s
    stays_later s u d r h k w = record {
      cells_at = w.cells;
      entries_at = w.entries;
      cells_within = (let a = w.cells_least in omega (arith, h, a));
      entries_within = (let a = w.entries_least in omega (arith, k, a));
      walks = w.walks;
      callers = u;
    }

    raised_more : (e : Option (ℤ × ℤ)) (n d : ℕ) → n ≤ base + d → raised e n ≤ base + raised e d
    raised_more None n d h = h
    raised_more (Some e) n d h = by e.1
      where
        by : (e : ℤ) → changed e n ≤ base + changed e d
        by (pos k) = omega (arith, h)
        by (negsuc k) = omega (arith, h)

    reply_keeps : (r' : Reply (List ℕ)) (s : State) (u : s.callers ≡ fs) (n d r : ℕ) → Giving r' (AtMost n) → n ≤ base + d → 1 + entries_height s.entries ≤ r → Later s.work d r → Keeps (on_cells r' s)
    reply_keeps (Gives c w) s u n d r g h k l = stays_later (record s { cells = c; world = w }) u d r (omega (arith, g, h)) k l
    reply_keeps (Stops end w) s u n d r g h k l = tt

    word_keeps : (word : Word) (c : List ℕ) (es : List Entry) (s : State) (u : s.callers ≡ fs) (d r : ℕ) (x : ℕ × ℕ) → walk_word word d r ≡ Some x →
        s.entries ≡ es → length c ≤ base + d → 1 + entries_height es ≤ r → Later s.work x.0 x.1 → Keeps (word_step p word c es s)
    word_keeps ToR (v ∷ c) es s u d r x e same h k l =
        let f = within_is d r (d - 1, r + 1) x e in
        stays_later (record s { cells = c; entries = Cell v ∷ es }) u (d - 1) (r + 1) (omega (arith, h)) (omega (arith, k)) (subst (λ z. Later s.work z.0 z.1) (sym f.2) l)
    word_keeps ToR [] es s u d r x e same h k l = tt
    word_keeps RFrom c (Cell v ∷ es) s u d r x e same h k l =
        let f = within_is (d + 1) r (d + 1, r - 1) x e in
        stays_later (record s { cells = v ∷ c; entries = es }) u (d + 1) (r - 1) (omega (arith, h)) (omega (arith, k)) (subst (λ z. Later s.work z.0 z.1) (sym f.2) l)
    word_keeps RFrom c es s u d r x e same h k l = tt
    word_keeps RFetch c (Cell v ∷ es) s u d r x e same h k l =
        let f = within_is (d + 1) r (d + 1, r) x e in
        stays_later (record s { cells = v ∷ c }) u (d + 1) r (omega (arith, h)) (subst (λ z. 1 + entries_height z ≤ r) (sym same) k) (subst (λ z. Later s.work z.0 z.1) (sym f.2) l)
    word_keeps RFetch c es s u d r x e same h k l = tt
    word_keeps Index c es s u d r x e same h k l = let no : ⊥ = cc in absurd no
    word_keeps OuterIndex c es s u d r x e same h k l = let no : ⊥ = cc in absurd no
    word_keeps Unloop c es s u d r x e same h k l = let no : ⊥ = cc in absurd no
    word_keeps Execute c es s u d r x e same h k l = let no : ⊥ = cc in absurd no
    word_keeps word c es s u d r x e same h k l =
        let f = within_is (d + (entry_of word).peak) (r + (entry_of word).back) (raised (entry_of word).exit d, r) x e in
        reply_keeps (meaning word c s.world) s u _ (raised (entry_of word).exit d) r (leaves_at_most word c s.world) (raised_more (entry_of word).exit (length c) d h)
        (subst (λ z. 1 + entries_height z ≤ r) (sym same) k) (subst (λ z. Later s.work z.0 z.1) (sym f.2) l)

    flag_keeps : (c : List ℕ) (at_zero other : List Work) (s : State) (u : s.callers ≡ fs) (d r : ℕ) → length c ≤ base + d → 1 + entries_height s.entries ≤ r →
        Later at_zero (d - 1) r → Later other (d - 1) r → Keeps (on_flag c at_zero other s)
    flag_keeps [] a o s u d r h k l m = tt
    flag_keeps (zero ∷ c) a o s u d r h k l m = stays_later (record s { work = a; cells = c }) u (d - 1) r (omega (arith, h)) k l
    flag_keeps (suc n ∷ c) a o s u d r h k l m = stays_later (record s { work = o; cells = c }) u (d - 1) r (omega (arith, h)) k m

    pub first_keeps : (f : First) (s : State) (u : s.callers ≡ fs) (d r : ℕ) → length s.cells ≤ base + d → 1 + entries_height s.entries ≤ r → FirstWalks f d r → Keeps (act p f s)
    first_keeps (IsLiteral value after) s u d r h k w = stays_later (record s { work = after; cells = value ∷ s.cells }) u (d + 1) r (omega (arith, h)) k w.2
    first_keeps (IsWord word after) s u d r h k w = word_keeps word s.cells s.entries (record s { work = after }) u d r w.0 w.1 refl h k w.2
    first_keeps (IsIf a b after) s u d r h k w =
        flag_keeps s.cells (before b after) (before a (closed_by b after)) s u d r h k (walks_before b after (d - 1) r w.on_false w.second w.after_second)
        (walks_before a (closed_by b after) (d - 1) r w.on_true w.first w.after_first)
    first_keeps (IsTrueEnd after) s u d r h k w = stays_later (record s { work = after }) u d r h k w.2
    first_keeps (IsUntil body after) s u d r h k w =
        let less : d - 1 ≤ w.head.0 = (let a = w.cells_again in omega (arith, a)) in
        flag_keeps s.cells (before body (UntilTest body ∷ after)) after s u d r h k
        (later _ _ _ _ _ less w.entries_again
        (walks_before body (UntilTest body ∷ after) w.head.0 w.head.1 w.after w.items (at_least w.after.0 w.after.1 d r w.cells_least w.entries_least w)))
        (later _ _ _ _ _ less w.entries_again w.rest)
    first_keeps (IsWhile test body after) s u d r h k w =
        let t = w.0 in
        let less : d - 1 ≤ t.tested.0 - 1 = (let a = w.1 in omega (arith, a)) in
        flag_keeps s.cells after (before body (Repeat test body ∷ after)) s u d r h k
        (later _ _ _ _ _ less w.2 t.rest)
        (later _ _ _ _ _ less w.2
        (walks_before body (Repeat test body ∷ after) (t.tested.0 - 1) t.tested.1 t.after t.items (exactly t.after.0 t.after.1 (t, t.cells_again, t.entries_again))))
    first_keeps (IsRepeat test body after) s u d r h k w =
        let t = w.0 in
        stays_later (record s { work = before test (WhileTest test body ∷ after) }) u d r h k
        (later _ _ _ _ _ w.1 w.2
        (walks_before test (WhileTest test body ∷ after) t.head.0 t.head.1 t.tested t.test_items (exactly t.tested.0 t.tested.1 (t, omega arith, omega arith))))
    first_keeps (IsDo body plus after) s u d r h k w = do_keeps s.cells h
      where
        turns : TurnWalks body plus (Walks after) (d - 2) (r + 2)
        turns = record {
          head = (d - 2, r + 2);
          after = w.turned_at;
          no_step = w.no_step;
          items = w.items;
          cells_least = w.cells_again;
          entries_least = w.entries_again;
          cells_again = omega arith;
          entries_again = omega arith;
          cells_fit = w.turn_cells_fit;
          entries_fit = w.entries_fit;
          rest = (let l = w.rest in at_least (d - 2) (r + 2 - 2) l.cells l.entries l.cells_least (let a = l.entries_least in omega (arith, a)) l.walks);
        }

        do_keeps : (c : List ℕ) → length c ≤ base + d → Keeps (loop_begins body plus after c s)
        do_keeps [] h = tt
        do_keeps (x ∷ []) h = tt
        do_keeps (start ∷ limit ∷ c) h = stays_later (record s { work = before body (Turn body plus ∷ after); entries = Loop limit start ∷ s.entries; cells = c }) u (d - 2) (r + 2) (omega (arith, h)) (omega (arith, k))
            (walks_before body (Turn body plus ∷ after) (d - 2) (r + 2) w.turned_at w.items (at_least w.turned_at.0 w.turned_at.1 (d - 2) (r + 2) w.cells_again w.entries_again turns))
    first_keeps (IsTurn body false after) s u d r h k w = turn_keeps s.entries k
      where
        on : (b : Bool) (x y : State) → Stays x → Stays y → Keeps (if b then Goes x else Goes y)
        on true x y h k = h
        on false x y h k = k

        turn_keeps : (es : List Entry) → 1 + entries_height es ≤ r → Keeps (turned 1 body false after es s)
        turn_keeps [] k = tt
        turn_keeps (Cell v ∷ es) k = tt
        turn_keeps (Loop limit index ∷ es) k = on (crosses (signed (difference_of index limit)) (signed 1)) _ _
            (stays_later (record s { work = after; entries = es }) u d (r - 2) h (omega (arith, k)) w.rest)
            (stays_later (record s { work = before body (Turn body false ∷ after); entries = Loop limit (sum_of index 1) ∷ es }) u d r h k
            (later _ _ _ _ _ w.cells_again w.entries_again
            (walks_before body (Turn body false ∷ after) w.head.0 w.head.1 w.after w.items (at_least w.after.0 w.after.1 d r w.cells_least w.entries_least w))))
    first_keeps (IsTurn body true after) s u d r h k w = let e = w.no_step in let no : ⊥ = cc in absurd no
    first_keeps f s u d r h k w = absurd w
