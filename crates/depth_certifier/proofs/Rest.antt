-- The items that are left of a list.
use Rattle.std.proofs.Common.{◌≡◌, ℕ, Bool, true, false, ◌+◌, ◌<◌, ◌≤◌, List, ◌∷◌, length, drop, get_or, Option, Result, Ok, Err, sym, ap, ◌∙◌, subst, arith}
use Rattle.std.specs.Prelude.{ℤ}
use Rattle.std.proofs.lemmas.List.{drop_more}
use Rattle.word_table.specs.declared.word.Word.{Word}
use Rattle.word_table.specs.declared.word.Word.TheVariants as table
use Rattle.forth_program.specs.declared.item.Item.{Item}
use Rattle.forth_program.specs.Tree.{Node, Nodes, Arms, If, Until, While, Again, Do, QDo, Case, Empty, Then, NoArm, Arm}
use Rattle.forth_program.specs.ItemTrees.{node_of, nodes_of}
use Rattle.depth_certifier.specs.declared.effect.Effect.{Effect}
use Rattle.depth_certifier.specs.declared.effect.CertCause.{CertCause}
use Rattle.depth_certifier.specs.declared.shape.Entries.{Entries}
use Rattle.depth_certifier.specs.declared.facts.Facts.{Facts}
use Rattle.depth_certifier.specs.declared.place.Demand.{Demand}
use Rattle.depth_certifier.specs.Place.{Place, Unreachable}
use Rattle.depth_certifier.specs.Certificate.{Limits, loops, loops_in}
use Rattle.depth_certifier.specs.Notes.{RoomFor}
use Rattle.depth_certifier.specs.Effects.{Next, More, next_of, table_effect, keep, push_loop, turn_word}
use Rattle.depth_certifier.specs.Views.{effect_of_demand, limits_of, shapes_of}
use Rattle.depth_certifier.specs.Walk.{Walk, Walked, then_do, takes, enters, returns_to, shape_at, walk}
use Rattle.depth_certifier.specs.Walks.{StepOf, known_by, given_by, item_step, items_step, drops_loop, closes, query_drops, query_closes}

-- the number of items, with those inside structures
abbrev mutual
  pub node_items : Node → ℕ
  node_items (If first second) = items_in first + items_in second + 1
  node_items (Until body) = items_in body + 1
  node_items (While test body) = items_in test + items_in body + 1
  node_items (Again body) = items_in body + 1
  node_items (Do body plus) = items_in body + 1
  node_items (QDo body plus) = items_in body + 1
  node_items (Case arms rest) = items_in_arms arms + items_in rest + 1
  node_items node = 1

  pub items_in : Nodes → ℕ
  items_in Empty = 0
  items_in (Then node rest) = node_items node + items_in rest

  pub items_in_arms : Arms → ℕ
  items_in_arms NoArm = 0
  items_in_arms (Arm tests body others) = items_in tests + items_in body + items_in_arms others + 1

-- the walk of the rest gives the whole, and they are no more than this many
abbrev pub Remains : Facts → List Effect → List (ℤ × ℤ) → Option Entries → Next → ℕ → Walked → Walk → List Item → Type 0
Remains facts effects heads top next most whole w items = (whole ≡ items_step facts effects heads top next (nodes_of items) w) × (items_in (nodes_of items) ≤ most)

-- one step of a chain
pub chain : (r : Result (Unit {0}) CertCause) (step : Walked) (go : Walk → Walked) (w u : Walk) → step ≡ Ok w → StepOf r (go w) u → StepOf r (then_do step go) u
chain r step go w u e more = subst (λ x. StepOf r (then_do x go) u) (sym e) more

module _ (facts : Facts) (effects : List Effect) (heads : List (ℤ × ℤ)) (top : Option Entries) (next : Next) where
  here : (most : ℕ) (items : List Item) (i : ℕ) (item : Item) (whole : Walked) (w : Walk) → i < length items → item ≡ get_or items i item →
      Remains facts effects heads top next most whole w (drop i items) → Remains facts effects heads top next most whole w (item ∷ drop (i + 1) items)
  here most items i item whole w lt is before =
      subst (Remains facts effects heads top next most whole w) (drop_more items i item lt ∙ ap (λ x. x ∷ drop (i + 1) items) (sym is)) before

  pub one_small : (most : ℕ) (items : List Item) (i : ℕ) (item : Item) (whole : Walked) (w : Walk) → i < length items → item ≡ get_or items i item →
      Remains facts effects heads top next most whole w (drop i items) → node_items (node_of item) ≤ most
  one_small most items i item whole w lt is before = let small = (here most items i item whole w lt is before).1 in omega (arith, small)

  pub one_walked : (most : ℕ) (items : List Item) (i : ℕ) (item : Item) (whole : Walked) (w u : Walk) (n : Next) → i < length items → item ≡ get_or items i item → n ≡ next_of next (nodes_of (drop (i + 1) items)) →
      item_step facts effects heads top n (node_of item) w ≡ Ok u →
      Remains facts effects heads top next most whole w (drop i items) → Remains facts effects heads top next most whole u (drop (i + 1) items)
  one_walked most items i item whole w u n lt is follows step before =
      let now = here most items i item whole w lt is before in
      let small = now.1 in (
        now.0 ∙ ap (λ r. then_do r (items_step facts effects heads top next (nodes_of (drop (i + 1) items)))) (ap (λ m. item_step facts effects heads top m (node_of item) w) (sym follows) ∙ step),
        omega (arith, small),
      )

  pub one_refused : (most : ℕ) (items : List Item) (i : ℕ) (item : Item) (whole : Walked) (w : Walk) (cause : CertCause) (n : Next) → i < length items → item ≡ get_or items i item → n ≡ next_of next (nodes_of (drop (i + 1) items)) →
      item_step facts effects heads top n (node_of item) w ≡ Err cause →
      Remains facts effects heads top next most whole w (drop i items) → whole ≡ Err cause
  one_refused most items i item whole w cause n lt is follows step before =
      (here most items i item whole w lt is before).0 ∙ ap (λ r. then_do r (items_step facts effects heads top next (nodes_of (drop (i + 1) items)))) (ap (λ m. item_step facts effects heads top m (node_of item) w) (sym follows) ∙ step)

  -- a loop is entered and walked, and then it ends
  pub do_walked : (body : Nodes) (plus : Bool) (inner : Option Entries) (x : Demand) (turn : Word) (r : Result (Unit {0}) CertCause) (w i h m u : Walk) → effect_of_demand x ≡ table_effect table.Do → turn ≡ turn_word plus →
      takes (limits_of facts.bounds) (effect_of_demand x) push_loop w ≡ Ok i → enters (given_by facts.finding heads) (record i { leaves = Unreachable }) ≡ Ok h → shapes_of inner ≡ shape_at h.place →
      items_step facts effects heads inner More body h ≡ Ok m → StepOf r (closes (limits_of facts.bounds) turn h.place w.leaves m) u → StepOf r (item_step facts effects heads top next (Do body plus) w) u
  do_walked body plus inner x turn r w i h m u is ends taken entered same walked closed =
      let inside = walk (limits_of facts.bounds) (known_by facts effects) (given_by facts.finding heads) in
      let close = closes (limits_of facts.bounds) (turn_word plus) in
      chain r (takes (limits_of facts.bounds) (table_effect table.Do) push_loop w)
      (λ i.
      then_do (enters (given_by facts.finding heads) (record i { leaves = Unreachable }))
      (λ h. then_do (inside (shape_at h.place) More body h) (close h.place w.leaves))) i u
      (subst (λ e. takes (limits_of facts.bounds) e push_loop w ≡ Ok i) is taken) (
      chain r (enters (given_by facts.finding heads) (record i { leaves = Unreachable })) (λ h. then_do (inside (shape_at h.place) More body h) (close h.place w.leaves)) h u entered (
      chain r (inside (shape_at h.place) More body h) (close h.place w.leaves) m u (subst (λ shape. inside shape More body h ≡ Ok m) same walked)
      (subst (λ word. StepOf r (closes (limits_of facts.bounds) word h.place w.leaves m) u) ends closed)))

  -- the same for a loop that ?DO may leave out
  pub query_do_walked : (body : Nodes) (plus : Bool) (inner : Option Entries) (x : Demand) (turn : Word) (r : Result (Unit {0}) CertCause) (w i h m u : Walk) → effect_of_demand x ≡ table_effect table.QDo → turn ≡ turn_word plus →
      takes (limits_of facts.bounds) (effect_of_demand x) push_loop w ≡ Ok i → enters (given_by facts.finding heads) (record i { leaves = Unreachable }) ≡ Ok h → shapes_of inner ≡ shape_at h.place →
      items_step facts effects heads inner More body h ≡ Ok m → StepOf r (query_closes (limits_of facts.bounds) turn h.place i.place w.leaves m) u → StepOf r (item_step facts effects heads top next (QDo body plus) w) u
  query_do_walked body plus inner x turn r w i h m u is ends taken entered same walked closed =
      let inside = walk (limits_of facts.bounds) (known_by facts effects) (given_by facts.finding heads) in
      let close = query_closes (limits_of facts.bounds) (turn_word plus) in
      chain r (takes (limits_of facts.bounds) (table_effect table.QDo) push_loop w)
      (λ i.
      then_do (enters (given_by facts.finding heads) (record i { leaves = Unreachable }))
      (λ h. then_do (inside (shape_at h.place) More body h) (close h.place i.place w.leaves))) i u
      (subst (λ e. takes (limits_of facts.bounds) e push_loop w ≡ Ok i) is taken) (
      chain r (enters (given_by facts.finding heads) (record i { leaves = Unreachable })) (λ h. then_do (inside (shape_at h.place) More body h) (close h.place i.place w.leaves)) h u entered (
      chain r (inside (shape_at h.place) More body h) (close h.place i.place w.leaves) m u (subst (λ shape. inside shape More body h ≡ Ok m) same walked)
      (subst (λ word. StepOf r (query_closes (limits_of facts.bounds) word h.place i.place w.leaves m) u) ends closed)))

-- a loop ends
pub close_walked : (limits : Limits) (turn : Word) (h outer : Place) (r : Result (Unit {0}) CertCause) (x : Demand) (w n o u : Walk) → effect_of_demand x ≡ table_effect turn →
    takes limits (effect_of_demand x) keep w ≡ Ok n → returns_to h n ≡ Ok o → StepOf r (drops_loop outer o) u → StepOf r (closes limits turn h outer w) u
close_walked limits turn h outer r x w n o u is taken back dropped =
    chain r (takes limits (table_effect turn) keep w) (λ n. then_do (returns_to h n) (drops_loop outer)) n u (subst (λ e. takes limits e keep w ≡ Ok n) is taken) (chain r (returns_to h n) (drops_loop outer) o u back dropped)

pub query_close_walked : (limits : Limits) (turn : Word) (h began outer : Place) (r : Result (Unit {0}) CertCause) (x : Demand) (w n o u : Walk) → effect_of_demand x ≡ table_effect turn →
    takes limits (effect_of_demand x) keep w ≡ Ok n → returns_to h n ≡ Ok o → StepOf r (query_drops began outer o) u → StepOf r (query_closes limits turn h began outer w) u
query_close_walked limits turn h began outer r x w n o u is taken back dropped =
    chain r (takes limits (table_effect turn) keep w) (λ n. then_do (returns_to h n) (query_drops began outer)) n u (subst (λ e. takes limits e keep w ≡ Ok n) is taken) (chain r (returns_to h n) (query_drops began outer) o u back dropped)

-- ---- room for the heads

pub room_first : (finding : Bool) (count a b : ℕ) (notes : List (ℤ × ℤ)) → RoomFor finding count (a + b) notes → RoomFor finding count a notes
room_first true count a b notes room = omega (arith, room)
room_first false count a b notes room = tt

pub room_rest : (finding : Bool) (count a b more : ℕ) (notes after : List (ℤ × ℤ)) → RoomFor finding count (a + b) notes → more ≡ count + a → length after ≡ length notes → RoomFor finding more b after
room_rest true count a b more notes after room grown same = omega (arith, room, grown, same)
room_rest false count a b more notes after room grown same = tt

-- the loops that are left have room, and are counted
abbrev pub Roomy : Bool → ℕ → ℕ → ℕ → List (ℤ × ℤ) → List Item → Type 0
Roomy finding whole size count notes items = RoomFor finding count (loops (nodes_of items)) notes × (count + loops (nodes_of items) ≡ whole) × (length notes ≡ size)

pub here_roomy : (finding : Bool) (whole size count : ℕ) (notes : List (ℤ × ℤ)) (items : List Item) (i : ℕ) (item : Item) → i < length items → item ≡ get_or items i item → Roomy finding whole size count notes (drop i items) →
    Roomy finding whole size count notes (item ∷ drop (i + 1) items)
here_roomy finding whole size count notes items i item lt is before =
    subst (Roomy finding whole size count notes) (drop_more items i item lt ∙ ap (λ x. x ∷ drop (i + 1) items) (sym is)) before

pub one_room : (finding : Bool) (whole size count : ℕ) (notes : List (ℤ × ℤ)) (items : List Item) (i : ℕ) (item : Item) → i < length items → item ≡ get_or items i item → Roomy finding whole size count notes (drop i items) →
    RoomFor finding count (loops_in (node_of item)) notes
one_room finding whole size count notes items i item lt is before =
    room_first finding count (loops_in (node_of item)) (loops (nodes_of (drop (i + 1) items))) notes (here_roomy finding whole size count notes items i item lt is before).0

pub one_counted : (finding : Bool) (whole size count more : ℕ) (notes after : List (ℤ × ℤ)) (items : List Item) (i : ℕ) (item : Item) → i < length items →
    item ≡ get_or items i item → more ≡ count + loops_in (node_of item) → length after ≡ length notes →
    Roomy finding whole size count notes (drop i items) → Roomy finding whole size more after (drop (i + 1) items)
one_counted finding whole size count more notes after items i item lt is grown same before =
    let now = here_roomy finding whole size count notes items i item lt is before in
    let total = now.1 in
    let long = now.2 in
    (room_rest finding count (loops_in (node_of item)) (loops (nodes_of (drop (i + 1) items))) more notes after now.0 grown same, omega (arith, total, grown), same ∙ long)
