-- Costs that are counted item by item and definition by definition.
use Rattle.std.proofs.Common.{◌≡◌, ℕ, zero, suc, ◌+◌, ◌*◌, ◌≤◌, ◌<◌, ◌==◌, Bool, false, List, [], ◌∷◌, ◌++◌, length, map, drop, refl, sym, ap, ◌∙◌, subst, arith, drop-cons}
use Rattle.std.proofs.Math.Seq.{drop-nil}
use Rattle.std.proofs.lemmas.List.{map-append}
use Rattle.std.specs.Prelude.{max, slice_index_or}
use Rattle.forth_program.specs.declared.item.Item.{Item}
use Rattle.forth_program.specs.declared.item.Items.{Items}
use Rattle.forth_program.specs.ItemTrees.{node_of, nodes_of, tree_of, arms_tree}
use Rattle.forth_program.specs.Tree.{Node, Nodes, Do, QDo, Empty}
use Rattle.forth_program.specs.Price.{turn_price}
use Rattle.step_certifier.specs.Capped.{most_steps, capped}
use Rattle.step_certifier.specs.Cost.{Last, Other, last_after, or_none, loop_turns, entered_turns, true_end, node_cost, cost, tests_cost, greatest_end, costs_with}
use Rattle.step_certifier.proofs.CappedCosts.{same_sum, same_product, items_capped, end_capped, end_joins}

-- a list from a place on
pub split_at : {A : Type 0} (l : List A) (i : ℕ) (d : A) → i < length l → drop i l ≡ slice_index_or l i d ∷ drop (i + 1) l
split_at l i d below = (let e : suc i ≡ i + 1 = omega arith in drop-cons l i d below ∙ ap (λ n. slice_index_or l i d ∷ drop n l) e)

past : {A : Type 0} (l : List A) (i : ℕ) → length l ≤ i → drop i l ≡ []
past [] i h = drop-nil i
past (x ∷ l) zero h = absurd (omega (arith, h))
past (x ∷ l) (suc i) h = past l i (omega (arith, h))

pub some_end : (items : List Item) → (length items == 0) ≡ false → 1 ≡ capped (true_end (nodes_of items))
some_end [] e = cc (e)
some_end (item ∷ items) e = refl

pub word_capped : (r base product n : ℕ) → r ≡ capped (base + product) → product ≡ capped n → r ≡ capped (base + n)
word_capped r base product n e f = omega (arith, e, f)

again : (a n : ℕ) → a ≡ capped n → capped a ≡ capped n
again a n e = omega (arith, e)

-- a loop of so many turns, each of which has its price and its content
loop_cost : (first t u q r price body tp b : ℕ) → tp ≡ capped price → b ≡ capped body → u ≡ capped (tp + b) → q ≡ capped (t * u) → r ≡ capped (first + q) → r ≡ capped (first + t * (price + body))
loop_cost first t u q r price body tp b hp hb hu hq hr =
    hr ∙ same_sum first q first (t * (price + body)) refl (again q (t * u) hq ∙ same_product t u (price + body) (again u (tp + b) hu ∙ same_sum tp b price body (again tp price hp) (again b body hb)))

pub do_cost : (known : List ℕ) (last : Last) (node : Node) (body : Nodes) (plus : Bool) (t tp b u q r : ℕ) → node ≡ Do body plus → t ≡ or_none (loop_turns last body plus) → tp ≡ capped (turn_price plus) →
    b ≡ capped (cost known Other body) →
    u ≡ capped (tp + b) → q ≡ capped (t * u) → r ≡ capped (8 + q) → r ≡ capped (node_cost known last node)
do_cost known last node body plus t tp b u q r is ht hp hb hu hq hr =
    loop_cost 8 t u q r (turn_price plus) (cost known Other body) tp b hp hb hu hq hr ∙ ap (λ (n : ℕ). capped (8 + n * (turn_price plus + cost known Other body))) ht ∙ ap (λ (n : Node). capped (node_cost known last n)) (sym is)

pub q_do_cost : (known : List ℕ) (last : Last) (node : Node) (body : Nodes) (plus : Bool) (k t tp b u q r : ℕ) → node ≡ QDo body plus → k ≡ or_none (loop_turns last body plus) → t ≡ entered_turns last k → tp ≡ capped (turn_price plus) →
    b ≡ capped (cost known Other body) →
    u ≡ capped (tp + b) → q ≡ capped (t * u) → r ≡ capped (12 + q) → r ≡ capped (node_cost known last node)
q_do_cost known last node body plus k t tp b u q r is hk ht hp hb hu hq hr =
    loop_cost 12 t u q r (turn_price plus) (cost known Other body) tp b hp hb hu hq hr
    ∙ ap (λ (n : ℕ). capped (12 + n * (turn_price plus + cost known Other body))) (ht ∙ ap (entered_turns last) hk) ∙ ap (λ (n : Node). capped (node_cost known last n)) (sym is)

-- what was counted, one more and the rest
more : (total n node rest r x : ℕ) → r ≡ capped (total + n) → n ≡ capped node → capped (total + (node + rest)) ≡ x → capped (r + rest) ≡ x
more total n node rest r x e f g = omega (arith, e, f, g)

pub item_passes : (known : List ℕ) (last after : Last) (items : List Item) (i : ℕ) (item : Item) (total n r x : ℕ) → i < length items → item ≡ slice_index_or items i item → r ≡ capped (total + n) →
    n ≡ capped (node_cost known last (node_of item)) →
    after ≡ last_after last (node_of item) → capped (total + cost known last (nodes_of (drop i items))) ≡ x → capped (r + cost known after (nodes_of (drop (i + 1) items))) ≡ x
item_passes known last after items i item total n r x below is e f g h =
    let split : drop i items ≡ item ∷ drop (i + 1) items = split_at items i item below ∙ ap (λ (j : Item). j ∷ drop (i + 1) items) (sym is) in
    subst (λ (l : Last). capped (r + cost known l (nodes_of (drop (i + 1) items))) ≡ x) (sym g)
    (more total n (node_cost known last (node_of item)) (cost known (last_after last (node_of item)) (nodes_of (drop (i + 1) items))) r x e f
    (subst (λ (js : List Item). capped (total + cost known last (nodes_of js)) ≡ x) split h))

arm_split : (arms : List (Items × Items)) (i : ℕ) (arm : Items × Items) → i < length arms → arm ≡ slice_index_or arms i arm → drop i arms ≡ arm ∷ drop (i + 1) arms
arm_split arms i arm below is = split_at arms i arm below ∙ ap (λ (j : Items × Items). j ∷ drop (i + 1) arms) (sym is)

four_more : (t u n : ℕ) → u ≡ capped (t + 4) → t ≡ capped n → u ≡ capped (n + 4)
four_more t u n e f = omega (arith, e, f)

pub tests_pass : (known : List ℕ) (arms : List (Items × Items)) (i : ℕ) (arm : Items × Items) (total t u r x : ℕ) → i < length arms → arm ≡ slice_index_or arms i arm → r ≡ capped (total + u) → u ≡ capped (t + 4) →
    t ≡ capped (cost known Other (tree_of arm.0)) →
    capped (total + tests_cost known (arms_tree (drop i arms))) ≡ x → capped (r + tests_cost known (arms_tree (drop (i + 1) arms))) ≡ x
tests_pass known arms i arm total t u r x below is e f g h =
    more total u (cost known Other (tree_of arm.0) + 4) (tests_cost known (arms_tree (drop (i + 1) arms))) r x e (four_more t u (cost known Other (tree_of arm.0)) f g)
    (subst (λ (js : List (Items × Items)). capped (total + tests_cost known (arms_tree js)) ≡ x) (arm_split arms i arm below is) h)

greatest_more : (b n rest all x : ℕ) → b ≡ capped n → all ≡ max b rest → capped (max n rest) ≡ x → capped all ≡ x
greatest_more b n rest all x e f g = omega (arith, e, f, g)

pub ends_pass : (known : List ℕ) (arms : List (Items × Items)) (i : ℕ) (arm : Items × Items) (greatest b r x : ℕ) → i < length arms → arm ≡ slice_index_or arms i arm → r ≡ max greatest b → b ≡ capped (cost known Other (tree_of arm.1)) →
    capped (greatest_end known (arms_tree (drop i arms)) greatest) ≡ x → capped (greatest_end known (arms_tree (drop (i + 1) arms)) r) ≡ x
ends_pass known arms i arm greatest b r x below is e f h =
    let others = arms_tree (drop (i + 1) arms) in
    greatest_more b (cost known Other (tree_of arm.1)) (greatest_end known others greatest) (greatest_end known others r) x f
    (ap (λ (n : ℕ). greatest_end known others n) e ∙ end_joins known others greatest b)
    (subst (λ (js : List (Items × Items)). capped (greatest_end known (arms_tree js) greatest) ≡ x) (arm_split arms i arm below is) h)

within_more : (g b r n : ℕ) → g ≤ most_steps → r ≡ max g b → b ≡ capped n → r ≤ most_steps
within_more g b r n h e f = omega (arith, h, e, f)

pub ends_within : (last g b r n : ℕ) → (last ≤ most_steps → g ≤ most_steps) → r ≡ max g b → b ≡ capped n → last ≤ most_steps → r ≤ most_steps
ends_within last g b r n h e f below = within_more g b r n (h below) e f

pub ends_done : (known : List ℕ) (arms : List (Items × Items)) (last g i : ℕ) → length arms ≤ i → (last ≤ most_steps → g ≤ most_steps) →
    capped (greatest_end known (arms_tree (drop i arms)) g) ≡ capped (greatest_end known (arms_tree arms) last) → (x : ℕ) → last ≡ capped x →
    g ≡ capped (greatest_end known (arms_tree arms) x)
ends_done known arms last g i done within e x is =
    let low = within (below last x is) in
    let f : capped g ≡ capped (greatest_end known (arms_tree arms) x) =
    ap (λ (js : List (Items × Items)). capped (greatest_end known (arms_tree js) g)) (sym (past arms i done)) ∙ e ∙ ap (λ (n : ℕ). capped (greatest_end known (arms_tree arms) n)) is ∙ end_capped known (arms_tree arms) x in
    omega (arith, low, f)
  where
    below : (last x : ℕ) → last ≡ capped x → last ≤ most_steps
    below last x is = omega (arith, is)

one_longer : (xs : List ℕ) (y : ℕ) → length (xs ++ y ∷ []) ≡ length xs + 1
one_longer [] y = refl
one_longer (x ∷ xs) y = (let e = one_longer xs y in omega (arith, e))

pub longer : (xs ys : List ℕ) (y n : ℕ) → ys ≡ xs ++ y ∷ [] → length xs ≡ n → length ys ≡ n + 1
longer xs ys y n is size = ap length is ∙ one_longer xs y ∙ ap (λ m. m + 1) size

-- the table of costs, with one more definition
pub table_grows : (bodies : List Nodes) (d : ℕ) (body : Nodes) (low new : List ℕ) (one : ℕ) (all : List ℕ) → d < length bodies → body ≡ slice_index_or bodies d Empty → new ≡ low ++ one ∷ [] → one ≡ capped (cost low Other body) →
    (table : List ℕ) × (low ≡ map capped table) × (costs_with table (drop d bodies) ≡ all) → (table : List ℕ) × (new ≡ map capped table) × (costs_with table (drop (d + 1) bodies) ≡ all)
table_grows bodies d body low new one all below is grown cost_is (table, low_is, rest) = (
  table ++ cost table Other body ∷ [],
  grown ∙ ap (λ (l : List ℕ). l ++ one ∷ []) low_is ∙ ap (λ (n : ℕ). map capped table ++ n ∷ []) (cost_is ∙ ap (λ (l : List ℕ). capped (cost l Other body)) low_is ∙ items_capped table Other body)
      ∙ sym (map-append capped table (cost table Other body ∷ [])),
  ap (λ (b : Nodes). costs_with (table ++ cost table Other b ∷ []) (drop (d + 1) bodies)) is ∙ sym (ap (costs_with table) (split_at bodies d Empty below)) ∙ rest,
)
