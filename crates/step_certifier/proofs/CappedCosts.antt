-- Costs up to the most steps: sums, products and greatest numbers keep what is capped apart from what is not, and so do costs.
use Rattle.std.proofs.Common.{◌≡◌, ℕ, zero, suc, ◌+◌, ◌*◌, ◌≤◌, ⊎_elim, List, [], ◌∷◌, map, refl, sym, ap, ◌∙◌, arith}
use Rattle.std.specs.Prelude.{max, slice_index_or}
use Rattle.std.proofs.lemmas.Bool.{cases_lt}
use Rattle.forth_program.specs.Tree.{Node, Nodes, Arms, Literal, Plain, Call, Child, Text, If, Until, While, Again, Do, QDo, Case, Leave, Exit, Empty, Then, NoArm, Arm}
use Rattle.forth_program.specs.Price.{turn_price}
use Rattle.step_certifier.specs.Capped.{most_steps, capped}
use Rattle.step_certifier.specs.Cost.{Last, Other, last_after, or_none, loop_turns, entered_turns, true_end, node_cost, cost, tests_cost, greatest_end}

pub product_of_capped : (t x : ℕ) → capped (t * capped x) ≡ capped (t * x)
product_of_capped t x =
    ⊎_elim
    (λ small. let e : capped x ≡ x = omega (arith, small) in ap (λ y. capped (t * y)) e)
    (λ large. let e : capped x ≡ most_steps = omega (arith, large) in ap (λ y. capped (t * y)) e ∙ of t large)
    (cases_lt x most_steps)
  where
    of : (t : ℕ) → most_steps ≤ x → capped (t * most_steps) ≡ capped (t * x)
    of zero large = (let e : 0 * x ≡ 0 = omega arith in ap capped (sym e))
    of (suc t) large = omega (arith, large)

pub same_product : (t x y : ℕ) → capped x ≡ capped y → capped (t * x) ≡ capped (t * y)
same_product t x y e = sym (product_of_capped t x) ∙ ap (λ z. capped (t * z)) e ∙ product_of_capped t y

pub same_sum : (a b x y : ℕ) → capped a ≡ capped x → capped b ≡ capped y → capped (a + b) ≡ capped (x + y)
same_sum a b x y e f = omega (arith, e, f)

same_max : (a b x y : ℕ) → capped a ≡ capped x → capped b ≡ capped y → capped (max a b) ≡ capped (max x y)
same_max a b x y e f = omega (arith, e, f)

pub index_capped : (known : List ℕ) (d : ℕ) → slice_index_or (map capped known) d 0 ≡ capped (slice_index_or known d 0)
index_capped [] d = refl
index_capped (x ∷ known) zero = refl
index_capped (x ∷ known) (suc d) = index_capped known d

called_capped : (n : ℕ) (known : List ℕ) (d : ℕ) → capped (n + (slice_index_or (map capped known) d 0 + 1)) ≡ capped (n + (slice_index_or known d 0 + 1))
called_capped n known d = (let e = index_capped known d in omega (arith, e))

module _ (known : List ℕ) where
  abbrev low : List ℕ
  low = map capped known

  loop_capped : (n t p a b : ℕ) → capped a ≡ capped b → capped (n + t * (p + a)) ≡ capped (n + t * (p + b))
  loop_capped n t p a b e = same_sum n (t * (p + a)) n (t * (p + b)) refl (same_product t (p + a) (p + b) (same_sum p a p b refl e))

  mutual
    node_capped : (last : Last) (node : Node) → capped (node_cost low last node) ≡ capped (node_cost known last node)
    node_capped last (Literal value) = refl
    node_capped last (Plain word) = refl
    node_capped last (Call definition) = called_capped 1 known definition
    node_capped last (Child definition address) = called_capped 2 known definition
    node_capped last (Text kind address size) = refl
    node_capped last (If first second) =
        same_sum 1 _ 1 _ refl (same_max _ _ _ _ (same_sum (cost low Other first) (true_end second) (cost known Other first) (true_end second) (items_capped Other first) refl) (items_capped Other second))
    node_capped last (Until body) = refl
    node_capped last (While test body) = refl
    node_capped last (Again body) = refl
    node_capped last (Do body plus) = loop_capped 8 (or_none (loop_turns last body plus)) (turn_price plus) (cost low Other body) (cost known Other body) (items_capped Other body)
    node_capped last (QDo body plus) =
        loop_capped 12 (entered_turns last (or_none (loop_turns last body plus))) (turn_price plus) (cost low Other body) (cost known Other body) (items_capped Other body)
    node_capped last (Case arms rest) =
        same_sum (tests_cost low arms) _ (tests_cost known arms) _ (tests_capped arms)
        (same_sum 1 _ 1 _ refl (ends_capped arms (cost low Other rest) (cost known Other rest) (items_capped Other rest)))
    node_capped last Leave = refl
    node_capped last Exit = refl

    pub items_capped : (last : Last) (items : Nodes) → capped (cost low last items) ≡ capped (cost known last items)
    items_capped last Empty = refl
    items_capped last (Then node rest) = same_sum (node_cost low last node) _ (node_cost known last node) _ (node_capped last node) (items_capped (last_after last node) rest)

    tests_capped : (arms : Arms) → capped (tests_cost low arms) ≡ capped (tests_cost known arms)
    tests_capped NoArm = refl
    tests_capped (Arm tests body others) = same_sum _ (tests_cost low others) _ (tests_cost known others) (same_sum (cost low Other tests) 4 (cost known Other tests) 4 (items_capped Other tests) refl) (tests_capped others)

    ends_capped : (arms : Arms) (a b : ℕ) → capped a ≡ capped b → capped (greatest_end low arms a) ≡ capped (greatest_end known arms b)
    ends_capped NoArm a b e = e
    ends_capped (Arm tests body others) a b e = same_max (cost low Other body) _ (cost known Other body) _ (items_capped Other body) (ends_capped others a b e)

-- the greatest of ends, where the last items are capped
pub end_capped : (known : List ℕ) (arms : Arms) (x : ℕ) → capped (greatest_end known arms (capped x)) ≡ capped (greatest_end known arms x)
end_capped known NoArm x = omega arith
end_capped known (Arm tests body others) x = same_max (cost known Other body) _ (cost known Other body) _ refl (end_capped known others x)

-- an end may stand with the last items
pub end_joins : (known : List ℕ) (arms : Arms) (x y : ℕ) → greatest_end known arms (max x y) ≡ max y (greatest_end known arms x)
end_joins known NoArm x y = omega arith
end_joins known (Arm tests body others) x y = (let e = end_joins known others x y in omega (arith, e))
